-- Once a clearing of an origin is acknowledged, no crash brings back a version that it took.
use Rattle.std.proofs.Common.{◌≡◌, inl, inr, ℕ, zero, suc, ◌+◌, ◌-◌, ◌≤◌, List, length, false, Option, Some, None, refl, sym, ap, subst, ◌∙◌, arith, get_or}
use Rattle.std.specs.List.{AllByRecursion}
use Rattle.std.specs.Prelude.{slice_get, unwrap_or}
use Rattle.std.proofs.lemmas.Bool.{cases_Bool}
use Rattle.std.proofs.lemmas.Option.{slice_get-get_or}
use Rattle.cache_theory.specs.Cleared.{ClearedStayGone, IsCovered}
use Rattle.cache_theory.specs.Command.{Command}
use Rattle.cache_theory.specs.Command.Command.{ClearOrigin, Flush}
use Rattle.cache_theory.specs.Given.{IsGiven}
use Rattle.cache_theory.specs.Machine.{Machine, Object, nobody, object}
use Rattle.cache_theory.specs.Marks.{IsSince, Marks, is_touched}
use Rattle.cache_theory.specs.Proper.{IsProper}
use Rattle.cache_theory.specs.Session.{marks_between}
use Rattle.cache_theory.specs.Step.{step}
use Rattle.cache_theory.specs.Table.{get}
use Rattle.cache_theory.specs.Wording.{IsWrittenIn, state_at}
use Rattle.cache_theory.proofs.ObjectLaws.DoomedObjects.{undoomed_before, undoomed_object}
use Rattle.cache_theory.proofs.Clears.ClearedNames.{found_by, none_left}
use Rattle.cache_theory.proofs.Clears.ClearedSessions.{before_last, grow_between, last_settled, proper_at, written_among_more}
use Rattle.cache_theory.proofs.ObjectLaws.Objects.{nth}
use Rattle.cache_theory.proofs.CrashImages.Readings.{reads_whole}
use Rattle.cache_theory.proofs.ShelfSteps.{IsFiled, IsShelvedBy, shelved_by}
use Rattle.cache_theory.proofs.ShelfSteps.IsShelvedBy.{Stays, Goes, Comes}
use Rattle.cache_theory.proofs.Wording.Worded.{marks_are_worded, state_next}
use Rattle.entry_file.specs.EntryFile.{found, read, read_for, whole_in}
use Rattle.entry_file.specs.EntryFile.Reading.{Whole}
use Rattle.entry_file.specs.Version.{IsVersion, Version, file_of}
use Rattle.entry_file.proofs.EntryLaws.{is_file_of}
use Rattle.entry_name.specs.EntryName.{file_name}

-- an undoomed object is there
pub undoomed_there : (objects : List Object) (i : ℕ) → (nth objects i).doomed ≡ false → slice_get objects i ≡ Some (nth objects i)
undoomed_there objects i un = go (slice_get objects i) refl un
  where
    go : (o : Option Object) → slice_get objects i ≡ o → (unwrap_or o nobody).doomed ≡ false → slice_get objects i ≡ Some (unwrap_or o nobody)
    go None at un = absurd (cc)
    go (Some x) at un = at

-- what is found for a key where an object's file stands is the object's version
pub filed_version : (t : Machine) (i : ℕ) (key : List ℕ) (v : Version) → IsProper t → IsFiled t i (file_name key) → found (get t.shelf) key ≡ Some v
    → (object t i).version ≡ v
filed_version t i key v proper filed is =
    let o : Object = object t i in
    let version : IsVersion o.version = (proper.objects i o (undoomed_there t.objects i filed.undoomed)).version filed.finished in
    let by = found_by (get t.shelf (file_name key)) key v is in
    let content : file_of o.version ≡ by.content = let same = sym filed.content ∙ by.is in cc in
    let reads : read (file_name key) by.content ≡ Whole o.version =
    subst (λ c. read (file_name key) c ≡ Whole o.version) content (reads_whole (file_name key) (file_of o.version) o.version version filed.named (is_file_of o.version)) in
    let same : Whole o.version ≡ Whole v = sym reads ∙ by.whole in
    cc

module _ (m : Machine) (cs : List Command) (at : ℕ) (origin : List ℕ) (proper : IsProper m) (given : AllByRecursion IsGiven cs) where
  -- each covered version that is found after the first n commands was written after the clearing
  AreWritten : ℕ → Type 0
  AreWritten n = (key : List ℕ) (v : Version) → found (get (state_at m cs n).shelf) key ≡ Some v → IsCovered origin v
      → IsWrittenIn m cs (suc at) n (file_name key) v

  first_written : slice_get cs at ≡ Some (ClearOrigin origin) → AreWritten (suc at)
  unfolding AreWritten
  first_written clears key v is covered =
      let next = state_next m cs at (ClearOrigin origin) clears in
      absurd (none_left (state_at m cs at) origin key v (subst (λ (t : Machine). found (get t.shelf) key ≡ Some v) next is) covered)

  module _ (n : ℕ) (c : Command) (behind : suc at ≤ n) (is_at : slice_get cs n ≡ Some c) where
    next : Machine
    next = (step (state_at m cs n) c).next

    comes : (key : List ℕ) (v : Version) → found (get next.shelf) key ≡ Some v → IsShelvedBy (state_at m cs n) c next (file_name key)
        → AreWritten n → IsCovered origin v → IsWrittenIn m cs (suc at) (suc n) (file_name key) v
    unfolding AreWritten next
    comes key v is (Stays same) written covered =
        written_among_more m cs (suc at) (suc at) n (suc n) (file_name key) v (omega arith) (omega arith)
        (written key v (ap (λ o. whole_in (read_for key o)) (sym same) ∙ is) covered)
    comes key v is (Goes none) written covered =
        let never : None ≡ Some v = sym (ap (λ o. whole_in (read_for key o)) none) ∙ is in absurd (cc)
    comes key v is (Comes i passes writes filed) written covered =
        let state : state_at m cs (suc n) ≡ next = state_next m cs n c is_at in
        let proper_next : IsProper next = subst IsProper state (proper_at m cs (suc n) given proper) in
        let version : (object next i).version ≡ v = filed_version next i key v proper_next filed is in
        record {
          at = n;
          command = c;
          behind = behind;
          before = omega arith;
          done = record { is = is_at; passes = passes };
          number = i;
          rewrites = writes;
          version = ap (λ (t : Machine). (object t i).version) state ∙ version;
          named = ap (λ (u : Version). file_name u.key) (sym version) ∙ filed.named;
          undoomed =
              undoomed_before (state_at m cs (suc at)).objects (state_at m cs (suc n)).objects (grow_between m cs (suc at) (suc n) (omega (arith, behind))) i
              (undoomed_object (state_at m cs (suc n)).objects i (ap (λ (t : Machine). (object t i).doomed) state ∙ filed.undoomed));
        }

    next_written : AreWritten n → AreWritten (suc n)
    unfolding AreWritten next
    next_written written key v is covered =
        comes key v (subst (λ (t : Machine). found (get t.shelf) key ≡ Some v) (state_next m cs n c is_at) is)
        (shelved_by (state_at m cs n) c (file_name key) (proper_at m cs n given proper)) written covered

  all_written : slice_get cs at ≡ Some (ClearOrigin origin) → (k n : ℕ) → n ≡ suc at + k → n ≤ length cs → AreWritten n
  all_written clears zero n sum most = let same : suc at ≡ n = omega (arith, sum) in subst AreWritten same (first_written clears)
  all_written clears (suc k) n sum most =
      let p : ℕ = suc at + k in
      let same : suc p ≡ n = omega (arith, sum) in
      let command = slice_get-get_or cs p Flush (omega (arith, sum, most)) in
      subst AreWritten same (next_written p (get_or cs p Flush) (omega arith) command (all_written clears k p refl (omega (arith, sum, most))))

  pub written_after : slice_get cs at ≡ Some (ClearOrigin origin) → (n : ℕ) → suc at ≤ n → n ≤ length cs
      → (key : List ℕ) (v : Version) → found (get (state_at m cs n).shelf) key ≡ Some v → IsCovered origin v
      → IsWrittenIn m cs (suc at) n (file_name key) v
  unfolding AreWritten
  written_after clears n behind most = all_written clears (n - suc at) n (omega (arith, behind)) most

pub cleared_stay_gone : ClearedStayGone
cleared_stay_gone m cs a b at origin session clearing s image key v back covered =
    let settled = last_settled cs a in
    let f : ℕ = settled.number in
    let w : Marks = marks_between m cs a b in
    let name : List ℕ = file_name key in
    let worded = marks_are_worded m cs a b f session.acknowledged session.begun settled.last in
    let behind : suc at ≤ f = before_last cs a f at (ClearOrigin origin) settled.last clearing.clears refl clearing.acknowledged in
    let acked : a ≤ b = session.acknowledged in
    let begun : b ≤ length cs = session.begun in
    let within : f ≤ a = settled.last.within in
    let from_mark : found (get w.marked.shelf) key ≡ Some v → IsWrittenIn m cs (suc at) b name v =
    λ is. written_among_more m cs (suc at) (suc at) f b name v (omega arith) (omega (arith, acked, within))
    (written_after m cs at origin session.proper session.given clearing.clears f behind (omega (arith, acked, begun, within)) key v
    (subst (λ (t : Machine). found (get t.shelf) key ≡ Some v) worded.marked is) covered) in
    elim (cases_Bool (is_touched w name)) [
      | inr un ↦ from_mark (sym (back.left.untouched key un) ∙ back.found)
      | inl touched ↦ elim (back.left.touched key touched (back.no_chance touched)) [
        | inl none ↦ absurd (let never : None ≡ Some v = sym none ∙ back.found in cc)
        | inr (inl was) ↦ from_mark (sym was ∙ back.found)
        | inr (inr new) ↦
            let some : Some new.0 ≡ Some v = sym new.1.0 ∙ back.found in
            let same : new.0 ≡ v = cc in
            written_among_more m cs (suc at) f b b name v behind (omega arith) ((worded.since name v).0 (subst (λ u. IsSince w name u) same new.1.1.1))
      ]
    ]
