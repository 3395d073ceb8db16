-- What is found after some commands was found before them, or one of them wrote it.
use Rattle.std.proofs.Common.{◌≡◌, ◌⊎◌, inl, inr, ℕ, zero, suc, ◌+◌, ◌≤◌, List, [], ◌∷◌, length, get_or, Some, None, refl, sym, ap, subst, ◌∙◌, arith}
use Rattle.std.specs.List.{AllByRecursion}
use Rattle.std.specs.Prelude.{slice_get}
use Rattle.std.proofs.lemmas.Option.{slice_get-get_or}
use Rattle.cache_theory.specs.Command.{Command}
use Rattle.cache_theory.specs.Command.Command.{ClearNames, ClearOrigin, Flush, Resume, ResumeNames}
use Rattle.cache_theory.specs.Given.{IsGiven}
use Rattle.cache_theory.specs.Machine.{Machine, object}
use Rattle.cache_theory.specs.Proper.{IsProper}
use Rattle.cache_theory.specs.Step.{after, step}
use Rattle.cache_theory.specs.Table.{get}
use Rattle.cache_theory.specs.Wording.{IsWrittenIn, state_at}
use Rattle.cache_theory.proofs.Clears.ClearedGone.{filed_version}
use Rattle.cache_theory.proofs.Clears.ClearedSessions.{grow_between, proper_at, written_among_more}
use Rattle.cache_theory.proofs.Clears.MarkStays.{mark_stays, no_mark_is_left}
use Rattle.cache_theory.proofs.ObjectLaws.DoomedObjects.{undoomed_before, undoomed_object}
use Rattle.cache_theory.proofs.ShelfSteps.{IsShelvedBy, shelved_by}
use Rattle.cache_theory.proofs.ShelfSteps.IsShelvedBy.{Comes, Goes, Stays}
use Rattle.cache_theory.proofs.Wording.Worded.{state_next}
use Rattle.entry_file.specs.EntryFile.{found, read_for, whole_in}
use Rattle.entry_file.specs.Version.{Version}
use Rattle.entry_name.specs.EntryName.{file_name}

-- ---- no mark is left by commands that begin without one

pub no_mark_after : (t : Machine) (c : Command) → t.mark ≡ None → (step t c).next.mark ≡ None
no_mark_after t (ClearOrigin origin) is = no_mark_is_left t (ClearOrigin origin) (λ keeps. keeps)
no_mark_after t (ClearNames names) is = no_mark_is_left t (ClearNames names) (λ keeps. keeps)
no_mark_after t Resume is = no_mark_is_left t Resume (λ keeps. keeps)
no_mark_after t (ResumeNames names) is = no_mark_is_left t (ResumeNames names) (λ keeps. keeps)
no_mark_after t c is = mark_stays t c tt ∙ is

pub no_mark_after_all : (t : Machine) (cs : List Command) → t.mark ≡ None → (after t cs).mark ≡ None
no_mark_after_all t [] is = is
no_mark_after_all t (c ∷ cs) is = no_mark_after_all (step t c).next cs (no_mark_after t c is)

-- ---- versions

module _ (m : Machine) (cs : List Command) (proper : IsProper m) (given : AllByRecursion IsGiven cs) (f : ℕ) (key : List ℕ) (v : Version) where
  -- it was found after the first f commands, or was written after them and up to n
  abbrev IsOfThese : ℕ → Type 0
  IsOfThese n = (found (get (state_at m cs f).shelf) key ≡ Some v) ⊎ IsWrittenIn m cs f n (file_name key) v

  module _ (n : ℕ) (c : Command) (behind : f ≤ n) (at : slice_get cs n ≡ Some c) where
    abbrev next : Machine
    next = (step (state_at m cs n) c).next

    comes : found (get next.shelf) key ≡ Some v → IsShelvedBy (state_at m cs n) c next (file_name key) → (found (get (state_at m cs n).shelf) key ≡ Some v → IsOfThese n) → IsOfThese (suc n)
    comes is (Stays same) before = elim (before (ap (λ o. whole_in (read_for key o)) (sym same) ∙ is)) [
      | inl first ↦ inl first
      | inr written ↦ inr (written_among_more m cs f f n (suc n) (file_name key) v (omega arith) (omega arith) written)
    ]
    comes is (Goes none) before = absurd (let never : None ≡ Some v = sym (ap (λ o. whole_in (read_for key o)) none) ∙ is in cc)
    comes is (Comes i passes writes filed) before =
        let state : state_at m cs (suc n) ≡ next = state_next m cs n c at in
        let proper_next : IsProper next = subst IsProper state (proper_at m cs (suc n) given proper) in
        let version : (object next i).version ≡ v = filed_version next i key v proper_next filed is in
        inr (record {
          at = n;
          command = c;
          behind = behind;
          before = omega arith;
          done = record { is = at; passes = passes };
          number = i;
          rewrites = writes;
          version = ap (λ (t : Machine). (object t i).version) state ∙ version;
          named = ap (λ (u : Version). file_name u.key) (sym version) ∙ filed.named;
          undoomed =
              undoomed_before (state_at m cs f).objects (state_at m cs (suc n)).objects (grow_between m cs f (suc n) (omega (arith, behind))) i
              (undoomed_object (state_at m cs (suc n)).objects i (ap (λ (t : Machine). (object t i).doomed) state ∙ filed.undoomed));
        })

    one_more : (found (get (state_at m cs n).shelf) key ≡ Some v → IsOfThese n) → found (get (state_at m cs (suc n)).shelf) key ≡ Some v → IsOfThese (suc n)
    one_more before is =
        comes (subst (λ (t : Machine). found (get t.shelf) key ≡ Some v) (state_next m cs n c at) is) (shelved_by (state_at m cs n) c (file_name key) (proper_at m cs n given proper)) before

  pub found_or_written : (k n : ℕ) → n ≡ f + k → n ≤ length cs → found (get (state_at m cs n).shelf) key ≡ Some v → IsOfThese n
  found_or_written zero n sum most is = let same : n ≡ f = omega (arith, sum) in inl (subst (λ i. found (get (state_at m cs i).shelf) key ≡ Some v) same is)
  found_or_written (suc k) n sum most is =
      let p : ℕ = f + k in
      let same : suc p ≡ n = omega (arith, sum) in
      let at = slice_get-get_or cs p Flush (omega (arith, sum, most)) in
      let before : found (get (state_at m cs p).shelf) key ≡ Some v → IsOfThese p = λ was. found_or_written k p refl (omega (arith, sum, most)) was in
      subst IsOfThese same (one_more p (get_or cs p Flush) (omega arith) at before (subst (λ i. found (get (state_at m cs i).shelf) key ≡ Some v) (sym same) is))
