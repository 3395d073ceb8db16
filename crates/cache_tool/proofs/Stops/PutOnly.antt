-- Wherever a `put` stops, a crash leaves under its key nothing, what was found before, or the whole body; and what was
-- found before under each key of another name.
use Rattle.std.proofs.Common.{◌≡◌, ◌≢◌, ◌⊎◌, inl, inr, ℕ, zero, suc, ◌<◌, ◌≤◌, List, [], ◌∷◌, ◌++◌, length, map, take, drop, Bool, true, false, not, ◌&&◌, ◌||◌, cond, Option, Some, None, refl, sym, ap, subst, ◌∙◌, arith, append_assoc, get_or}
use Rattle.std.specs.List.{Any, list_any}
use Rattle.std.specs.Io.KnownBytes.{Consumes}
use Rattle.std.specs.Prelude.{IfSome, if◌then◌else◌, is_some, unwrap_or}
use Rattle.std.proofs.Math.Seq.{take-append_seam}
use Rattle.std.specs.Str.{bytes_eq}
use Rattle.std.proofs.lemmas.Bool.{cases_Bool}
use Rattle.std.proofs.lemmas.List.{append-nil, length-drop, take-append-drop, take_all}
use Rattle.std.proofs.lemmas.List.Folds.{list_any-append}
use Rattle.cache_base.proofs.ByteLaws.{bytes_drop, bytes_take}
use Rattle.cache_base.specs.Bytes.{AreBytes}
use Rattle.cache_base.specs.Checks.{first_failing}
use Rattle.cache_base.specs.declared.limits.TheConstants.{PIECE_MAX}
use Rattle.cache_store.specs.DoneFor.{IsResumedBy}
use Rattle.cache_theory.specs.Checks.{checks}
use Rattle.cache_theory.specs.Command.{Command}
use Rattle.cache_theory.specs.Command.Command.{Append, Close, Create, Resume}
use Rattle.cache_theory.specs.Crash.{IsCrashSafe, IsLeft}
use Rattle.cache_theory.specs.Machine.{Machine, Object, nobody, number_of, object, object_of}
use Rattle.cache_theory.specs.Marks.{IsSince, Marks, Written, acked as acked_marks, all_begun, begun as begun_marks, begun_by, is_touched, marks_of, name_of_some, put_out, rewritten, rewritten_in_place, touches, unburied_name}
use Rattle.cache_theory.specs.Proper.{IsProper}
use Rattle.cache_theory.specs.Step.{effect, finished_by, released, step}
use Rattle.cache_theory.specs.Table.{get}
use Rattle.cache_theory.specs.declared.refusal.Refusal.{Refusal}
use Rattle.cache_theory.proofs.Clears.Clearing.{resume_without_mark}
use Rattle.cache_theory.proofs.Names.{one_name, same_bytes}
use Rattle.cache_theory.proofs.Wording.WordedNames.{any_either}
use Rattle.cache_tool.specs.Beginning.{AreAtOpening}
use Rattle.cache_tool.specs.Pieces.{pieces_of}
use Rattle.cache_tool.specs.Put.{ArePut, appends}
use Rattle.cache_tool.specs.Put.ArePut.{Broken, Whole as WholeBody}
use Rattle.cache_tool.specs.Replies.{is_done, until_refused}
use Rattle.cache_tool.specs.Theorem.{PutIsAllOrNothing, StoppedPut}
use Rattle.cache_tool.specs.Verbs.{HasNotBegun, all_begun_none_acked}
use Rattle.cache_tool.specs.World.{World, output_of}
use Rattle.cache_tool.proofs.Stops.PutFiled.{IsDrafted, drafted_append, drafted_create, less_left, object_there}
use Rattle.cache_tool.proofs.Stops.PutGot.{is_resumed, resumed_itself}
use Rattle.cache_tool.proofs.Stops.StoppedScripts.{starts_proper}
use Rattle.context_clear.specs.Mark.{mark_of}
use Rattle.disk_theory.specs.Image.{Files}
use Rattle.disk_theory.specs.State.{standing}
use Rattle.entry_file.specs.EntryFile.{found, read_for, whole_in}
use Rattle.entry_file.specs.Version.{Version}
use Rattle.entry_name.specs.EntryName.{file_name}
use Rattle.index_theory.specs.Ever.{entries}

-- ---- lists

other_name : (name n : List ℕ) → name ≢ n → bytes_eq name n ≡ false
other_name name n apart = elim (cases_Bool (bytes_eq name n)) [
  | inl same ↦ absurd (apart (same_bytes name n same))
  | inr other ↦ other
]

-- the only one
only_of : {X : Type 0} (k : ℕ) (x y : X) → k < 1 → get_or (x ∷ []) k y ≡ y → x ≡ y
only_of zero x y lt is = is
only_of (suc k) x y lt is = absurd (omega (arith, lt))

any_of_one : {X : Type 0} (P : X → Type 0) (b : Bool) (x : X) → Any P (if b then [] else x ∷ []) → P x
any_of_one P true x any = absurd (let lt = any.2 in omega (arith, lt))
any_of_one P false x any = subst P (sym (only_of any.0 x any.1 any.2 any.3)) any.4

any_of_none : {X : Type 0} (P : X → Type 0) → Any P [] → ⊥
any_of_none P any = let lt = any.2 in omega (arith, lt)

-- a `put` whose source did not fail closes the entry
abbrev pub tail_of : Bool → List Command
tail_of true = Close 0 ∷ []
tail_of false = []

-- the version was written under the name
abbrev IsWritten : List ℕ → Version → Written → Type 0
IsWritten name v = λ written. (written.name ≡ name) × (written.version ≡ v)

module _ (m : Machine) (key body : List ℕ) where
  -- the marks of commands that touch the key's name alone, and write no version but one of the key with this body
  record TouchesOnly (w : Marks) : Type 0 where
    marked : w.marked ≡ m
    others : (name : List ℕ) → name ≢ file_name key → is_touched w name ≡ false
    in_place : w.in_place ≡ []
    since : (name : List ℕ) (v : Version) → IsSince w name v → (v.key ≡ key) × (v.body ≡ body)

  none_touched : TouchesOnly (marks_of m)
  none_touched = record { marked = refl; others = λ name apart. refl; in_place = refl; since = λ name v any. absurd (any_of_none _ any) }

  -- such a command
  pub record IsOnly (t : Machine) (c : Command) : Type 0 where
    pub names : (name : List ℕ) → name ≢ file_name key → list_any (bytes_eq name) (touches t c) ≡ false
    pub in_place : rewritten_in_place t c ≡ None
    pub writes : (w : Marks) (name : List ℕ) (v : Version) → Any (IsWritten name v) (put_out w (effect t c).next (rewritten t c)) → (v.key ≡ key) × (v.body ≡ body)

  only_begun : (t : Machine) (c : Command) (w : Marks) → IsOnly t c → TouchesOnly w → TouchesOnly (begun_marks t c w)
  only_begun t c w one only = go (first_failing (checks t c))
    where
      go : (r : Option Refusal) → TouchesOnly (begun_by r t c w)
      go (Some r) = only
      go None = record {
        marked = only.marked;
        others = λ name apart. list_any-append (bytes_eq name) (touches t c) w.touched ∙ (λ i. one.names name apart i || only.others name apart i);
        in_place = ap (λ o. unburied_name w t o ++ w.in_place) one.in_place ∙ only.in_place;
        since = λ name v any. elim (any_either _ (put_out w (effect t c).next (rewritten t c)) w.since any) [
          | inl new ↦ one.writes w name v new
          | inr old ↦ only.since name v old
        ];
      }

  one_name_only : (names : List (List ℕ)) → names ≡ file_name key ∷ [] → (name : List ℕ) → name ≢ file_name key → list_any (bytes_eq name) names ≡ false
  one_name_only names is name apart = ap (list_any (bytes_eq name)) is ∙ ap (λ b. b || false) (other_name name (file_name key) apart)

  only_resume : mark_of m.mark ≡ None → IsOnly m Resume
  only_resume unmarked = record {
    names = λ name apart. ap (list_any (bytes_eq name)) (resume_without_mark m unmarked).1;
    in_place = refl;
    writes = λ w name v any. absurd (any_of_none _ any);
  }

  pub only_create : (t : Machine) → IsOnly t (Create 0 key)
  only_create t = record {
    names = one_name_only (file_name key ∷ []) refl;
    in_place = refl;
    writes = λ w name v any. absurd (any_of_none _ any);
  }

  module _ (t : Machine) (before : List ℕ) (d : IsDrafted t key before) where
    named : (if (object_of t 0).doomed then [] else file_name (object_of t 0).version.key ∷ []) ≡ file_name key ∷ []
    named = λ i. if d.undoomed i then [] else file_name (d.key_is i) ∷ []

    pub only_append : (piece : List ℕ) → IsOnly t (Append 0 piece)
    only_append piece = record {
      names = one_name_only (touches t (Append 0 piece)) named;
      in_place = refl;
      writes = λ w name v any. absurd (any_of_none _ any);
    }

    closes : rewritten t (Close 0) ≡ Some (number_of t 0)
    closes = ap (λ b. if b then Some (number_of t 0) else None) (λ i. d.writes i && not (d.unfinished i))

    closed_is : before ≡ body → (w : Marks) (name : List ℕ) (v : Version)
        → Any (IsWritten name v) (put_out w (released (finished_by t 0) 0) (Some (number_of t 0))) → (v.key ≡ key) × (v.body ≡ body)
    closed_is whole w name v any =
        let is : object (released (finished_by t 0) 0) (number_of t 0) ≡ record (object_of t 0) { finished = true } = ap (λ o. unwrap_or o nobody) (object_there t key before d) in
        let version : (object (released (finished_by t 0) 0) (number_of t 0)).version ≡ v = (any_of_one (IsWritten name v) _ _ any).1 in
        let same : (object_of t 0).version ≡ v = sym (ap (λ (o : Object). o.version) is) ∙ version in
        (ap (λ (u : Version). u.key) (sym same) ∙ d.key_is, ap (λ (u : Version). u.body) (sym same) ∙ d.body_is ∙ whole)

    pub only_close : before ≡ body → IsOnly t (Close 0)
    unfolding effect
    only_close whole = record {
      names = one_name_only (touches t (Close 0)) (ap (name_of_some t) closes ∙ named);
      in_place = refl;
      writes = λ w name v any. closed_is whole w name v (subst (λ o. Any (IsWritten name v) (put_out w (released (finished_by t 0) 0) o)) closes any);
    }

  -- ---- the commands of a `put`

  -- those after a command come only where it is done
  if_done : (b : Bool) (next : Machine) (rest : List Command) (w : Marks) → TouchesOnly w → (b ≡ true → TouchesOnly (all_begun next rest w)) → TouchesOnly (all_begun next (cond b rest []) w)
  if_done true next rest w only more = more refl
  if_done false next rest w only more = only

  only_tail : (closing : Bool) (t : Machine) (before : List ℕ) (w : Marks) → IsDrafted t key before → (closing ≡ true → before ≡ body) → TouchesOnly w
      → TouchesOnly (all_begun t (until_refused t (tail_of closing)) w)
  only_tail false t before w d whole only = only
  only_tail true t before w d whole only =
      let one = only_begun t (Close 0) w (only_close t before d (whole refl)) only in
      if_done (is_done (step t (Close 0)).reply) (step t (Close 0)).next [] (begun_marks t (Close 0) w) one (λ done. one)

  only_pieces : (size : ℕ) → 1 ≤ size → (closing : Bool) (n : ℕ) (xs : List ℕ) (t : Machine) (before : List ℕ) (w : Marks) → length xs ≤ n → AreBytes xs → IsDrafted t key before
      → (closing ≡ true → before ++ xs ≡ body) → TouchesOnly w → TouchesOnly (all_begun t (until_refused t (map (λ piece. Append 0 piece) (pieces_of size n xs) ++ tail_of closing)) w)
  only_pieces size some closing zero [] t before w short bytes d whole only = only_tail closing t before w d (λ e. sym (append-nil before) ∙ whole e) only
  only_pieces size some closing zero (x ∷ xs) t before w short bytes d whole only = absurd (omega (arith, short))
  only_pieces size some closing (suc n) [] t before w short bytes d whole only = only_tail closing t before w d (λ e. sym (append-nil before) ∙ whole e) only
  only_pieces size some closing (suc n) (x ∷ xs) t before w short bytes d whole only =
      let all : List ℕ = x ∷ xs in
      let piece : List ℕ = take size all in
      let next : Machine = (step t (Append 0 piece)).next in
      let one = only_begun t (Append 0 piece) w (only_append t before d piece) only in
      if_done (is_done (step t (Append 0 piece)).reply) next (until_refused next (map (λ p. Append 0 p) (pieces_of size n (drop size all)) ++ tail_of closing)) (begun_marks t (Append 0 piece) w) one
      (λ done.
      only_pieces size some closing n (drop size all) next (before ++ piece) (begun_marks t (Append 0 piece) w)
      (less_left n size (length all) (length (drop size all)) some (length-drop size all) short) (bytes_drop size all bytes)
      (drafted_append t key before d piece (bytes_take size all bytes) done)
      (λ e. append_assoc before piece (drop size all) ∙ ap (λ l. before ++ l) (take-append-drop size all) ∙ whole e) one)

  only_commands : (closing : Bool) (given : List ℕ) (t : Machine) (w : Marks) → IsProper t → t.mark ≡ None → AreBytes key → AreBytes given → (closing ≡ true → given ≡ body) → TouchesOnly w
      → TouchesOnly (all_begun t (until_refused t (Create 0 key ∷ (appends given ++ tail_of closing))) w)
  only_commands closing given t w proper unmarked key_bytes bytes whole only =
      let next : Machine = (step t (Create 0 key)).next in
      let one = only_begun t (Create 0 key) w (only_create t) only in
      if_done (is_done (step t (Create 0 key)).reply) next (until_refused next (appends given ++ tail_of closing)) (begun_marks t (Create 0 key) w) one
      (λ done. only_pieces PIECE_MAX (omega arith) closing (length given) given next [] (begun_marks t (Create 0 key) w) (omega arith) bytes (drafted_create t key proper key_bytes unmarked done) whole one)

-- ---- the call

-- what a source gave before it failed are bytes as well
pub given_bytes : (was is : Option (List ℕ)) (body given : List ℕ) → was ≡ Some body → AreBytes body → Consumes was is given → AreBytes given
given_bytes None is body given whole bytes taken = absurd (cc)
given_bytes (Some all) None body given whole bytes taken = absurd taken
given_bytes (Some all) (Some left) body given whole bytes taken =
    let same : all ≡ body = cc in
    subst AreBytes (ap (take (length given)) (sym same ∙ taken) ∙ take-append_seam given left) (bytes_take (length given) body bytes)

module _ (key body : List ℕ) (image : Files) (w x : World) (stop : StoppedPut key body image w x) where
  abbrev m : Machine
  m = stop.opens

  unmarked_there : mark_of stop.opens.mark ≡ None
  unmarked_there = ap (λ (u : Machine). mark_of u.mark) stop.call.opened.is_opened ∙ stop.unmarked

  proper : IsProper stop.opens
  proper = starts_proper stop.now w.disk stop.opens stop.call.small stop.call.opened

  first_marks : (d : Command) → d ≡ Resume → TouchesOnly stop.opens key body (acked_marks stop.opens d (marks_of stop.opens))
  first_marks d same =
      subst (λ e. TouchesOnly stop.opens key body (acked_marks stop.opens e (marks_of stop.opens))) (sym same)
      (only_begun stop.opens key body stop.opens Resume (marks_of stop.opens) (only_resume stop.opens key body unmarked_there) (none_touched stop.opens key body))

  -- the marks that allow what a crash leaves
  record Allows : Type 0 where
    marks : Marks
    safe : IsCrashSafe x.disk marks
    only : TouchesOnly stop.opens key body marks

  performed_allows : (d : Command) (cs : List Command) → d ≡ Resume → ArePut (step stop.opens d).next key w.source x.source stop.ended cs
      → TouchesOnly stop.opens key body (all_begun (step stop.opens d).next cs (acked_marks stop.opens d (marks_of stop.opens)))
  performed_allows d cs same (WholeBody given gives is) =
      let n : Machine = (step stop.opens d).next in
      let resumed = is_resumed (λ records. Unit {0}) None stop.opens d proper same in
      let some : Some given ≡ Some body = sym gives.whole ∙ stop.given in
      let given_is : given ≡ body = cc in
      subst (λ l. TouchesOnly stop.opens key body (all_begun n l (acked_marks stop.opens d (marks_of stop.opens)))) (sym is)
      (only_commands stop.opens key body true given n (acked_marks stop.opens d (marks_of stop.opens)) resumed.proper resumed.unmarked stop.bytes.0 (subst AreBytes (sym given_is) stop.bytes.1) (λ e. given_is)
      (first_marks d same))
  performed_allows d cs same (Broken given gives no_answer is) =
      let n : Machine = (step stop.opens d).next in
      let resumed = is_resumed (λ records. Unit {0}) None stop.opens d proper same in
      subst (λ l. TouchesOnly stop.opens key body (all_begun n l (acked_marks stop.opens d (marks_of stop.opens)))) (sym (is ∙ ap (λ l. until_refused n (Create 0 key ∷ l)) (sym (append-nil (appends given)))))
      (only_commands stop.opens key body false given n (acked_marks stop.opens d (marks_of stop.opens)) resumed.proper resumed.unmarked stop.bytes.0
      (given_bytes w.source.left x.source.left body given stop.given stop.bytes.1 gives.given) (λ e. absurd (cc)) (first_marks d same))

  itself : (d : Command) → IsResumedBy (AreAtOpening w.disk stop.opens) (mark_of stop.opens.mark) stop.opens d → d ≡ Resume
  itself d resumed = resumed_itself (AreAtOpening w.disk stop.opens) (mark_of stop.opens.mark) stop.opens d unmarked_there resumed

  unbegun : HasNotBegun stop.opens stop.ended (output_of w) (output_of x) → Allows
  unbegun failed = elim failed.leaves [
    | inl leaves ↦ record { marks = marks_of stop.opens; safe = leaves.crash stop.quiet; only = none_touched stop.opens key body }
    | inr first ↦ record {
      marks = acked_marks stop.opens first.0 (marks_of stop.opens);
      safe = first.1.1.crash stop.quiet;
      only = first_marks first.0 (itself first.0 first.1.0);
    }
  ]

  allows : Allows
  allows = elim (stop.call.performs (ap is_some stop.given) stop.opens stop.call.opened) [
    | inl first ↦
        let same = itself first.0 first.1.0 in
        elim first.1.1 [
          | inl put ↦ record {
            marks = (all_begun_none_acked stop.opens first.0 put.0).marks;
            safe = put.1.1.leaves.crash stop.quiet;
            only =
                subst (λ l. TouchesOnly stop.opens key body (all_begun (step stop.opens first.0).next l (acked_marks stop.opens first.0 (marks_of stop.opens)))) (sym (take_all (length put.0) put.0 (omega arith)))
                (performed_allows first.0 put.0 same put.1.0);
          }
          | inr faulted ↦ record {
            marks = acked_marks stop.opens first.0 (marks_of stop.opens);
            safe = faulted.0.leaves.crash stop.quiet;
            only = first_marks first.0 same;
          }
        ]
    | inr failed ↦ unbegun failed.0
  ]

  abbrev IsPutOr : List ℕ → Type 0
  IsPutOr other = let was = found (entries (standing w.disk)) other in let is = found (entries image) other in
      (is ≡ was) ⊎ ((file_name other ≡ file_name key) × IfSome is (λ v. (v.key ≡ key) × (v.body ≡ body)))

  as_before : (other : List ℕ) → found (get allows.marks.marked.shelf) other ≡ found (entries (standing w.disk)) other
  as_before other =
      ap (λ o. whole_in (read_for other o))
      (ap (λ (u : Machine). get u.shelf (file_name other)) (allows.only.marked ∙ stop.call.opened.is_opened) ∙ sym (stop.call.opened.is_shelf.entries_are (file_name other)))

  of_other : (other : List ℕ) → IsPutOr other
  of_other other =
      let left : IsLeft x.disk allows.marks image = allows.safe image stop.left in
      let name : List ℕ = file_name other in
      elim (one_name name (file_name key)) [
        | inr apart ↦ inl (left.untouched other (allows.only.others name apart) ∙ as_before other)
        | inl same ↦ elim (cases_Bool (is_touched allows.marks name)) [
          | inr un ↦ inl (left.untouched other un ∙ as_before other)
          | inl touched ↦ elim (left.touched other touched (inl (ap (list_any (bytes_eq name)) allows.only.in_place))) [
            | inl none ↦ inr (same, subst (λ o. IfSome o (λ v. (v.key ≡ key) × (v.body ≡ body))) (sym none) tt)
            | inr (inl was) ↦ inl (was ∙ as_before other)
            | inr (inr new) ↦
                inr (same, subst (λ o. IfSome o (λ v. (v.key ≡ key) × (v.body ≡ body))) (sym new.1.0) (allows.only.since name new.0 new.1.1.1))
          ]
        ]
      ]

pub put_is_all_or_nothing : PutIsAllOrNothing
put_is_all_or_nothing key body image w x stop other = of_other key body image w x stop other
