-- The commands that add to a body and that finish it.
use Rattle.std.proofs.Common.{◌≡◌, ℕ, ◌<◌, List, true, false, ◌&&◌, IfSome, Option, Some, None, refl, sym, ap, subst, ◌∙◌}
use Rattle.std.specs.Prelude.{if◌then◌else◌}
use Rattle.std.proofs.lemmas.Bool.{not-true}
use Rattle.cache_base.specs.Bytes.{AreBytes}
use Rattle.cache_base.specs.Checks.{first_failing}
use Rattle.cache_base.specs.declared.limits.TheConstants.{SLOTS}
use Rattle.cache_base.proofs.CheckLaws.{all_hold}
use Rattle.cache_theory.specs.Checks.{checks}
use Rattle.cache_theory.specs.Command.Command.{Append, Finish, FinishAs}
use Rattle.cache_theory.specs.Command.Reply.{Done}
use Rattle.cache_theory.specs.Machine.{Machine, number_of, object_of}
use Rattle.cache_theory.specs.Marks.{Marks, begun_by, rewritten}
use Rattle.cache_theory.specs.Step.{answer, effect, finished_as, step, stored}
use Rattle.cache_theory.proofs.Changes.{object_is}
use Rattle.cache_theory.proofs.Versions.{object_appended, object_finished, object_finished_as}
use Rattle.file_handles.specs.Changes.{appended, completed}
use Rattle.file_handles.specs.Effects.{HasEffect, IsLearntOf, learnt, learnt_at}
use Rattle.file_handles.specs.Finishing.{AreParts, completed_by, finish_command}
use Rattle.handle_table.specs.Kept.{Kept, object_at}
use Rattle.handle_table.specs.Refuses.{HasAt, Passes}
use Rattle.file_handles.specs.declared.fault.Effect.{Effect}
use Rattle.handle_table.specs.declared.object.Object.{Object}
use Rattle.handle_table.specs.declared.object.Parts.{Parts}
use Rattle.file_handles.proofs.Carried.{MakesChange, MakesChangeAt}
use Rattle.file_handles.proofs.Changed.{MayGoOut}
use Rattle.file_handles.proofs.EffectLaws.{change_effect}
use Rattle.file_handles.proofs.Setting.ElementMarks.{finishes_out, named_here}
use Rattle.file_handles.proofs.Finishing.Published.{MayFinish}

-- an unfinished object's file gets moments that fit under no name
append_out : (m : Machine) (w : Marks) (slot : ℕ) (bytes : List ℕ) → first_failing (checks m (Append slot bytes)) ≡ None → (object_of m slot).finished ≡ false
    → MayGoOut (begun_by None m (Append slot bytes) w) (number_of m slot) (appended bytes (object_of m slot))
append_out m w slot bytes passes un = record {
  touched = named_here (object_of m slot) w.touched;
  since = λ done unburied. absurd (let never : true ≡ false = sym done ∙ un in cc);
  in_place = λ done unburied. absurd (let never : true ≡ false = sym done ∙ un in cc);
}

pub append_makes : (k : Kept) (slot : ℕ) (bytes : List ℕ) → AreBytes bytes → Passes k (Append slot bytes) → MakesChange k (Append slot bytes) slot (appended bytes) (λ o. Unit {0})
unfolding checks effect
append_makes k slot bytes are passes = record {
  passes = λ m number proper stand at. passes m number proper stand;
  acks = λ m w. refl;
  effects = λ m number stand at fine. refl;
  objects = λ m proper fine.
      let all = all_hold (checks m (Append slot bytes)) fine in
      object_appended (object_of m slot) bytes (not-true (object_of m slot).finished all.1.1.0) are all.1.1.1.0 (object_is m slot proper all.0);
  key = λ o. refl;
  doomed = λ o. refl;
  unfinished = λ o un. un;
  out = λ m w number stand fine some becomes.
      let all = all_hold (checks m (Append slot bytes)) fine in
      subst (λ (v : Marks). MayGoOut v (number_of m slot) (appended bytes (object_of m slot))) (sym (ap (λ r. begun_by r m (Append slot bytes) w) fine))
      (append_out m w slot bytes fine (not-true (object_of m slot).finished all.1.1.0));
}

pub finish_makes : (k : Kept) (slot : ℕ) (given : Option Parts) → IfSome given AreParts → Passes k (finish_command given slot)
    → MakesChangeAt (λ m. Unit {0}) MayFinish k (finish_command given slot) slot (completed_by given) (λ o. o.finished ≡ false)
unfolding checks effect
finish_makes k slot None are passes = record {
  passes = λ m number proper stand at. passes m number proper stand;
  acks = λ m w. refl;
  effects = λ m number stand at fine.
      let all = all_hold (checks m (Finish slot)) fine in
      λ i. answer (if all.1.0 i && all.1.1.0 i then stored m (number_of m slot) (completed (object_of m slot)) else m) Done;
  objects = λ m proper fine.
      let all = all_hold (checks m (Finish slot)) fine in
      object_finished (object_of m slot) (not-true (object_of m slot).finished all.1.1.0) (object_is m slot proper all.0);
  key = λ o. refl;
  doomed = λ o. refl;
  unfinished = λ o un. absurd (cc);
  out = λ m w number stand fine some becomes. finishes_out m (Finish slot) w fine (number_of m slot) (completed (object_of m slot)) refl refl becomes refl refl;
}
finish_makes k slot (Some parts) are passes = record {
  passes = λ m number proper stand at. passes m number proper stand;
  acks = λ m w. refl;
  effects = λ m number stand at fine. refl;
  objects = λ m proper fine.
      let all = all_hold (checks m (FinishAs slot parts.header parts.elements)) fine in
      object_finished_as (object_of m slot) parts.header parts.elements (not-true (object_of m slot).finished all.1.1.0) (are.header, (are.elements, are.bytes)) all.1.1.1.0
      (object_is m slot proper all.0);
  key = λ o. refl;
  doomed = λ o. refl;
  unfinished = λ o un. absurd (cc);
  out = λ m w number stand fine some becomes.
      finishes_out m (FinishAs slot parts.header parts.elements) w fine (number_of m slot) (finished_as parts.header parts.elements (object_of m slot)) refl refl becomes refl refl;
}

-- what is learnt of it is what is learnt of the finished object
finish_learnt : (given : Option Parts) (slot : ℕ) (m : Machine) → learnt m (finish_command given slot) ≡ learnt_at (step m (finish_command given slot)).next (rewritten m (finish_command given slot))
finish_learnt None slot m = refl
finish_learnt (Some parts) slot m = refl

finish_rewrites : (given : Option Parts) (slot : ℕ) (m : Machine) → rewritten m (finish_command given slot) ≡ (if (completed_by given (object_of m slot)).finished then Some (number_of m slot) else None)
finish_rewrites None slot m = refl
finish_rewrites (Some parts) slot m = refl

pub finish_effect : (k : Kept) (slot : ℕ) → slot < SLOTS → (p : ℕ) (x : Object) → HasAt k slot p x → (given : Option Parts) → IfSome given AreParts → Passes k (finish_command given slot)
    → (e : Effect) → IsLearntOf (completed_by given) (object_at k p) e → HasEffect k (finish_command given slot) e
finish_effect k slot small p x has given are passes e is =
    change_effect k (finish_command given slot) slot small p x has (completed_by given) (λ o. o.finished ≡ false) (finish_makes k slot given are passes) e
    (finish_learnt given slot) (λ m number stand. finish_rewrites given slot m) is
