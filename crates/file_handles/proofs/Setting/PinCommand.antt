-- The commands that pin an entry and unpin it.
use Rattle.std.proofs.Common.{◌≡◌, ℕ, ◌<◌, [], Bool, true, false, Some, None, Err, Ok, refl, ap, ◌∙◌}
use Rattle.std.specs.Prelude.{IsSome, if◌then◌else◌}
use Rattle.cache_base.specs.Checks.{first_failing}
use Rattle.cache_base.specs.declared.limits.TheConstants.{SLOTS}
use Rattle.cache_base.proofs.CheckLaws.{all_hold}
use Rattle.cache_theory.specs.Checks.{checks}
use Rattle.cache_theory.specs.Command.Command.{Pin, Unpin}
use Rattle.cache_theory.specs.Command.Reply.{Done}
use Rattle.cache_theory.specs.Machine.{Machine, is_slot, number_of, object_of}
use Rattle.cache_theory.specs.Marks.{Marks, acked, begun, name_of_some, rewritten, rewritten_in_place, touches}
use Rattle.cache_theory.specs.Step.{answer, changed, effect, step, with_pin}
use Rattle.cache_theory.specs.declared.refusal.Refusal.{Refusal}
use Rattle.cache_theory.proofs.Changes.{object_is}
use Rattle.cache_theory.proofs.Versions.{object_pinned}
use Rattle.file_handles.specs.Changes.{with_version}
use Rattle.file_handles.specs.Effects.{learnt, learnt_at}
use Rattle.handle_table.specs.Kept.{Kept, object_at, use_at, writing}
use Rattle.handle_table.specs.Refuses.{Passes, Refuses}
use Rattle.file_handles.specs.Setting.{pin_command}
use Rattle.handle_table.specs.declared.object.Use.{Use}
use Rattle.file_handles.proofs.Carried.{MakesChange}
use Rattle.file_handles.proofs.Setting.ElementCommands.{IsFinished}
use Rattle.file_handles.proofs.Setting.ElementMarks.{goes_out}
use Rattle.handle_table.proofs.Released.{some_object}
use Rattle.file_handles.proofs.Finishing.Writers.{is_writing, no_writer}

module _ (k : Kept) (s : ℕ) (small : s < SLOTS) where
  -- its checks, by the use of the slot
  pub pin_no_writer : (r : Refusal) → writing (use_at k s) ≡ Err r → (pinned : Bool) → Refuses k (pin_command pinned s) r
  unfolding checks
  pin_no_writer r is true m number proper stand = no_writer k s small r is m number stand []
  pin_no_writer r is false m number proper stand = no_writer k s small r is m number stand []

  pub pin_passes : (u : Use) → writing (use_at k s) ≡ Ok u → IsSome (object_at k u.place) → (pinned : Bool) → Passes k (pin_command pinned s)
  unfolding checks
  pin_passes u is some true m number proper stand =
      let there = some_object (object_at k u.place) some in
      is_writing k s small u there.0 is there.1 m number stand []
  pin_passes u is some false m number proper stand =
      let there = some_object (object_at k u.place) some in
      is_writing k s small u there.0 is there.1 m number stand []

module _ (m : Machine) (slot : ℕ) where
  pin_acks : (pinned : Bool) (w : Marks) → acked m (pin_command pinned slot) w ≡ begun m (pin_command pinned slot) w
  pin_acks true w = refl
  pin_acks false w = refl

  pin_effect : (pinned : Bool) → effect m (pin_command pinned slot) ≡ answer (changed m slot (with_pin pinned)) Done
  unfolding effect
  pin_effect true = refl
  pin_effect false = refl

  pin_slot : (pinned : Bool) → first_failing (checks m (pin_command pinned slot)) ≡ None → is_slot m slot ≡ true
  unfolding checks
  pin_slot true fine = let all = all_hold (checks m (Pin slot)) fine in all.0
  pin_slot false fine = let all = all_hold (checks m (Unpin slot)) fine in all.0

  -- what it rewrites, and that it does so in place
  pub pin_rewrites : (pinned : Bool) → rewritten m (pin_command pinned slot) ≡ (if (object_of m slot).finished then Some (number_of m slot) else None)
  pin_rewrites true = refl
  pin_rewrites false = refl

  pin_in_place : (pinned : Bool) → rewritten_in_place m (pin_command pinned slot) ≡ rewritten m (pin_command pinned slot)
  pin_in_place true = refl
  pin_in_place false = refl

  pin_touches : (pinned : Bool) → touches m (pin_command pinned slot) ≡ name_of_some m (rewritten m (pin_command pinned slot))
  pin_touches true = refl
  pin_touches false = refl

  pub pin_learnt : (pinned : Bool) → learnt m (pin_command pinned slot) ≡ learnt_at (step m (pin_command pinned slot)).next (rewritten m (pin_command pinned slot))
  pin_learnt true = refl
  pin_learnt false = refl

-- what it does
pub pin_makes : (k : Kept) (slot : ℕ) (pinned : Bool) → Passes k (pin_command pinned slot)
    → MakesChange k (pin_command pinned slot) slot (with_version (with_pin pinned)) IsFinished
pin_makes k slot pinned passes = record {
  passes = λ m number proper stand at. passes m number proper stand;
  acks = λ m w. pin_acks m slot pinned w;
  effects = λ m number stand at fine. pin_effect m slot pinned;
  objects = λ m proper fine. object_pinned pinned (object_of m slot) (object_is m slot proper (pin_slot m slot pinned fine));
  key = λ o. refl;
  doomed = λ o. refl;
  unfinished = λ o un. un;
  out = λ m w number stand fine done becomes.
      goes_out m (pin_command pinned slot) w fine (number_of m slot) (with_version (with_pin pinned) (object_of m slot))
      (pin_rewrites m slot pinned ∙ ap (λ (b : Bool). if b then Some (number_of m slot) else None) done) (pin_in_place m slot pinned) (pin_touches m slot pinned) becomes refl refl;
}
