-- The command that counts a use of an entry.
use Rattle.std.proofs.Common.{◌≡◌, ◌^◌, ℕ, ◌<◌, Bool, Some, None, Err, refl, sym, ap, ◌∙◌}
use Rattle.std.specs.Prelude.{if◌then◌else◌}
use Rattle.cache_base.specs.declared.limits.TheConstants.{SLOTS}
use Rattle.cache_base.proofs.CheckLaws.{all_hold}
use Rattle.cache_theory.specs.Checks.{checks}
use Rattle.cache_theory.specs.Command.Command.{UseEntry}
use Rattle.cache_theory.specs.Command.Reply.{Done}
use Rattle.cache_theory.specs.Machine.{is_slot, number_of, object_of}
use Rattle.cache_theory.specs.Step.{answer, changed, effect, used}
use Rattle.cache_theory.specs.declared.refusal.Refusal.{Refusal}
use Rattle.cache_theory.specs.declared.refusal.Refusal.TheVariants.{NoSlot}
use Rattle.cache_theory.proofs.Changes.{object_is}
use Rattle.cache_theory.proofs.Versions.{object_used}
use Rattle.file_handles.specs.Changes.{with_version}
use Rattle.handle_table.specs.Kept.{Kept, use_at, used as used_or}
use Rattle.handle_table.specs.Refuses.{Passes, Refuses}
use Rattle.handle_table.specs.declared.object.Use.{Use}
use Rattle.file_handles.proofs.Carried.{MakesChangeAt}
use Rattle.file_handles.proofs.Changed.{MayGoOut}
use Rattle.file_handles.proofs.Setting.ElementChecks.{fails, holds}
use Rattle.file_handles.proofs.Setting.ElementCommands.{IsFinished}
use Rattle.file_handles.proofs.Setting.ElementMarks.{goes_out}
use Rattle.file_handles.proofs.Setting.ElementSlots.{no_slot, no_use_found, slot_is}

module _ (k : Kept) (s : ℕ) (small : s < SLOTS) where
  -- its checks, by the use of the slot
  pub use_no_slot : (r : Refusal) → used_or (use_at k s) ≡ Err r → Refuses k (UseEntry s) r
  unfolding checks
  use_no_slot r is m number proper stand =
      let parts = no_use_found (use_at k s) r is in
      fails (is_slot m s) NoSlot _ (no_slot k m number stand s small parts.0) ∙ ap Some (sym parts.1)

  pub use_passes : (u : Use) → use_at k s ≡ Some u → Passes k (UseEntry s)
  unfolding checks
  use_passes u at m number proper stand = holds (is_slot m s) NoSlot _ (slot_is k m number stand s small u at)

-- what it does at a moment
pub use_makes : (now : ℕ) → now < 2 ^ 32 → (k : Kept) (slot : ℕ) → Passes k (UseEntry slot)
    → MakesChangeAt (λ m. m.moment ≡ now) MayGoOut k (UseEntry slot) slot (with_version (used now)) IsFinished
unfolding checks effect
use_makes now within k slot passes = record {
  passes = λ m number proper stand at. passes m number proper stand;
  acks = λ m w. refl;
  effects = λ m number stand moment fine. ap (λ n. answer (changed m slot (used n)) Done) moment;
  objects = λ m proper fine.
      let all = all_hold (checks m (UseEntry slot)) fine in
      object_used now (object_of m slot) within (object_is m slot proper all.0);
  key = λ o. refl;
  doomed = λ o. refl;
  unfinished = λ o un. un;
  out = λ m w number stand fine done becomes.
      goes_out m (UseEntry slot) w fine (number_of m slot) (with_version (used now) (object_of m slot))
      (ap (λ (b : Bool). if b then Some (number_of m slot) else None) done) refl refl becomes refl refl;
}
