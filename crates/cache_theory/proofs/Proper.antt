-- Every command leaves a proper machine proper.
use Rattle.std.proofs.Common.{◌≡◌, [], ◌++◌, drop, false, true, Option, Some, None, refl}
use Rattle.std.specs.Prelude.{is_none, is_some}
use Rattle.std.proofs.lemmas.Bool.{cond_both, not-true}
use Rattle.cache_base.specs.Checks.{first_failing}
use Rattle.cache_base.proofs.CheckLaws.{AllHold, all_hold}
use Rattle.cache_theory.specs.Checks.{checks, with_alt_data, with_value}
use Rattle.cache_theory.specs.Command.{Command}
use Rattle.cache_theory.specs.Command.Command.{At, Create, OpenKey, Append, Finish, SetElement, UnsetElement, UseEntry, Pin, Unpin, PutAlt, Close, Doom, ListRecords, ListGiven, Evict, EvictNames, ClearOrigin, ClearNames, Resume, ResumeNames, StepUpdate, Verify, VerifyRecords, Rebuild, FinishAs, Dump}
use Rattle.cache_theory.specs.Command.Reply.{Done, NoneThere}
use Rattle.cache_theory.specs.Covers.{cleared, resumed}
use Rattle.cache_theory.specs.Given.{IsGiven}
use Rattle.cache_theory.specs.Machine.{Machine, is_slot, object_of}
use Rattle.cache_theory.specs.Proper.{IsProper, StaysProper}
use Rattle.cache_theory.specs.Step.{answer, changed, effect, evicted, stepped, update_ended, used, with_pin, cleared_of, unmarked}
use Rattle.cache_theory.specs.declared.refusal.Refusal.{Refusal}
use Rattle.cache_theory.proofs.AltData.{object_with_alt}
use Rattle.cache_theory.proofs.Changes.{object_is, proper_changed, proper_closed, proper_created, proper_finished, proper_finished_as, proper_joined}
use Rattle.cache_theory.proofs.ObjectLaws.Dooming.{proper_doomed_under}
use Rattle.cache_theory.proofs.Rested.{proper_all_doomed, proper_rested, proper_cleared, proper_unmarked}
use Rattle.cache_theory.proofs.ObjectLaws.Slotted.{proper_slotted, same_slots}
use Rattle.cache_theory.proofs.Versions.{object_appended, object_finished_as, object_pinned, object_used, object_with, object_without}
use Rattle.entry_name.specs.EntryName.{file_name}
use Rattle.entry_parts.specs.Elements.{element}
use Rattle.entry_parts.specs.Setting.{without_element}
use Rattle.context_clear.specs.Mark.{mark_of}

effect_proper : (m : Machine) (c : Command) → IsGiven c → IsProper m → AllHold (checks m c) → IsProper (effect m c).next
unfolding checks effect
effect_proper m (At now) given proper hold = proper_slotted m now m.slots proper given (same_slots m proper)
effect_proper m (Create s key) given proper hold = proper_created m s key proper given.0 given.1 hold.0 hold.1.0
effect_proper m (OpenKey s key) given proper hold = proper_joined m s key proper given.0 hold.0
effect_proper m (Append s bytes) given proper hold =
    let is : is_slot m s ≡ true = hold.0 in
    proper_changed m s (λ v. record v { body = v.body ++ bytes }) proper is refl
    (object_appended (object_of m s) bytes (not-true (object_of m s).finished hold.1.1.0) given.1 hold.1.1.1.0 (object_is m s proper is))
effect_proper m (Finish s) given proper hold = proper_finished m s proper
effect_proper m (FinishAs s header elements) given proper hold =
    let is : is_slot m s ≡ true = hold.0 in
    proper_finished_as m s header elements proper is
    (object_finished_as (object_of m s) header elements (not-true (object_of m s).finished hold.1.1.0) given.1 hold.1.1.1.0 (object_is m s proper is))
effect_proper m (SetElement s name value) given proper hold =
    let is : is_slot m s ≡ true = hold.0 in
    proper_changed m s (with_value name value) proper is refl
    (object_with (object_of m s) name value given.1.0 given.1.1 hold.1.1.0 hold.1.1.1.0 (object_is m s proper is))
effect_proper m (UnsetElement s name) given proper hold =
    let is : is_slot m s ≡ true = hold.0 in
    cond_both (is_none (element name (object_of m s).version.elements)) (answer m NoneThere) (answer (changed m s (λ v. record v { elements = without_element name v.elements })) Done) (λ a. IsProper a.next)
    (λ none. proper)
    (λ some. proper_changed m s (λ v. record v { elements = without_element name v.elements }) proper is refl (object_without (object_of m s) name (object_is m s proper is)))
effect_proper m (UseEntry s) given proper hold =
    let is : is_slot m s ≡ true = hold.0 in
    proper_changed m s (used m.moment) proper is refl
    (object_used m.moment (object_of m s) proper.moment (object_is m s proper is))
effect_proper m (Pin s) given proper hold =
    let is : is_slot m s ≡ true = hold.0 in
    proper_changed m s (with_pin true) proper is refl
    (object_pinned true (object_of m s) (object_is m s proper is))
effect_proper m (Unpin s) given proper hold =
    let is : is_slot m s ≡ true = hold.0 in
    proper_changed m s (with_pin false) proper is refl
    (object_pinned false (object_of m s) (object_is m s proper is))
effect_proper m (PutAlt s kind bytes) given proper hold =
    let is : is_slot m s ≡ true = hold.0 in
    proper_changed m s (with_alt_data kind bytes) proper is refl
    (object_with_alt (object_of m s) kind bytes hold.1.1.0 given.1.0 given.1.1 hold.1.1.1.1.0 hold.1.1.1.1.1.0 hold.1.1.1.1.1.1.0 (object_is m s proper is))
effect_proper m (Close s) given proper hold = proper_closed m s proper hold.0
effect_proper m (Doom key) given proper hold = proper_doomed_under m (file_name key) proper
effect_proper m ListRecords given proper hold = proper_rested m [] proper
effect_proper m (ListGiven records) given proper hold = proper_rested m [] proper
effect_proper m (Evict kb) given proper hold =
    proper_all_doomed (update_ended m) (evicted m kb) (proper_rested m [] proper)
effect_proper m (EvictNames names) given proper hold =
    proper_all_doomed (update_ended m) names (proper_rested m [] proper)
effect_proper m (ClearOrigin origin) given proper hold = proper_cleared m (cleared m origin) proper
effect_proper m (ClearNames names) given proper hold = proper_cleared m names proper
effect_proper m Resume given proper hold =
    cond_both (is_some (mark_of m.mark)) (cleared_of m (resumed m)) (unmarked m) IsProper
    (λ some. proper_cleared m (resumed m) proper) (λ none. proper_unmarked m proper)
effect_proper m (ResumeNames names) given proper hold = proper_cleared m names proper
effect_proper m (StepUpdate n) given proper hold = proper_rested m (drop n m.rest) proper
effect_proper m Verify given proper hold = proper_rested m [] proper
effect_proper m (VerifyRecords records) given proper hold = proper_rested m [] proper
effect_proper m Rebuild given proper hold = proper_rested m [] proper
effect_proper m Dump given proper hold = proper_rested m [] proper
effect_proper m c given proper hold = proper

pub stays_proper : StaysProper
stays_proper m c given proper = go (first_failing (checks m c)) refl
  where
    go : (r : Option Refusal) → first_failing (checks m c) ≡ r → IsProper (stepped m c r).next
    go None fine = effect_proper m c given proper (all_hold (checks m c) fine)
    go (Some r) refused = proper
