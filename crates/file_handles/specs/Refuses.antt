-- When a call answers that a slot has no object.
use Rattle.std.specs.Prelude.{Err, None, Result, ℕ, ◌↔◌, ◌≡◌}
use Rattle.cache_theory.specs.declared.refusal.Refusal.TheVariants as refused
use Rattle.handle_table.specs.Kept.{Kept, object_in}
use Rattle.file_handles.specs.declared.fault.HandleFault.{HandleFault}
use Rattle.file_handles.specs.declared.fault.HandleFault.TheVariants as fault

-- a call ends with the refusal `no slot` exactly where the slot has no object
abbrev pub TellsNoSlot : {T : Type 0} → Kept → ℕ → Result T HandleFault → Type 0
TellsNoSlot k s answer = (answer ≡ Err (fault.Refused refused.NoSlot)) ↔ (object_in k s ≡ None)
