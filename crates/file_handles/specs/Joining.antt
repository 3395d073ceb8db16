-- What the call answers that adds an object.
use Rattle.std.specs.Prelude.{Bool, IfErr, OnErr, OnOk, Result, ℕ, ◌-◌, ◌^◌, ◌≡◌}
use Rattle.handle_table.specs.Joining.{AddsObject}
use Rattle.file_handles.specs.Answers.{OnRefused}
use Rattle.handle_table.specs.Kept.{Kept}
use Rattle.file_handles.specs.declared.fault.HandleFault.{HandleFault}
use Rattle.file_handles.specs.declared.fault.HandleFault.TheVariants as fault
use Rattle.handle_table.specs.declared.object.Object.{Object}

-- after an Ok the object is added, and the only fault is that so many objects were made that there is no number for one more
pub record AddsTo (slot : ℕ) (object : Object) (writes : Bool)
    (answer : Result (Unit {0}) HandleFault) (before after : Kept) : Type 0 where
  pub added : OnOk answer (AddsObject slot object writes before after)
  pub refused : OnRefused answer (λ r. ⊥)
  pub memory : IfErr answer (λ f. f ≡ fault.Memory)
  pub all_made : OnErr answer (before.made ≡ 2 ^ 64 - 1)
