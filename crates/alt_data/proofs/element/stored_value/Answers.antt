use Rattle.alt_data.proofs.AltValue.{fine_by, value_fine}
use Rattle.alt_data.proofs.element.stored_value.Goals as goal

pub returns-clause-no_zero : goal.returns-clause-no_zero
returns-clause-no_zero c = fine_by (λ v. v.now) c.get.result _ c.get.ensures (value_fine _ c.args.elements.now c.print.ensures.elements)
