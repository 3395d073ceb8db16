use Rattle.evictor.proofs.AnyOrder.{same_in_any_order}
use Rattle.evictor.proofs.laws.same_in_any_order.Goals as goal

pub returns : goal.returns
returns c = same_in_any_order
