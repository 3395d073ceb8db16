use Rattle.evictor.proofs.Sorting.{moved_in_order, sorted_in_order}
use Rattle.evictor.proofs.laws.order_sorts.Goals as goal

pub returns : goal.returns
returns c = λ records. (moved_in_order records, sorted_in_order records)
