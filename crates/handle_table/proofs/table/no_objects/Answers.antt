use Rattle.std.proofs.Common.{None, arith}
use Rattle.handle_table.proofs.table.no_objects.Goals as goal

pub returns : goal.returns
returns c = λ i lt. let long = c.from_fn.ensures.items.long in let called = c.from_fn.ensures.items.at i None (omega (arith, long, lt)) in called.2.met
