use Rattle.std.proofs.Common.{subst, sym}
use Rattle.record_list.specs.Lists.{IsByName}
use Rattle.record_list.proofs.name_order.by_name.Goals as goal

pub returns : goal.returns
returns c = subst (IsByName c.args.records.items) (sym c.from_vec.ensures) (c.sort.ensures.by_name c.requires)
