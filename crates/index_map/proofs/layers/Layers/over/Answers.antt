use Rattle.std.proofs.Common.{sym, subst, ◌++◌}
use Rattle.index_map.specs.Slots.{IsTable}
use Rattle.index_map.proofs.layers.Layers.over.Goals as goal

pub returns-clause-table : goal.returns-clause-table
returns-clause-table c = subst (λ o. IsTable (o ++ c.in_ok-over.field-0)) (sym c.new.ensures.slots) c.in_ok-over.ensures.table
