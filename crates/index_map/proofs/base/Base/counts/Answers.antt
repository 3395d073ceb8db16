use Rattle.std.proofs.Common.{subst}
use Rattle.index_map.specs.Slots.{IsTable}
use Rattle.index_map.proofs.Marked.{base_few, base_table}
use Rattle.index_map.proofs.base.Base.counts.Goals as goal

pub returns-clause-table : goal.returns-clause-table
returns-clause-table c = subst IsTable c.self.view_is (base_table c.self.inside.records c.self.inside.marks.items c.self.inside.counts c.self.invariant c.self.inside.marks.items)

pub returns-clause-few : goal.returns-clause-few
returns-clause-few c = base_few c.self.inside.records c.self.inside.marks.items c.self.inside.counts c.self.invariant
