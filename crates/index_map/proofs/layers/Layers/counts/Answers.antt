use Rattle.std.proofs.Common.{ap, arith, subst, ◌∙◌}
use Rattle.std.specs.Map.{values_of}
use Rattle.index_map.specs.Slots.{IsTable, counts_of}
use Rattle.index_map.proofs.Joined.{counts_join, join_table}
use Rattle.index_map.proofs.layers.Layers.counts.Goals as goal

pub both-requires-clause-records : goal.both-requires-clause-records
both-requires-clause-records c = omega (arith, c.counts.ensures.small.records, c.counts-2.ensures.few.records)

pub both-requires-clause-kilobytes : goal.both-requires-clause-kilobytes
both-requires-clause-kilobytes c = omega (arith, c.counts.ensures.small.kilobytes, c.counts-2.ensures.few.kilobytes)

pub both-requires-clause-changed : goal.both-requires-clause-changed
both-requires-clause-changed c = omega (arith, c.counts.ensures.small.changed, c.counts-2.ensures.few.changed)

pub returns-clause-counts : goal.returns-clause-counts
returns-clause-counts c =
    counts_join c.self.inside.others c.self.inside.base c.counts.result c.counts-2.result c.both.result c.counts.ensures.counts c.counts-2.ensures.counts
    c.both.ensures.records c.both.ensures.kilobytes c.both.ensures.changed
    ∙ ap (λ t. counts_of (values_of t)) c.self.view_is

pub returns-clause-table : goal.returns-clause-table
returns-clause-table c = subst IsTable c.self.view_is (join_table c.self.inside.others c.self.inside.base c.counts.ensures.table c.counts-2.ensures.table c.self.invariant)
