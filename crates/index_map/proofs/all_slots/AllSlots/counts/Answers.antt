use Rattle.std.proofs.Common.{ap, subst, ◌∙◌}
use Rattle.std.specs.Map.{values_of}
use Rattle.index_map.specs.Slots.{IsTable, counts_of, used_in}
use Rattle.index_map.proofs.Joined.{counts_join, join_table}
use Rattle.index_map.proofs.Places.{counts_used, used_table}
use Rattle.index_map.proofs.all_slots.AllSlots.counts.Goals as goal

pub returns-clause-counts : goal.returns-clause-counts
returns-clause-counts c =
    counts_join c.self.inside.layers (used_in c.self.inside.journal) c.counts.result c.counts-2.result c.both.result c.counts.ensures.counts
    (c.counts-2.ensures.counts ∙ counts_used c.self.inside.journal)
    c.both.ensures.records c.both.ensures.kilobytes c.both.ensures.changed
    ∙ ap (λ t. counts_of (values_of t)) c.self.view_is

pub returns-clause-table : goal.returns-clause-table
returns-clause-table c =
    subst IsTable c.self.view_is (join_table c.self.inside.layers (used_in c.self.inside.journal) c.counts.ensures.table (used_table c.self.inside.journal c.counts-2.ensures.table) c.self.invariant)
