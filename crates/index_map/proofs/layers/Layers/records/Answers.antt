use Rattle.std.proofs.Common.{ap, subst, ◌∙◌, ◌++◌}
use Rattle.std.specs.List.{filter_map}
use Rattle.std.specs.Map.{values_of}
use Rattle.index_map.specs.Slots.{IsTable, Slot}
use Rattle.std.proofs.Common.{sym}
use Rattle.index_map.proofs.Joined.{join_table, listed_join}
use Rattle.index_map.proofs.layers.Layers.records.Goals as goal

pub returns-in_err-list-clause-table : goal.returns-in_err-list-clause-table
returns-in_err-list-clause-table c = subst IsTable c.self.view_is (join_table c.self.inside.others c.self.inside.base c.records.ensures.table c.counts-counts.ensures.table c.self.invariant)

pub returns-in_err-push_records-clause-table : goal.returns-in_err-push_records-clause-table
returns-in_err-push_records-clause-table c = subst IsTable c.self.view_is (join_table c.self.inside.others c.self.inside.base c.records.ensures.table c.counts-counts.ensures.table c.self.invariant)

pub returns-clause-records : goal.returns-clause-records
returns-clause-records c =
    c.in_ok-push_records.ensures.records ∙ ap (λ l. l ++ filter_map (λ (slot : Slot). slot.current) (values_of c.self.inside.base)) c.in_ok-list.ensures.records
    ∙ sym (listed_join (λ (slot : Slot). slot.current) c.self.inside.others c.self.inside.base) ∙ ap (λ t. filter_map (λ (slot : Slot). slot.current) (values_of t)) c.self.view_is

pub returns-clause-table : goal.returns-clause-table
returns-clause-table c = subst IsTable c.self.view_is (join_table c.self.inside.others c.self.inside.base c.records.ensures.table c.counts-counts.ensures.table c.self.invariant)
