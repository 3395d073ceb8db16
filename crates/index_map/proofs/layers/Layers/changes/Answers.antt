use Rattle.std.proofs.Common.{ap, subst, ◌∙◌, ◌++◌}
use Rattle.std.specs.List.{filter_map}
use Rattle.std.specs.Map.{values_of}
use Rattle.index_map.specs.Slots.{IsTable, change_in}
use Rattle.std.proofs.Common.{sym}
use Rattle.index_map.proofs.Joined.{join_table, listed_join}
use Rattle.index_map.proofs.layers.Layers.changes.Goals as goal

pub returns-in_err-list-clause-table : goal.returns-in_err-list-clause-table
returns-in_err-list-clause-table c = subst IsTable c.self.view_is (join_table c.self.inside.others c.self.inside.base c.changes.ensures.table c.counts-counts.ensures.table c.self.invariant)

pub returns-in_err-push_changes-clause-table : goal.returns-in_err-push_changes-clause-table
returns-in_err-push_changes-clause-table c = subst IsTable c.self.view_is (join_table c.self.inside.others c.self.inside.base c.changes.ensures.table c.counts-counts.ensures.table c.self.invariant)

pub returns-clause-changes : goal.returns-clause-changes
returns-clause-changes c =
    c.in_ok-push_changes.ensures.changes ∙ ap (λ l. l ++ filter_map change_in (values_of c.self.inside.base)) c.in_ok-list.ensures.changes
    ∙ sym (listed_join change_in c.self.inside.others c.self.inside.base) ∙ ap (λ t. filter_map change_in (values_of t)) c.self.view_is

pub returns-clause-table : goal.returns-clause-table
returns-clause-table c = subst IsTable c.self.view_is (join_table c.self.inside.others c.self.inside.base c.changes.ensures.table c.counts-counts.ensures.table c.self.invariant)
