use Rattle.std.proofs.Common.{ap, subst, sym, ◌∙◌, ◌++◌}
use Rattle.std.specs.List.{filter_map}
use Rattle.std.specs.Map.{values_of}
use Rattle.index_map.specs.Slots.{IsTable, change_in, slots_of, used_in}
use Rattle.index_map.proofs.Joined.{join_table, listed_join}
use Rattle.index_map.proofs.Places.{change_nothing, listed_used, used_table}
use Rattle.index_map.proofs.all_slots.AllSlots.changes.Goals as goal

pub returns-in_err-list-clause-table : goal.returns-in_err-list-clause-table
returns-in_err-list-clause-table c =
    subst IsTable c.self.view_is (join_table c.self.inside.layers (used_in c.self.inside.journal) c.changes.ensures.table (used_table c.self.inside.journal c.counts-counts.ensures.table) c.self.invariant)

pub returns-in_err-push_changes-clause-table : goal.returns-in_err-push_changes-clause-table
returns-in_err-push_changes-clause-table c =
    subst IsTable c.self.view_is (join_table c.self.inside.layers (used_in c.self.inside.journal) c.changes.ensures.table (used_table c.self.inside.journal c.counts-counts.ensures.table) c.self.invariant)

pub returns-clause-changes : goal.returns-clause-changes
returns-clause-changes c =
    let o = c.self.inside.layers in
    let es = c.self.inside.journal in
    let f = change_in in
    c.in_ok-push_changes.ensures.changes ∙ ap (λ l. l ++ filter_map f (values_of (slots_of es))) c.in_ok-list.ensures.changes
    ∙ ap (λ l. filter_map f (values_of o) ++ l) (sym (listed_used f change_nothing (slots_of es)))
    ∙ sym (listed_join f o (used_in es)) ∙ ap (λ t. filter_map f (values_of t)) c.self.view_is

pub returns-clause-table : goal.returns-clause-table
returns-clause-table c =
    subst IsTable c.self.view_is (join_table c.self.inside.layers (used_in c.self.inside.journal) c.changes.ensures.table (used_table c.self.inside.journal c.counts-counts.ensures.table) c.self.invariant)
