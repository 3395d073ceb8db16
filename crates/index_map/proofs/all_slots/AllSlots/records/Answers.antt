use Rattle.std.proofs.Common.{ap, subst, sym, ◌∙◌, ◌++◌}
use Rattle.std.specs.List.{filter_map}
use Rattle.std.specs.Map.{values_of}
use Rattle.index_map.specs.Slots.{IsTable, Slot, slots_of, used_in}
use Rattle.index_map.proofs.Joined.{join_table, listed_join}
use Rattle.index_map.proofs.Places.{current_nothing, listed_used, used_table}
use Rattle.index_map.proofs.all_slots.AllSlots.records.Goals as goal

pub returns-in_err-list-clause-table : goal.returns-in_err-list-clause-table
returns-in_err-list-clause-table c =
    subst IsTable c.self.view_is (join_table c.self.inside.layers (used_in c.self.inside.journal) c.records.ensures.table (used_table c.self.inside.journal c.counts-counts.ensures.table) c.self.invariant)

pub returns-in_err-push_records-clause-table : goal.returns-in_err-push_records-clause-table
returns-in_err-push_records-clause-table c =
    subst IsTable c.self.view_is (join_table c.self.inside.layers (used_in c.self.inside.journal) c.records.ensures.table (used_table c.self.inside.journal c.counts-counts.ensures.table) c.self.invariant)

pub returns-clause-records : goal.returns-clause-records
returns-clause-records c =
    let o = c.self.inside.layers in
    let es = c.self.inside.journal in
    let f = (λ (slot : Slot). slot.current) in
    c.in_ok-push_records.ensures.records ∙ ap (λ l. l ++ filter_map f (values_of (slots_of es))) c.in_ok-list.ensures.records
    ∙ ap (λ l. filter_map f (values_of o) ++ l) (sym (listed_used f current_nothing (slots_of es)))
    ∙ sym (listed_join f o (used_in es)) ∙ ap (λ t. filter_map f (values_of t)) c.self.view_is

pub returns-clause-table : goal.returns-clause-table
returns-clause-table c =
    subst IsTable c.self.view_is (join_table c.self.inside.layers (used_in c.self.inside.journal) c.records.ensures.table (used_table c.self.inside.journal c.counts-counts.ensures.table) c.self.invariant)
