use Rattle.std.proofs.Common.{ap, subst, ◌∙◌}
use Rattle.std.specs.Map.{lookup}
use Rattle.record_list.specs.Lists.{same_name}
use Rattle.index_map.specs.Slots.{IsTable, used_in}
use Rattle.index_map.proofs.Joined.{join_table, found_first, found_second}
use Rattle.index_map.proofs.Places.{used_found, used_table}
use Rattle.index_map.proofs.all_slots.AllSlots.get.Goals as goal

pub returns-in-Some-clause-slot : goal.returns-in-Some-clause-slot
returns-in-Some-clause-slot c =
    let name = c.args.name.now in
    found_first c.self.inside.layers (used_in c.self.inside.journal) name c.in-Some.held c.in-Some.ensures.slot ∙ ap (lookup (same_name name)) c.self.view_is

pub returns-in-Some-clause-table : goal.returns-in-Some-clause-table
returns-in-Some-clause-table c =
    subst IsTable c.self.view_is (join_table c.self.inside.layers (used_in c.self.inside.journal) c.in-Some.ensures.table (used_table c.self.inside.journal c.get.ensures.table) c.self.invariant)

pub returns-in-None-clause-slot : goal.returns-in-None-clause-slot
returns-in-None-clause-slot c =
    let name = c.args.name.now in
    let es = c.self.inside.journal in
    found_second c.self.inside.layers (used_in es) name c.used-placed.result c.in-None.ensures.slot (used_found es name c.get.result c.used-placed.result c.get.ensures.table c.get.ensures.held (c.used-placed.ensures name))
    ∙ ap (lookup (same_name name)) c.self.view_is

pub returns-in-None-clause-table : goal.returns-in-None-clause-table
returns-in-None-clause-table c =
    subst IsTable c.self.view_is (join_table c.self.inside.layers (used_in c.self.inside.journal) c.in-None.ensures.table (used_table c.self.inside.journal c.get.ensures.table) c.self.invariant)
