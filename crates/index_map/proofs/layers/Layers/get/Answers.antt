use Rattle.std.proofs.Common.{ap, sym, subst, ◌∙◌}
use Rattle.std.specs.Map.{lookup}
use Rattle.std.specs.Option.{option_map}
use Rattle.record_list.specs.Lists.{same_name}
use Rattle.index_map.specs.Slots.{IsTable, slot_of}
use Rattle.index_map.proofs.Joined.{join_table, found_first, found_second}
use Rattle.index_map.proofs.layers.Layers.get.Goals as goal

pub returns-in-Some-clause-slot : goal.returns-in-Some-clause-slot
returns-in-Some-clause-slot c =
    let name = c.args.name.now in
    found_first c.self.inside.others c.self.inside.base name c.in-Some.held (ap (option_map (slot_of name)) (sym c.in-Some.is ∙ c.copied.ensures) ∙ c.get.ensures.slot)
    ∙ ap (lookup (same_name name)) c.self.view_is

pub returns-in-Some-clause-table : goal.returns-in-Some-clause-table
returns-in-Some-clause-table c = subst IsTable c.self.view_is (join_table c.self.inside.others c.self.inside.base c.get.ensures.table c.get-kept.ensures.table c.self.invariant)

pub returns-in-None-clause-slot : goal.returns-in-None-clause-slot
returns-in-None-clause-slot c =
    let name = c.args.name.now in
    found_second c.self.inside.others c.self.inside.base name c.get-kept.result (ap (option_map (slot_of name)) (sym c.in-None.is ∙ c.copied.ensures) ∙ c.get.ensures.slot) c.get-kept.ensures.slot
    ∙ ap (lookup (same_name name)) c.self.view_is

pub returns-in-None-clause-table : goal.returns-in-None-clause-table
returns-in-None-clause-table c = subst IsTable c.self.view_is (join_table c.self.inside.others c.self.inside.base c.get.ensures.table c.get-kept.ensures.table c.self.invariant)
