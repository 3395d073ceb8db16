use Rattle.std.proofs.Common.{ap, sym, ◌∙◌}
use Rattle.std.specs.Map.{lookup}
use Rattle.std.specs.Option.{option_map}
use Rattle.record_list.specs.Lists.{same_name}
use Rattle.index_map.specs.Slots.{slot_of}
use Rattle.index_map.proofs.Held.{lookup_slots}
use Rattle.index_map.proofs.table.Table.get.Goals as goal

pub returns-clause-slot : goal.returns-clause-slot
returns-clause-slot c =
    let name = c.args.name.now in
    ap (option_map (slot_of name)) c.get.ensures.value ∙ sym (lookup_slots name c.self.inside.slots.entries) ∙ ap (lookup (same_name name)) c.self.view_is
