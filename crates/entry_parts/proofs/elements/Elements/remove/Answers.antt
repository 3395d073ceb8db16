use Rattle.entry_parts.proofs.SettingLaws.{spell_removed}
use Rattle.entry_parts.proofs.elements.Elements.remove.Goals as goal

pub invariant_of-self : goal.invariant_of-self
invariant_of-self c =
    (spell_removed c.args.name.now c.as_slice.result.now c.self.inside.bytes.items c.cut_out.new.bytes.items c.args.self.now _ _ c.as_slice.ensures.value c.self.view_is c.place_of-place.ensures c.cut_out.ensures).form

pub returns-clause-elements : goal.returns-clause-elements
returns-clause-elements c =
    (spell_removed c.args.name.now c.as_slice.result.now c.self.inside.bytes.items c.cut_out.new.bytes.items c.args.self.now _ _ c.as_slice.ensures.value c.self.view_is c.place_of-place.ensures c.cut_out.ensures).elements
