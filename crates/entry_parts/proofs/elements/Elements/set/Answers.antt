use Rattle.std.proofs.Common.{ap, ◌∙◌}
use Rattle.entry_parts.specs.Elements.{elements_of}
use Rattle.entry_parts.proofs.SettingLaws.{spell_set}
use Rattle.entry_parts.proofs.elements.Elements.set.Goals as goal

pub invariant_of-self : goal.invariant_of-self
invariant_of-self c =
    (spell_set c.args.name.now c.args.value.now c.as_slice-old.result.now c.in_ok-self-inside.field-0.items c.args.self.now _ _ (ap elements_of c.as_slice-old.ensures.value ∙ c.self.view_is) c.in_ok-place.ensures.passes c.in_ok-place.ensures.place c.in_ok-self-inside.ensures).form

pub returns-clause-ok : goal.returns-clause-ok
returns-clause-ok c =
    (spell_set c.args.name.now c.args.value.now c.as_slice-old.result.now c.in_ok-self-inside.field-0.items c.args.self.now _ _ (ap elements_of c.as_slice-old.ensures.value ∙ c.self.view_is) c.in_ok-place.ensures.passes c.in_ok-place.ensures.place c.in_ok-self-inside.ensures).elements
