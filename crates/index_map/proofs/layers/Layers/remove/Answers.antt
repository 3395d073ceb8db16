use Rattle.std.proofs.Common.{ap, sym, subst, ◌∙◌, ◌++◌}
use Rattle.std.specs.Map.{lookup}
use Rattle.std.specs.Prelude.{Some, option_and_then}
use Rattle.record_list.specs.Lists.{same_name}
use Rattle.index_map.specs.Slots.{IsTable, PutsSlot, gone_slot, remarked, slot_of}
use Rattle.index_map.specs.declared.mark.Mark.TheVariants.{Gone}
use Rattle.index_map.proofs.Joined.{apart_list, apart_other, from_list, from_table, join_table, marked_gone, none_of, puts_list, puts_other}
use Rattle.index_map.proofs.layers.Layers.remove.Goals as goal

pub returns-in-Some-clause-removes : goal.returns-in-Some-clause-removes
returns-in-Some-clause-removes c =
    let o = c.self.inside.others in
    let b = c.self.inside.base in
    let apart = c.self.invariant in
    let name = c.args.name.now in
    let old = slot_of name c.in-Some.field-0 in
    let at = sym c.in-Some.ensures.slot in
    let d = c.mark.new.self in
    let puts : PutsSlot b d name (gone_slot (Some old)) = subst (λ s. PutsSlot b d name s) (ap (option_and_then (remarked Gone)) at ∙ marked_gone old) c.mark.ensures.marked in
    subst (λ t. PutsSlot t (o ++ d) name (gone_slot (lookup (same_name name) t))) c.self.view_is
    (subst (λ s. PutsSlot (o ++ b) (o ++ d) name (gone_slot s)) (sym (from_list o b apart name old at))
    (puts_list o b apart name d (gone_slot (Some old)) (none_of o b apart name old at) puts))

pub returns-in-None-clause-removes : goal.returns-in-None-clause-removes
returns-in-None-clause-removes c =
    let o = c.self.inside.others in
    let b = c.self.inside.base in
    let apart = c.self.invariant in
    let name = c.args.name.now in
    let none = sym c.in-None.ensures.slot in
    let p = c.remove.new.self in
    subst (λ t. PutsSlot t (p ++ b) name (gone_slot (lookup (same_name name) t))) c.self.view_is
    (subst (λ s. PutsSlot (o ++ b) (p ++ b) name (gone_slot s)) (sym (from_table o b apart name none))
    (puts_other o b apart name p (gone_slot (lookup (same_name name) o)) none c.remove.ensures.removes))

pub returns-in-Some-clause-was_table : goal.returns-in-Some-clause-was_table
returns-in-Some-clause-was_table c =
    subst IsTable c.self.view_is (join_table c.self.inside.others c.self.inside.base c.counts-counts.ensures.table c.get.ensures.table c.self.invariant)

pub returns-in-None-clause-was_table : goal.returns-in-None-clause-was_table
returns-in-None-clause-was_table c =
    subst IsTable c.self.view_is (join_table c.self.inside.others c.self.inside.base c.counts-counts.ensures.table c.get.ensures.table c.self.invariant)

pub returns-in-Some-clause-table : goal.returns-in-Some-clause-table
returns-in-Some-clause-table c =
    let o = c.self.inside.others in
    let b = c.self.inside.base in
    let apart = c.self.invariant in
    let name = c.args.name.now in
    let old = slot_of name c.in-Some.field-0 in
    let at = sym c.in-Some.ensures.slot in
    let d = c.mark.new.self in
    join_table o d c.counts-counts.ensures.table c.mark.ensures.table (apart_list o b apart name d (option_and_then (remarked Gone) (lookup (same_name name) b)) (none_of o b apart name old at) c.mark.ensures.marked)

pub returns-in-None-clause-table : goal.returns-in-None-clause-table
returns-in-None-clause-table c =
    let o = c.self.inside.others in
    let b = c.self.inside.base in
    let apart = c.self.invariant in
    let name = c.args.name.now in
    let p = c.remove.new.self in
    join_table p b c.remove.ensures.table c.get.ensures.table (apart_other o b apart name p (gone_slot (lookup (same_name name) o)) (sym c.in-None.ensures.slot) c.remove.ensures.removes)
