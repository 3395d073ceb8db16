use Rattle.std.proofs.Common.{ap, sym, subst, ◌∙◌, ◌++◌}
use Rattle.std.specs.Map.{lookup}
use Rattle.std.specs.Prelude.{None, option_and_then}
use Rattle.record_list.specs.Lists.{same_name}
use Rattle.index_map.specs.Slots.{IsTable, PutsSlot, remarked, slot_of}
use Rattle.index_map.specs.declared.mark.Mark.TheVariants.{Away}
use Rattle.index_map.proofs.Joined.{apart_list, apart_other, join_table, marked_away, none_of, puts_list, puts_other}
use Rattle.index_map.proofs.layers.Layers.take.Goals as goal

pub returns-in-Some-clause-taken : goal.returns-in-Some-clause-taken
returns-in-Some-clause-taken c =
    let o = c.self.inside.others in
    let b = c.self.inside.base in
    let apart = c.self.invariant in
    let name = c.args.name.now in
    let old = slot_of name c.in-Some.field-0 in
    let at = sym c.in-Some.ensures.slot in
    let d = c.mark.new.self in
    let puts : PutsSlot b d name None = subst (λ s. PutsSlot b d name s) (ap (option_and_then (remarked Away)) at ∙ marked_away old) c.mark.ensures.marked in
    subst (λ t. PutsSlot t (o ++ d) name None) c.self.view_is (puts_list o b apart name d None (none_of o b apart name old at) puts)

pub returns-in-None-clause-taken : goal.returns-in-None-clause-taken
returns-in-None-clause-taken c =
    let o = c.self.inside.others in
    let b = c.self.inside.base in
    let p = c.take.new.self in
    subst (λ t. PutsSlot t (p ++ b) c.args.name.now None) c.self.view_is
    (puts_other o b c.self.invariant c.args.name.now p None (sym c.in-None.ensures.slot) c.take.ensures.taken)

pub returns-in-Some-clause-was_table : goal.returns-in-Some-clause-was_table
returns-in-Some-clause-was_table c =
    subst IsTable c.self.view_is (join_table c.self.inside.others c.self.inside.base c.counts-counts.ensures.table c.get.ensures.table c.self.invariant)

pub returns-in-None-clause-was_table : goal.returns-in-None-clause-was_table
returns-in-None-clause-was_table c =
    subst IsTable c.self.view_is (join_table c.self.inside.others c.self.inside.base c.counts-counts.ensures.table c.get.ensures.table c.self.invariant)

pub returns-in-Some-clause-table : goal.returns-in-Some-clause-table
returns-in-Some-clause-table c =
    let o = c.self.inside.others in
    let b = c.self.inside.base in
    let apart = c.self.invariant in
    let name = c.args.name.now in
    let old = slot_of name c.in-Some.field-0 in
    let at = sym c.in-Some.ensures.slot in
    let d = c.mark.new.self in
    join_table o d c.counts-counts.ensures.table c.mark.ensures.table (apart_list o b apart name d (option_and_then (remarked Away) (lookup (same_name name) b)) (none_of o b apart name old at) c.mark.ensures.marked)

pub returns-in-None-clause-table : goal.returns-in-None-clause-table
returns-in-None-clause-table c =
    let o = c.self.inside.others in
    let b = c.self.inside.base in
    let p = c.take.new.self in
    join_table p b c.take.ensures.table c.get.ensures.table (apart_other o b c.self.invariant c.args.name.now p None (sym c.in-None.ensures.slot) c.take.ensures.taken)
