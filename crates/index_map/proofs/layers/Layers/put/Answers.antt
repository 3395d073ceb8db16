use Rattle.std.proofs.Common.{ap, sym, subst, ◌∙◌, ◌++◌, ◌≡◌, [], false, not, true, refl}
use Rattle.std.specs.Map.{lookup}
use Rattle.std.specs.Option.{option_eq, option_map}
use Rattle.std.specs.Prelude.{None, Some, option_and_then}
use Rattle.std.proofs.lemmas.Result.{on_ok_weaker}
use Rattle.cache_base.specs.declared.name.Name.{Name}
use Rattle.record_list.specs.Change.{record_eq}
use Rattle.record_list.specs.Lists.{same_name}
use Rattle.index_map.specs.Slots.{AreApart, IsTable, PutsSlot, Slot, record_of, record_slot, remarked, slot_of}
use Rattle.index_map.specs.declared.mark.Mark.TheVariants.{Away, Seen}
use Rattle.index_map.proofs.Joined.{apart_list, apart_none, apart_over, base_named, from_list, from_table, join_table, marked_away, marked_seen, none_of, puts_list, puts_other, puts_over}
use Rattle.index_map.proofs.Steps.{named_fits}
use Rattle.index_map.proofs.layers.Layers.put.Goals as goal

abbrev no_name : Name
no_name = record { 0 = [] }

pub put-requires : goal.put-requires
put-requires c =
    let name = c.args.r.now.name in
    record {
      current = named_fits c.args.r.now c.facts_of.result c.facts_of.ensures c.requires;
      base = base_named name c.in-Some.kept.base;
    }

pub returns-in-None-clause-ok : goal.returns-in-None-clause-ok
returns-in-None-clause-ok c =
    let o = c.self.inside.others in
    let b = c.self.inside.base in
    let apart = c.self.invariant in
    let r = c.args.r.now in
    let name = r.name in
    let none = sym c.in-None.ensures.slot in
    let p = c.put_record.new.table in
    on_ok_weaker c.put_record.result
    (λ puts. subst (λ t. PutsSlot t (p ++ b) name (Some (record_slot r true (lookup (same_name name) t)))) c.self.view_is
    (subst (λ s. PutsSlot (o ++ b) (p ++ b) name (Some (record_slot r true s))) (sym (from_table o b apart name none))
    (puts_other o b apart name p (Some (record_slot r true (lookup (same_name name) o))) none puts)))
    c.put_record.ensures.ok

pub returns-in-None-clause-was_table : goal.returns-in-None-clause-was_table
returns-in-None-clause-was_table c =
    subst IsTable c.self.view_is (join_table c.self.inside.others c.self.inside.base c.counts-counts.ensures.table c.get.ensures.table c.self.invariant)

pub returns-in-None-clause-table : goal.returns-in-None-clause-table
returns-in-None-clause-table c =
    let o = c.self.inside.others in
    let b = c.self.inside.base in
    let apart = c.self.invariant in
    let r = c.args.r.now in
    let name = r.name in
    let none = sym c.in-None.ensures.slot in
    let p = c.put_record.new.table in
    join_table p b c.put_record.ensures.table c.get.ensures.table
    (apart_none o b apart name p (Some (record_slot r true (lookup (same_name name) o))) none c.put_record.result c.put_record.ensures.ok c.put_record.ensures.err)

pub returns-in_err-put-in-Some-clause-was_table : goal.returns-in_err-put-in-Some-clause-was_table
returns-in_err-put-in-Some-clause-was_table c =
    subst IsTable c.self.view_is (join_table c.self.inside.others c.self.inside.base c.counts-counts.ensures.table c.get.ensures.table c.self.invariant)

pub returns-in_err-put-in-Some-clause-table : goal.returns-in_err-put-in-Some-clause-table
returns-in_err-put-in-Some-clause-table c =
    let o = c.self.inside.others in
    let b = c.self.inside.base in
    let apart = c.self.invariant in
    let r = c.args.r.now in
    let name = r.name in
    join_table c.put.new.self b c.put.ensures.table c.get.ensures.table (subst (λ x. AreApart x b) (sym c.in_err-put-in-Some.ensures.err) apart)

pub returns-in_ok-put-in-Some-clause-ok : goal.returns-in_ok-put-in-Some-clause-ok
returns-in_ok-put-in-Some-clause-ok c =
    let o = c.self.inside.others in
    let b = c.self.inside.base in
    let apart = c.self.invariant in
    let r = c.args.r.now in
    let name = r.name in
    let kept = c.in-Some.kept in
    let at = sym c.in-Some.ensures.slot in
    let old = slot_of name kept in
    let p = c.put.new.self in
    let d = c.mark.new.self in
    let new : Slot = record { current = Some r; seen = true; base = old.base } in
    let puts : PutsSlot o p name (Some new) = subst (λ f. PutsSlot o p name (Some (record { current = Some (record_of name f); seen = true; base = old.base }))) c.facts_of.ensures c.in_ok-put-in-Some.ensures.ok in
    let takes : PutsSlot b d name None = subst (λ s. PutsSlot b d name s) (ap (option_and_then (remarked Away)) at ∙ marked_away old) c.mark.ensures.marked in
    subst (λ t. PutsSlot t (p ++ d) name (Some (record_slot r true (lookup (same_name name) t)))) c.self.view_is
    (subst (λ s. PutsSlot (o ++ b) (p ++ d) name (Some (record_slot r true s))) (sym (from_list o b apart name old at))
    (puts_over o b apart name p d new puts takes))

pub returns-in_ok-put-in-Some-clause-was_table : goal.returns-in_ok-put-in-Some-clause-was_table
returns-in_ok-put-in-Some-clause-was_table c =
    subst IsTable c.self.view_is (join_table c.self.inside.others c.self.inside.base c.counts-counts.ensures.table c.get.ensures.table c.self.invariant)

pub returns-in_ok-put-in-Some-clause-table : goal.returns-in_ok-put-in-Some-clause-table
returns-in_ok-put-in-Some-clause-table c =
    let o = c.self.inside.others in
    let b = c.self.inside.base in
    let apart = c.self.invariant in
    let r = c.args.r.now in
    let name = r.name in
    let kept = c.in-Some.kept in
    let at = sym c.in-Some.ensures.slot in
    let old = slot_of name kept in
    let p = c.put.new.self in
    let d = c.mark.new.self in
    let new : Slot = record { current = Some r; seen = true; base = old.base } in
    let puts : PutsSlot o p name (Some new) = subst (λ f. PutsSlot o p name (Some (record { current = Some (record_of name f); seen = true; base = old.base }))) c.facts_of.ensures c.in_ok-put-in-Some.ensures.ok in
    let takes : PutsSlot b d name None = subst (λ s. PutsSlot b d name s) (ap (option_and_then (remarked Away)) at ∙ marked_away old) c.mark.ensures.marked in
    join_table p d c.put.ensures.table c.mark.ensures.table (apart_over o b apart name p d new puts takes)

pub returns-else-differs-clause-ok : goal.returns-else-differs-clause-ok
returns-else-differs-clause-ok c =
    let o = c.self.inside.others in
    let b = c.self.inside.base in
    let apart = c.self.invariant in
    let r = c.args.r.now in
    let name = r.name in
    let kept = c.in-Some.kept in
    let at = sym c.in-Some.ensures.slot in
    let old = slot_of name kept in
    let slot = Some (record_slot r true (lookup (same_name name) (o ++ b))) in
    let same = subst (λ f. not (option_eq record_eq (option_map (record_of no_name) kept.base) (Some (record_of no_name f))) ≡ false) c.facts_of.ensures (sym c.differs.ensures ∙ c.if-differs.false) in
    let is : option_and_then (remarked Seen) (lookup (same_name name) b) ≡ slot =
    ap (option_and_then (remarked Seen)) at ∙ marked_seen name r kept refl same
    ∙ ap (λ s. Some (record_slot r true s)) (sym (from_list o b apart name old at)) in
    let puts = subst (λ s. PutsSlot b c.mark-else-differs.new.self name s) is c.mark-else-differs.ensures.marked in
    subst (λ t. PutsSlot t (o ++ c.mark-else-differs.new.self) name (Some (record_slot r true (lookup (same_name name) t)))) c.self.view_is
    (puts_list o b apart name c.mark-else-differs.new.self slot (none_of o b apart name old at) puts)

pub returns-else-differs-clause-was_table : goal.returns-else-differs-clause-was_table
returns-else-differs-clause-was_table c =
    subst IsTable c.self.view_is (join_table c.self.inside.others c.self.inside.base c.counts-counts.ensures.table c.get.ensures.table c.self.invariant)

pub returns-else-differs-clause-table : goal.returns-else-differs-clause-table
returns-else-differs-clause-table c =
    let o = c.self.inside.others in
    let b = c.self.inside.base in
    let apart = c.self.invariant in
    let r = c.args.r.now in
    let name = r.name in
    let kept = c.in-Some.kept in
    let at = sym c.in-Some.ensures.slot in
    let old = slot_of name kept in
    join_table o c.mark-else-differs.new.self c.counts-counts.ensures.table c.mark-else-differs.ensures.table
    (apart_list o b apart name c.mark-else-differs.new.self (option_and_then (remarked Seen) (lookup (same_name name) b)) (none_of o b apart name old at) c.mark-else-differs.ensures.marked)
