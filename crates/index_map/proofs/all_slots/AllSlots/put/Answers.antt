use Rattle.std.specs.Option.{option_map}
use Rattle.std.proofs.Common.{sym, subst, ◌++◌, ◌≡◌, refl, true, ap, ◌∙◌}
use Rattle.std.specs.Map.{lookup}
use Rattle.std.specs.Prelude.{IsSome, Some, option_and_then}
use Rattle.std.proofs.lemmas.Result.{on_ok_weaker}
use Rattle.record_list.specs.Lists.{same_name}
use Rattle.index_map.specs.Slots.{IsTable, PutsSlot, Slot, kept_slot, record_of, record_slot, slot_of, used_in}
use Rattle.index_map.specs.declared.slot.Held.{Held}
use Rattle.index_map.proofs.Joined.{apart_back, apart_none, base_named, from_table, join_table, puts_back, puts_other}
use Rattle.index_map.proofs.Places.{base_is, none_placed, placed, same_slot, used_table}
use Rattle.index_map.proofs.Steps.{named_fits}
use Rattle.index_map.proofs.all_slots.AllSlots.put.Goals as goal

pub put-requires-in-Some-clause-fits : goal.put-requires-in-Some-clause-fits
put-requires-in-Some-clause-fits c =
    let name = c.args.r.now.name in
    record {
      current = named_fits c.args.r.now c.facts_of.result c.facts_of.ensures c.requires;
      base = base_named name c.base_over-base.result;
    }

pub put-requires-in-Some-clause-place : goal.put-requires-in-Some-clause-place
put-requires-in-Some-clause-place c = subst IsSome c.in-Some.ensures.held refl

pub invariant_of-self : goal.invariant_of-self
invariant_of-self c =
    let o = c.self.inside.layers in
    let b = used_in c.self.inside.journal in
    let r = c.args.r.now in
    let none = none_placed c.self.inside.journal r.name c.get.ensures.table c.in-None.ensures.held in
    apart_none o b c.self.invariant r.name c.put.new.self (Some (record_slot r true (lookup (same_name r.name) o))) none c.put.result c.put.ensures.ok c.put.ensures.err

pub invariant_of-self-in-Some : goal.invariant_of-self-in-Some
invariant_of-self-in-Some c =
    let o = c.self.inside.layers in
    let es = c.self.inside.journal in
    let r = c.args.r.now in
    let name = r.name in
    let h : Held = record { current = Some c.facts_of.result; base = c.base_over-base.result; seen = true } in
    let p = c.take.new.self in
    let now = c.put-in-Some.new.self in
    let puts = placed es now name h c.get.ensures.table c.put-in-Some.ensures.table c.put-in-Some.ensures.puts in
    apart_back o (used_in es) c.self.invariant name p (used_in now) (kept_slot same_slot (slot_of name h)) c.take.ensures.taken puts

pub returns-in-None-clause-ok : goal.returns-in-None-clause-ok
returns-in-None-clause-ok c =
    let o = c.self.inside.layers in
    let b = used_in c.self.inside.journal in
    let apart = c.self.invariant in
    let r = c.args.r.now in
    let name = r.name in
    let none = none_placed c.self.inside.journal name c.get.ensures.table c.in-None.ensures.held in
    let p = c.put.new.self in
    on_ok_weaker c.put.result
    (λ puts. subst (λ t. PutsSlot t (p ++ b) name (Some (record_slot r true (lookup (same_name name) t)))) c.self.view_is
    (subst (λ s. PutsSlot (o ++ b) (p ++ b) name (Some (record_slot r true s))) (sym (from_table o b apart name none))
    (puts_other o b apart name p (Some (record_slot r true (lookup (same_name name) o))) none puts)))
    c.put.ensures.ok

pub returns-in-None-clause-was_table : goal.returns-in-None-clause-was_table
returns-in-None-clause-was_table c =
    subst IsTable c.self.view_is (join_table c.self.inside.layers (used_in c.self.inside.journal) c.put.ensures.was_table (used_table c.self.inside.journal c.get.ensures.table) c.self.invariant)

pub returns-in-None-clause-table : goal.returns-in-None-clause-table
returns-in-None-clause-table c =
    let o = c.self.inside.layers in
    let b = used_in c.self.inside.journal in
    let r = c.args.r.now in
    let none = none_placed c.self.inside.journal r.name c.get.ensures.table c.in-None.ensures.held in
    let p = c.put.new.self in
    join_table p b c.put.ensures.table (used_table c.self.inside.journal c.get.ensures.table)
    (apart_none o b c.self.invariant r.name p (Some (record_slot r true (lookup (same_name r.name) o))) none c.put.result c.put.ensures.ok c.put.ensures.err)

pub returns-in-Some-clause-ok : goal.returns-in-Some-clause-ok
returns-in-Some-clause-ok c =
    let o = c.self.inside.layers in
    let es = c.self.inside.journal in
    let r = c.args.r.now in
    let name = r.name in
    let h : Held = record { current = Some c.facts_of.result; base = c.base_over-base.result; seen = true } in
    let p = c.take.new.self in
    let now = c.put-in-Some.new.self in
    let puts = placed es now name h c.get.ensures.table c.put-in-Some.ensures.table c.put-in-Some.ensures.puts in
    let base = ap (option_map (record_of name)) c.base_over-base.ensures ∙ base_is o es name c.in-Some.placed c.get-in-Some.result c.get.ensures.table c.in-Some.ensures.held c.get-in-Some.ensures.slot
    ∙ ap (λ t. option_and_then (λ (s : Slot). s.base) (lookup (same_name name) t)) c.self.view_is in
    let is : kept_slot same_slot (slot_of name h) ≡ Some (record_slot r true (lookup (same_name name) c.args.self.now)) =
    λ i. Some (record { current = Some (record_of name (c.facts_of.ensures i)); seen = true; base = base i }) in
    subst (λ t. PutsSlot t (p ++ used_in now) name (Some (record_slot r true (lookup (same_name name) c.args.self.now)))) c.self.view_is
    (subst (λ s. PutsSlot (o ++ used_in es) (p ++ used_in now) name s) is
    (puts_back o (used_in es) c.self.invariant name p (used_in now) (kept_slot same_slot (slot_of name h)) c.take.ensures.taken puts))

pub returns-in-Some-clause-table : goal.returns-in-Some-clause-table
returns-in-Some-clause-table c =
    let o = c.self.inside.layers in
    let es = c.self.inside.journal in
    let r = c.args.r.now in
    let name = r.name in
    let h : Held = record { current = Some c.facts_of.result; base = c.base_over-base.result; seen = true } in
    let p = c.take.new.self in
    let now = c.put-in-Some.new.self in
    let puts = placed es now name h c.get.ensures.table c.put-in-Some.ensures.table c.put-in-Some.ensures.puts in
    join_table p (used_in now) c.take.ensures.table (used_table now c.put-in-Some.ensures.table)
    (apart_back o (used_in es) c.self.invariant name p (used_in now) (kept_slot same_slot (slot_of name h)) c.take.ensures.taken puts)

pub returns-in-Some-clause-was_table : goal.returns-in-Some-clause-was_table
returns-in-Some-clause-was_table c =
    subst IsTable c.self.view_is (join_table c.self.inside.layers (used_in c.self.inside.journal) c.take.ensures.was_table (used_table c.self.inside.journal c.get.ensures.table) c.self.invariant)
