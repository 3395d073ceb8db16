use Rattle.std.proofs.Common.{ap, sym, subst, ◌∙◌, ◌++◌, ◌≡◌, false, refl}
use Rattle.std.specs.Map.{lookup}
use Rattle.std.specs.Option.{option_map}
use Rattle.std.specs.Prelude.{IsSome, None, Option, Some, option_and_then}
use Rattle.index_record.specs.declared.record.IndexRecord.{IndexRecord}
use Rattle.record_list.specs.Lists.{same_name}
use Rattle.index_map.specs.Slots.{IsTable, PutsSlot, Slot, gone_slot, kept_slot, record_of, slot_of, used_in}
use Rattle.index_map.specs.declared.slot.Held.{Held}
use Rattle.index_map.proofs.Joined.{apart_back, apart_other, base_named, from_table, join_table, puts_back, puts_other}
use Rattle.index_map.proofs.Places.{base_is, kept_gone, none_placed, placed, same_slot, used_table}
use Rattle.index_map.proofs.all_slots.AllSlots.remove.Goals as goal

abbrev gone : Option IndexRecord → Option Slot
gone b = option_map (λ b. record { current = None; seen = false; base = Some b }) b

pub put-requires-clause-fits : goal.put-requires-clause-fits
put-requires-clause-fits c = record { current = tt; base = base_named c.args.name.now c.base_over-base.result }

pub put-requires-clause-place : goal.put-requires-clause-place
put-requires-clause-place c = subst IsSome c.in-Some.ensures.held refl

pub invariant_of-self-in-Some : goal.invariant_of-self-in-Some
invariant_of-self-in-Some c =
    let o = c.self.inside.layers in
    let es = c.self.inside.journal in
    let name = c.args.name.now in
    let h : Held = record { current = None; base = c.base_over-base.result; seen = false } in
    let p = c.take.new.self in
    let now = c.put.new.self in
    let puts = placed es now name h c.get.ensures.table c.put.ensures.table c.put.ensures.puts in
    apart_back o (used_in es) c.self.invariant name p (used_in now) (kept_slot same_slot (slot_of name h)) c.take.ensures.taken puts

pub returns-in-None-clause-removes : goal.returns-in-None-clause-removes
returns-in-None-clause-removes c =
    let o = c.self.inside.layers in
    let b = used_in c.self.inside.journal in
    let name = c.args.name.now in
    let none = none_placed c.self.inside.journal name c.get.ensures.table c.in-None.ensures.held in
    let p = c.remove.new.self in
    subst (λ t. PutsSlot t (p ++ b) name (gone_slot (lookup (same_name name) t))) c.self.view_is
    (subst (λ s. PutsSlot (o ++ b) (p ++ b) name (gone_slot s)) (sym (from_table o b c.self.invariant name none))
    (puts_other o b c.self.invariant name p (gone_slot (lookup (same_name name) o)) none c.remove.ensures.removes))

pub returns-in-None-clause-was_table : goal.returns-in-None-clause-was_table
returns-in-None-clause-was_table c =
    subst IsTable c.self.view_is (join_table c.self.inside.layers (used_in c.self.inside.journal) c.remove.ensures.was_table (used_table c.self.inside.journal c.get.ensures.table) c.self.invariant)

pub returns-in-None-clause-table : goal.returns-in-None-clause-table
returns-in-None-clause-table c =
    let o = c.self.inside.layers in
    let b = used_in c.self.inside.journal in
    let name = c.args.name.now in
    let none = none_placed c.self.inside.journal name c.get.ensures.table c.in-None.ensures.held in
    let p = c.remove.new.self in
    join_table p b c.remove.ensures.table (used_table c.self.inside.journal c.get.ensures.table) (apart_other o b c.self.invariant name p (gone_slot (lookup (same_name name) o)) none c.remove.ensures.removes)

pub returns-in-Some-clause-removes : goal.returns-in-Some-clause-removes
returns-in-Some-clause-removes c =
    let o = c.self.inside.layers in
    let es = c.self.inside.journal in
    let name = c.args.name.now in
    let h : Held = record { current = None; base = c.base_over-base.result; seen = false } in
    let p = c.take.new.self in
    let now = c.put.new.self in
    let puts = placed es now name h c.get.ensures.table c.put.ensures.table c.put.ensures.puts in
    let base = ap (option_map (record_of name)) c.base_over-base.ensures ∙ base_is o es name c.in-Some.placed c.get-in-Some.result c.get.ensures.table c.in-Some.ensures.held c.get-in-Some.ensures.slot
    ∙ ap (λ t. option_and_then (λ (s : Slot). s.base) (lookup (same_name name) t)) c.self.view_is in
    let is : kept_slot same_slot (slot_of name h) ≡ gone_slot (lookup (same_name name) c.args.self.now) =
    kept_gone (option_map (record_of name) c.base_over-base.result) ∙ ap gone base in
    subst (λ t. PutsSlot t (p ++ used_in now) name (gone_slot (lookup (same_name name) c.args.self.now))) c.self.view_is
    (subst (λ s. PutsSlot (o ++ used_in es) (p ++ used_in now) name s) is
    (puts_back o (used_in es) c.self.invariant name p (used_in now) (kept_slot same_slot (slot_of name h)) c.take.ensures.taken puts))

pub returns-in-Some-clause-table : goal.returns-in-Some-clause-table
returns-in-Some-clause-table c =
    let o = c.self.inside.layers in
    let es = c.self.inside.journal in
    let name = c.args.name.now in
    let h : Held = record { current = None; base = c.base_over-base.result; seen = false } in
    let p = c.take.new.self in
    let now = c.put.new.self in
    let puts = placed es now name h c.get.ensures.table c.put.ensures.table c.put.ensures.puts in
    join_table p (used_in now) c.take.ensures.table (used_table now c.put.ensures.table)
    (apart_back o (used_in es) c.self.invariant name p (used_in now) (kept_slot same_slot (slot_of name h)) c.take.ensures.taken puts)

pub returns-in-Some-clause-was_table : goal.returns-in-Some-clause-was_table
returns-in-Some-clause-was_table c =
    subst IsTable c.self.view_is (join_table c.self.inside.layers (used_in c.self.inside.journal) c.take.ensures.was_table (used_table c.self.inside.journal c.get.ensures.table) c.self.invariant)
