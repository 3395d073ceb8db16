use Rattle.std.proofs.Common.{ap, cond, sym, ◌∙◌, None}
use Rattle.std.specs.Map.{lookup}
use Rattle.std.specs.Option.{option_map}
use Rattle.record_list.specs.Lists.{same_name}
use Rattle.index_map.specs.Slots.{slot_of, slots_of}
use Rattle.index_map.proofs.Held.{distinct_slots, lookup_slots, take_slots, takes_slots, there_bare, without_named}
use Rattle.index_map.proofs.Puts.{take_counts, take_table, take_there}
use Rattle.index_map.proofs.table.Table.take.Goals as goal

pub without-self-inside-requires-clause-records : goal.without-self-inside-requires-clause-records
without-self-inside-requires-clause-records c =
    let es = c.self.inside.slots.entries in
    let name = c.args.name.now in
    (there_bare c.self.inside.counts name c.in-Some.old
    (take_there (slots_of es) (slots_of c.swap_remove.new.self.entries) name (slot_of name c.in-Some.old) c.self.inside.counts c.self.invariant.1
    (ap slots_of c.in-Some.ensures.entries ∙ take_slots (same_name name) es)
    (lookup_slots name es ∙ ap (option_map (slot_of name)) (sym c.in-Some.ensures.value)))).records

pub without-self-inside-requires-clause-kilobytes : goal.without-self-inside-requires-clause-kilobytes
without-self-inside-requires-clause-kilobytes c =
    let es = c.self.inside.slots.entries in
    let name = c.args.name.now in
    (there_bare c.self.inside.counts name c.in-Some.old
    (take_there (slots_of es) (slots_of c.swap_remove.new.self.entries) name (slot_of name c.in-Some.old) c.self.inside.counts c.self.invariant.1
    (ap slots_of c.in-Some.ensures.entries ∙ take_slots (same_name name) es)
    (lookup_slots name es ∙ ap (option_map (slot_of name)) (sym c.in-Some.ensures.value)))).kilobytes

pub without-self-inside-requires-clause-changed : goal.without-self-inside-requires-clause-changed
without-self-inside-requires-clause-changed c =
    let es = c.self.inside.slots.entries in
    let name = c.args.name.now in
    (there_bare c.self.inside.counts name c.in-Some.old
    (take_there (slots_of es) (slots_of c.swap_remove.new.self.entries) name (slot_of name c.in-Some.old) c.self.inside.counts c.self.invariant.1
    (ap slots_of c.in-Some.ensures.entries ∙ take_slots (same_name name) es)
    (lookup_slots name es ∙ ap (option_map (slot_of name)) (sym c.in-Some.ensures.value)))).changed

pub invariant_of-self : goal.invariant_of-self
invariant_of-self c =
    let es = c.self.inside.slots.entries in
    let after = c.swap_remove.new.self.entries in
    let name = c.args.name.now in
    let taken = ap slots_of c.in-Some.ensures.entries ∙ take_slots (same_name name) es in (
      take_table (slots_of es) (slots_of after) name taken (distinct_slots after c.in-Some.ensures.unique) c.self.invariant.0,
      take_counts (slots_of es) (slots_of after) name (slot_of name c.in-Some.old) c.self.inside.counts c.self.invariant.1 taken
          (lookup_slots name es ∙ ap (option_map (slot_of name)) (sym c.in-Some.ensures.value)) c.without-self-inside.result
          (without_named c.self.inside.counts name c.in-Some.old c.without-self-inside.result
          (record { records = c.without-self-inside.ensures.records; kilobytes = c.without-self-inside.ensures.kilobytes; changed = c.without-self-inside.ensures.changed })),
    )

pub returns-in-Some-clause-table : goal.returns-in-Some-clause-table
returns-in-Some-clause-table c =
    let es = c.self.inside.slots.entries in
    let after = c.swap_remove.new.self.entries in
    take_table (slots_of es) (slots_of after) c.args.name.now
    (ap slots_of c.in-Some.ensures.entries ∙ take_slots (same_name c.args.name.now) es) (distinct_slots after c.in-Some.ensures.unique) c.self.invariant.0

pub returns-in-Some-clause-taken : goal.returns-in-Some-clause-taken
returns-in-Some-clause-taken c = λ q.
    let name = c.args.name.now in
    takes_slots name c.self.inside.slots.entries c.swap_remove.new.self.entries q (c.in-Some.ensures.updates.0 q)
    ∙ ap (λ t. cond (same_name name q) None (lookup (same_name q) t)) c.self.view_is

pub returns-in_default-clause-taken : goal.returns-in_default-clause-taken
returns-in_default-clause-taken c = λ q.
    let name = c.args.name.now in
    takes_slots name c.self.inside.slots.entries c.swap_remove.new.self.entries q (c.in_default.ensures.updates.0 q)
    ∙ ap (λ t. cond (same_name name q) None (lookup (same_name q) t)) c.self.view_is
