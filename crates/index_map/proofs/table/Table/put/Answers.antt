use Rattle.std.proofs.Common.{ap, cond, sym, ◌∙◌, arith, Some}
use Rattle.std.specs.Map.{lookup, values_of}
use Rattle.std.specs.Option.{option_map}
use Rattle.std.specs.Prelude.{unwrap_or}
use Rattle.std.proofs.lemmas.Map.Entries.{length-values_of}
use Rattle.record_list.specs.Lists.{same_name}
use Rattle.index_map.specs.Slots.{slot_of, slots_of}
use Rattle.index_map.proofs.Held.{distinct_slots, insert_slots, length_slots, lookup_or_slots, lookup_slots, none_held, on_err, puts_slots, there_bare, with_named, without_named}
use Rattle.index_map.proofs.Puts.{put_counts, put_table, put_there}
use Rattle.index_map.proofs.Sums.{small}
use Rattle.index_map.proofs.table.Table.put.Goals as goal

pub with-counts-requires-clause-records : goal.with-counts-requires-clause-records
with-counts-requires-clause-records c =
    let es = c.self.inside.slots.entries in
    (small c.self.inside.counts (values_of (slots_of es)) c.self.invariant.1
    (omega (arith, c.len-len.ensures.len, c.len-len.ensures.small, length-values_of (slots_of es), length_slots es))).records

pub with-counts-requires-clause-kilobytes : goal.with-counts-requires-clause-kilobytes
with-counts-requires-clause-kilobytes c =
    let es = c.self.inside.slots.entries in
    (small c.self.inside.counts (values_of (slots_of es)) c.self.invariant.1
    (omega (arith, c.len-len.ensures.len, c.len-len.ensures.small, length-values_of (slots_of es), length_slots es))).kilobytes

pub with-counts-requires-clause-changed : goal.with-counts-requires-clause-changed
with-counts-requires-clause-changed c =
    let es = c.self.inside.slots.entries in
    (small c.self.inside.counts (values_of (slots_of es)) c.self.invariant.1
    (omega (arith, c.len-len.ensures.len, c.len-len.ensures.small, length-values_of (slots_of es), length_slots es))).changed

pub without-self-inside-requires-clause-records : goal.without-self-inside-requires-clause-records
without-self-inside-requires-clause-records c =
    let es = c.self.inside.slots.entries in
    let name = c.args.name in
    let slot = c.args.slot in
    let old = c.unwrap_or-old.result in
    (there_bare c.with-counts.result name old
    (put_there (slots_of es) (slots_of c.insert.new.self.entries) name (slot_of name old) (slot_of name slot) c.self.inside.counts c.with-counts.result c.self.invariant.1
    (ap slots_of c.in_ok-insert.ensures.entries ∙ insert_slots name slot es)
    (ap (slot_of name) (c.unwrap_or-old.ensures ∙ ap (λ o. unwrap_or o none_held) c.in_ok-insert.ensures.old) ∙ lookup_or_slots name es)
    (with_named c.self.inside.counts name slot c.with-counts.result
    (record { records = c.with-counts.ensures.records; kilobytes = c.with-counts.ensures.kilobytes; changed = c.with-counts.ensures.changed })))).records

pub without-self-inside-requires-clause-kilobytes : goal.without-self-inside-requires-clause-kilobytes
without-self-inside-requires-clause-kilobytes c =
    let es = c.self.inside.slots.entries in
    let name = c.args.name in
    let slot = c.args.slot in
    let old = c.unwrap_or-old.result in
    (there_bare c.with-counts.result name old
    (put_there (slots_of es) (slots_of c.insert.new.self.entries) name (slot_of name old) (slot_of name slot) c.self.inside.counts c.with-counts.result c.self.invariant.1
    (ap slots_of c.in_ok-insert.ensures.entries ∙ insert_slots name slot es)
    (ap (slot_of name) (c.unwrap_or-old.ensures ∙ ap (λ o. unwrap_or o none_held) c.in_ok-insert.ensures.old) ∙ lookup_or_slots name es)
    (with_named c.self.inside.counts name slot c.with-counts.result
    (record { records = c.with-counts.ensures.records; kilobytes = c.with-counts.ensures.kilobytes; changed = c.with-counts.ensures.changed })))).kilobytes

pub without-self-inside-requires-clause-changed : goal.without-self-inside-requires-clause-changed
without-self-inside-requires-clause-changed c =
    let es = c.self.inside.slots.entries in
    let name = c.args.name in
    let slot = c.args.slot in
    let old = c.unwrap_or-old.result in
    (there_bare c.with-counts.result name old
    (put_there (slots_of es) (slots_of c.insert.new.self.entries) name (slot_of name old) (slot_of name slot) c.self.inside.counts c.with-counts.result c.self.invariant.1
    (ap slots_of c.in_ok-insert.ensures.entries ∙ insert_slots name slot es)
    (ap (slot_of name) (c.unwrap_or-old.ensures ∙ ap (λ o. unwrap_or o none_held) c.in_ok-insert.ensures.old) ∙ lookup_or_slots name es)
    (with_named c.self.inside.counts name slot c.with-counts.result
    (record { records = c.with-counts.ensures.records; kilobytes = c.with-counts.ensures.kilobytes; changed = c.with-counts.ensures.changed })))).changed

pub invariant_of-self-2 : goal.invariant_of-self-2
invariant_of-self-2 c =
    let es = c.self.inside.slots.entries in
    let after = c.insert.new.self.entries in
    let name = c.args.name in
    let slot = c.args.slot in
    let old = c.unwrap_or-old.result in
    let put = ap slots_of c.in_ok-insert.ensures.entries ∙ insert_slots name slot es in (
      put_table (slots_of es) (slots_of after) name (slot_of name slot) put (distinct_slots after c.in_ok-insert.ensures.unique) c.self.invariant.0 c.requires,
      put_counts (slots_of es) (slots_of after) name (slot_of name old) (slot_of name slot) c.self.inside.counts c.with-counts.result c.self.invariant.1 put
          (ap (slot_of name) (c.unwrap_or-old.ensures ∙ ap (λ o. unwrap_or o none_held) c.in_ok-insert.ensures.old) ∙ lookup_or_slots name es)
          (with_named c.self.inside.counts name slot c.with-counts.result
          (record { records = c.with-counts.ensures.records; kilobytes = c.with-counts.ensures.kilobytes; changed = c.with-counts.ensures.changed }))
          c.without-self-inside.result
          (without_named c.with-counts.result name old c.without-self-inside.result
          (record { records = c.without-self-inside.ensures.records; kilobytes = c.without-self-inside.ensures.kilobytes; changed = c.without-self-inside.ensures.changed })),
    )

pub returns-clause-ok : goal.returns-clause-ok
returns-clause-ok c = λ q.
    let es = c.self.inside.slots.entries in
    let name = c.args.name in
    puts_slots name c.args.slot es c.insert.new.self.entries q (c.in_ok-insert.ensures.updates.0 q)
    ∙ ap (λ t. cond (same_name name q) (Some (slot_of name c.args.slot)) (lookup (same_name q) t)) c.self.view_is

pub returns-clause-table : goal.returns-clause-table
returns-clause-table c =
    let es = c.self.inside.slots.entries in
    let after = c.insert.new.self.entries in
    put_table (slots_of es) (slots_of after) c.args.name (slot_of c.args.name c.args.slot)
    (ap slots_of c.in_ok-insert.ensures.entries ∙ insert_slots c.args.name c.args.slot es) (distinct_slots after c.in_ok-insert.ensures.unique) c.self.invariant.0 c.requires

pub returns-in_err-insert-clause-absent : goal.returns-in_err-insert-clause-absent
returns-in_err-insert-clause-absent c =
    let name = c.args.name in
    on_err c.from_residual.result
    (ap (lookup (same_name name)) (sym c.self.view_is) ∙ lookup_slots name c.self.inside.slots.entries ∙ ap (option_map (slot_of name)) c.in_err-insert.ensures.absent)
