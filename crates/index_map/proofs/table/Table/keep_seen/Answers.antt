use Rattle.std.proofs.Common.{ap, ◌∙◌, rules}
use Rattle.std.specs.Prelude.{map}
use Rattle.index_map.specs.Slots.{bare, counts_of, rewritten, seen_held, seen_only, slots_of}
use Rattle.index_map.proofs.Held.{counts_bare, distinct_slots, seen_same}
use Rattle.index_map.proofs.Puts.{rewritten_table, seen_only_fits}
use Rattle.index_map.proofs.Tables.{retained}
use Rattle.index_map.proofs.table.Table.keep_seen.Goals as goal

pub invariant_of-self : goal.invariant_of-self
invariant_of-self c =
    let es = c.self.inside.slots.entries in
    let after = c.retain.new.self.entries in
    let e = retained _ seen_held seen_only _ seen_same (λ k v b x g t. search rules) es after c.retain.ensures.filtered in (
      rewritten_table seen_only seen_only_fits (slots_of es) (slots_of after) e (distinct_slots after c.retain.ensures.unique) c.self.invariant.0,
      c.count-self-inside.ensures ∙ ap (λ hs. counts_of (map bare hs)) (c.as_slice.ensures ∙ c.values.ensures.rest) ∙ counts_bare after,
    )

pub returns-clause-slots : goal.returns-clause-slots
returns-clause-slots c = retained _ seen_held seen_only _ seen_same (λ k v b x g t. search rules) c.self.inside.slots.entries c.retain.new.self.entries c.retain.ensures.filtered ∙ ap (rewritten seen_only) c.self.view_is

pub returns-clause-table : goal.returns-clause-table
returns-clause-table c =
    let es = c.self.inside.slots.entries in
    let after = c.retain.new.self.entries in
    let e = retained _ seen_held seen_only _ seen_same (λ k v b x g t. search rules) es after c.retain.ensures.filtered in
    rewritten_table seen_only seen_only_fits (slots_of es) (slots_of after) e (distinct_slots after c.retain.ensures.unique) c.self.invariant.0
