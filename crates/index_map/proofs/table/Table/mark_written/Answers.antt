use Rattle.std.proofs.Common.{ap, refl, ◌∙◌, rules}
use Rattle.std.specs.Prelude.{map}
use Rattle.index_map.specs.Slots.{bare, counts_of, rewritten, written, written_held, slots_of}
use Rattle.index_map.proofs.Held.{counts_bare, distinct_slots}
use Rattle.index_map.proofs.Puts.{rewritten_table, written_fits}
use Rattle.index_map.proofs.Tables.{retained}
use Rattle.index_map.proofs.table.Table.mark_written.Goals as goal

pub invariant_of-self : goal.invariant_of-self
invariant_of-self c =
    let es = c.self.inside.slots.entries in
    let after = c.retain.new.self.entries in
    let e = retained _ written_held written _ (λ k h. refl) (λ k v b x g t. search rules) es after c.retain.ensures.filtered in (
      rewritten_table written written_fits (slots_of es) (slots_of after) e (distinct_slots after c.retain.ensures.unique) c.self.invariant.0,
      c.count-self-inside.ensures ∙ ap (λ hs. counts_of (map bare hs)) (c.as_slice.ensures ∙ c.values.ensures.rest) ∙ counts_bare after,
    )

pub returns-clause-slots : goal.returns-clause-slots
returns-clause-slots c = retained _ written_held written _ (λ k h. refl) (λ k v b x g t. search rules) c.self.inside.slots.entries c.retain.new.self.entries c.retain.ensures.filtered ∙ ap (rewritten written) c.self.view_is

pub returns-clause-table : goal.returns-clause-table
returns-clause-table c =
    let es = c.self.inside.slots.entries in
    let after = c.retain.new.self.entries in
    let e = retained _ written_held written _ (λ k h. refl) (λ k v b x g t. search rules) es after c.retain.ensures.filtered in
    rewritten_table written written_fits (slots_of es) (slots_of after) e (distinct_slots after c.retain.ensures.unique) c.self.invariant.0
