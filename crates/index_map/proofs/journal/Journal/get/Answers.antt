use Rattle.std.proofs.Common.{ap, subst, sym, ◌∙◌, get_or}
use Rattle.std.specs.List.{IsDistinct}
use Rattle.std.specs.Map.{keys_of, lookup}
use Rattle.record_list.specs.Lists.{same_name}
use Rattle.index_map.specs.Slots.{IsTable, slots_of}
use Rattle.index_map.proofs.Marked.{get_or_any}
use Rattle.index_map.proofs.Places.{held_there, no_entry, no_place, places_distinct, places_table}
use Rattle.index_map.proofs.journal.Journal.get.Goals as goal

pub returns-in-Some-clause-held : goal.returns-in-Some-clause-held
returns-in-Some-clause-held c =
    let l = c.as_slice-places.result.now in
    let is = c.as_slice-places.ensures.value in
    let i = c.in-Some.i in
    let x = get_or l i no_entry in
    held_there l i x c.args.name.now (subst (λ k. IsDistinct same_name (keys_of k)) (sym is) (places_distinct c.self.inside.places.items c.self.inside.counts c.self.invariant)) c.in-Some.ensures.within
    (get_or_any l i no_entry x c.in-Some.ensures.within) (c.in-Some.ensures.found x)
    ∙ ap (lookup (same_name c.args.name.now)) (is ∙ c.self.view_is)

pub returns-in-Some-clause-table : goal.returns-in-Some-clause-table
returns-in-Some-clause-table c = subst (λ l. IsTable (slots_of l)) c.self.view_is (places_table c.self.inside.places.items c.self.inside.counts c.self.invariant)

pub returns-in-None-clause-held : goal.returns-in-None-clause-held
returns-in-None-clause-held c =
    no_place c.as_slice-places.result.now c.args.name.now c.in-None.ensures.none ∙ ap (lookup (same_name c.args.name.now)) (c.as_slice-places.ensures.value ∙ c.self.view_is)

pub returns-in-None-clause-table : goal.returns-in-None-clause-table
returns-in-None-clause-table c = subst (λ l. IsTable (slots_of l)) c.self.view_is (places_table c.self.inside.places.items c.self.inside.counts c.self.invariant)
