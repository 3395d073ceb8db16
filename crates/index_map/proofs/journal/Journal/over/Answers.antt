use Rattle.std.proofs.Common.{ap, sym, subst, length, ◌∙◌, ◌<◌, ◌^◌}
use Rattle.std.proofs.lemmas.List.{length-map}
use Rattle.index_map.specs.Slots.{ArePlaces, new_place, used_in}
use Rattle.index_map.proofs.Places.{none, new_places, new_unused}
use Rattle.index_map.proofs.journal.Journal.over.Goals as goal

pub returns : goal.returns
returns c = ap used_in c.in_ok-places_for.ensures.new.made ∙ new_unused c.in_ok-places_for.ensures.new.records

pub invariant_of-result : goal.invariant_of-result
invariant_of-result c =
    let new = c.in_ok-places_for.ensures.new in
    subst (λ es. ArePlaces es none) (sym new.made) (new_places new.records new.rising (subst (λ k. k < 2 ^ 62) (ap length new.made ∙ length-map new.records new_place) c.in_ok-places_for.ensures.few))
