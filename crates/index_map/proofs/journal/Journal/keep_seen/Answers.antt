use Rattle.std.proofs.Common.{ap, ◌∙◌}
use Rattle.std.specs.Map.{values_of}
use Rattle.std.specs.Prelude.{map}
use Rattle.index_map.specs.Slots.{bare, counts_of}
use Rattle.index_map.proofs.Places.{places_seen}
use Rattle.index_map.proofs.journal.Journal.keep_seen.Goals as goal

pub invariant_of-self : goal.invariant_of-self
invariant_of-self c =
    places_seen c.self.inside.places.items c.keep_seen_in.new.places.items c.self.inside.counts c.count_places-self-inside.result c.self.invariant c.keep_seen_in.ensures
    (c.count_places-self-inside.ensures ∙ ap (λ es. counts_of (map bare (values_of es))) c.as_slice.ensures.value)
