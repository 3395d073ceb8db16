use Rattle.std.proofs.Common.{subst}
use Rattle.index_map.specs.Slots.{IsTable, slots_of}
use Rattle.index_map.proofs.Places.{places_few, places_table}
use Rattle.index_map.proofs.journal.Journal.counts.Goals as goal

pub returns-clause-few : goal.returns-clause-few
returns-clause-few c = places_few c.self.inside.places.items c.self.inside.counts c.self.invariant

pub returns-clause-table : goal.returns-clause-table
returns-clause-table c = subst (λ l. IsTable (slots_of l)) c.self.view_is (places_table c.self.inside.places.items c.self.inside.counts c.self.invariant)
