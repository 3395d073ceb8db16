use Rattle.std.proofs.Common.{subst, sym}
use Rattle.index_map.specs.Slots.{ArePlaces}
use Rattle.index_map.specs.declared.counts.Counts.{Counts}
use Rattle.index_map.proofs.Places.{no_places}
use Rattle.index_map.proofs.journal.Journal.new.Goals as goal

abbrev none : Counts
none = record { records = 0; kilobytes = 0; changed = 0 }

pub invariant_of-result : goal.invariant_of-result
invariant_of-result c = subst (λ es. ArePlaces es none) (sym c.new.ensures.items) no_places
