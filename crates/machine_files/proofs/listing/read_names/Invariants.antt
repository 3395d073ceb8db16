use Rattle.std.specs.List.{All}
use Rattle.machine_files.specs.Listed.{IsReadFrom}
use Rattle.machine_files.proofs.listing.read_names.Given as goal

-- each that was found is one that a name reads as
abbrev pub invariant-names : goal.invariant-names
invariant-names g l = (goal.iterator-names g).can_next l.name-iterator × (goal.iterator-names g).is_finite l.name-iterator × All (IsReadFrom g.P.Fn l.read) l.found.files.keys × All (IsReadFrom g.P.Fn l.read) l.found.folders.keys
