use Rattle.std.proofs.Common.{◌≡◌, ◌++◌}
use Rattle.disk_model.proofs.MemListing.{picked}
use Rattle.disk_theory.proofs.KindsOfPlaces.{entry_in}
use Rattle.disk_model.proofs.mem_listing.entry_names.Given as goal

abbrev pub invariant-loop-place : goal.invariant-loop-place
invariant-loop-place l = l.names ++ picked entry_in l.place-iterator ≡ picked entry_in l.slots.entries
