use Rattle.std.proofs.Common.{◌≡◌, ◌++◌}
use Rattle.disk_model.proofs.MemListing.{picked}
use Rattle.disk_theory.proofs.KindsOfPlaces.{doomed_in}
use Rattle.disk_model.proofs.mem_listing.doomed_numbers.Given as goal

abbrev pub invariant-loop-place : goal.invariant-loop-place
invariant-loop-place l = l.numbers ++ picked doomed_in l.place-iterator ≡ picked doomed_in l.slots.entries
