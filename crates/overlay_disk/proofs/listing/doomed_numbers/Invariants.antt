use Rattle.std.proofs.Common.{◌≡◌, ℕ}
use Rattle.std.specs.BTreeMap.{is_at}
use Rattle.std.specs.BTreeSet.{contains}
use Rattle.std.specs.List.{list_any}
use Rattle.std.specs.Ordering.{nat_cmp}
use Rattle.disk_theory.proofs.KindsOfPlaces.{doomed_in}
use Rattle.overlay_disk.proofs.ListLaws.{after_all}
use Rattle.overlay_disk.proofs.listing.doomed_numbers.Given as goal

-- what is left completes the whole
abbrev pub invariant-loop-place : goal.invariant-loop-place
invariant-loop-place l =
    (q : ℕ) → after_all (is_at (nat_cmp q)) doomed_in (contains nat_cmp l.numbers q) l.place-iterator
    ≡ after_all (is_at (nat_cmp q)) doomed_in (list_any (is_at (nat_cmp q)) l.below) l.slots.entries
