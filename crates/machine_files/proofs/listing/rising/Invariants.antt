use Rattle.std.proofs.Common.{◌≡◌, ◌++◌}
use Rattle.std.specs.BTreeSet.{btree_set_len}
use Rattle.machine_files.proofs.listing.rising.Given as goal

-- the list and what is left make up the set
abbrev pub invariant-loop-item : goal.invariant-loop-item
invariant-loop-item g l = l.list ++ l.items.keys ≡ l.initial.items.keys

abbrev pub decreases-loop-item : goal.decreases-loop-item
decreases-loop-item g l = btree_set_len l.items
