use Rattle.std.proofs.Common.{Ok}
use Rattle.std.specs.BTreeSet.{btree_set_len}
use Rattle.std.specs.Fn.{FnReturnsAt}
use Rattle.machine_files.specs.Taken.{TakesOff}
use Rattle.machine_files.proofs.syncing.sync_each.Given as goal

abbrev pub decreases-loop-first : goal.decreases-loop-first
decreases-loop-first g l = btree_set_len l.pending

abbrev pub invariant-loop-first : goal.invariant-loop-first
invariant-loop-first g l = TakesOff (λ key. FnReturnsAt g.S.Fn l.sync key (Ok tt)) l.initial.pending l.pending
