use Rattle.std.proofs.Common.{Ok, true}
use Rattle.std.specs.Prelude.{IsTrue}
use Rattle.std.specs.BTreeSet.{btree_set_len}
use Rattle.std.specs.Fn.{FnReturnsAt}
use Rattle.machine_files.specs.Taken.{TakesOff, Succeeds}
use Rattle.machine_files.proofs.syncing.sync_permitted.Given as goal

abbrev pub decreases-loop-first : goal.decreases-loop-first
decreases-loop-first g l = btree_set_len l.left

-- those taken off were synced or passed over, and all of them were synced where the flag says so
abbrev pub invariant-loop-first : goal.invariant-loop-first
invariant-loop-first g l = TakesOff (λ key. Succeeds g.S.Fn l.sync key) l.initial.left l.left × (IsTrue l.is_whole → TakesOff (λ key. FnReturnsAt g.S.Fn l.sync key (Ok true)) l.initial.left l.left)
