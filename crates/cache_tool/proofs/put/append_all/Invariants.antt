use Rattle.std.proofs.Common.{◌≡◌, false, length}
use Rattle.std.specs.Bool.{IsTrue}
use Rattle.cache_base.specs.declared.limits.TheConstants.{PIECE_MAX}
use Rattle.cache_store.specs.Open.{IsOpen}
use Rattle.cache_store.specs.Session.{session}
use Rattle.cache_tool.specs.PutProgress.{AppendsSoFar}
use Rattle.disk_theory.specs.Account.{IsCalm, no_sync}
use Rattle.cache_tool.proofs.put.append_all.Given as goal

-- the body has what the source gave so far, and nothing has failed
abbrev pub invariant-pieces : goal.invariant-pieces
invariant-pieces g l = record {
  so_far : AppendsSoFar (IsTrue g.D.Disk.tells) l.room (g.S.Source.left l.fn.source) (g.S.Source.left l.source) (session g.D.Disk l.fn.store l.fn.disk) (session g.D.Disk l.store l.disk);
  is_open : IsTrue g.D.Disk.tells → IsOpen (session g.D.Disk l.store l.disk);
  long : length l.piece ≡ PIECE_MAX;
  calm : g.S.Source.faults l.source ≡ g.S.Source.faults l.fn.source;
  sound : IsCalm g.D.Disk no_sync l.fn.disk l.disk;
  bare : l.fn.store.faulting ≡ false → l.store.faulting ≡ false;
}

abbrev pub decreases-pieces : goal.decreases-pieces
decreases-pieces g l = l.room
