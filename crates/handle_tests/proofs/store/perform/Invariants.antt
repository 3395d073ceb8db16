use Rattle.std.specs.Prelude.{IsTrue}
use Rattle.cache_store.specs.Open.{IsOpen}
use Rattle.cache_store.specs.Session.{session}
use Rattle.handle_tests.proofs.store.perform.Given as goal

-- the store is open
abbrev pub invariant-loop : goal.invariant-loop
invariant-loop g l = IsTrue g.D.Disk.tells → IsOpen (session g.D.Disk l.store l.disk)
