-- What commands keep, whatever they answer.
use Rattle.std.specs.Prelude.{Err, IsTrue, Result, ℕ, ◌≢◌}
use Rattle.cache_store.specs.Faults.{ending}
use Rattle.cache_store.specs.Open.{LeavesOpen}
use Rattle.cache_store.specs.Session.{session}
use Rattle.cache_store.specs.declared.fault.StoreFault.{StoreFault}
use Rattle.cache_store.specs.declared.fault.StoreFault.TheVariants as fault
use Rattle.cache_store.specs.declared.store.Store.{Store}
use Rattle.disk_theory.specs.Account.{Accounts}
use Rattle.disk_theory.specs.declared.disk.Disk.{Ghosts}
use Rattle.index_theory.specs.Honest.{LeavesHonest}

-- the store goes on, unless the disk failed or memory ran out; each image of the disk is honest; no fault of a sink is
-- answered; those of the disk are accounted for, and so many syncs were made at the most
pub record KeepsOpen {T : Type 0} {Self : _} (D : Ghosts Self) (most : ℕ)
    (answer : Result T StoreFault) (store : Store) (before now : Self)
    : Type 0 where
  pub stays : IsTrue D.tells → LeavesOpen answer (session D store now)
  pub honest : IsTrue D.tells → LeavesHonest (D.state now)
  pub no_sink : answer ≢ Err fault.Sink
  pub account : Accounts D (ending answer) most before now
