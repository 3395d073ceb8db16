-- What a status tells of the calls that a run made, and of those that failed.
use Rattle.std.specs.Prelude.{Bool, IsTrue, Option, ◌≡◌, ◌≢◌, ◌⊎◌}
use Rattle.cache_base.specs.Causes.{Rose}
use Rattle.cache_base.specs.declared.status.Status.{Status}
use Rattle.cache_base.specs.declared.status.Status.TheVariants as status
use Rattle.cache_tool.specs.ByVerb.{WentOn}
use Rattle.cache_tool.specs.Statuses.{IsAnswer}
use Rattle.cache_tool.specs.Syncs.{SyncsBy}
use Rattle.cache_tool.specs.Words.{Asked}
use Rattle.cache_tool.specs.World.{World}
use Rattle.disk_theory.specs.Calls.{StopsAtFault}

-- A fault is answered only where its count rose, and for words other than `run` that of the disk before the others:
-- where its count rose there is no other answer, unless memory ran out. In a `run` looks may fail and be answered by
-- the line `fault`, but a change or a sync that fails is answered by the status.
pub record AccountsForRun (tells : Bool) (asked : Option Asked) (ended : Status)
    (before now : World) : Type 0 where
  pub source : ended ≡ status.Source → Rose before.source.faults now.source.faults
  pub sink : ended ≡ status.Sink → Rose before.sink_faults now.sink_faults
  pub disk : ended ≡ status.Disk → Rose before.disk_faults now.disk_faults
  pub went_on : ended ≢ status.Disk → ended ≢ status.Memory
      → WentOn asked (now.disk_faults ≡ before.disk_faults)
      (IsTrue tells → now.disk_counts.failed ≡ before.disk_counts.failed)
  pub calm : IsAnswer ended ⊎ (ended ≡ status.Script)
      → (now.source.faults ≡ before.source.faults) × (now.sink_faults ≡ before.sink_faults)
  -- after a change or a sync that failed no call of the disk follows
  pub stops : IsTrue tells → StopsAtFault before.disk_counts now.disk_counts
  -- and no more syncs are made than an opening, what the words ask for and a closing take
  pub syncs : IsTrue tells → SyncsBy asked before.disk_counts now.disk_counts
