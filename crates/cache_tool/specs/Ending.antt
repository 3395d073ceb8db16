-- How a session ends.
use Rattle.std.specs.Prelude.{List, [], ◌≡◌, ◌≢◌}
use Rattle.cache_base.specs.declared.status.Status.{Status}
use Rattle.cache_store.specs.InUse.{HasShortJournal, HoldsBase, StaysInUse}
use Rattle.cache_store.specs.Open.{IsHonest, IsShut, KeepsTo, Tells}
use Rattle.cache_store.specs.Session.{Session}
use Rattle.cache_theory.specs.Crash.{IsSafe}
use Rattle.cache_theory.specs.History.{History}
use Rattle.cache_tool.specs.Dated.{MayBeWritten}
use Rattle.cache_tool.specs.MarkLeft.{KeepsMark}
use Rattle.cache_tool.specs.Statuses.{IsClosing}
use Rattle.cache_tool.specs.Staying.{EndsInUse, IsLeftUntrusted}
use Rattle.disk_theory.specs.State.{State, standing}
use Rattle.index_record.specs.declared.record.IndexRecord.{IndexRecord}
use Rattle.index_theory.specs.Leaves.{LeavesIndex}
use Rattle.index_theory.specs.Honest.{LeavesHonest}
use Rattle.index_theory.specs.Scan.{scan}

-- a crash loses no more than the marks allow, and where the store was closed the disk has what the machine has
pub record IsEnded (ended : Status) (h : History) (before : Session) (now : State) : Type 0 where
  pub safe : IsSafe now h.marks
  pub shut : IsClosing ended → IsShut now h.machine
  -- where the records were right each image is honest, and so is the directory where the store was closed
  pub images : Tells before h.machine → LeavesHonest now
  pub honest : IsClosing ended → Tells before h.machine → IsHonest now h.machine
  -- once the update has ended the journal is short, and an index from which few records differ is left in use
  pub journal : IsClosing ended → h.machine.rest ≡ [] → HasShortJournal (standing now)
  pub in_use : (records : List IndexRecord) → IsClosing ended → Tells before h.machine
      → HoldsBase records before.open_store.index.map → EndsInUse records h.machine
      → StaysInUse records (scan h.machine.shelf) before.disk now
  -- before the update has ended the files of the index are left alone, and none is trusted
  pub unended : IsClosing ended → h.machine.rest ≢ [] → LeavesIndex before.disk now
  pub untrusted : IsClosing ended → h.machine.rest ≢ [] → IsLeftUntrusted now
  -- and an index that was written has the moment of the machine
  pub dated : IsClosing ended
      → MayBeWritten (h.machine.rest ≡ []) h.machine.moment before.disk now

-- whatever history the disk kept to
pub record EndsSession (ended : Status) (before : Session) (now : State) : Type 0 where
  pub each : (h : History) → KeepsTo before h → IsEnded ended h before now
  pub mark : KeepsMark before.disk now
