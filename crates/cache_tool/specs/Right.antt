-- Where the records in memory are right, and what is said where they are.
use Rattle.std.specs.List.{list_any}
use Rattle.std.specs.Prelude.{Bool, IsTrue, List, false, true, ◌⊎◌}
use Rattle.cache_store.specs.InUse.{HoldsBase, IsSameIndex}
use Rattle.cache_store.specs.Open.{KeepsTo, Tells}
use Rattle.cache_store.specs.Session.{Session}
use Rattle.cache_theory.specs.Command.{Command}
use Rattle.cache_theory.specs.Command.Command.{Rebuild}
use Rattle.cache_theory.specs.History.{History}
use Rattle.cache_theory.specs.Machine.{Machine}
use Rattle.cache_tool.specs.Dated.{AreDatedBy}
use Rattle.cache_tool.specs.Staying.{AreSpared, IsInUse, StaysOverAll}
use Rattle.disk_theory.specs.State.{State, standing}
use Rattle.index_record.specs.declared.record.IndexRecord.{IndexRecord}
use Rattle.index_theory.specs.Honest.{Honest}

-- a command reads all entries anew
abbrev pub is_rebuild : Command → Bool
is_rebuild Rebuild = true
is_rebuild _ = false

-- one of the commands does
abbrev pub has_rebuild : List Command → Bool
has_rebuild cs = list_any is_rebuild cs

-- Of commands after an opening.

-- the records are right after them: the directory was honest, or all entries were read anew
abbrev pub ComesRight : State → List Command → Type 0
ComesRight s cs = Honest (standing s) ⊎ IsTrue (has_rebuild cs)

-- Of commands in a session that stood for this machine before them.

-- the records are right after them: they were so before, or all entries were read anew
abbrev pub AreRight : List Command → Session → Machine → Type 0
AreRight cs before m = Tells before m ⊎ IsTrue (has_rebuild cs)

-- they lead to this history, to which the store and the disk keep
pub record LeadTo (cs : List Command) (before : Session) (m : Machine) (now : Session) (h : History)
    : Type 0 where
  pub keeps : KeepsTo now h
  pub tells : AreRight cs before m → Tells now h.machine
  -- where the records were right, the index stays in use as long as few of them differ from it
  pub in_use : (records : List IndexRecord) → Tells before m
      → HoldsBase records before.open_store.index.map
      → StaysOverAll records m cs → IsInUse records before now
  -- and before the update has ended it is unchanged, whatever the records are
  pub unended : AreSpared m cs → IsSameIndex before.disk now.disk
  -- and an index that was written has the moment of the machine then
  pub dated : AreDatedBy m cs before.disk now.disk
