-- What changes that leave the entries alone keep of them: what a crash may leave, and what a scan finds.
use Rattle.std.specs.Prelude.{◌≡◌}
use Rattle.cache_base.specs.declared.name.Name.{Name}
use Rattle.cache_theory.specs.Crash.{IsSafe}
use Rattle.cache_theory.specs.Ever.{IsFiledOnce}
use Rattle.cache_theory.specs.Machine.{Machine}
use Rattle.cache_theory.specs.Marks.{Marks}
use Rattle.cache_theory.specs.Stands.{EntriesStand}
use Rattle.cache_theory.specs.Table.{get}
use Rattle.disk_theory.specs.Image.{Files}
use Rattle.disk_theory.specs.State.{State}
use Rattle.index_theory.specs.Ever.{entries}
use Rattle.index_theory.specs.Leaves.{LeavesEntries}
use Rattle.index_theory.specs.Scan.{scanned}
use Rattle.startup_read.specs.Spares.{SparesEntries}

-- the entries stay safe
abbrev pub LeftIsSafe : Type 0
LeftIsSafe = (s t : State) (w : Marks) → LeavesEntries s t → IsSafe s w → IsSafe t w

-- and no file gets the places of two
abbrev pub LeftIsFiledOnce : Type 0
LeftIsFiledOnce = (s t : State) → LeavesEntries s t → IsFiledOnce s → IsFiledOnce t

-- what is safe stays so with syncs between the changes, as the calls on the files of the index make them
abbrev pub SparedIsSafe : Type 0
SparedIsSafe = (s t : State) (w : Marks) → SparesEntries s t → IsSafe s w → IsSafe t w

-- what is filed once stays so, too
abbrev pub SparedIsFiledOnce : Type 0
SparedIsFiledOnce = (s t : State) → SparesEntries s t → IsFiledOnce s → IsFiledOnce t

-- a scan of the entries as the machine has them is a scan of its shelf
abbrev pub StandsScan : Type 0
StandsScan = (files : Files) (m : Machine) (name : Name) → EntriesStand files m → scanned (entries files) name ≡ scanned (get m.shelf) name
