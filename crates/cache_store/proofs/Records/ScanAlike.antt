-- What stands is scanned as the machine's shelf is, so the records tell of both or of neither.
use Rattle.std.proofs.Common.{◌≡◌, sym}
use Rattle.cache_base.specs.declared.name.Name.{Name}
use Rattle.memory_index.specs.Records.{TellsOf}
use Rattle.memory_index.specs.declared.memory_index.MemoryIndex.{MemoryIndex}
use Rattle.memory_index.proofs.TellsAlike.{tells_alike}
use Rattle.cache_theory.specs.Machine.{Machine}
use Rattle.cache_theory.specs.Table.{get}
use Rattle.disk_theory.specs.State.{standing}
use Rattle.file_handles.specs.Cache.{Cache}
use Rattle.file_handles.specs.Stands.{Represents}
use Rattle.index_keeps.proofs.ShelfLaws.{stands_scan}
use Rattle.index_theory.specs.Ever.{entries_on}
use Rattle.index_theory.specs.Scan.{scanned}

module _ (at : Cache) (m : Machine) (index : MemoryIndex) where
  shelf_alike : Represents at m → (name : Name) → scanned (entries_on at.disk) name ≡ scanned (get m.shelf) name
  shelf_alike (number, stands) name = stands_scan (standing at.disk) m name stands.entries

  pub tells_on_disk : Represents at m → TellsOf (get m.shelf) index → TellsOf (entries_on at.disk) index
  tells_on_disk is tells = tells_alike (get m.shelf) (entries_on at.disk) index (shelf_alike is) tells

  pub tells_on_shelf : Represents at m → TellsOf (entries_on at.disk) index → TellsOf (get m.shelf) index
  tells_on_shelf is tells = tells_alike (entries_on at.disk) (get m.shelf) index (λ name. sym (shelf_alike is name)) tells
