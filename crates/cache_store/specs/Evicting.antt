-- How entries are evicted by the records in memory.
use Rattle.std.specs.List.{AllByRecursion, IsDistinct}
use Rattle.std.specs.Prelude.{Bool, IsSome, IsTrue, List, Result, false, filter, is_some, true, ℕ, ⊤, ◌≡◌, ◌⊎◌}
use Rattle.cache_base.specs.Names.{has_name}
use Rattle.cache_base.specs.declared.name.Name.{Name}
use Rattle.cache_store.specs.Open.{Represents}
use Rattle.memory_index.specs.Records.{AreAtEnd}
use Rattle.cache_store.specs.Session.{Session}
use Rattle.cache_theory.specs.Command.{Command}
use Rattle.cache_theory.specs.Command.Command.{Evict}
use Rattle.cache_theory.specs.History.{History}
use Rattle.cache_theory.specs.Machine.{Machine, open_names}
use Rattle.cache_theory.specs.Marks.{is_touched}
use Rattle.cache_theory.specs.Step.{all_doomed}
use Rattle.disk_theory.specs.Account.{Ending}
use Rattle.disk_theory.specs.State.{State, standing}
use Rattle.disk_theory.specs.declared.disk.Disk.{Ghosts}
use Rattle.disk_theory.specs.declared.disk.DiskFault.{DiskFault}
use Rattle.disk_theory.specs.declared.place.Place.TheVariants.{Entry}
use Rattle.evictor.specs.Evict.{victims}
use Rattle.file_handles.specs.Cache.{Cache}
use Rattle.handle_table.specs.Kept.{Kept}
use Rattle.file_handles.specs.Removing.{LastChangeFails}
use Rattle.file_handles.specs.Stands.{KeepsWhere, ReachesHistory, RepresentsSome}
use Rattle.handle_table.specs.Users.{AreOpenNames, users_of}
use Rattle.index_map.specs.Known.{IsKnown, Known}
use Rattle.index_record.specs.declared.record.IndexRecord.{IndexRecord}
use Rattle.index_theory.specs.Ever.{entries_on}
use Rattle.record_list.specs.Lists.{same_name}
use Rattle.memory_index.specs.Forgetting.{AreOthers}

-- these names have to go by the records of the map, so that all take at most so many KB; no name in use is among them
pub record AreVictims (map : Known) (k : Kept) (kb : ℕ) (names : List Name) : Type 0 where
  pub in_use : List Name
  pub known : IsKnown map
  pub opened : AreOpenNames k in_use
  pub unused : (name : Name) → has_name in_use name ≡ false → users_of k name ≡ 0
  pub chosen : names ≡ victims map.records in_use kb

-- a file stands under the name
abbrev pub has_file : State → Name → Bool
has_file s name = is_some (standing s (Entry name))

-- some of the names, in their order
abbrev pub ArePicked : List Name → List Name → Type 0
ArePicked names some = (test : Name → Bool) × (some ≡ filter test names)

-- no name stands twice, and no slot uses any
pub record AreUnused (k : Kept) (names : List Name) : Type 0 where
  pub distinct : IsDistinct same_name names
  pub unused : AllByRecursion (λ name. users_of k name ≡ 0) names

-- the handles and the disk stand for some machine, and under each name stands a file
pub record HoldsFiles (now : Cache) (names : List Name) : Type 0 where
  pub stands : RepresentsSome now
  pub files : AllByRecursion (λ name. IsSome (standing now.disk (Entry name))) names

-- what stands under these names is doomed, whatever the history in whose marks they are touched
pub record DoomsAll (names : List Name) (answer : Result (Unit {0}) DiskFault)
    (before after : Cache)
    : Type 0 where
  pub leaves : (crash : Bool) (h : History)
      → AllByRecursion (λ name. is_touched h.marks name.0 ≡ true) names → KeepsWhere crash before h
      → ReachesHistory crash (record h { machine = all_doomed h.machine names }) answer after

-- the records in memory after an eviction: those once the update has ended, without the records of all that had to go,
-- whether a file stood there or not
abbrev pub LeavesOthers : Session → ℕ → Known → Type 0
LeavesOthers before kb map =
    (m : Machine) → Represents before m
    → (records : List IndexRecord) × (AreAtEnd (entries_on before.disk) before.open_store.index records
    × AreOthers records (victims records (open_names m) kb) map.records)

-- the command evicts by the records
abbrev pub IsEviction : Command → Type 0
IsEviction (Evict kb) = ⊤
IsEviction _ = ⊥

-- every look at the disk, the list of its files too, stands before the first change: where the disk failed, it holds
-- the same as before, or its last call was a change that failed. Memory may run out later, in a removal or with the
-- reply
abbrev pub LooksBeforeChanges : {Self : _} → Ghosts Self → Ending → Self → Self → Type 0
LooksBeforeChanges D answer before now =
    answer ≡ Ending.OneFailed → IsTrue D.tells
    → (D.state now ≡ D.state before) ⊎ LastChangeFails (D.counts now)
