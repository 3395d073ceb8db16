-- What the records tell as the files of all entries are read.
use Rattle.std.proofs.Common.{◌≡◌, refl, sym, subst}
use Rattle.memory_index.specs.Records.{TellsOf}
use Rattle.memory_index.specs.declared.memory_index.MemoryIndex.{MemoryIndex}
use Rattle.disk_theory.specs.Listing.{AreEntries}
use Rattle.disk_theory.specs.State.{State}
use Rattle.index_map.specs.Known.{Known, no_records}
use Rattle.index_theory.specs.Ever.{entries_on}
use Rattle.index_update.specs.Rest.{name_bytes}
use Rattle.index_update.specs.Tells.{TellsSeen}
use Rattle.index_update.proofs.TellLaws.{begin_tells}
use Rattle.index_update.proofs.Telling.{told_all}

-- with all entries in the rest, and no records
begun_tells : (s : State) (index : MemoryIndex) → index.map ≡ no_records → AreEntries s index.update → TellsOf (entries_on s) index
begun_tells s index none all =
    subst (λ (k : Known). TellsOf (entries_on s) (record { map = k; update = index.update })) (sym none) (record {
      seen = seen;
      all = λ ended. told_all (entries_on s) index.update no_records ended refl seen;
    })
  where
    seen : TellsSeen (entries_on s) no_records (name_bytes index.update)
    seen = begin_tells s no_records index.update all (λ name. refl)

-- so it does after the reading, which leaves the disk as it was
pub scan_tells : (s t : State) (index new : MemoryIndex) → t ≡ s → index.map ≡ no_records → AreEntries s index.update → (TellsOf (entries_on t) index → TellsOf (entries_on t) new)
    → TellsOf (entries_on s) new
scan_tells s t index new same none all reads =
    subst (λ (u : State). TellsOf (entries_on u) new) same (reads (subst (λ (u : State). TellsOf (entries_on u) index) (sym same) (begun_tells s index none all)))
