-- Where the records in memory were right, those once the update has ended are the scan.
use Rattle.std.proofs.Common.{ℕ, List, [], refl}
use Rattle.cache_store.specs.Performing.{GoesBy}
use Rattle.cache_store.proofs.Records.IndexAchieves.{goes_on_telling, session_at}
use Rattle.cache_theory.specs.Machine.{Machine}
use Rattle.cache_theory.specs.Table.{get}
use Rattle.disk_theory.specs.State.{State}
use Rattle.file_handles.specs.Cache.{cache_at}
use Rattle.handle_table.specs.Kept.{Kept}
use Rattle.file_handles.specs.Stands.{Represents as CacheRepresents}
use Rattle.index_record.specs.declared.record.IndexRecord.{IndexRecord}
use Rattle.index_theory.specs.Ever.{entries_on}
use Rattle.index_theory.specs.Scan.{scan}
use Rattle.index_theory.proofs.ScanLaws.{scan_is_one, table_is_scanned}
use Rattle.memory_index.specs.Records.{AreAtEnd, TellsOf}
use Rattle.memory_index.specs.declared.memory_index.MemoryIndex.{MemoryIndex}
use Rattle.memory_index.proofs.RecordsAtEnd.{ends_told}

pub goes_by : (k : Kept) (now : ℕ) (s : State) (index : MemoryIndex) (m : Machine) → CacheRepresents (cache_at k s) m → (records : List IndexRecord)
    → AreAtEnd (entries_on s) index records → GoesBy (session_at k now index s) m records
goes_by k now s index m stand records at_end = record {
  in_memory = at_end;
  right = λ told.
      let on = goes_on_telling k s m index ended stand ends told.tells in
      scan_is_one (get m.shelf) records (scan m.shelf) (record { rising = at_end.rising; same = on.all refl }) (table_is_scanned m.shelf stand.1.proper.shelf.rising);
}
  where
    ended : MemoryIndex
    ended = record { map = record { records = records; seen = records; base = index.map.base; has_base = index.map.has_base }; update = [] }

    ends : TellsOf (entries_on s) index → TellsOf (entries_on s) ended
    ends told = record {
      seen = λ q out. ends_told (entries_on s) index records at_end.same told q;
      all = λ over q. ends_told (entries_on s) index records at_end.same told q;
    }
