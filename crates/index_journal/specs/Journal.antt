-- The file `index.log`: records of changes, and the hash of the records' bytes.
use Rattle.std.specs.Prelude.{List, ℕ, ◌≡◌}
use Rattle.index_record.specs.declared.record.IndexRecord.{IndexRecord}
use Rattle.record_list.specs.Lists.{IsByName}
use Rattle.record_list.specs.Stored.{AreStored, read_as, stored_bytes}

-- the bytes spell a journal with these records
pub record JournalSpells (bytes : List ℕ) (rs : List IndexRecord) : Type 0 where
  pub stored : List IndexRecord
  pub are_stored : AreStored stored
  pub same : rs ≡ read_as stored
  pub spelled : bytes ≡ stored_bytes stored

-- the bytes are a journal with these records by rising names, and they spell it
pub record IsPrinted (rs : List IndexRecord) (bytes : List ℕ) : Type 0 where
  pub sorted : List IndexRecord
  pub by_name : IsByName rs sorted
  pub printed : bytes ≡ stored_bytes sorted
  pub spelled : JournalSpells bytes sorted
