-- The file `index`: a header of four numbers, the records, and the hash of the records' bytes.
use Rattle.std.specs.Prelude.{Bool, List, not, ℕ, ◌++◌, ◌<◌, ◌==◌, ◌^◌, ◌≡◌}
use Rattle.cache_base.specs.Bytes.{be32}
use Rattle.index_record.specs.declared.record.IndexRecord.{IndexRecord}
use Rattle.index_file.specs.declared.TheConstants.{VERSION}
use Rattle.record_list.specs.Stored.{AreStored, present, read_as, stored_bytes}

-- the header: the version, a moment, whether the index is dirty, and kilobytes that are not read
unfoldable pub header_bytes : ℕ → ℕ → ℕ → List ℕ
header_bytes timestamp flag kilobytes = be32 VERSION ++ (be32 timestamp ++ (be32 flag ++ be32 kilobytes))

-- how many bytes it has
abbrev pub header_size : ℕ
header_size = 16

-- where the timestamp stands in it
abbrev pub timestamp_at : ℕ
timestamp_at = 4

-- where the flag stands in it
abbrev pub flag_at : ℕ
flag_at = 8

-- the bytes of an index with these numbers and records
abbrev pub index_bytes : ℕ → ℕ → ℕ → List IndexRecord → List ℕ
index_bytes timestamp flag kilobytes stored = header_bytes timestamp flag kilobytes ++ stored_bytes stored

-- the bytes spell an index of this moment with these records: removed ones are no part of it, any flag but 0 is dirty
pub record IndexSpells (bytes : List ℕ) (timestamp : ℕ) (dirty : Bool) (rs : List IndexRecord)
    : Type 0 where
  pub stored : List IndexRecord
  pub flag : ℕ
  pub kilobytes : ℕ
  pub are_stored : AreStored stored
  pub same : rs ≡ read_as (present stored)
  pub is_dirty : dirty ≡ not (flag == 0)
  pub small : (timestamp < 2 ^ 32) × (flag < 2 ^ 32) × (kilobytes < 2 ^ 32)
  pub spelled : bytes ≡ index_bytes timestamp flag kilobytes stored
