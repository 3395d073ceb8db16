-- An index as it is printed.
use Rattle.std.specs.Prelude.{Bool, List, ℕ, ◌≡◌}
use Rattle.cache_base.specs.Numbers.{one_if}
use Rattle.index_file.specs.Index.{IndexSpells, index_bytes}
use Rattle.index_record.specs.declared.record.IndexRecord.{IndexRecord}
use Rattle.record_list.specs.Lists.{IsByName}

-- the bytes are an index with these records by rising names, and no kilobytes, and they spell it
pub record IsPrinted (rs : List IndexRecord) (timestamp : ℕ) (dirty : Bool) (bytes : List ℕ)
    : Type 0 where
  pub sorted : List IndexRecord
  pub by_name : IsByName rs sorted
  pub printed : bytes ≡ index_bytes timestamp (one_if dirty) 0 sorted
  pub spelled : IndexSpells bytes timestamp dirty sorted
