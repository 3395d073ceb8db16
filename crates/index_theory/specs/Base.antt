-- The index file that stands for the base of the records in memory.
use Rattle.std.specs.Prelude.{Bool, List, Option, Some, ℕ, ◌≡◌}
use Rattle.cache_base.specs.declared.name.Name.{Name}
use Rattle.index_file.specs.Index.{IndexSpells}
use Rattle.index_record.specs.declared.record.IndexRecord.{IndexRecord}
use Rattle.record_list.specs.Lists.{record_at}

-- the file is an index with this flag that spells these records, in any order
pub record BaseStands (file : Option (List ℕ)) (dirty : Bool) (base : List IndexRecord)
    : Type 0 where
  pub content : List ℕ
  pub timestamp : ℕ
  pub spelled : List IndexRecord
  pub stands : file ≡ Some content
  pub spells : IndexSpells content timestamp dirty spelled
  pub same : (name : Name) → record_at spelled name ≡ record_at base name
