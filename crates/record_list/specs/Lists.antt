-- Lists of records, and their bytes.
use Rattle.std.specs.List.{IsDistinct}
use Rattle.std.specs.List.Sorted.{IsPermutation}
use Rattle.std.specs.Prelude.{Bool, List, Option, find, flat_map, length, map, ℕ, ◌/◌}
use Rattle.std.specs.Simd.{first_chunks}
use Rattle.std.specs.Str.{bytes_eq}
use Rattle.cache_base.specs.Names as names
use Rattle.cache_base.specs.declared.name.Name.{Name}
use Rattle.index_record.specs.Record.{record_bytes, record_in, record_size}
use Rattle.index_record.specs.declared.record.IndexRecord.{IndexRecord}

-- whether two names have the same bytes
abbrev pub same_name : Name → Name → Bool
same_name a b = bytes_eq a.0 b.0

-- the names of records
abbrev pub names_of : List IndexRecord → List Name
names_of rs = map (λ r. r.name) rs

-- the first record of a name
abbrev pub record_at : List IndexRecord → Name → Option IndexRecord
record_at rs name = find (λ r. same_name r.name name) rs

-- no name stands twice
abbrev pub HasNames : List IndexRecord → Type 0
HasNames rs = IsDistinct same_name (names_of rs)

-- each record's name is below those after it
abbrev pub AreSorted : List IndexRecord → Type 0
AreSorted rs = names.AreSorted (names_of rs)

-- the same records, by rising names
pub record IsByName (rs out : List IndexRecord) : Type 0 where
  pub rising : AreSorted out
  pub same : IsPermutation rs out

-- the bytes of records
abbrev pub records_bytes : List IndexRecord → List ℕ
records_bytes rs = flat_map record_bytes rs

-- the records in whole groups of their bytes
abbrev pub records_in : List ℕ → List IndexRecord
records_in xs = map record_in (first_chunks record_size (length xs / record_size) xs)
