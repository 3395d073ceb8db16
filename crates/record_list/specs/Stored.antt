-- Records as they stand in a file, after its beginning: the bytes of the records, and the hash of these bytes.
use Rattle.std.specs.List.{AllByRecursion, list_any}
use Rattle.std.specs.Prelude.{Bool, List, Option, Some, [], false, filter, length, map, not, take, true, ℕ, ◌%◌, ◌&&◌, ◌++◌, ◌-◌, ◌==◌, ◌∷◌, ◌≡◌}
use Rattle.cache_base.specs.Bytes.{be32, be32_at}
use Rattle.cache_base.specs.Checks.{first_failing}
use Rattle.cache_base.specs.declared.name.Name.{Name}
use Rattle.index_record.specs.Record.{IsRecord, cleared, has_bit, is_removed, record_size}
use Rattle.index_record.specs.declared.record.IndexRecord.{IndexRecord}
use Rattle.jenkins_hash.specs.Hash.{hash_of}
use Rattle.record_list.specs.Lists.{HasNames, IsByName, names_of, records_bytes, records_in, same_name}
use Rattle.record_list.specs.declared.fault.RecordsFault.{RecordsFault}
use Rattle.record_list.specs.declared.fault.RecordsFault.TheVariants as faults

-- records that may stand in a file: their fields have their widths, and no name stands twice
pub record AreStored (rs : List IndexRecord) : Type 0 where
  pub records : AllByRecursion IsRecord rs
  pub distinct : HasNames rs

-- how many bytes the hash of records has
abbrev pub hash_size : ℕ
hash_size = 4

-- the bytes of records, and the hash of these bytes
unfoldable pub stored_bytes : List IndexRecord → List ℕ
stored_bytes rs = records_bytes rs ++ be32 (hash_of (records_bytes rs))

-- the part of a file after its beginning, without the hash at its end
abbrev pub body_of : List ℕ → List ℕ
body_of part = take (length part - hash_size) part

-- the records that stand there
abbrev pub stored_in : List ℕ → List IndexRecord
stored_in part = records_in (body_of part)

-- whether no name stands twice
abbrev pub are_distinct : List Name → Bool
are_distinct [] = true
are_distinct (name ∷ names) = not (list_any (same_name name) names) && are_distinct names

-- the checks of a part with room for the hash, each with its fault
unfoldable pub records_checks : List ℕ → List (Bool × RecordsFault)
records_checks part =
    (length (body_of part) % record_size == 0, faults.Length)
    ∷ (be32_at part (length part - hash_size) == hash_of (body_of part), faults.Hash)
    ∷ (are_distinct (names_of (stored_in part)), faults.Repeated)
    ∷ []

-- the first failing check
abbrev pub records_fault : List ℕ → Option RecordsFault
records_fault part = first_failing (records_checks part)

-- the fault is that of the first failing check, or memory ran out
abbrev pub IsFirstFault : List ℕ → RecordsFault → Type 0
IsFirstFault part faults.Memory = Unit {0}
IsFirstFault part f = records_fault part ≡ Some f

-- records as they are read: without the dirty and the fresh bit
abbrev pub read_as : List IndexRecord → List IndexRecord
read_as stored = map cleared stored

-- a record has neither the dirty bit 28 nor the fresh bit 27
abbrev pub IsClean : IndexRecord → Type 0
IsClean r = (has_bit 28 r.flags ≡ false) × (has_bit 27 r.flags ≡ false)

-- no record has
abbrev pub AreClean : List IndexRecord → Type 0
AreClean rs = AllByRecursion IsClean rs

-- the records that are not removed
abbrev pub present : List IndexRecord → List IndexRecord
present rs = filter (λ r. not (is_removed r)) rs

-- the bytes are the beginning of a file, and after it these records by rising names
pub record IsPrinted (front : List ℕ) (rs : List IndexRecord) (bytes : List ℕ) : Type 0 where
  pub sorted : List IndexRecord
  pub by_name : IsByName rs sorted
  pub stored : AreStored sorted
  pub clean : AreClean sorted
  pub spelled : bytes ≡ front ++ stored_bytes sorted
