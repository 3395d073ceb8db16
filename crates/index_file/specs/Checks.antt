-- The checks of an index, in order, and what is read of one that passes them.
use Rattle.std.specs.Option.{option_or}
use Rattle.std.specs.Prelude.{Bool, List, Option, Some, [], drop, length, nat_le, not, option_map, ℕ, ◌+◌, ◌==◌, ◌∷◌, ◌≡◌}
use Rattle.cache_base.specs.Bytes.{be32_at}
use Rattle.cache_base.specs.Checks.{first_failing}
use Rattle.index_file.specs.Index.{flag_at, header_size, timestamp_at}
use Rattle.index_file.specs.RecordsFault.{fault_of}
use Rattle.index_file.specs.declared.TheConstants.{VERSION}
use Rattle.index_file.specs.declared.fault.IndexFault.{IndexFault}
use Rattle.index_file.specs.declared.fault.IndexFault.TheVariants as faults
use Rattle.index_record.specs.declared.record.IndexRecord.{IndexRecord}
use Rattle.record_list.specs.Stored.{hash_size, present, read_as, records_fault, stored_in}

-- the checks of the header
unfoldable pub header_checks : List ℕ → List (Bool × IndexFault)
header_checks xs = (nat_le (header_size + hash_size) (length xs), faults.Short) ∷ (be32_at xs 0 == VERSION, faults.Version) ∷ []

-- the fault of the first failing check of the header, or else of the records after it
abbrev pub index_fault : List ℕ → Option IndexFault
index_fault xs =
    option_or (first_failing (header_checks xs)) (option_map fault_of (records_fault (drop header_size xs)))

-- the fault is that of the first failing check, or says that memory ran out
abbrev pub IsFirstFault : List ℕ → IndexFault → Type 0
IsFirstFault xs faults.Memory = Unit {0}
IsFirstFault xs f = index_fault xs ≡ Some f

-- the moment of an index
abbrev pub timestamp_in : List ℕ → ℕ
timestamp_in xs = be32_at xs timestamp_at

-- whether it is dirty
abbrev pub is_dirty_in : List ℕ → Bool
is_dirty_in xs = not (be32_at xs flag_at == 0)

-- its records
abbrev pub index_in : List ℕ → List IndexRecord
index_in xs = read_as (present (stored_in (drop header_size xs)))
