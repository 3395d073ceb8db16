-- What is looked at of a large file before it is read whole.
use Rattle.std.specs.Prelude.{Bool, List, Some, drop, length, take, ℕ, ◌*◌, ◌+◌, ◌-◌, ◌==◌, ◌≡◌}
use Rattle.cache_base.specs.Bytes.{be32_at}
use Rattle.index_record.specs.Record.{record_size}
use Rattle.jenkins_hash.specs.Hash.{hash_of}
use Rattle.record_list.specs.Stored.{body_of, hash_size, records_fault}
use Rattle.record_list.specs.declared.fault.RecordsFault.{RecordsFault}

-- whether the last four bytes are the hash of those before them
abbrev pub is_hashed : List ℕ → Bool
is_hashed part = be32_at part (length part - hash_size) == hash_of (body_of part)

-- how many bytes a record's name has, with which it begins
abbrev pub name_size : ℕ
name_size = 20

-- how many bytes the last two records and the hash after them have
abbrev pub pair_size : ℕ
pair_size = 2 * record_size + hash_size

-- the two records from `at` on have one name
abbrev pub IsPairAt : ℕ → List ℕ → Type 0
IsPairAt at content = take name_size (drop at content) ≡ take name_size (drop (at + record_size) content)

-- some check of these records fails
abbrev pub IsFaulty : List ℕ → Type 0
IsFaulty part = (f : RecordsFault) × (records_fault part ≡ Some f)
