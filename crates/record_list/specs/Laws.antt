-- What follows from the definitions of records as they stand in a file.
use Rattle.std.specs.Prelude.{List, None, length, ℕ, ◌↔◌, ◌≡◌, ◌≤◌}
use Rattle.cache_base.specs.Bytes.{AreBytes}
use Rattle.cache_base.specs.declared.name.Name.{Name}
use Rattle.index_record.specs.declared.record.IndexRecord.{IndexRecord}
use Rattle.record_list.specs.Lists.{AreSorted, HasNames, IsByName, record_at}
use Rattle.record_list.specs.Stored.{AreClean, AreStored, hash_size, read_as, records_fault, stored_bytes, stored_in}

-- records that stand in a file pass the checks, and are read
abbrev pub StoredReadsBack : Type 0
StoredReadsBack = (rs : List IndexRecord) → AreStored rs → (records_fault (stored_bytes rs) ≡ None) × (stored_in (stored_bytes rs) ≡ rs)

-- bytes pass the checks exactly where they are records and their hash
abbrev pub StoredFitsExactly : Type 0
StoredFitsExactly = (part : List ℕ) → AreBytes part → hash_size ≤ length part
    → (records_fault part ≡ None) ↔ ((rs : List IndexRecord) × AreStored rs × (part ≡ stored_bytes rs))

-- among records whose names rise no name stands twice
abbrev pub SortedHasNames : Type 0
SortedHasNames = (rs : List IndexRecord) → AreSorted rs → HasNames rs

-- records that have neither the dirty nor the fresh bit are read as they are
abbrev pub CleanReadsSame : Type 0
CleanReadsSame = (rs : List IndexRecord) → AreClean rs → read_as rs ≡ rs

-- records that are sorted have the same record under each name
abbrev pub ByNameKeeps : Type 0
ByNameKeeps = (rs sorted : List IndexRecord) → HasNames rs → IsByName rs sorted → (name : Name) → record_at sorted name ≡ record_at rs name
