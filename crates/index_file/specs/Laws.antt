-- What follows from the definitions of an index.
use Rattle.std.specs.Prelude.{Bool, List, None, ℕ, ◌↔◌, ◌≡◌}
use Rattle.cache_base.specs.Bytes.{AreBytes}
use Rattle.index_file.specs.Checks.{index_fault, index_in, is_dirty_in, timestamp_in}
use Rattle.index_file.specs.Index.{IndexSpells}
use Rattle.index_record.specs.declared.record.IndexRecord.{IndexRecord}

-- an index that is spelled passes its checks, and is read back
abbrev pub IndexReadsBack : Type 0
IndexReadsBack = (bytes : List ℕ) (timestamp : ℕ) (dirty : Bool) (rs : List IndexRecord) → IndexSpells bytes timestamp dirty rs
    → (index_fault bytes ≡ None) × (timestamp_in bytes ≡ timestamp) × (is_dirty_in bytes ≡ dirty) × (index_in bytes ≡ rs)

-- bytes pass the checks of an index exactly where they spell one
abbrev pub IndexFitsExactly : Type 0
IndexFitsExactly = (bytes : List ℕ) → AreBytes bytes
    → (index_fault bytes ≡ None) ↔ ((timestamp : ℕ) × (dirty : Bool) × (rs : List IndexRecord) × IndexSpells bytes timestamp dirty rs)
