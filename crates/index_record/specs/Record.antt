-- Index records: their fields and their 41 bytes.
use Rattle.std.specs.Int.{from_be_bytes, to_be_bytes, w64}
use Rattle.std.specs.Prelude.{Bool, List, drop, length, slice_index, take, ℕ, ◌%◌, ◌*◌, ◌++◌, ◌+◌, ◌/◌, ◌<◌, ◌==◌, ◌^◌, ◌∷◌, ◌≡◌}
use Rattle.cache_base.specs.Bytes.{AreBytes, be16, be16_at, be32, be32_at}
use Rattle.cache_base.specs.declared.name.Name.{Name}
use Rattle.index_record.specs.declared.record.IndexRecord.{IndexRecord}

-- whether bit k of a number is set
abbrev pub has_bit : ℕ → ℕ → Bool
has_bit k n = n / 2 ^ k % 2 == 1

-- whether a record says that its name is gone
abbrev pub is_removed : IndexRecord → Bool
is_removed r = has_bit 29 r.flags

-- whether its entry is pinned
abbrev pub is_pinned : IndexRecord → Bool
is_pinned r = has_bit 26 r.flags

-- its file's size in KB
abbrev pub size_kb : IndexRecord → ℕ
size_kb r = r.flags % 2 ^ 24

-- the record without the dirty bit 28 and the fresh bit 27, which never go to a file
abbrev pub cleared : IndexRecord → IndexRecord
cleared r = record r { flags = r.flags / 2 ^ 29 * 2 ^ 29 + r.flags % 2 ^ 27 }

-- how many bytes a record has
abbrev pub record_size : ℕ
record_size = 41

-- the bytes of a record
abbrev pub record_bytes : IndexRecord → List ℕ
record_bytes r =
    r.name.0 ++ (be32 r.frecency ++ (to_be_bytes w64 r.origin ++ (be16 r.on_start ++ (be16 r.on_stop ++ r.content ∷ be32 r.flags))))

-- the record in so many bytes
abbrev pub record_in : List ℕ → IndexRecord
record_in xs = record {
  name = record { 0 = take 20 xs };
  frecency = be32_at xs 20;
  origin = from_be_bytes w64 (drop 24 xs);
  on_start = be16_at xs 32;
  on_stop = be16_at xs 34;
  content = slice_index xs 36;
  flags = be32_at xs 37;
}

-- the record that says that a name is gone
abbrev pub removed_record : Name → IndexRecord
removed_record name = record {
  name = name;
  frecency = 0;
  origin = 0;
  on_start = 0xFFFF;
  on_stop = 0xFFFF;
  content = 0;
  flags = 0xA0000000;
}

-- each field has its width
pub record IsRecord (r : IndexRecord) : Type 0 where
  pub name : (length r.name.0 ≡ 20) × AreBytes r.name.0
  pub frecency : r.frecency < 2 ^ 32
  pub origin : r.origin < 2 ^ 64
  pub on_start : r.on_start < 2 ^ 16
  pub on_stop : r.on_stop < 2 ^ 16
  pub content : r.content < 2 ^ 8
  pub flags : r.flags < 2 ^ 32

-- a record that is written is read back
abbrev pub RecordReadsBack : Type 0
RecordReadsBack = (r : IndexRecord) → IsRecord r
    → (length (record_bytes r) ≡ record_size) × (record_in (record_bytes r) ≡ r)

-- so many bytes are those of the record in them
abbrev pub RecordSpells : Type 0
RecordSpells = (xs : List ℕ) → AreBytes xs → length xs ≡ record_size
    → IsRecord (record_in xs) × (record_bytes (record_in xs) ≡ xs)
