-- The header of an entry's metadata, and its bytes: with flags, or without them in files of version 1.
use Rattle.std.specs.Prelude.{min, ℕ, ◌≡◌, ◌<◌, ◌≤◌, ◌+◌, ◌^◌, List, ◌++◌, length, take}
use Rattle.cache_base.specs.Bytes.{AreBytes, be32, be32_at}
use Rattle.entry_parts.specs.declared.header.Header.{Header}
use Rattle.entry_parts.specs.declared.header.TheConstants.{VERSION}

-- the 32 bytes of a header
abbrev pub header_bytes : Header → List ℕ
header_bytes h =
    be32 h.version ++ be32 h.fetch_count ++ be32 h.last_fetched ++ be32 h.last_modified
    ++ be32 h.frecency ++ be32 h.expiration ++ be32 h.key_size ++ be32 h.flags

-- the header in the first 32 bytes
abbrev pub header_in : List ℕ → Header
header_in xs = record {
  version = be32_at xs 0;
  fetch_count = be32_at xs 4;
  last_fetched = be32_at xs 8;
  last_modified = be32_at xs 12;
  frecency = be32_at xs 16;
  expiration = be32_at xs 20;
  key_size = be32_at xs 24;
  flags = be32_at xs 28;
}

-- the 28 bytes of a header without its flags
abbrev pub short_header_bytes : Header → List ℕ
short_header_bytes h =
    be32 h.version ++ be32 h.fetch_count ++ be32 h.last_fetched ++ be32 h.last_modified
    ++ be32 h.frecency ++ be32 h.expiration ++ be32 h.key_size

-- the header in the first 28 bytes, whose flags are 0
abbrev pub short_header_in : List ℕ → Header
short_header_in xs = record {
  version = be32_at xs 0;
  fetch_count = be32_at xs 4;
  last_fetched = be32_at xs 8;
  last_modified = be32_at xs 12;
  frecency = be32_at xs 16;
  expiration = be32_at xs 20;
  key_size = be32_at xs 24;
  flags = 0;
}

-- each number fits four bytes
pub record IsHeader (h : Header) : Type 0 where
  pub version : h.version < 2 ^ 32
  pub fetch_count : h.fetch_count < 2 ^ 32
  pub last_fetched : h.last_fetched < 2 ^ 32
  pub last_modified : h.last_modified < 2 ^ 32
  pub frecency : h.frecency < 2 ^ 32
  pub expiration : h.expiration < 2 ^ 32
  pub key_size : h.key_size < 2 ^ 32
  pub flags : h.flags < 2 ^ 32

-- the header of an entry that is made at a moment, and never expires
abbrev pub fresh_header : ℕ → ℕ → Header
fresh_header now key_size = record {
  version = VERSION;
  fetch_count = 1;
  last_fetched = now;
  last_modified = now;
  frecency = now;
  expiration = 0xFFFFFFFF;
  key_size = key_size;
  flags = 0;
}

-- the header of an entry after one more use at a moment, with the frecency that this use gives it
abbrev pub used_header : Header → ℕ → ℕ → Header
used_header h now frecency = record h { fetch_count = min (h.fetch_count + 1) 0xFFFFFFFF; last_fetched = now; frecency = frecency }

-- a header that is written is read back, whatever follows it
abbrev pub HeaderReadsBack : Type 0
HeaderReadsBack = (h : Header) (rest : List ℕ) → IsHeader h → header_in (header_bytes h ++ rest) ≡ h

-- 32 bytes or more begin with the bytes of the header in them
abbrev pub HeaderSpells : Type 0
HeaderSpells = (xs : List ℕ) → AreBytes xs → 32 ≤ length xs → IsHeader (header_in xs) × (header_bytes (header_in xs) ≡ take 32 xs)

-- a header without flags reads back
abbrev pub ShortHeaderReadsBack : Type 0
ShortHeaderReadsBack = (h : Header) (rest : List ℕ) → IsHeader h → h.flags ≡ 0 → short_header_in (short_header_bytes h ++ rest) ≡ h

-- a header without flags spells what it was read from
abbrev pub ShortHeaderSpells : Type 0
ShortHeaderSpells = (xs : List ℕ) → AreBytes xs → 28 ≤ length xs → IsHeader (short_header_in xs) × (short_header_bytes (short_header_in xs) ≡ take 28 xs)
