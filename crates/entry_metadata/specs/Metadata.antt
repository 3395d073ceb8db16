-- What the metadata block of an entry says, and its bytes.
use Rattle.std.specs.Prelude.{ℕ, ◌≡◌, ◌<◌, ◌≤◌, ◌+◌, ◌-◌, ◌*◌, ◌^◌, List, ◌∷◌, ◌++◌, length, flat_map}
use Rattle.std.specs.List.{AllByRecursion}
use Rattle.cache_base.specs.Bytes.{AreBytes, be16, be32}
use Rattle.cache_base.specs.Limits.{chunks}
use Rattle.cache_base.specs.declared.limits.TheConstants.{BLOCK_MAX}
use Rattle.jenkins_hash.specs.Hash.{hash_of}
use Rattle.entry_key.specs.Key.{KeyReads, Tag}
use Rattle.entry_parts.specs.Elements.{AreElements, Element, elements_bytes}
use Rattle.entry_parts.specs.Header.{IsHeader, header_bytes, short_header_bytes}
use Rattle.entry_parts.specs.declared.header.Header.{Header}
use Rattle.entry_parts.specs.declared.header.TheConstants.{VERSION}

-- what a block says: the key and the elements, the hashes of the body's chunks, and the body's length
pub record Meta : Type 0 where
  pub header : Header
  pub key : List ℕ
  pub elements : List Element
  pub hashes : List ℕ
  pub offset : ℕ

-- the versions of the format: the first has no flags, and the third is the one that is written
pub data Format : Type 0 where
  First : Format
  Second : Format
  Third : Format

-- a header as a block of this version has it
abbrev pub header_as : Format → Header → List ℕ
header_as First h = short_header_bytes (record h { version = 1 })
header_as Second h = header_bytes (record h { version = 2 })
header_as Third h = header_bytes h

-- a header that a block of this version can say
abbrev pub CanSay : Format → Header → Type 0
CanSay First h = h.flags ≡ 0
CanSay Second h = Unit {0}
CanSay Third h = Unit {0}

-- the block past its hash, in this version
abbrev pub block_rest_as : Format → Meta → List ℕ
block_rest_as format m = flat_map be16 m.hashes ++ (header_as format m.header ++ (m.key ++ 0 ∷ elements_bytes m.elements))

-- the block in this version: the hash of what follows it, and what follows
abbrev pub block_as : Format → Meta → List ℕ
block_as format m = be32 (hash_of (block_rest_as format m)) ++ block_rest_as format m

-- the block without its hash, as it is written
abbrev pub block_rest : Meta → List ℕ
block_rest m = block_rest_as Third m

-- the block as it is written
abbrev pub block_bytes : Meta → List ℕ
block_bytes m = block_as Third m

-- the length of a block with so many hashes of chunks, and so many bytes of a key and of elements
abbrev pub block_length : ℕ → ℕ → ℕ → ℕ
block_length hashes key elements = 4 + 2 * hashes + 32 + key + 1 + elements

-- what may stand in a block. Its header has version 3, whichever version the block has, and the block as it is
-- written is not too big: one of version 1 is four bytes shorter
pub record IsMeta (m : Meta) : Type 0 where
  pub header : IsHeader m.header
  pub version : m.header.version ≡ VERSION
  pub key_size : m.header.key_size ≡ length m.key
  pub key : (tags : List Tag) × (address : List ℕ) × KeyReads m.key tags address
  pub key_bytes : AreBytes m.key
  pub elements : AreElements m.elements
  pub element_bytes : AreBytes (elements_bytes m.elements)
  pub hashes : length m.hashes ≡ chunks m.offset
  pub hash_words : AllByRecursion (λ h. h < 2 ^ 16) m.hashes
  pub offset : m.offset < 2 ^ 32 - 1
  pub small : length (block_bytes m) ≤ BLOCK_MAX

-- the block of a body of this length spells m, in one of the versions of the format
pub record Spells (block : List ℕ) (offset : ℕ) (m : Meta) : Type 0 where
  pub meta : IsMeta m
  pub at : m.offset ≡ offset
  pub format : Format
  pub can : CanSay format m.header
  pub bytes : block ≡ block_as format m
