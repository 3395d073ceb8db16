-- The parts in which a dump is read: of each item its key, the pieces of its body, and its block.
use Rattle.std.specs.Prelude.{◌≡◌, ℕ, ◌+◌, ◌-◌, ◌*◌, ◌<◌, ◌≤◌, true, min, List, [], ◌∷◌, ◌++◌, length, Option, None, Some}
use Rattle.cache_base.specs.Bytes.{AreBytes, be32, be32_at}
use Rattle.cache_base.specs.Limits.{chunk_size}
use Rattle.cache_base.specs.declared.limits.TheConstants.{BODY_MAX}
use Rattle.chunk_store.specs.Chunks.{chunk_hash_of}
use Rattle.entry_key.specs.Writing.{may_write}
use Rattle.entry_metadata.specs.Metadata.{IsMeta, Meta, block_bytes}
use Rattle.cache_export.specs.Dump.{IsAbove, back_bytes, head}
use Rattle.cache_export.specs.declared.limits.TheConstants.{DUMP_MAX}

-- a part: a key, a piece of a body, or what a metadata block says
pub data Part : Type 0 where
  KeyPart : (key : List ℕ) → Part
  PiecePart : (bytes : List ℕ) → Part
  BlockPart : (said : Meta) → Part

-- what is due
pub data Stage : Type 0 where
  -- an item or the end, after the item of a key; where no item came before, the head of the dump stands before it
  AtItem : (before : Option (List ℕ)) → Stage
  -- the length of the body under a key, and then a part of the body or its block
  AtLength : (key : List ℕ) → Stage
  -- a part of a body of so many bytes, after pieces of these hashes, or its block
  InBody : (key : List ℕ) (len : ℕ) (hashes : List ℕ) → Stage

-- so many bytes of a body are left after so many whole pieces
abbrev pub left_of : ℕ → ℕ → ℕ
left_of len pieces = len - pieces * chunk_size

-- what stands before an item or the end
abbrev pub lead : Option (List ℕ) → List ℕ
lead None = head
lead (Some key) = []

-- the part of a key: a byte 1, and the key after its length
unfoldable pub key_bytes : List ℕ → List ℕ
key_bytes key = 1 ∷ (be32 (length key) ++ key)

-- the bytes are those of a part of a body of so many bytes, after pieces of these hashes. A piece has 262,144 bytes,
-- or all that are left; a block comes where none are left, and is in version 3 and of this key, this length and these
-- hashes
abbrev pub SpellsRest : List ℕ → ℕ → List ℕ → Part → List ℕ → Type 0
SpellsRest key len hashes (Part.KeyPart k) bytes = ⊥
SpellsRest key len hashes (Part.PiecePart piece) bytes =
    (0 < left_of len (length hashes)) × ((length piece ≡ min chunk_size (left_of len (length hashes))) × (AreBytes piece × (bytes ≡ piece)))
SpellsRest key len hashes (Part.BlockPart said) bytes =
    (left_of len (length hashes) ≡ 0) × (IsMeta said × ((said.key ≡ key) × ((said.offset ≡ len) × ((said.hashes ≡ hashes) × (bytes ≡ back_bytes (block_bytes said))))))

-- the bytes are those of a part that is due
abbrev pub Spells : Stage → Part → List ℕ → Type 0
Spells (Stage.AtItem before) (Part.KeyPart key) bytes = (may_write key ≡ true) × (IsAbove before key × (bytes ≡ lead before ++ key_bytes key))
Spells (Stage.AtItem before) (Part.PiecePart piece) bytes = ⊥
Spells (Stage.AtItem before) (Part.BlockPart said) bytes = ⊥
Spells (Stage.AtLength key) part bytes =
    (len : ℕ) × ((rest : List ℕ) × ((len ≤ BODY_MAX) × ((bytes ≡ be32 len ++ rest) × SpellsRest key len [] part rest)))
Spells (Stage.InBody key len hashes) part bytes = SpellsRest key len hashes part bytes

-- what is due after a part of these bytes
abbrev pub after : Stage → Part → List ℕ → Stage
after (Stage.AtItem before) (Part.KeyPart key) bytes = Stage.AtLength key
after (Stage.AtLength key) (Part.PiecePart piece) bytes = Stage.InBody key (be32_at bytes 0) (chunk_hash_of piece ∷ [])
after (Stage.AtLength key) (Part.BlockPart said) bytes = Stage.AtItem (Some key)
after (Stage.InBody key len hashes) (Part.PiecePart piece) bytes = Stage.InBody key len (hashes ++ chunk_hash_of piece ∷ [])
after (Stage.InBody key len hashes) (Part.BlockPart said) bytes = Stage.AtItem (Some key)
after stage part bytes = stage

-- the bytes end a dump
abbrev pub SpellsEnd : Stage → List ℕ → Type 0
SpellsEnd (Stage.AtItem before) bytes = bytes ≡ lead before ++ 0 ∷ []
SpellsEnd (Stage.AtLength key) bytes = ⊥
SpellsEnd (Stage.InBody key len hashes) bytes = ⊥

-- After so many bytes of a dump no part that is due begins these bytes and ends within the longest dump, and they do
-- not end it there.
pub record NoPart (stage : Stage) (used : ℕ) (bytes : List ℕ) : Type 0 where
  pub part : (p : Part) (own more : List ℕ) → Spells stage p own → bytes ≡ own ++ more
      → DUMP_MAX < used + length own
  pub ending : SpellsEnd stage bytes → DUMP_MAX < used + length bytes
