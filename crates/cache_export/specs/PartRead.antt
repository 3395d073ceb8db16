-- What is read of the bytes of a whole part.
use Rattle.std.specs.Prelude.{◌≡◌, ℕ, ◌+◌, ◌<◌, ◌≤◌, true, min, List, length, take, drop, slice_index, Option, None, Some}
use Rattle.cache_base.specs.Bytes.{be32_at}
use Rattle.cache_base.specs.Limits.{chunk_size}
use Rattle.cache_base.specs.declared.limits.TheConstants.{BODY_MAX}
use Rattle.entry_key.specs.Writing.{may_write}
use Rattle.entry_metadata.specs.Checks.{header_place}
use Rattle.entry_metadata.specs.Meta.{meta_of}
use Rattle.entry_metadata.specs.Metadata.{Meta}
use Rattle.entry_metadata.specs.declared.fault.MetaFault.{MetaFault}
use Rattle.entry_metadata.specs.declared.fault.MetaFault.TheVariants as meta
use Rattle.cache_export.specs.Dump.{IsAbove, head, head_len}
use Rattle.cache_export.specs.Parts.{Part, Spells, SpellsRest, Stage}
use Rattle.cache_export.specs.declared.front.Due.{Due}
use Rattle.cache_export.specs.declared.front.Due.TheVariants as due
use Rattle.cache_export.specs.declared.item.Item.{Item}
use Rattle.cache_export.specs.declared.item.Item.TheVariants as item
use Rattle.cache_export.specs.declared.parts.PartFault.{PartFault}
use Rattle.cache_export.specs.declared.parts.PartFault.TheVariants as faults

-- the property of the part that an item is; the end is none
abbrev pub IfPart : Item → (Part → Type 0) → Type 0
IfPart (item.Key key) P = P (Part.KeyPart key)
IfPart (item.Piece bytes) P = P (Part.PiecePart bytes)
IfPart (item.Block meta) P = P (Part.BlockPart (meta_of meta))
IfPart item.End P = ⊥

-- how many items are whole with it
abbrev pub completed_by : Item → ℕ
completed_by (item.Key key) = 0
completed_by (item.Piece bytes) = 0
completed_by (item.Block meta) = 1
completed_by item.End = 0

-- the key of the item before
abbrev pub before_at : Due → List ℕ → Option (List ℕ)
before_at due.Head last = None
before_at other last = Some last

-- an item is due
abbrev pub IsItemDue : Due → Type 0
IsItemDue due.Head = Unit {0}
IsItemDue due.Item = Unit {0}
IsItemDue due.Length = ⊥
IsItemDue due.Body = ⊥

-- a key that may follow the one before
abbrev pub MayFollow : Option (List ℕ) → List ℕ → Type 0
MayFollow before key = (may_write key ≡ true) × IsAbove before key

-- the bytes are a byte 1, a number, and as many as it tells
abbrev pub IsKeyField : List ℕ → Type 0
IsKeyField bytes = (slice_index bytes 0 ≡ 1) × (length bytes ≡ 5 + be32_at bytes 1)

-- the bytes are as many as a key has that is due, by its length
abbrev pub IsWholeKey : Due → List ℕ → Type 0
IsWholeKey due.Head bytes = (take head_len bytes ≡ head) × IsKeyField (drop head_len bytes)
IsWholeKey due.Item bytes = IsKeyField bytes
IsWholeKey due.Length bytes = ⊥
IsWholeKey due.Body bytes = ⊥

-- the bytes are as many as the number before them tells
abbrev pub IsWholeBlock : List ℕ → Type 0
IsWholeBlock bytes = length bytes ≡ 4 + be32_at bytes 0

-- a block that says this is the one of this key and these hashes, and it has version 3
abbrev pub IsBlockOf : Meta → List ℕ → List ℕ → List ℕ → Type 0
IsBlockOf said block key hashes = (said.key ≡ key) × ((said.hashes ≡ hashes) × (be32_at block (header_place (length hashes)) ≡ 3))

-- the bytes are as many as those of a piece, where so many bytes of the body are left, or of a block
pub record IsWholeRest (left : ℕ) (bytes : List ℕ) : Type 0 where
  pub piece : 0 < left → length bytes ≡ min chunk_size left
  pub block : left ≡ 0 → IsWholeBlock bytes

-- the bytes are as many as a part has that is due, by its length
abbrev pub IsWholePart : Due → ℕ → List ℕ → Type 0
IsWholePart due.Head left bytes = IsWholeKey due.Head bytes
IsWholePart due.Item left bytes = IsWholeKey due.Item bytes
IsWholePart due.Length left bytes = (4 ≤ length bytes) × ((be32_at bytes 0 ≤ BODY_MAX) × IsWholeRest (be32_at bytes 0) (drop 4 bytes))
IsWholePart due.Body left bytes = IsWholeRest left bytes

-- the bytes are those of no part that is due
abbrev pub SpellsNone : Stage → List ℕ → PartFault → Type 0
SpellsNone stage bytes faults.Bad = (p : Part) → ¬ (Spells stage p bytes)
SpellsNone stage bytes faults.Memory = Unit {0}

-- the bytes are those of no part of a body
abbrev pub SpellsNoRest : List ℕ → ℕ → List ℕ → List ℕ → PartFault → Type 0
SpellsNoRest key len hashes bytes faults.Bad = (p : Part) → ¬ (SpellsRest key len hashes p bytes)
SpellsNoRest key len hashes bytes faults.Memory = Unit {0}

-- what a fault of a block is here
abbrev pub part_fault_of : MetaFault → PartFault
part_fault_of meta.Memory = faults.Memory
part_fault_of fault = faults.Bad
