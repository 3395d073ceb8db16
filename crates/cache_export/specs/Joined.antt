-- A dump as its parts, one after another.
use Rattle.std.specs.Prelude.{◌≡◌, ◌↔◌, ℕ, ◌≤◌, List, [], ◌∷◌, ◌++◌, None, flat_map, length, map}
use Rattle.std.specs.List.{range_with_len}
use Rattle.cache_base.specs.Limits.{chunks}
use Rattle.chunk_store.specs.Chunks.{chunk}
use Rattle.entry_file.specs.Version.{Version, version_meta}
use Rattle.cache_export.specs.Dump.{IsDump}
use Rattle.cache_export.specs.Parts.{Part, Spells, SpellsEnd, Stage, after}
use Rattle.cache_export.specs.declared.limits.TheConstants.{DUMP_MAX}

-- the bytes are those of these parts, each due after the one before, and then end a dump
abbrev pub AreParts : Stage → List Part → List ℕ → Type 0
AreParts stage [] bytes = SpellsEnd stage bytes
AreParts stage (p ∷ ps) bytes =
    (own : List ℕ) × ((rest : List ℕ) × (Spells stage p own × ((bytes ≡ own ++ rest) × AreParts (after stage p own) ps rest)))

-- the pieces of a body: its chunks
abbrev pub pieces : List ℕ → List Part
pieces body = map (λ i. Part.PiecePart (chunk body i)) (range_with_len 0 (chunks (length body)))

-- the parts of an item
abbrev pub parts_of : Version → List Part
parts_of v = Part.KeyPart v.key ∷ (pieces v.body ++ Part.BlockPart (version_meta v) ∷ [])

-- Bytes are read part by part to the end exactly where they are a dump, and then the parts are those of its items.
abbrev pub DumpIsParts : Type 0
DumpIsParts = (bytes : List ℕ) (ps : List Part) → length bytes ≤ DUMP_MAX
    → AreParts (Stage.AtItem None) ps bytes ↔ ((vs : List Version) × (IsDump bytes vs × (ps ≡ flat_map parts_of vs)))
