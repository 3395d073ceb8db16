-- What follows from the definitions of metadata blocks.
use Rattle.std.specs.Prelude.{ℕ, ◌≡◌, ◌↔◌, ◌<◌, ◌-◌, ◌^◌, List, None}
use Rattle.cache_base.specs.Bytes.{AreBytes}
use Rattle.entry_metadata.specs.Checks.{block_fault, meta_in}
use Rattle.entry_metadata.specs.Metadata.{CanSay, Format, IsMeta, Meta, Spells, block_as}

-- a block of any version passes its checks, and is read back
abbrev pub BlockReadsBack : Type 0
BlockReadsBack = (format : Format) (m : Meta) → IsMeta m → CanSay format m.header → (block_fault (block_as format m) m.offset ≡ None) × (meta_in (block_as format m) m.offset ≡ m)

-- bytes pass the checks of a block exactly where they spell metadata
abbrev pub BlockFitsExactly : Type 0
BlockFitsExactly = (block : List ℕ) (offset : ℕ) → AreBytes block → offset < 2 ^ 32 - 1 → (block_fault block offset ≡ None) ↔ ((m : Meta) × Spells block offset m)
