-- The first damage of a body.
use Rattle.std.specs.Prelude.{ℕ, ◌≡◌, ◌≤◌, ◌+◌, List, [], ◌∷◌, length, take, Option, Some, None, Result, Ok}
use Rattle.cache_base.specs.Limits.{chunks}
use Rattle.chunk_store.specs.Chunks.{damages}
use Rattle.chunk_store.specs.declared.damage.Damage.{Damage}
use Rattle.disk_theory.specs.declared.disk.DiskFault.{DiskFault}
use Rattle.entry_metadata.specs.Metadata.{Meta}
use Rattle.entry_file.specs.EntryFile.{file_meta}

-- the first of these damages, if there is one
abbrev pub first : List Damage → Option Damage
first [] = None
first (damage ∷ more) = Some damage

-- the first chunk that differs of the body before the offset of these metadata
abbrev pub first_damage : Meta → List ℕ → Option Damage
first_damage m c = first (damages m.hashes m.offset (take m.offset c))

-- how many chunks of a body with these metadata may be read for an answer: those up to the damage that it names, and
-- else all
abbrev pub chunks_read : Meta → Result (Option Damage) DiskFault → ℕ
chunks_read m (Ok (Some damage)) = damage.chunk + 1
chunks_read m _ = chunks m.offset

-- a file stands there that has these metadata, and their body before them
abbrev pub HasMeta : Option (List ℕ) → Meta → Type 0
HasMeta None m = ⊥
HasMeta (Some c) m = (m ≡ file_meta c) × (m.offset ≤ length c)
