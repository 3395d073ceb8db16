-- The metadata of a file, written anew after the same body.
use Rattle.std.specs.Prelude.{ℕ, ◌≡◌, List, ◌++◌, take, Option, None, Some}
use Rattle.cache_base.specs.Bytes.{be32}
use Rattle.chunk_store.specs.Prefixes.{HasChunks}
use Rattle.chunk_store.specs.declared.damage.Damage.{Damage}
use Rattle.disk_theory.specs.State.{Write}
use Rattle.disk_theory.specs.State.Write.{End}
use Rattle.entry_metadata.specs.Metadata.{Meta, block_bytes}
use Rattle.entry_file.specs.Damages.{first_damage}
use Rattle.entry_file.specs.EntryFile.{Fits, Reading, Whole, Damaged, read}
use Rattle.entry_file.specs.NewEntry.{finished}
use Rattle.entry_file.specs.Version.{IsFileOf, Version, version_meta}

-- a file stands there that begins with the body of these metadata, by their hashes
abbrev pub StoresBody : Option (List ℕ) → Meta → Type 0
StoresBody file m = HasChunks file m.offset m.hashes

-- the version with these metadata, whose body is the prefix of the content up to their offset
abbrev pub rewritten : Meta → List ℕ → Version
rewritten m c = finished m.header m.key m.elements (take m.offset c)

-- the write of the block and its offset after the body
abbrev pub block_write : Meta → Write
block_write m = End m.offset (block_bytes m ++ be32 m.offset)

-- what a file reads as, by the first damage of its body
abbrev pub whole_or : Option Damage → Version → Reading
whole_or None v = Whole v
whole_or (Some damage) v = Damaged damage

-- a content that fits reads as damaged by the first damage of its body, or else as the version that it stores
abbrev pub ReadsByDamage : Type 0
ReadsByDamage = (name c : List ℕ) (m : Meta) → Fits name c m → read name c ≡ whole_or (first_damage m c) (rewritten m c)

-- a content that fits, and whose body has the hashes of its metadata, is a file of the version that it stores
abbrev pub StoresWhole : Type 0
StoresWhole = (name c : List ℕ) (m : Meta) → Fits name c m → StoresBody (Some c) m → IsFileOf (rewritten m c) c

-- a file of a version stores the body of another one of the same body, and is rewritten to that one
abbrev pub RewritesToVersion : Type 0
RewritesToVersion = (v w : Version) (c : List ℕ) → v.body ≡ w.body → IsFileOf w c → StoresBody (Some c) (version_meta v) × (rewritten (version_meta v) c ≡ v)
