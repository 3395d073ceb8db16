-- A finished entry whose body is made longer by one write at its end.
use Rattle.std.specs.Prelude.{ℕ, ◌-◌, List, ◌++◌, length, take, Option}
use Rattle.cache_base.specs.Bytes.{be32}
use Rattle.chunk_store.specs.Prefixes.{HasChunksWith}
use Rattle.disk_theory.specs.State.{Write}
use Rattle.disk_theory.specs.State.Write.{End}
use Rattle.entry_metadata.specs.Metadata.{Meta, block_bytes}
use Rattle.entry_file.specs.NewEntry.{finished}
use Rattle.entry_file.specs.Version.{Version}

-- the length of the body that is the one of these metadata once it has these bytes more
abbrev pub len_before : Meta → List ℕ → ℕ
len_before m more = m.offset - length more

-- a file stands there that begins with such a body, by the hashes of these metadata
abbrev pub StoresShorter : Option (List ℕ) → Meta → List ℕ → Type 0
StoresShorter file m more = HasChunksWith file (len_before m more) more m.hashes

-- the version with these metadata, whose body is the one that the content begins with and these bytes
abbrev pub lengthened : Meta → List ℕ → List ℕ → Version
lengthened m more c = finished m.header m.key m.elements (take (len_before m more) c ++ more)

-- the write of these bytes, the block and its offset at the end of the shorter body
abbrev pub longer_write : Meta → List ℕ → Write
longer_write m more = End (len_before m more) (more ++ (block_bytes m ++ be32 m.offset))
