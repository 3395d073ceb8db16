-- An entry whose body grows.
use Rattle.std.specs.Prelude.{ℕ, ◌≡◌, ◌+◌, ◌*◌, ◌/◌, List, length, drop, map, Option, Some}
use Rattle.std.specs.List.{range_with_len}
use Rattle.cache_base.specs.Limits.{chunk_size}
use Rattle.chunk_store.specs.Chunks.{chunk, chunk_hash_of}
use Rattle.chunk_store.specs.Stored.{unfinished_file, whole_len}
use Rattle.disk_theory.specs.State.{Write}
use Rattle.disk_theory.specs.State.Write.{End}
use Rattle.entry_file.specs.Version.{Version, file_of}
use Rattle.entry_parts.specs.Elements.{Element}
use Rattle.entry_parts.specs.declared.header.Header.{Header}

-- what is held of it: the hashes of the chunks that are on the disk, and the bytes of the body after these
pub record Growing : Type 0 where
  pub hashes : List ℕ
  pub rest : List ℕ

-- the length of the body so far
abbrev pub grown_len : Growing → ℕ
grown_len e = length e.hashes * chunk_size + length e.rest

-- this is the body so far: its whole chunks are on the disk, and the rest is held
pub record HasBody (e : Growing) (body : List ℕ) : Type 0 where
  pub hashes : e.hashes
      ≡ map (λ i. chunk_hash_of (chunk body i)) (range_with_len 0 (length body / chunk_size))
  pub rest : e.rest ≡ drop (whole_len body) body

-- the file that stands there is the entry's, with the whole chunks of its body
abbrev pub IsItsFile : Growing → Option (List ℕ) → Type 0
IsItsFile e file = (body : List ℕ) × HasBody e body × (file ≡ Some (unfinished_file body))

-- the version that a body is finished to
abbrev pub finished : Header → List ℕ → List Element → List ℕ → Version
finished header key elements body = record { header = header; key = key; elements = elements; body = body }

-- the write that finishes a file: what the file of the version has after the whole chunks of its body
abbrev pub last_write : Version → Write
last_write v = End (whole_len v.body) (drop (whole_len v.body) (file_of v))
