-- The list of the chunks in a cache, the most recent first.
use Rattle.std.specs.List.{IsDistinct}
use Rattle.std.specs.Option.{IsSomeAnd, option_map_or}
use Rattle.std.specs.Prelude.{Bool, List, None, Option, Some, [], filter, if◌then◌else◌, length, not, option_map, slice_get, take, ℕ, ◌-◌, ◌&&◌, ◌==◌, ◌∷◌, ◌≡◌, ◌≤◌}
use Rattle.cache_base.specs.declared.limits.TheConstants.{CACHED}

-- a chunk with its bytes: the number of its entry, and its index in that entry's body
pub record CachedChunk : Type 0 where
  pub entry : ℕ
  pub index : ℕ
  pub bytes : List ℕ

-- the chunk of an entry at an index, with these bytes
abbrev pub cached : ℕ → ℕ → List ℕ → CachedChunk
cached entry index bytes = record { entry = entry; index = index; bytes = bytes }

-- whether it is the chunk of this entry at this index
abbrev pub is_chunk : ℕ → ℕ → CachedChunk → Bool
is_chunk entry index chunk = (entry == chunk.entry) && (index == chunk.index)

-- the bytes of a chunk, if it is cached
abbrev pub bytes_of : ℕ → ℕ → List CachedChunk → Option (List ℕ)
bytes_of entry index [] = None
bytes_of entry index (chunk ∷ chunks) =
    if is_chunk entry index chunk then Some chunk.bytes else bytes_of entry index chunks

-- all other chunks, in the same order
abbrev pub others : ℕ → ℕ → List CachedChunk → List CachedChunk
others entry index chunks = filter (λ chunk. not (is_chunk entry index chunk)) chunks

-- the chunk with these bytes, then the others
abbrev pub first_with : ℕ → ℕ → List ℕ → List CachedChunk → List CachedChunk
first_with entry index bytes chunks = cached entry index bytes ∷ others entry index chunks

-- after a look: the chunk, if it is cached, then the others
abbrev pub looked_at : ℕ → ℕ → List CachedChunk → List CachedChunk
looked_at entry index chunks =
    option_map_or (λ bytes. first_with entry index bytes chunks) (bytes_of entry index chunks) chunks

-- after it is kept: the chunk with these bytes, then as many of the others as there is room for
abbrev pub with_chunk : ℕ → ℕ → List ℕ → List CachedChunk → List CachedChunk
with_chunk entry index bytes chunks = take CACHED (first_with entry index bytes chunks)

-- the bytes of the least recent chunk, if the cache is full
abbrev pub last_of_full : List CachedChunk → Option (List ℕ)
last_of_full chunks = option_map (λ chunk. chunk.bytes) (slice_get chunks (CACHED - 1))

-- after that chunk is evicted: all other chunks, in the same order
abbrev pub with_room : List CachedChunk → List CachedChunk
with_room chunks = take (CACHED - 1) chunks

-- after an entry is forgotten: the chunks of other entries, in the same order
abbrev pub without_entry : ℕ → List CachedChunk → List CachedChunk
without_entry entry chunks = filter (λ chunk. not (entry == chunk.entry)) chunks

-- the chunk is the most recent
abbrev pub StandsFirst : ℕ → ℕ → List CachedChunk → Type 0
StandsFirst entry index chunks = IsSomeAnd (slice_get chunks 0) (λ chunk. (chunk.entry ≡ entry) × (chunk.index ≡ index))

-- what is true of every cache: it holds at most `CACHED` chunks, and none twice
pub record IsCache (chunks : List CachedChunk) : Type 0 where
  pub few : length chunks ≤ CACHED
  pub distinct : IsDistinct (λ chunk. is_chunk chunk.entry chunk.index) chunks
