-- What follows from the definitions of a cache. Each is said of every list of chunks, or of one that a cache can hold.
use Rattle.std.specs.Option.{IsSome}
use Rattle.std.specs.Prelude.{Contains, List, None, Some, [], if◌then◌else◌, length, ℕ, ◌<◌, ◌==◌, ◌∷◌, ◌≡◌, ◌≢◌, ◌⊎◌, ◌↔◌}
use Rattle.cache_base.specs.declared.limits.TheConstants.{CACHED}
use Rattle.chunk_cache.specs.Cached.{CachedChunk, IsCache, StandsFirst, bytes_of, cached, first_with, looked_at, with_chunk, with_room, without_entry}

-- ---- what a look finds

-- the bytes of a chunk are found exactly where it stands with them
abbrev pub FoundExactly : Type 0
FoundExactly = (entry index : ℕ) (bytes : List ℕ) (chunks : List CachedChunk) → IsCache chunks
    → (bytes_of entry index chunks ≡ Some bytes) ↔ Contains chunks (cached entry index bytes)

-- ---- a look

-- each chunk has the bytes that it had, or is still not cached
abbrev pub LookLeavesBytes : Type 0
LookLeavesBytes = (entry index e i : ℕ) (chunks : List CachedChunk)
    → bytes_of e i (looked_at entry index chunks) ≡ bytes_of e i chunks

-- a chunk that is cached stands first
abbrev pub LookPutsFirst : Type 0
LookPutsFirst = (entry index : ℕ) (chunks : List CachedChunk) → IsSome (bytes_of entry index chunks)
    → StandsFirst entry index (looked_at entry index chunks)

-- no chunk is new
abbrev pub LookAddsNone : Type 0
LookAddsNone = (entry index : ℕ) (chunks : List CachedChunk) (chunk : CachedChunk)
    → Contains (looked_at entry index chunks) chunk → Contains chunks chunk

-- ---- a chunk that is kept

-- it stands first, and has these bytes
abbrev pub KeepPutsFirst : Type 0
KeepPutsFirst = (entry index : ℕ) (bytes : List ℕ) (chunks : List CachedChunk)
    → StandsFirst entry index (with_chunk entry index bytes chunks)
    × (bytes_of entry index (with_chunk entry index bytes chunks) ≡ Some bytes)

-- no other chunk is new
abbrev pub KeepAddsOne : Type 0
KeepAddsOne = (entry index : ℕ) (bytes : List ℕ) (chunks : List CachedChunk) (chunk : CachedChunk)
    → Contains (with_chunk entry index bytes chunks) chunk → (chunk ≡ cached entry index bytes) ⊎ Contains chunks chunk

-- where it was cached its old bytes go, and no other chunk
abbrev pub KeepReplaces : Type 0
KeepReplaces = (entry index : ℕ) (bytes : List ℕ) (chunks : List CachedChunk)
    → IsCache chunks → IsSome (bytes_of entry index chunks)
    → with_chunk entry index bytes chunks ≡ first_with entry index bytes chunks

-- where it was not, the least recent chunk of a full cache goes
abbrev pub KeepEvictsLast : Type 0
KeepEvictsLast = (entry index : ℕ) (bytes : List ℕ) (chunks : List CachedChunk) → bytes_of entry index chunks ≡ None
    → with_chunk entry index bytes chunks ≡ cached entry index bytes ∷ with_room chunks

-- where it was cached or there is room, every other chunk has the bytes that it had
abbrev pub KeepLeavesOthers : Type 0
KeepLeavesOthers = (entry index e i : ℕ) (bytes : List ℕ) (chunks : List CachedChunk) → IsCache chunks
    → IsSome (bytes_of entry index chunks) ⊎ (length chunks < CACHED) → ¬ ((e ≡ entry) × (i ≡ index))
    → bytes_of e i (with_chunk entry index bytes chunks) ≡ bytes_of e i chunks

-- where it was not, it makes no difference that the least recent chunk of a full cache was taken out before
abbrev pub KeepAfterEvict : Type 0
KeepAfterEvict = (entry index : ℕ) (bytes : List ℕ) (chunks : List CachedChunk) → bytes_of entry index chunks ≡ None
    → with_chunk entry index bytes (with_room chunks) ≡ with_chunk entry index bytes chunks

-- ---- an entry that is forgotten

-- its chunks are not cached, and every other chunk has the bytes that it had
abbrev pub ForgetLeavesOthers : Type 0
ForgetLeavesOthers = (entry e i : ℕ) (chunks : List CachedChunk)
    → bytes_of e i (without_entry entry chunks) ≡ (if entry == e then None else bytes_of e i chunks)

-- none of its chunks is left, and no chunk is new
abbrev pub ForgetAddsNone : Type 0
ForgetAddsNone = (entry : ℕ) (chunks : List CachedChunk) (chunk : CachedChunk)
    → Contains (without_entry entry chunks) chunk → (chunk.entry ≢ entry) × Contains chunks chunk

-- ---- every call

-- what is true of every cache stays true
pub record StaysCache : Type 0 where
  pub empty : IsCache []
  pub looked : (entry index : ℕ) (chunks : List CachedChunk) → IsCache chunks
      → IsCache (looked_at entry index chunks)
  pub kept : (entry index : ℕ) (bytes : List ℕ) (chunks : List CachedChunk)
      → IsCache chunks → IsCache (with_chunk entry index bytes chunks)
  pub evicted : (chunks : List CachedChunk) → IsCache chunks → IsCache (with_room chunks)
  pub forgotten : (entry : ℕ) (chunks : List CachedChunk) → IsCache chunks
      → IsCache (without_entry entry chunks)
