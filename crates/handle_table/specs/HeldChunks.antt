-- The chunks of bodies that are held in memory.
use Rattle.std.specs.List.{All}
use Rattle.std.specs.Prelude.{IsSome, List, None, Some, if◌then◌else◌, length, ℕ, ◌/◌, ◌<◌, ◌≡◌, ◌≢◌, ◌≤◌, ◌⊎◌}
use Rattle.cache_base.specs.Limits.{chunk_size, chunks}
use Rattle.cache_theory.specs.Machine.{Machine, Object as MachineObject, object as object_of_number}
use Rattle.chunk_cache.specs.Cached.{CachedChunk, bytes_of, looked_at, with_chunk, with_room}
use Rattle.chunk_store.specs.Chunks.{chunk}
use Rattle.handle_table.specs.Kept.{Kept, object_at}
use Rattle.handle_table.specs.declared.object.Object.{Object}

-- how many chunks of an object's body are on the disk: all of a finished one, and the whole ones of a draft
abbrev pub chunks_on_disk : MachineObject → ℕ
chunks_on_disk o =
    if o.finished then chunks (length o.version.body) else length o.version.body / chunk_size

-- the chunk of the object's body is on the disk, and has these bytes
pub record HasChunk (o : MachineObject) (index : ℕ) (bytes : List ℕ) : Type 0 where
  pub on_disk : index < chunks_on_disk o
  pub bytes_are : bytes ≡ chunk o.version.body index

-- it is a chunk of an object in use, with the bytes that the machine's object of its number has there
pub record IsChunkInUse (k : Kept) (m : Machine) (c : CachedChunk) : Type 0 where
  pub place : ℕ
  pub object : Object
  pub at_place : object_at k place ≡ Some object
  pub numbered : object.number ≡ c.entry
  pub has : HasChunk (object_of_number m c.entry) c.index c.bytes

-- the objects have the machine's numbers, which rise with each that is made; and each chunk that is held is one of an
-- object in use
pub record ChunksStand (k : Kept) (m : Machine) (number : ℕ → ℕ) : Type 0 where
  pub numbered : (p : ℕ) (x : Object) → object_at k p ≡ Some x → number p ≡ x.number
  pub made : k.made ≡ length m.objects
  pub held : All (IsChunkInUse k m) k.chunks

-- what of an object's body is on the disk stays so in another one
pub record KeepsChunks (o next : MachineObject) : Type 0 where
  pub more : chunks_on_disk o ≤ chunks_on_disk next
  pub same : (i : ℕ) → i < chunks_on_disk o → chunk o.version.body i ≡ chunk next.version.body i

-- none of the chunks is of the object of this number
abbrev pub HasNoneOf : ℕ → List CachedChunk → Type 0
HasNoneOf number held = All (λ c. c.entry ≢ number) held

-- Which chunks are held after a call.

-- the same, in the same order
abbrev pub SameChunks : Kept → Kept → Type 0
SameChunks before after = after.chunks ≡ before.chunks

-- the chunk comes first: as it was where it was held, and else with these bytes, so that the least
-- recent chunk of a full cache goes
pub record PutsFirst (number index : ℕ) (before after : List CachedChunk) : Type 0 where
  pub held : IsSome (bytes_of number index before) → after ≡ looked_at number index before
  pub bytes : List ℕ
  pub read : bytes_of number index before ≡ None → after ≡ with_chunk number index bytes before

-- no chunk is gone but, perhaps, the least recent one of a full cache
abbrev pub MayLoseLast : List CachedChunk → List CachedChunk → Type 0
MayLoseLast before after = (after ≡ before) ⊎ (after ≡ with_room before)
