-- What a read gives of a body, and which chunks are held after it.
use Rattle.std.specs.Prelude.{IsSome, List, None, OnErr, OnOk, Option, Result, Some, [], drop, if◌then◌else◌, length, min, nat_le, take, ℕ, ◌%◌, ◌-◌, ◌/◌, ◌<◌, ◌==◌, ◌||◌, ◌≡◌, ◌⊎◌}
use Rattle.cache_base.specs.Limits.{chunk_size}
use Rattle.cache_theory.specs.Machine.{Machine, object_of}
use Rattle.cache_theory.specs.Proper.{IsProper}
use Rattle.chunk_cache.specs.Cached.{StandsFirst, bytes_of}
use Rattle.disk_theory.specs.State.{standing}
use Rattle.file_handles.specs.Answers.{OnRead}
use Rattle.file_handles.specs.Cache.{Cache}
use Rattle.handle_table.specs.Held.{body_len_in, object_place, rest_in}
use Rattle.handle_table.specs.HeldChunks.{ChunksStand, MayLoseLast, PutsFirst}
use Rattle.handle_table.specs.Kept.{Kept, object_in}
use Rattle.handle_table.specs.Standing.{HandlesStand}
use Rattle.file_handles.specs.Stands.{Represents, Stands}
use Rattle.handle_table.specs.declared.object.Entry.{Entry}
use Rattle.file_handles.specs.declared.fault.HandleFault.{HandleFault}
use Rattle.handle_table.specs.declared.object.Object.{Object}
use Rattle.file_handles.specs.declared.read.StoredChunk.{StoredChunk}

-- the bytes of a body from a place on, up to so many or to the end of their chunk
abbrev pub part_of_body : List ℕ → ℕ → ℕ → List ℕ
part_of_body body from len = take (min len (chunk_size - from % chunk_size)) (drop from body)

-- whatever machine is represented, P holds of the body of the slot's object
abbrev pub ForBody : Cache → ℕ → (List ℕ → Type 0) → Type 0
ForBody now slot P = (m : Machine) → Represents now m → P (object_of m slot).version.body

-- the same, whatever machine the handles alone stand for
abbrev pub ForBodyHeld : Kept → ℕ → (List ℕ → Type 0) → Type 0
ForBodyHeld k slot P =
    (m : Machine) (number : ℕ → ℕ) → IsProper m → HandlesStand k m number
    → P (object_of m slot).version.body

-- Which chunk a part is of.

-- so many bytes of the body are on the disk
abbrev pub stored_in : Entry → ℕ
stored_in e = body_len_in e - length (rest_in e)

-- the part has bytes, and they are on the disk: in this chunk of the object
pub record IsOfChunk (x : Object) (from len number index : ℕ) : Type 0 where
  pub some : 0 < len
  pub stored : from < stored_in x.entry
  pub numbered : x.number ≡ number
  pub index_is : index ≡ from / chunk_size

-- so it is of the chunk, in the file of the object
pub record IsStoredChunk (x : Object) (from len : ℕ) (c : StoredChunk) : Type 0 where
  pub of_chunk : IsOfChunk x from len c.number c.index
  pub of_file : c.file ≡ object_place x
  pub of_body : c.stored ≡ stored_in x.entry

-- the chunk of a part, or that it is of none
abbrev pub HasChunkOf : Object → ℕ → ℕ → Option StoredChunk → Type 0
HasChunkOf x from len None = (number index : ℕ) → IsOfChunk x from len number index → ⊥
HasChunkOf x from len (Some c) = IsStoredChunk x from len c

-- a part of what is not on the disk
abbrev pub rest_part : Entry → ℕ → ℕ → List ℕ
rest_part e from len =
    if len == 0 || nat_le (body_len_in e) from then []
    else take len (drop (from % chunk_size) (rest_in e))

-- P holds of the chunk of the slot's object that the part is of, if it is of one
abbrev pub ForChunk : Kept → ℕ → ℕ → ℕ → (ℕ → ℕ → Type 0) → Type 0
ForChunk k slot from len P =
    (x : Object) (number index : ℕ) → object_in k slot ≡ Some x → IsOfChunk x from len number index
    → P number index

-- the part is held, if it is of a chunk at all
abbrev pub IsPartHeld : Kept → ℕ → ℕ → ℕ → Type 0
IsPartHeld k slot from len =
    ForChunk k slot from len (λ number index. IsSome (bytes_of number index k.chunks))

-- it is of no chunk
abbrev pub IsOfNone : Kept → ℕ → ℕ → ℕ → Type 0
IsOfNone k slot from len = ForChunk k slot from len (λ number index. ⊥)

-- The handles after a read.

-- they are the same but for the chunks that they hold
abbrev pub SameButChunks : Kept → Kept → Type 0
SameButChunks before after = after ≡ record before { chunks = after.chunks }

-- every chunk that was held is held
abbrev pub LosesNone : Kept → Kept → Type 0
LosesNone before after =
    (number index : ℕ) → IsSome (bytes_of number index before.chunks)
    → IsSome (bytes_of number index after.chunks)

-- the chunks that are held afterwards are those of the machine's bodies, as those before were
abbrev pub HoldsAsBefore : Cache → Kept → Type 0
HoldsAsBefore before after =
    (m : Machine) (number : ℕ → ℕ) → Stands (standing before.disk) before.handles m number
    → ChunksStand after m number

-- a part of the slot's body was read: with an Ok its chunk is put first, and otherwise it may be, or
-- the least recent chunk of a full cache may be gone; a part of no chunk changes nothing
pub record HasRead {T E : Type 0} (tells : Type 0) (slot from len : ℕ) (answer : Result T E)
    (before : Cache) (after : Kept) : Type 0 where
  pub same : SameButChunks before.handles after
  pub put : OnOk answer (ForChunk before.handles slot from len (λ number index.
      PutsFirst number index before.handles.chunks after.chunks))
  pub either : ForChunk before.handles slot from len (λ number index.
      PutsFirst number index before.handles.chunks after.chunks
      ⊎ MayLoseLast before.handles.chunks after.chunks)
  -- so with an Ok it is the most recent, and where it was held before the read no chunk goes
  pub first : OnOk answer (ForChunk before.handles slot from len (λ number index.
      StandsFirst number index after.chunks))
  pub none_lost : IsPartHeld before.handles slot from len → LosesNone before.handles after
  pub unread : IsOfNone before.handles slot from len → after ≡ before.handles
  pub holds : tells → HoldsAsBefore before after

-- the same, and without an Ok no chunk is put first; where the look at the disk failed nothing
-- changes
pub record HasReadOrNot {T : Type 0} (tells : Type 0) (slot from len : ℕ)
    (answer : Result T HandleFault) (before : Cache) (after : Kept) : Type 0 where
  pub has_read : HasRead tells slot from len answer before after
  pub failed : OnErr answer (MayLoseLast before.handles.chunks after.chunks)
  pub unread : OnRead answer (after ≡ before.handles)
