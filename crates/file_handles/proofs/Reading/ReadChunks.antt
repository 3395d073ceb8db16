-- A chunk that is read, and the chunks that are held then.
use Rattle.std.proofs.Common.{◌≡◌, ℕ, ◌%◌, ◌≤◌, ◌<◌, List, length, take, drop, Option, None, Some, IfSome, IsSome, refl, sym, ap, subst, ◌∙◌, arith}
use Rattle.std.specs.List.{All}
use Rattle.std.specs.Prelude.{option_and_then}
use Rattle.cache_base.specs.declared.limits.TheConstants.{SLOTS}
use Rattle.cache_theory.specs.Machine.{Machine, Object as MachineObject, object as object_of_number, object_of}
use Rattle.cache_theory.proofs.CrashImages.Reading.{some_of}
use Rattle.chunk_cache.specs.Cached.{CachedChunk, bytes_of, cached, looked_at}
use Rattle.chunk_cache.proofs.Lookups.{look_leaves}
use Rattle.chunk_cache.proofs.Properties.{All-bytes_of, All-looked_at}
use Rattle.chunk_store.specs.Chunks.{chunk}
use Rattle.disk_theory.specs.State.{State, standing}
use Rattle.file_handles.specs.Changes.{IsFiledAs}
use Rattle.handle_table.specs.Held.{object_place}
use Rattle.handle_table.specs.HeldChunks.{ChunksStand, HasChunk, IsChunkInUse}
use Rattle.handle_table.specs.Kept.{Kept, object_at, object_in, use_at}
use Rattle.file_handles.specs.Reading.{ForChunk, HasChunkOf, IsOfChunk, IsPartHeld, IsStoredChunk, LosesNone, SameButChunks, part_of_body, rest_part}
use Rattle.handle_table.specs.Standing.{HandlesStand}
use Rattle.file_handles.specs.Stands.{Stands}
use Rattle.handle_table.specs.declared.object.Object.{Object}
use Rattle.handle_table.specs.declared.object.Use.{Use}
use Rattle.file_handles.specs.declared.read.StoredChunk.{StoredChunk}
use Rattle.file_handles.proofs.Reading.HeldChunkLaws.{all_on}
use Rattle.file_handles.proofs.Setting.ElementSlots.{slot_number}
use Rattle.file_handles.proofs.Reading.Parts.{chunk_part, rest_is_part, stored_chunk, stored_is, stored_long, stored_of, stored_on_disk}
use Rattle.file_handles.proofs.Places.{is_filed}

-- so the bytes are those of a chunk, in a file that has so many bytes of the body
abbrev pub IsReadFrom : StoredChunk → List ℕ → Option (List ℕ) → Type 0
IsReadFrom c bytes file = IfSome file (λ f. c.stored ≤ length f → bytes ≡ chunk (take c.stored f) c.index)

-- then the object has them there
pub read_has_chunk : (x : Object) (o : MachineObject) (s : State) → IsFiledAs x o s → (from len : ℕ) (c : StoredChunk) → IsStoredChunk x from len c → (bytes : List ℕ) → IsReadFrom c bytes (standing s c.file)
    → HasChunk o c.index bytes
read_has_chunk x o s filed from len c is bytes read =
    let entry = filed.as_held.held_entry in
    let same : c.stored ≡ stored_of x.entry o = is.of_body ∙ stored_is x.entry o entry in
    let before : from < stored_of x.entry o = (let lt = is.of_chunk.stored in let e = stored_is x.entry o entry in omega (arith, lt, e)) in
    let there = some_of (standing s (object_place x)) filed.file in
    let stands : standing s c.file ≡ Some there.0 = ap (standing s) is.of_file ∙ there.1.0 in
    let long = stored_long x.entry o entry there.0 there.1.1 in
    record {
      on_disk = (let lt = stored_on_disk x.entry o entry from before in let e = is.of_chunk.index_is in omega (arith, lt, e));
      bytes_are =
          subst (IsReadFrom c bytes) stands read (omega (arith, same, long))
          ∙ (λ i. chunk (take (same i) there.0) (is.of_chunk.index_is i))
          ∙ stored_chunk x.entry o entry there.0 there.1.1 from before
          ∙ ap (chunk o.version.body) (sym is.of_chunk.index_is);
    }

-- these chunks are held instead
abbrev pub with_list : Kept → List CachedChunk → Kept
with_list k chunks = record k { chunks = chunks }

pub list_stands : (k : Kept) (m : Machine) (number : ℕ → ℕ) → ChunksStand k m number → (chunks : List CachedChunk) → All (IsChunkInUse k m) chunks → ChunksStand (with_list k chunks) m number
list_stands k m number stand chunks held = record {
  numbered = stand.numbered;
  made = stand.made;
  held = all_on k (with_list k chunks) m m chunks (λ q y at. at) (λ i. refl) held;
}

module _ (s : State) (k : Kept) (m : Machine) (number : ℕ → ℕ) (stands : Stands (standing s) k m number) where
  -- a chunk that was read of the object at a place
  pub new_in_use : (place : ℕ) (x : Object) → object_at k place ≡ Some x → (from len : ℕ) (c : StoredChunk) → IsStoredChunk x from len c → (bytes : List ℕ) → IsReadFrom c bytes (standing s c.file)
      → IsChunkInUse k m (cached c.number c.index bytes)
  new_in_use place x at from len c is bytes read =
      let own : number place ≡ c.number = stands.handles.chunks.numbered place x at ∙ is.of_chunk.numbered in
      record {
        place = place;
        object = x;
        at_place = at;
        numbered = is.of_chunk.numbered;
        has = subst (λ (i : ℕ). HasChunk (object_of_number m i) c.index bytes) own
            (read_has_chunk x (object_of_number m (number place)) s (is_filed s k m number stands place x at) from len c is bytes read);
      }

-- a look loses no chunk
pub looked_finds : (number index n i : ℕ) (chunks : List CachedChunk) → IsSome (bytes_of n i chunks) → IsSome (bytes_of n i (looked_at number index chunks))
looked_finds number index n i chunks some = subst IsSome (sym (look_leaves number index n i chunks)) some

-- The handles after a look.

pub same_looked : (k mid after : Kept) (chunks : List CachedChunk) → SameButChunks k mid → after ≡ with_list mid chunks → SameButChunks k after
same_looked k mid after chunks same is =
    is ∙ ap (λ j. with_list j chunks) same ∙ ap (with_list k) (sym (ap (λ j. j.chunks) is))

pub looked_stands : (mid after : Kept) (m : Machine) (number : ℕ → ℕ) (n i : ℕ) → after ≡ with_list mid (looked_at n i mid.chunks) → ChunksStand mid m number → ChunksStand after m number
looked_stands mid after m number n i is stand =
    subst (λ j. ChunksStand j m number) (sym is)
    (list_stands mid m number stand (looked_at n i mid.chunks) (All-looked_at (IsChunkInUse mid m) n i mid.chunks stand.held))

pub looked_loses_none : (k mid after : Kept) (n i : ℕ) → LosesNone k mid → after ≡ with_list mid (looked_at n i mid.chunks) → LosesNone k after
looked_loses_none k mid after n i none is number index some =
    subst (λ j. IsSome (bytes_of number index j.chunks)) (sym is) (looked_finds n i number index mid.chunks (none number index some))

-- Whose chunk it is.

-- what there is has what is said of it
pub one_there : {X : Type 0} (o : Option X) (P : X → Type 0) → IsSome o → IfSome o P → (x : X) × ((o ≡ Some x) × P x)
one_there None P some h = absurd (cc)
one_there (Some x) P some h = (x, (refl, h))

one_in_slot : (k : Kept) (slot : ℕ) (x y : Object) → object_in k slot ≡ Some x → object_in k slot ≡ Some y → y ≡ x
one_in_slot k slot x y at also = let both : Some y ≡ Some x = sym also ∙ at in cc

module _ (k : Kept) (slot : ℕ) (u : Use) (used : use_at k slot ≡ Some u) (x : Object) (at : object_at k u.place ≡ Some x) (from len : ℕ) where
  pub in_slot : object_in k slot ≡ Some x
  in_slot = ap (option_and_then (λ u. object_at k u.place)) used ∙ at

  -- a part of a chunk that is held is held
  pub chunk_held : (c : StoredChunk) → IsStoredChunk x from len c → IsPartHeld k slot from len → IsSome (bytes_of c.number c.index k.chunks)
  chunk_held c is held = held x c.number c.index in_slot is.of_chunk

  -- what holds of the chunk that was read
  pub for_chunk : (c : StoredChunk) → IsStoredChunk x from len c → (P : ℕ → ℕ → Type 0) → P c.number c.index → ForChunk k slot from len P
  for_chunk c is P holds y number index own of_chunk =
      let same = one_in_slot k slot x y in_slot own in
      let n : number ≡ c.number = sym of_chunk.numbered ∙ ap (λ (z : Object). z.number) same ∙ is.of_chunk.numbered in
      let i : index ≡ c.index = of_chunk.index_is ∙ sym is.of_chunk.index_is in
      subst (λ (n : ℕ). P n index) (sym n) (subst (λ (i : ℕ). P c.number i) (sym i) holds)

  -- and there is none for a part of no chunk
  pub for_none : HasChunkOf x from len None → (P : ℕ → ℕ → Type 0) → ForChunk k slot from len P
  for_none none P y number index own of_chunk = absurd (none number index (subst (λ (z : Object). IsOfChunk z from len number index) (one_in_slot k slot x y in_slot own) of_chunk))

  module _ (m : Machine) (number : ℕ → ℕ) (stand : HandlesStand k m number) (small : slot < SLOTS) where
    whose : object_of m slot ≡ object_of_number m (number u.place)
    whose = ap (object_of_number m) (slot_number k m number stand slot small u used)

    -- the part of the body, of a chunk that is held by handles of the same numbers
    pub chunk_lent : (c : StoredChunk) → IsStoredChunk x from len c → (mid : Kept) → ChunksStand mid m number → IsSome (bytes_of c.number c.index mid.chunks)
        → (lent : List ℕ) → IfSome (bytes_of c.number c.index mid.chunks) (λ bytes. lent ≡ take len (drop (from % 262144) bytes)) → lent ≡ part_of_body (object_of m slot).version.body from len
    chunk_lent c is mid held some lent says =
        let there = one_there (bytes_of c.number c.index mid.chunks) (λ bytes. lent ≡ take len (drop (from % 262144) bytes)) some says in
        let has = (All-bytes_of (IsChunkInUse mid m) c.number c.index mid.chunks held.held there.0 there.1.0).has in
        let own : number u.place ≡ c.number = stand.chunks.numbered u.place x at ∙ is.of_chunk.numbered in
        let body : List ℕ = (object_of_number m c.number).version.body in
        there.1.1
        ∙ ap (λ bytes. take len (drop (from % 262144) bytes)) (has.bytes_are ∙ ap (chunk body) is.of_chunk.index_is)
        ∙ chunk_part body from len
        ∙ ap (λ (o : MachineObject). part_of_body o.version.body from len) (ap (object_of_number m) (sym own) ∙ sym whose)

    -- or of what is not on the disk
    pub rest_lent : HasChunkOf x from len None → (lent : List ℕ) → lent ≡ rest_part x.entry from len → lent ≡ part_of_body (object_of m slot).version.body from len
    rest_lent none lent is =
        is ∙ rest_is_part x (object_of_number m (number u.place)) (stand.objects u.place x at).as_held.held_entry from len none
        ∙ ap (λ (o : MachineObject). part_of_body o.version.body from len) (sym whose)
