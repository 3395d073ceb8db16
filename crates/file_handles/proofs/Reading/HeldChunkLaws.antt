-- The chunks that are held stay those of objects in use.
use Rattle.std.proofs.Common.{◌≡◌, ℕ, ◌*◌, ◌/◌, List, length, length-append, false, cond, Some, refl, sym, ap, subst, ◌∙◌, arith}
use Rattle.std.specs.List.{All}
use Rattle.std.proofs.lemmas.List.Elements.{All-weaker}
use Rattle.cache_theory.specs.Machine.{Machine, Object as MachineObject, object as object_of_number}
use Rattle.cache_base.specs.Limits.{chunks}
use Rattle.chunk_cache.specs.Cached.{CachedChunk}
use Rattle.chunk_store.specs.Chunks.{chunk}
use Rattle.entry_file.proofs.Bodies.{part_in_front}
use Rattle.file_handles.specs.Changes.{appended}
use Rattle.handle_table.specs.HeldChunks.{ChunksStand, IsChunkInUse, KeepsChunks, chunks_on_disk}
use Rattle.handle_table.specs.Kept.{Kept, object_at}
use Rattle.handle_table.specs.declared.object.Object.{Object}
use Rattle.file_handles.proofs.Finishing.Completions.{IsCompletion}

-- an object keeps its own chunks
pub keeps_own : (o next : MachineObject) → next ≡ o → KeepsChunks o next
keeps_own o next same = subst (KeepsChunks o) (sym same) (record { more = omega arith; same = λ i lt. refl })

-- a draft keeps its whole chunks, when it gets bytes more and when it is finished
draft_chunks : (o : MachineObject) → o.finished ≡ false → chunks_on_disk o ≡ length o.version.body / 262144
draft_chunks o draft = ap (λ b. cond b (chunks (length o.version.body)) (length o.version.body / 262144)) draft

pub keeps_appended : (b : List ℕ) (o : MachineObject) → o.finished ≡ false → KeepsChunks o (appended b o)
keeps_appended b o draft =
    let body = o.version.body in
    let before = draft_chunks o draft in
    let after = draft_chunks (appended b o) draft in
    let long = length-append body b in
    record {
      more = omega (arith, before, after, long);
      same = λ i lt. sym (part_in_front 262144 (i * 262144) body b (omega (arith, lt, before)));
    }

pub keeps_completed : (change : MachineObject → MachineObject) → IsCompletion change → (o : MachineObject) → o.finished ≡ false → KeepsChunks o (change o)
keeps_completed change is o draft =
    let before = draft_chunks o draft in
    let after : chunks_on_disk (change o) ≡ chunks (length o.version.body) =
    λ i. cond (is.done o i) (chunks (length (is.body o i))) (length (is.body o i) / 262144) in
    record { more = omega (arith, before, after); same = λ i lt. ap (λ body. chunk body i) (sym (is.body o)) }

module _ (k after : Kept) (m next : Machine) where
  -- a chunk whose object is at a place then
  pub chunk_on : (c : CachedChunk) (q : ℕ) (y : Object) → object_at after q ≡ Some y → y.number ≡ c.entry → KeepsChunks (object_of_number m c.entry) (object_of_number next c.entry)
      → IsChunkInUse k m c → IsChunkInUse after next c
  chunk_on c q y at numbered keeps is = record {
    place = q;
    object = y;
    at_place = at;
    numbered = numbered;
    has = record {
      on_disk = (let lt = is.has.on_disk in let le = keeps.more in omega (arith, lt, le));
      bytes_are = is.has.bytes_are ∙ keeps.same c.index is.has.on_disk;
    };
  }

  -- all of them, where no object left its place and the machine's objects are the same
  pub all_on : (chunks : List CachedChunk) → ((q : ℕ) (y : Object) → object_at k q ≡ Some y → object_at after q ≡ Some y) → ((i : ℕ) → object_of_number next i ≡ object_of_number m i)
      → All (IsChunkInUse k m) chunks → All (IsChunkInUse after next) chunks
  all_on chunks stays same held =
      All-weaker (IsChunkInUse k m) (IsChunkInUse after next)
      (λ c is. chunk_on c is.place is.object (stays is.place is.object is.at_place) is.numbered (keeps_own _ _ (same c.entry)) is)
      chunks held

  -- and so it is of the rest, where no object is made
  pub chunks_on : (number : ℕ → ℕ) → ((q : ℕ) (y : Object) → object_at k q ≡ Some y → object_at after q ≡ Some y) → ((q : ℕ) (y : Object) → object_at after q ≡ Some y → object_at k q ≡ Some y)
      → ((i : ℕ) → object_of_number next i ≡ object_of_number m i) → length next.objects ≡ length m.objects → after.made ≡ k.made → after.chunks ≡ k.chunks
      → ChunksStand k m number → ChunksStand after next number
  chunks_on number stays was same count made chunks stand = record {
    numbered = λ q y at. stand.numbered q y (was q y at);
    made = made ∙ stand.made ∙ sym count;
    held = subst (All (IsChunkInUse after next)) (sym chunks) (all_on k.chunks stays same stand.held);
  }
