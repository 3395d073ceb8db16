-- Parts that are read one after the other, and the chunks that are held.
use Rattle.std.proofs.Common.{Bool, true, ◌≡◌, ◌∙◌, ℕ, ◌+◌, ◌-◌, ◌/◌, ◌%◌, ◌<◌, ◌≤◌, List, [], ◌∷◌, length, length-drop, min, drop, Option, None, Some, Result, Ok, Err, refl, sym, ap, subst, arith}
use Rattle.std.specs.Prelude.{IfOk, IsSome, option_and_then, ◌&&◌, ◌==◌}
use Rattle.std.proofs.lemmas.Bool.{cond_both, eq-eqb}
use Rattle.std.proofs.lemmas.List.{length-take}
use Rattle.cache_base.specs.declared.limits.TheConstants.{SLOTS}
use Rattle.cache_theory.specs.Command.Command.{ReadPart}
use Rattle.cache_theory.specs.Machine.{Machine, object_of}
use Rattle.chunk_cache.specs.Cached.{CachedChunk, StandsFirst, bytes_of}
use Rattle.disk_theory.specs.State.{State, standing}
use Rattle.file_handles.specs.Cache.{cache_at}
use Rattle.handle_table.specs.Held.{body_len_in}
use Rattle.handle_table.specs.Kept.{Kept, object_at, object_in, use_at, used}
use Rattle.file_handles.specs.Reading.{HasReadOrNot, HoldsAsBefore, IsOfChunk, IsOfNone, IsPartHeld, LosesNone, SameButChunks, part_of_body}
use Rattle.handle_table.specs.Standing.{HandlesStand}
use Rattle.file_handles.specs.Stands.{Represents, Stands}
use Rattle.file_handles.specs.declared.fault.HandleFault.{HandleFault}
use Rattle.handle_table.specs.declared.object.Object.{Object}
use Rattle.handle_table.specs.declared.object.Use.{Use}
use Rattle.file_handles.proofs.Reading.PartsSlots.{part_len}
use Rattle.file_handles.proofs.Reading.ReadKept.{read_represents, read_stands}
use Rattle.cache_replies.specs.Answers.{outcome_in}
use Rattle.cache_store.specs.Reads.{AreHeld, LastIsFirst}
use Rattle.cache_replies.specs.declared.answered.Answered.{Answered}
use Rattle.cache_replies.specs.declared.verdict.Verdict.{Verdict}
use Rattle.cache_replies.specs.declared.verdict.Verdict.TheVariants as outcome
use Rattle.cache_store.specs.declared.fault.StoreFault.{StoreFault}

-- ---- handles that hold other chunks

pub same_then : (k j l : Kept) → SameButChunks k j → SameButChunks j l → SameButChunks k l
same_then k j l first then = then ∙ ap (λ (i : Kept). record i { chunks = l.chunks }) first

pub holds_then : (s t : State) (k j l : Kept) → t ≡ s → SameButChunks k j → HoldsAsBefore (cache_at k s) j → HoldsAsBefore (cache_at j t) l → HoldsAsBefore (cache_at k s) l
holds_then s t k j l same but first then m number stands =
    then m number (subst (λ (u : State). Stands (standing u) j m number) (sym same) (read_stands s k j but first m number stands))

pub holds_own : (s : State) (k : Kept) → HoldsAsBefore (cache_at k s) k
holds_own s k m number stands = stands.handles.chunks

-- they represent the same machine
pub goes_on : (s t : State) (k j : Kept) → t ≡ s → SameButChunks k j → HoldsAsBefore (cache_at k s) j → (m : Machine) → Represents (cache_at k s) m → Represents (cache_at j t) m
goes_on s t k j same but holds m is = subst (λ (u : State). Represents (cache_at j u) m) (sym same) (read_represents s k j but holds m is)

-- ---- what is held goes on to be

-- a part of bytes that are held
pub part_held : (k : Kept) (slot from len done : ℕ) → AreHeld k slot from len → done < len → IsPartHeld k slot (from + done) (len - done)
part_held k slot from len done held lt x number index own of_chunk =
    held (from + done) (omega arith) (omega (arith, lt)) x number index own (record {
      some = omega arith;
      stored = of_chunk.stored;
      numbered = of_chunk.numbered;
      index_is = of_chunk.index_is;
    })

-- fewer bytes
pub fewer_held : (k : Kept) (slot from len n at : ℕ) → at ≡ from → n ≤ len → AreHeld k slot from len → AreHeld k slot at n
fewer_held k slot from len n at same le held i past before = held i (omega (arith, past, same)) (omega (arith, before, same, le))

-- by handles that lost none
pub held_on : (k j : Kept) (slot from len : ℕ) → SameButChunks k j → LosesNone k j → IsPartHeld k slot from len → IsPartHeld j slot from len
held_on k j slot from len same none held x number index own of_chunk =
    none number index (held x number index (sym (ap (λ (i : Kept). object_in i slot) same) ∙ own) of_chunk)

-- the first part of bytes that are held
pub held_first : (k : Kept) (slot from len : ℕ) → AreHeld k slot from len → IsPartHeld k slot from len
held_first k slot from len held x number index own of_chunk =
    let some = of_chunk.some in
    held from (omega arith) (omega (arith, some)) x number index own (record { some = omega arith; stored = of_chunk.stored; numbered = of_chunk.numbered; index_is = of_chunk.index_is })

-- the most recent chunk is held
first_some : (number index : ℕ) (chunks : List CachedChunk) → StandsFirst number index chunks → IsSome (bytes_of number index chunks)
first_some number index [] stands = absurd stands
first_some number index (chunk ∷ chunks) stands =
    let own_entry : (number == chunk.entry) ≡ true = eq-eqb number chunk.entry (sym stands.0) in
    let own_index : (index == chunk.index) ≡ true = eq-eqb index chunk.index (sym stands.1) in
    cond_both ((number == chunk.entry) && (index == chunk.index)) (Some chunk.bytes) (bytes_of number index chunks) IsSome (λ is. refl)
    (λ other. absurd (let own : ((number == chunk.entry) && (index == chunk.index)) ≡ true = ap (λ (a : Bool). a && (index == chunk.index)) own_entry ∙ own_index in cc))

-- and so is the chunk that was read
pub read_is_held : {T : Type 0} {tells : Type 0} (r : Result T HandleFault) (x : T) → r ≡ Ok x → (k j : Kept) (s : State) (slot from len : ℕ) → HasReadOrNot tells slot from len r (cache_at k s) j
    → IsPartHeld j slot from len
read_is_held (Err f) x is k j s slot from len has = absurd (cc)
read_is_held (Ok y) x is k j s slot from len has = λ object number index own of_chunk.
    first_some number index j.chunks (has.has_read.first object number index (sym (ap (λ (i : Kept). object_in i slot) has.has_read.same) ∙ own) of_chunk)

-- all of them, by handles that lost none
pub held_after : (k j : Kept) (slot from len : ℕ) → SameButChunks k j → LosesNone k j → AreHeld k slot from len → AreHeld j slot from len
held_after k j slot from len same none held at past before = held_on k j slot at 1 same none (held at past before)

-- ---- the chunk of the last byte

-- of the same object
pub recent_along : (k j l : Kept) (slot from len : ℕ) → SameButChunks k j → LastIsFirst j slot from len l → LastIsFirst k slot from len l
recent_along k j l slot from len same recent x at number index own past last of_chunk =
    recent x at number index (ap (λ (i : Kept). object_in i slot) same ∙ own) past last of_chunk

-- how long the body is
pub len_of : (k : Kept) (m : Machine) (number : ℕ → ℕ) → HandlesStand k m number → (slot : ℕ) → slot < SLOTS → (x : Object) → object_in k slot ≡ Some x → body_len_in x.entry ≡ length (object_of m slot).version.body
len_of k m number stand slot small x own = go (use_at k slot) refl
  where
    go : (u : Option Use) → use_at k slot ≡ u → body_len_in x.entry ≡ length (object_of m slot).version.body
    go None is = absurd (let never : None ≡ Some x = sym (ap (option_and_then (λ u. object_at k u.place)) is) ∙ own in cc)
    go (Some u) is = part_len k slot small m number stand u x (ap used is) (sym (ap (option_and_then (λ u. object_at k u.place)) is) ∙ own)

module _ (k j : Kept) (slot from len done : ℕ) (same : SameButChunks k j) (body : List ℕ) (long : (x : Object) → object_in k slot ≡ Some x → body_len_in x.entry ≡ length body) where
  abbrev pub part : List ℕ
  part = part_of_body body (from + done) (len - done)

  part_ends : length part ≡ min (min (len - done) (262144 - (from + done) % 262144)) (length body - (from + done))
  part_ends =
      let n : ℕ = min (len - done) (262144 - (from + done) % 262144) in
      let taken = length-take n (drop (from + done) body) in
      let rest = length-drop (from + done) body in
      omega (arith, taken, rest)

  -- of the bytes with the next part, where it has any
  pub recent_more : (l : Kept) (n : ℕ) → n ≡ length part → 0 < n → done < len
      → ((x : Object) (number index : ℕ) → object_in j slot ≡ Some x → IsOfChunk x (from + done) (len - done) number index → StandsFirst number index l.chunks)
      → LastIsFirst k slot from (done + n) l
  recent_more l n is some lt first x at number index own past last of_chunk =
      let e = long x own in
      let ends = part_ends in
      let at_is : at + 1 ≡ from + done + n = omega (arith, last, e, is, ends, some) in
      let stored = of_chunk.stored in
      first x number index (ap (λ (i : Kept). object_in i slot) same ∙ own) (record {
        some = omega (arith, lt);
        stored = omega (arith, stored, at_is, some);
        numbered = of_chunk.numbered;
        index_is = of_chunk.index_is ∙ (let i : at / 262144 ≡ (from + done) / 262144 = omega (arith, at_is, is, ends, some) in i);
      })

  -- an empty part is of no chunk
  pub none_past : 0 ≡ length part → done < len → IsOfNone j slot (from + done) (len - done)
  none_past none lt x number index own of_chunk =
      let e = long x (sym (ap (λ (i : Kept). object_in i slot) same) ∙ own) in
      let ends = part_ends in
      let stored = of_chunk.stored in
      omega (arith, stored, e, none, ends, lt)

  -- and of all, where there is no further part
  pub recent_all : 0 ≡ length part → done < len → LastIsFirst k slot from done j → LastIsFirst k slot from len j
  recent_all none lt recent x at number index own past last of_chunk =
      let e = long x own in
      let ends = part_ends in
      recent x at number index own past (omega (arith, last, e, none, ends, lt)) of_chunk

-- before anything is read there is no last byte
pub recent_none : (k j : Kept) (slot from : ℕ) → LastIsFirst k slot from 0 j
recent_none k j slot from x at number index own past last of_chunk = absurd (omega (arith, past, last))

-- as many bytes as the body has are as good
pub recent_count : (k j : Kept) (slot from len count at : ℕ) → at ≡ from → (len_is : (x : Object) → object_in k slot ≡ Some x → count ≡ min len (body_len_in x.entry - at)) → LastIsFirst k slot at count j → LastIsFirst k slot from len j
recent_count k j slot from len count start same len_is recent x at number index own past last of_chunk =
    let is = len_is x own in
    recent x at number index own (omega (arith, past, same)) (omega (arith, last, is, same, past)) of_chunk

-- ---- a read by its command

pub same_read : (s f l slot from len : ℕ) → ReadPart s f l ≡ ReadPart slot from len → (P : ℕ → ℕ → ℕ → Type 0) → P s f l → P slot from len
same_read s f l slot from len same P p =
    let one : s ≡ slot = cc in
    let two : f ≡ from = cc in
    let three : l ≡ len = cc in
    subst (λ x. P x from len) one (subst (λ x. P s x len) two (subst (λ x. P s f x) three p))

-- the outcome of an answer, by that of the command
pub outcome_ok : (r : Result Verdict StoreFault) (a : Answered) → r ≡ Ok outcome.Ok → IfOk r (λ o. o ≡ outcome_in a) → outcome_in a ≡ outcome.Ok
outcome_ok r a ok says =
    let at : IfOk {E = StoreFault} (Ok outcome.Ok) (λ o. o ≡ outcome_in a) = subst (λ (r : Result Verdict StoreFault). IfOk r (λ o. o ≡ outcome_in a)) ok says in
    sym at
