-- The part of a body in a chunk.
use Rattle.std.proofs.Common.{◌≡◌, ◌∙◌, inl, inr, ℕ, ◌+◌, ◌-◌, ◌*◌, ◌/◌, ◌%◌, ◌<◌, ◌≤◌, List, [], length, length-drop, min, take, drop, Bool, true, false, cond, refl, sym, ap, arith}
use Rattle.std.proofs.Common.{◌⊎◌, None, Result, Ok, Err, eqb-true}
use Rattle.std.specs.Prelude.{◌==◌, ◌||◌, OnOk, nat_le}
use Rattle.std.proofs.lemmas.List.{drop-drop, drop-take, drop_all, length-take, length-take-le, take-append-drop, take-take, take_all}
use Rattle.std.proofs.lemmas.Bool.{cases_Bool, eqb-false, leb-false, leb-true}
use Rattle.std.proofs.Common.{leb}
use Rattle.cache_theory.specs.Machine.{Object as MachineObject}
use Rattle.cache_theory.specs.Stands.{IsObjectFile}
use Rattle.chunk_store.specs.Chunks.{chunk}
use Rattle.chunk_store.specs.Stored.{whole_len}
use Rattle.entry_file.specs.Held.{held}
use Rattle.cache_base.specs.Limits.{chunks}
use Rattle.entry_file.proofs.EntryLaws.{file_begins}
use Rattle.entry_file.proofs.Bodies.{part_in_front, rest_long, unfinished_front, unfinished_long}
use Rattle.file_handles.proofs.Setting.ElementEntries.{body_len_is}
use Rattle.handle_table.specs.Held.{IsEntryOf, body_len_in, rest_in}
use Rattle.handle_table.specs.HeldChunks.{chunks_on_disk}
use Rattle.file_handles.specs.Reading.{HasChunkOf, part_of_body, rest_part, stored_in}
use Rattle.handle_table.specs.declared.object.Entry.{Entry}
use Rattle.handle_table.specs.declared.object.Entry.TheVariants as entry
use Rattle.handle_table.specs.declared.object.Object.{Object}

le_or : (m n : ℕ) → (m ≤ n) ⊎ (n < m)
le_or m n = elim (cases_Bool (leb m n)) [ inl le ↦ inl (leb-true m n le) | inr past ↦ inr (leb-false m n past) ]

-- what is short is taken whole
short_take : (len m : ℕ) (z : List ℕ) → length z ≤ m → take len z ≡ take (min len m) z
short_take len m z short = elim (le_or len m) [
  | inl le ↦ ap (λ n. take n z) (let e : len ≡ min len m = omega arith in e)
  | inr past ↦ take_all len z (omega (arith, short, past)) ∙ sym (take_all (min len m) z (omega (arith, short, past)))
]

-- a part of a part
take_twice : (len m : ℕ) (z : List ℕ) → take len (take m z) ≡ take (min len m) z
take_twice len m z = elim (le_or len m) [
  | inl le ↦ take-take len m z le ∙ ap (λ n. take n z) (let e : len ≡ min len m = omega arith in e)
  | inr past ↦
      let long = length-take m z in
      take_all len (take m z) (omega (arith, long, past)) ∙ ap (λ n. take n z) (let e : m ≡ min len m = omega (arith, past) in e)
]

module _ (size len from base r : ℕ) (at : from ≡ base + r) where
  -- in the last piece of a list
  in_rest : (xs : List ℕ) → length xs ≤ base + size → take len (drop r (drop base xs)) ≡ take (min len (size - r)) (drop from xs)
  in_rest xs short =
      let long = length-drop from xs in
      ap (take len) (drop-drop r base xs ∙ ap (λ n. drop n xs) (sym at)) ∙ short_take len (size - r) (drop from xs) (omega (arith, long, short, at))

  -- in a piece of a size
  in_piece : (xs : List ℕ) → r ≤ size → take len (drop r (take size (drop base xs))) ≡ take (min len (size - r)) (drop from xs)
  in_piece xs within =
      ap (λ n. take len (drop r (take n (drop base xs)))) (let e : size ≡ r + (size - r) = omega (arith, within) in e)
      ∙ ap (take len) (drop-take r (size - r) (drop base xs))
      ∙ take_twice len (size - r) (drop r (drop base xs))
      ∙ ap (take (min len (size - r))) (drop-drop r base xs ∙ ap (λ n. drop n xs) (sym at))

-- there is none where none is asked for, or after the end
pub no_part : (body : List ℕ) (from len : ℕ) → (len ≡ 0) ⊎ (length body ≤ from) → [] ≡ part_of_body body from len
no_part body from len none = elim none [
  | inl zero ↦ ap (λ n. take n (drop from body)) (let e : 0 ≡ min len (262144 - from % 262144) = omega (arith, zero) in e)
  | inr past ↦ sym (ap (take (min len (262144 - from % 262144))) (drop_all from body past) ∙ take_all (min len (262144 - from % 262144)) [] (omega arith))
]

-- so much of the body is on the disk
abbrev pub stored_of : Entry → MachineObject → ℕ
stored_of e o = length o.version.body - length (rest_in e)

-- after that it is held
pub held_part : (e : Entry) (o : MachineObject) → IsEntryOf e o → (from len : ℕ) → from < length o.version.body → stored_of e o ≤ from
    → take len (drop (from % 262144) (rest_in e)) ≡ part_of_body o.version.body from len
held_part (entry.Draft d) o is from len within past =
    let body : List ℕ = o.version.body in
    let long = rest_long (held d.body) body is.1.body in
    ap (λ r. take len (drop (from % 262144) r)) is.1.body.rest
    ∙ in_rest 262144 len from (whole_len body) (from % 262144) (omega (arith, long, within, past)) body (omega arith)
held_part (entry.Finished meta) o is from len within past = absurd (omega (arith, within, past))

-- and else it is in a chunk on the disk, which is that of the body
pub stored_chunk : (e : Entry) (o : MachineObject) → IsEntryOf e o → (c : List ℕ) → IsObjectFile o c → (from : ℕ) → from < stored_of e o
    → chunk (take (stored_of e o) c) (from / 262144) ≡ chunk o.version.body (from / 262144)
stored_chunk (entry.Draft d) o is c file_is from before =
    let body : List ℕ = o.version.body in
    let long = rest_long (held d.body) body is.1.body in
    let whole : stored_of (entry.Draft d) o ≡ whole_len body = omega (arith, long) in
    let front : List ℕ = take (whole_len body) body in
    let front_long = length-take-le (whole_len body) body (omega arith) in
    let file : take (stored_of (entry.Draft d) o) c ≡ front =
    (λ i. take (whole i) (file_is.unfinished is.0 i)) ∙ unfinished_front body in
    ap (λ c. chunk c (from / 262144)) file
    ∙ sym (part_in_front 262144 (from / 262144 * 262144) front (drop (whole_len body) body) (omega (arith, before, whole, front_long)))
    ∙ ap (λ c. chunk c (from / 262144)) (take-append-drop (whole_len body) body)
stored_chunk (entry.Finished meta) o is c file_is from before =
    let body : List ℕ = o.version.body in
    let all : stored_of (entry.Finished meta) o ≡ length body = omega arith in
    ap (λ d. chunk d (from / 262144)) (ap (λ n. take n c) all ∙ (file_begins o.version c (file_is.finished is.0)).1)

pub stored_on_disk : (e : Entry) (o : MachineObject) → IsEntryOf e o → (from : ℕ) → from < stored_of e o → from / 262144 < chunks_on_disk o
stored_on_disk (entry.Draft d) o is from before =
    let long = rest_long (held d.body) o.version.body is.1.body in
    let count : chunks_on_disk o ≡ length o.version.body / 262144 = ap (λ b. cond b (chunks (length o.version.body)) (length o.version.body / 262144)) is.0 in
    omega (arith, long, before, count)
stored_on_disk (entry.Finished meta) o is from before =
    let count : chunks_on_disk o ≡ chunks (length o.version.body) = ap (λ b. cond b (chunks (length o.version.body)) (length o.version.body / 262144)) is.0 in
    omega (arith, before, count)

-- a part of a chunk of the body
pub chunk_part : (body : List ℕ) (from len : ℕ) → take len (drop (from % 262144) (chunk body (from / 262144))) ≡ part_of_body body from len
chunk_part body from len = in_piece 262144 len from (from / 262144 * 262144) (from % 262144) (omega arith) body (omega arith)

pub stored_long : (e : Entry) (o : MachineObject) → IsEntryOf e o → (c : List ℕ) → IsObjectFile o c → stored_of e o ≤ length c
stored_long (entry.Draft d) o is c file_is =
    let body : List ℕ = o.version.body in
    let long = rest_long (held d.body) body is.1.body in
    let file = ap length (file_is.unfinished is.0) in
    let front = unfinished_long body in
    omega (arith, long, file, front)
stored_long (entry.Finished meta) o is c file_is =
    let long = (file_begins o.version c (file_is.finished is.0)).0 in
    omega (arith, long)

-- what of the body is on the disk, by what is held
pub stored_is : (e : Entry) (o : MachineObject) → IsEntryOf e o → stored_in e ≡ stored_of e o
stored_is e o is = ap (λ n. n - length (rest_in e)) (body_len_is e o is)

-- a part that is of no chunk on the disk
pub rest_is_part : (x : Object) (o : MachineObject) → IsEntryOf x.entry o → (from len : ℕ) → HasChunkOf x from len None → rest_part x.entry from len ≡ part_of_body o.version.body from len
rest_is_part x o is from len none = go (len == 0) (nat_le (body_len_in x.entry) from) refl refl
  where
    e : Entry
    e = x.entry

    end : body_len_in e ≡ length o.version.body
    end = body_len_is e o is

    past_stored : 0 < len → stored_in e ≤ from
    past_stored some = elim (le_or (stored_in e) from) [
      | inl le ↦ le
      | inr before ↦ absurd (none x.number (from / 262144) (record { some = some; stored = before; numbered = refl; index_is = refl }))
    ]

    go : (zero past : Bool) → (len == 0) ≡ zero → nat_le (body_len_in e) from ≡ past → cond (zero || past) [] (take len (drop (from % 262144) (rest_in e))) ≡ part_of_body o.version.body from len
    go true past z p = no_part o.version.body from len (inl (eqb-true len 0 z))
    go false true z p = no_part o.version.body from len (inr (let le = leb-true (body_len_in e) from p in omega (arith, le, end)))
    go false false z p =
        let before = leb-false (body_len_in e) from p in
        let some = eqb-false len 0 z in
        let stored = past_stored (omega (arith, some)) in
        let same = stored_is e o is in
        held_part e o is from len (omega (arith, before, end)) (omega (arith, stored, same))

-- what holds of an Ok
pub on_ok : {T E : Type 0} (r : Result T E) (P Q : Type 0) → (P → Q) → OnOk r P → OnOk r Q
on_ok (Ok x) P Q f h = f h
on_ok (Err e) P Q f h = tt
