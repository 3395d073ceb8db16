-- A list whose beginning lies below and whose rest is held.
use Rattle.std.proofs.Common.{ℕ, Bool, true, false, nat_lt, ◌+◌, ◌-◌, ◌<◌, ◌≤◌, ◌≡◌, ◌∙◌, min, List, [], ◌++◌, length, take, drop, Option, Some, None, arith, refl, sym, ap}
use Rattle.std.proofs.Math.Seq.{take-add, take-append-add, take-append_seam, drop-append-add}
use Rattle.std.proofs.lemmas.List.{append-nil, append_assoc, drop-append-le, drop-take, drop_all, length-append, length-drop, length-take, take-append-le, take-take, take_all}
use Rattle.std.proofs.lemmas.Bool.{ltb-false, ltb-true}
use Rattle.std.proofs.lemmas.Slice.{drop-append-drop}
use Rattle.disk_theory.proofs.Images.{drop-nil}
use Rattle.disk_theory.specs.State.{part_of}
use Rattle.overlay_disk.specs.Seen.{held}

-- the rest from a place on, where that lies in the second list
pub drop_past : (head tail : List ℕ) (from : ℕ) → length head ≤ from → drop from (head ++ tail) ≡ drop (from - length head) tail
drop_past head tail from past =
    let split : from ≡ length head + (from - length head) = omega (arith, past) in
    ap (λ n. drop n (head ++ tail)) split ∙ drop-append-add head tail (from - length head)

-- the second list is written to
pub patched_tail : (head tail bytes : List ℕ) (at from : ℕ) → from ≡ length head + at
    → head ++ (take at tail ++ bytes ++ drop (at + length bytes) tail) ≡ take from (head ++ tail) ++ bytes ++ drop (from + length bytes) (head ++ tail)
patched_tail head tail bytes at from is =
    let before : take from (head ++ tail) ≡ head ++ take at tail = ap (λ n. take n (head ++ tail)) is ∙ take-append-add head tail at in
    let end : from + length bytes ≡ length head + (at + length bytes) = omega (arith, is) in
    let after : drop (from + length bytes) (head ++ tail) ≡ drop (at + length bytes) tail = ap (λ n. drop n (head ++ tail)) end ∙ drop-append-add head tail (at + length bytes) in
    sym (append_assoc head (take at tail ++ bytes) (drop (at + length bytes) tail))
    ∙ ap (λ l. l ++ drop (at + length bytes) tail) (sym (append_assoc head (take at tail) bytes))
    ∙ ap (λ l. l ++ bytes ++ drop (at + length bytes) tail) (sym before)
    ∙ ap (λ l. take from (head ++ tail) ++ bytes ++ l) (sym after)

-- so that it ends after the bytes
pub ended_tail : (head tail bytes : List ℕ) (at from : ℕ) → from ≡ length head + at
    → head ++ (take at tail ++ bytes) ≡ take from (head ++ tail) ++ bytes
ended_tail head tail bytes at from is =
    let before : take from (head ++ tail) ≡ head ++ take at tail = ap (λ n. take n (head ++ tail)) is ∙ take-append-add head tail at in
    sym (append_assoc head (take at tail) bytes) ∙ ap (λ l. l ++ bytes) (sym before)

pub part_held : (from n : ℕ) (file : Option (List ℕ)) → part_of from n file ≡ take n (drop from (held file))
part_held from n (Some content) = refl
part_held from n None =
    let none : take n [] ≡ [] = take_all {A = ℕ} n [] (omega arith) in
    sym (ap (take n) (drop-nil {X = ℕ} from) ∙ none)

-- the beginning, by its length
pub cut_at : (below : List ℕ) (kept start : ℕ) → start ≡ length (take kept below) → take kept below ≡ take start below
cut_at below kept start is =
    let len : length (take kept below) ≡ min kept (length below) = length-take kept below in
    let le : length (take kept below) ≤ start = omega (arith, is) in
    let most : start ≤ kept = omega (arith, is, len) in
    sym (take_all start (take kept below) le) ∙ take-take start kept below most

-- what lies below from a place on was read
pub copied : (below tail part old : List ℕ) (kept from start n : ℕ) → from ≤ start → start ≡ length (take kept below) → length old ≤ n
    → part ≡ take (start - from) (drop from below) → take from below ++ ((part ++ drop n old) ++ tail) ≡ take kept below ++ tail
copied below tail part old kept from start n inside is all read =
    let sum : start ≡ from + (start - from) = omega (arith, inside) in
    let joined : take kept below ≡ take from below ++ part =
    cut_at below kept start is ∙ ap (λ k. take k below) sum ∙ take-add from (start - from) below ∙ ap (λ l. take from below ++ l) (sym read) in
    let none : part ++ drop n old ≡ part = ap (λ l. part ++ l) (drop_all n old all) ∙ append-nil part in
    ap (λ l. take from below ++ (l ++ tail)) none ∙ sym (append_assoc (take from below) part tail) ∙ ap (λ l. l ++ tail) (sym joined)

-- so many bytes lie in the beginning that is kept
pub copied_len : (below : List ℕ) (kept from start : ℕ) → from ≤ start → start ≡ length (take kept below) → length (take from below) ≡ from
copied_len below kept from start inside is =
    let a = length-take kept below in
    let b = length-take from below in
    omega (arith, inside, is, a, b)

-- the first bytes of two lists
pub take_both : (xs ys : List ℕ) (n : ℕ) → take n (xs ++ ys) ≡ take n xs ++ take (n - length xs) ys
take_both xs ys n = go (nat_lt n (length xs)) refl
  where
    go : (b : Bool) → nat_lt n (length xs) ≡ b → take n (xs ++ ys) ≡ take n xs ++ take (n - length xs) ys
    go true is =
        let lt = ltb-true n (length xs) is in
        let le : n ≤ length xs = omega (arith, lt) in
        let none : n - length xs ≡ 0 = omega (arith, lt) in
        take-append-le n xs ys le ∙ sym (append-nil (take n xs)) ∙ ap (λ k. take n xs ++ take k ys) (sym none)
    go false is =
        let le = ltb-false n (length xs) is in
        let sum : n ≡ length xs + (n - length xs) = omega (arith, le) in
        ap (λ k. take k (xs ++ ys)) sum ∙ take-append-add xs ys (n - length xs) ∙ ap (λ l. l ++ take (n - length xs) ys) (sym (take_all n xs le))

-- the first of the first
pub take_twice : (m n : ℕ) (l : List ℕ) → take n (take m l) ≡ take (min m n) l
take_twice m n l = go (nat_lt n m) refl
  where
    go : (b : Bool) → nat_lt n m ≡ b → take n (take m l) ≡ take (min m n) l
    go true is =
        let lt = ltb-true n m is in
        let le : n ≤ m = omega (arith, lt) in
        let least : n ≡ min m n = omega (arith, lt) in
        take-take n m l le ∙ ap (λ k. take k l) least
    go false is =
        let le = ltb-false n m is in
        let len = length-take m l in
        let all : length (take m l) ≤ n = omega (arith, le, len) in
        let least : m ≡ min m n = omega (arith, le) in
        take_all n (take m l) all ∙ ap (λ k. take k l) least

-- what is read: a part of the beginning, and then of the rest
pub read_over : (below tail : List ℕ) (kept from start room : ℕ) → from < start → start ≡ length (take kept below)
    → take room (drop from (take kept below ++ tail)) ≡ take (min (start - from) room) (drop from below) ++ take (room - min (start - from) room) tail
read_over below tail kept from start room inside is =
    let head : take kept below ≡ take (from + (start - from)) below =
    cut_at below kept start is ∙ ap (λ k. take k below) (let sum : start ≡ from + (start - from) = omega (arith, inside) in sum) in
    let le : from ≤ length (take kept below) = omega (arith, inside, is) in
    let front : drop from (take kept below) ≡ take (start - from) (drop from below) = ap (drop from) head ∙ drop-take from (start - from) below in
    let rest : drop from (take kept below ++ tail) ≡ take (start - from) (drop from below) ++ tail =
    drop-append-le from (take kept below) tail le ∙ ap (λ l. l ++ tail) front in
    let a = length-take kept below in
    let b = length-drop {A = ℕ} from below in
    let c = length-take (start - from) (drop from below) in
    let len : length (take (start - from) (drop from below)) ≡ start - from = omega (arith, inside, is, a, b, c) in
    ap (take room) rest ∙ take_both (take (start - from) (drop from below)) tail room
    ∙ ap (λ k. take room (take (start - from) (drop from below)) ++ take (room - k) tail) len
    ∙ ap (λ l. l ++ take (room - (start - from)) tail) (take_twice (start - from) room (drop from below))
    ∙ ap (λ k. take (min (start - from) room) (drop from below) ++ take k tail) (let same : room - (start - from) ≡ room - min (start - from) room = omega arith in same)

-- the buffer after both parts were read into it
pub read_whole : (below tail part old : List ℕ) (kept from start first found last : ℕ) (buf : List ℕ) → from < start → start ≡ length (take kept below)
    → first ≡ min (start - from) (length old) → part ≡ take first (drop from below) → found ≡ length part → first ≤ found
    → last ≡ first + length (take (length old - first) tail)
    → buf ≡ take first ((part ++ drop found (take first old)) ++ drop first old) ++ take (length old - first) tail ++ drop last ((part ++ drop found (take first old)) ++ drop first old)
    → (last ≡ length (take (length old) (drop from (take kept below ++ tail)))) × (buf ≡ take (length old) (drop from (take kept below ++ tail)) ++ drop last old)
read_whole below tail part old kept from start first found last buf inside is least read count all end result =
    let whole : take (length old) (drop from (take kept below ++ tail)) ≡ part ++ take (length old - first) tail =
    read_over below tail kept from start (length old) inside is
    ∙ ap (λ k. take k (drop from below) ++ take (length old - k) tail) (sym least) ∙ ap (λ l. l ++ take (length old - first) tail) (sym read) in
    let a = length-take first (drop from below) in
    let b : length part ≡ length (take first (drop from below)) = ap length read in
    let len : length part ≡ first = omega (arith, a, b, count, all) in
    let c = length-take first old in
    let none : drop found (take first old) ≡ [] = drop_all found (take first old) (omega (arith, c, all)) in
    let mid : (part ++ drop found (take first old)) ++ drop first old ≡ part ++ drop first old =
    ap (λ l. (part ++ l) ++ drop first old) none ∙ ap (λ l. l ++ drop first old) (append-nil part) in
    let front : take first (part ++ drop first old) ≡ part = ap (λ k. take k (part ++ drop first old)) (sym len) ∙ take-append_seam part (drop first old) in
    let past : first ≤ last = omega (arith, end) in
    let back : drop last (part ++ drop first old) ≡ drop last old = drop-append-drop first old part last past len in (
      end ∙ sym (ap length whole ∙ length-append part (take (length old - first) tail) ∙ ap (λ k. k + length (take (length old - first) tail)) len),
      result
          ∙ ap (λ l. take first l ++ take (length old - first) tail ++ drop last l) mid
          ∙ ap (λ l. l ++ take (length old - first) tail ++ drop last (part ++ drop first old)) front
          ∙ ap (λ l. part ++ take (length old - first) tail ++ l) back
          ∙ ap (λ l. l ++ drop last old) (sym whole),
    )

-- a slice that was lent, back in its list
pub lent_back : (new old : List ℕ) (len : ℕ) → length new ≡ len → take len (new ++ drop (length new) old) ≡ new
lent_back new old len is = ap (λ n. take n (new ++ drop (length new) old)) (sym is) ∙ take-append_seam new (drop (length new) old)
