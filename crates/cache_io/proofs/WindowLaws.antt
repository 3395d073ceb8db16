-- The bytes of a window, after its beginning is cut off, and after a read.
use Rattle.std.proofs.Common.{◌≡◌, ℕ, ◌+◌, ◌-◌, ◌≤◌, List, [], ◌++◌, length, take, drop, slice_range, Option, None, Some, IfSome, sym, ap, subst, ◌∙◌, arith}
use Rattle.std.proofs.Math.Seq.{take-add}
use Rattle.std.proofs.lemmas.List.{append-nil, append_assoc, drop-take, drop-drop, length-append, nil_from_length, take_all, take-append-le}
use Rattle.std.proofs.KnownBytes.{Consumes-nil, Consumes-kept, Consumes-trans}
use Rattle.std.specs.Io.KnownBytes.{Consumes, Keeps, prepend_known}
use Rattle.cache_io.specs.Window.{Grew}

part_of : (xs : List ℕ) (start end : ℕ) → start ≤ end → slice_range xs start end ≡ drop start (take end xs)
part_of xs start end ordered =
    let parts : end ≡ start + (end - start) = omega arith in
    sym (ap (λ j. drop start (take j xs)) parts ∙ drop-take start (end - start) xs)

pub cut_off : (xs : List ℕ) (start end count : ℕ) → start + count ≤ end → slice_range xs (start + count) end ≡ drop count (slice_range xs start end)
cut_off xs start end count inside =
    let parts : end - start ≡ count + (end - (start + count)) = omega arith in
    sym (ap (λ j. drop count (take j (drop start xs))) parts ∙ drop-take count (end - (start + count)) (drop start xs)
    ∙ ap (take (end - (start + count))) (drop-drop count start xs))

-- what is read after them leaves them
pub kept : (xs ys : List ℕ) (start end : ℕ) → start ≤ end → take end ys ≡ take end xs → slice_range ys start end ≡ slice_range xs start end
kept xs ys start end ordered front = part_of ys start end ordered ∙ ap (drop start) front ∙ sym (part_of xs start end ordered)

-- so does more room
pub widened : (xs ys more : List ℕ) (n start end : ℕ) → length xs ≤ n → ys ≡ take n xs ++ more → start ≤ end → end ≤ length xs → slice_range ys start end ≡ slice_range xs start end
widened xs ys more n start end longer same ordered within =
    kept xs ys start end ordered (ap (take end) (same ∙ ap (λ l. l ++ more) (take_all n xs longer)) ∙ take-append-le end xs more within)

longer : (xs ys : List ℕ) (start end n : ℕ) → start ≤ end → take end ys ≡ take end xs → slice_range ys start (end + n) ≡ slice_range xs start end ++ take n (drop end ys)
longer xs ys start end n ordered front =
    let sum : end + n - start ≡ (end - start) + n = omega arith in
    let place : start + (end - start) ≡ end = omega arith in
    ap (λ j. take j (drop start ys)) sum ∙ take-add (end - start) n (drop start ys)
    ∙ ap (λ l. l ++ take n (drop (end - start) (drop start ys))) (kept xs ys start end ordered front)
    ∙ ap (λ l. slice_range xs start end ++ take n l) (drop-drop (end - start) start ys ∙ ap (λ j. drop j ys) place)

-- what was held before, what is held in a room of other bytes, and what the read took
pub grew_more : (old new xs ys : List ℕ) (start end n : ℕ) (left now : Option (List ℕ)) → slice_range xs start end ≡ old → new ≡ ys → start ≤ end → take end ys ≡ take end xs
    → Consumes left now (take n (drop end ys)) → Grew old (slice_range new start (end + n)) left now
grew_more old new xs ys start end n left now was same ordered front read = record {
  piece = take n (drop end ys);
  grown = ap (λ l. slice_range l start (end + n)) same ∙ longer xs ys start end n ordered front ∙ ap (λ l. l ++ take n (drop end ys)) was;
  read = read;
}

pub grew_none : (old new xs ys : List ℕ) (start end : ℕ) (left now : Option (List ℕ)) → slice_range xs start end ≡ old → new ≡ ys → start ≤ end → take end ys ≡ take end xs
    → Keeps left now → Grew old (slice_range new start end) left now
grew_none old new xs ys start end left now was same ordered front keeps = record {
  piece = [];
  grown = ap (λ l. slice_range l start end) same ∙ kept xs ys start end ordered front ∙ was ∙ sym (append-nil old);
  read = Consumes-kept left left now [] (Consumes-nil left) keeps;
}

-- two reads, one after the other
pub grew_on : (a b c : List ℕ) (l m n : Option (List ℕ)) → Grew a b l m → Grew b c m n → Grew a c l n
grew_on a b c l m n first second = record {
  piece = first.piece ++ second.piece;
  grown = second.grown ∙ ap (λ x. x ++ second.piece) first.grown ∙ append_assoc a first.piece second.piece;
  read = Consumes-trans l m n first.piece second.piece first.read second.read;
}

-- a read that took nothing
pub same_grown : (old new : List ℕ) (left now : Option (List ℕ)) → Grew old new left now → length new ≡ length old + 0 → new ≡ old
same_grown old new left now g len =
    g.grown ∙ ap (λ l. old ++ l) (nil_from_length g.piece (omega (arith, len, ap length g.grown, length-append old g.piece))) ∙ append-nil old

-- what holds of the bytes that are held after reads and of what is then left holds of the rest before them
pub of_rest : (P : List ℕ → Type 0) (held new : List ℕ) (left now : Option (List ℕ)) → Grew held new left now → IfSome now (λ rest. P (new ++ rest)) → IfSome (prepend_known held left) P
of_rest P held new left now g h = go left now g.read h
  where
    go : (left now : Option (List ℕ)) → Consumes left now g.piece → IfSome now (λ rest. P (new ++ rest)) → IfSome (prepend_known held left) P
    go None now read h = tt
    go (Some xs) None read h = absurd read
    go (Some xs) (Some ys) read h = subst P (ap (λ l. l ++ ys) g.grown ∙ append_assoc held g.piece ys ∙ ap (λ l. held ++ l) (sym read)) h
