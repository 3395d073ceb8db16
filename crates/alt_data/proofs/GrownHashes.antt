-- The chunk hashes of a body that is cut at whole chunks, and of one that grows.
use Rattle.std.proofs.Common.{◌≡◌, ℕ, zero, suc, ◌+◌, ◌-◌, ◌*◌, ◌/◌, ◌<◌, ◌≤◌, List, [], ◌∷◌, ◌++◌, length, take, drop, refl, sym, ap, ◌∙◌, arith, take-append-drop}
use Rattle.std.specs.Prelude.{min, Option, Some, None, Result, Ok, Err, IfSome, OnOk}
use Rattle.std.proofs.Math.Seq.{drop-append-add, take-append-add}
use Rattle.std.proofs.lemmas.Grind.{common_steps}
use Rattle.std.proofs.lemmas.List.{append_assoc, drop-append-le, drop_all, length-append, length-drop, length-take-le, take-append-le, take_all, take_at}
use Rattle.std.proofs.lemmas.List.FromFn.{length-map-range_with_len}
use Rattle.cache_base.specs.Limits.{chunks}
use Rattle.cache_base.specs.declared.items.NoMemory.{NoMemory}
use Rattle.chunk_store.specs.Chunks.{chunk, chunk_hashes}
use Rattle.chunk_store.specs.Stored.{chunk_len}
use Rattle.chunk_store.proofs.EachChunk.{first_chunk}
use Rattle.jenkins_hash.specs.Hash.{hash16_of}
use Rattle.chunk_store.specs.Prefixes.{HasChunks, HasChunksWith}

pub no_chunk : chunk_hashes [] ≡ []
no_chunk = refl

-- any hashes that are one for the first chunk, and those of the rest
module _ (h : List ℕ → List ℕ) (none : h [] ≡ []) (step : (body : List ℕ) → 0 < length body → h body ≡ hash16_of (take 262144 body) ∷ h (drop 262144 body)) where
  empty_is : (xs : List ℕ) → length xs ≡ 0 → xs ≡ []
  empty_is [] e = refl
  empty_is (x ∷ xs) e = absurd (omega (arith, e))

  -- a body that is cut after whole chunks
  cut_whole : (k : ℕ) (front tail : List ℕ) → length front ≡ k * 262144 → h (front ++ tail) ≡ h front ++ h tail
  cut_whole zero front tail e =
      let is : front ≡ [] = empty_is front (omega (arith, e)) in
      ap (λ (xs : List ℕ). h (xs ++ tail)) is ∙ sym (ap (λ (xs : List ℕ). xs ++ h tail) (ap h is ∙ none))
  cut_whole (suc k) front tail e =
      let le : 262144 ≤ length front = omega (arith, e) in
      let long : 0 < length (front ++ tail) = grind (arith, common_steps) in
      let behind : length (drop 262144 front) ≡ k * 262144 = length-drop 262144 front ∙ omega (arith, e) in
      step (front ++ tail) long
      ∙ (λ i. hash16_of (take-append-le 262144 front tail le i) ∷ (ap h (drop-append-le 262144 front tail le) ∙ cut_whole k (drop 262144 front) tail behind) i)
      ∙ sym (ap (λ (xs : List ℕ). xs ++ h tail) (step front (omega (arith, le))))

  -- a body whose first k chunks are whole, and what follows it
  cut_at : (k : ℕ) (body more : List ℕ) → k * 262144 ≤ length body → length (h (take (k * 262144) body)) ≡ k
      → take k (h body) ++ h (drop (k * 262144) body ++ more) ≡ h (body ++ more)
  cut_at k body more inside count =
      let front = take (k * 262144) body in
      let tail = drop (k * 262144) body in
      let whole : length front ≡ k * 262144 = length-take-le (k * 262144) body inside in
      let parts : front ++ tail ≡ body = take-append-drop (k * 262144) body in
      let first : take k (h body) ≡ h front = ap (λ (xs : List ℕ). take k (h xs)) (sym parts) ∙ ap (λ (xs : List ℕ). take k xs) (cut_whole k front tail whole) ∙ take_at (h front) (h tail) k count in
      ap (λ (xs : List ℕ). xs ++ h (tail ++ more)) first
      ∙ sym (cut_whole k front (tail ++ more) whole)
      ∙ ap h (sym (append_assoc front tail more) ∙ ap (λ (xs : List ℕ). xs ++ more) parts)

-- how many hashes whole chunks have
count_whole : (k : ℕ) (front : List ℕ) → length front ≡ k * 262144 → length (chunk_hashes front) ≡ k
count_whole k front e = length-map-range_with_len (λ i. hash16_of (chunk front i)) 0 (chunks (length front)) ∙ omega (arith, e)

pub count_hashes : (body : List ℕ) → length (chunk_hashes body) ≡ chunks (length body)
count_hashes body = length-map-range_with_len (λ i. hash16_of (chunk body i)) 0 (chunks (length body))

-- the hashes of the whole chunks, and those of what follows them
pub grown_at : (k : ℕ) (body more : List ℕ) → k * 262144 ≤ length body → take k (chunk_hashes body) ++ chunk_hashes (drop (k * 262144) body ++ more) ≡ chunk_hashes (body ++ more)
grown_at k body more inside =
    cut_at chunk_hashes no_chunk (first_chunk hash16_of) k body more inside (count_whole k (take (k * 262144) body) (length-take-le (k * 262144) body inside))

-- a prefix that ends past a list, and what stands after it
front_joined : (size : ℕ) (part more : List ℕ) → length part ≤ size → take size (part ++ more) ≡ part ++ take (size - length part) more
front_joined size part more le = ap (λ (n : ℕ). take n (part ++ more)) (omega (arith, le)) ∙ take-append-add part more (size - length part)

back_joined : (size : ℕ) (part more : List ℕ) → length part ≤ size → drop size (part ++ more) ≡ drop (size - length part) more
back_joined size part more le = ap (λ (n : ℕ). drop n (part ++ more)) (omega (arith, le)) ∙ drop-append-add part more (size - length part)

-- a prefix no longer than the list
take_least : (size : ℕ) (xs : List ℕ) → take (min size (length xs)) xs ≡ take size xs
take_least size xs = grind (arith, common_steps)

drop_least : (size : ℕ) (xs : List ℕ) → drop (min size (length xs)) xs ≡ drop size xs
drop_least size xs = grind (arith, common_steps)

-- a part of a chunk, with what is joined to it
pub joined_first : (part more : List ℕ) → 0 < length part → length part < 262144
    → chunk_hashes (part ++ more) ≡ hash16_of (part ++ take (262144 - length part) more) ∷ chunk_hashes (drop (262144 - length part) more)
joined_first part more some short =
    let long : 0 < length (part ++ more) = omega (arith, some, length-append part more) in
    first_chunk hash16_of (part ++ more) long ∙ (λ i. hash16_of (front_joined 262144 part more (omega (arith, short)) i) ∷ chunk_hashes (back_joined 262144 part more (omega (arith, short)) i))

-- the next chunk of a rest, taken off
pub next_hash : (old new rest piece behind all : List ℕ) (n h : ℕ) → 0 < length rest → n ≡ min 262144 (length rest) → piece ≡ take n rest → behind ≡ drop n rest
    → h ≡ hash16_of piece → new ≡ old ++ h ∷ [] → old ++ chunk_hashes rest ≡ all → new ++ chunk_hashes behind ≡ all
next_hash old new rest piece behind all n h some least front back hash pushed before =
    let whole : take n rest ≡ take 262144 rest = ap (λ (m : ℕ). take m rest) least ∙ take_least 262144 rest in
    let others : drop n rest ≡ drop 262144 rest = ap (λ (m : ℕ). drop m rest) least ∙ drop_least 262144 rest in
    let first : h ≡ hash16_of (take 262144 rest) = hash ∙ ap hash16_of (front ∙ whole) in
    ap (λ (xs : List ℕ). xs ++ chunk_hashes behind) pushed
    ∙ append_assoc old (h ∷ []) (chunk_hashes behind)
    ∙ ap (λ (xs : List ℕ). old ++ xs) ((λ i. first i ∷ chunk_hashes ((back ∙ others) i)) ∙ sym (first_chunk hash16_of rest some))
    ∙ before

-- what is known of an answer that was done
pub if_pushed : {P Q : Type 0} → (r : Result Unit NoMemory) → (P → Q) → OnOk r P → OnOk r Q
if_pushed (Ok value) f p = f p
if_pushed (Err fault) f p = tt

-- a part of a chunk is joined with what follows, and the rest is pushed
pub joined_pushed : (old new last part front joined more behind : List ℕ) (n h : ℕ) → 0 < length part → length part < 262144 → n ≡ min (262144 - length part) (length more)
    → front ≡ take n more → behind ≡ drop n more → joined ≡ part ++ front → h ≡ hash16_of joined → new ≡ old ++ h ∷ [] → last ≡ new ++ chunk_hashes behind
    → last ≡ old ++ chunk_hashes (part ++ more)
joined_pushed old new last part front joined more behind n h some short least first rest join hash pushed done =
    let taken : take n more ≡ take (262144 - length part) more = ap (λ (m : ℕ). take m more) least ∙ take_least (262144 - length part) more in
    let left : drop n more ≡ drop (262144 - length part) more = ap (λ (m : ℕ). drop m more) least ∙ drop_least (262144 - length part) more in
    let here : h ≡ hash16_of (part ++ take (262144 - length part) more) = hash ∙ ap hash16_of (join ∙ ap (λ (xs : List ℕ). part ++ xs) (first ∙ taken)) in
    done
    ∙ ap (λ (xs : List ℕ). xs ++ chunk_hashes behind) pushed
    ∙ append_assoc old (h ∷ []) (chunk_hashes behind)
    ∙ ap (λ (xs : List ℕ). old ++ xs) ((λ i. here i ∷ chunk_hashes ((rest ∙ left) i)) ∙ sym (joined_first part more some short))

-- The body that a file begins with, which grows.
module _ (content old more : List ℕ) (offset k : ℕ) (long : offset ≤ length content) (hashed : old ≡ chunk_hashes (take offset content)) (whole : k ≡ offset / 262144) where
  front_long : length (take offset content) ≡ offset
  front_long = length-take-le offset content long

  grown_front : take k old ++ chunk_hashes (drop (k * 262144) (take offset content) ++ more) ≡ chunk_hashes (take offset content ++ more)
  grown_front =
      ap (λ (xs : List ℕ). take k xs ++ chunk_hashes (drop (k * 262144) (take offset content) ++ more)) hashed
      ∙ grown_at k (take offset content) more (omega (arith, front_long, whole))

-- its chunks are whole
pub whole_grown : (file : Option (List ℕ)) (offset k : ℕ) (old more list new : List ℕ) → HasChunks file offset old → k ≡ offset / 262144 → k * 262144 ≡ offset
    → list ≡ take k old → new ≡ list ++ chunk_hashes more → HasChunksWith file offset more new
whole_grown None offset k old more list new front whole exact first done = front
whole_grown (Some content) offset k old more list new front whole exact first done =
    let none : drop (k * 262144) (take offset content) ≡ [] = drop_all (k * 262144) (take offset content) (omega (arith, length-take-le offset content front.0, exact)) in
    let same : new ≡ chunk_hashes (take offset content ++ more) =
    done
    ∙ ap (λ (xs : List ℕ). xs ++ chunk_hashes more) first
    ∙ ap (λ (xs : List ℕ). take k old ++ chunk_hashes (xs ++ more)) (sym none)
    ∙ grown_front content old more offset k front.0 front.1 whole in
    (front.0, same)

-- its last chunk is not, and was read
pub part_grown : (file : Option (List ℕ)) (offset k : ℕ) (old more list part new : List ℕ) → HasChunks file offset old → k ≡ offset / 262144
    → list ≡ take k old → IfSome file (λ content. offset ≤ length content → part ≡ chunk (take offset content) k) → new ≡ list ++ chunk_hashes (part ++ more) → HasChunksWith file offset more new
part_grown None offset k old more list part new front whole first read done = front
part_grown (Some content) offset k old more list part new front whole first read done =
    let rest : chunk (take offset content) k ≡ drop (k * 262144) (take offset content) =
    take_all 262144 (drop (k * 262144) (take offset content)) (omega (arith, length-drop (k * 262144) (take offset content), length-take-le offset content front.0, whole)) in
    let same : new ≡ chunk_hashes (take offset content ++ more) =
    done
    ∙ (λ i. first i ++ chunk_hashes ((read front.0 ∙ rest) i ++ more))
    ∙ grown_front content old more offset k front.0 front.1 whole in
    (front.0, same)

-- and so many hashes they are
pub whole_count : (offset k : ℕ) (old more list new : List ℕ) → length old ≡ chunks offset → k ≡ offset / 262144 → k * 262144 ≡ offset
    → list ≡ take k old → new ≡ list ++ chunk_hashes more → length new ≡ chunks (offset + length more)
whole_count offset k old more list new count whole exact first done =
    let some : length list ≡ k = ap length first ∙ length-take-le k old (omega (arith, count, whole)) in
    let all : length new ≡ length list + length (chunk_hashes more) = ap length done ∙ length-append list (chunk_hashes more) in
    omega (arith, some, all, count_hashes more, exact)

pub part_count : (offset k : ℕ) (old more list part new : List ℕ) → length old ≡ chunks offset → k ≡ offset / 262144 → length part ≡ chunk_len offset k
    → list ≡ take k old → new ≡ list ++ chunk_hashes (part ++ more) → length new ≡ chunks (offset + length more)
part_count offset k old more list part new count whole long first done =
    let some : length list ≡ k = ap length first ∙ length-take-le k old (omega (arith, count, whole)) in
    let all : length new ≡ length list + length (chunk_hashes (part ++ more)) = ap length done ∙ length-append list (chunk_hashes (part ++ more)) in
    omega (arith, some, all, count_hashes (part ++ more), length-append part more, long, whole)
