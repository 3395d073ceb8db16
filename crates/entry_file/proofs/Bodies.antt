-- Bodies that grow, and their files.
use Rattle.std.proofs.Common.{◌≡◌, ℕ, ◌+◌, ◌-◌, ◌*◌, ◌/◌, ◌<◌, ◌≤◌, List, [], ◌∷◌, ◌++◌, length, length-append, length-drop, append_assoc, take, drop, Option, Bool, true, false, cond, refl, sym, ap, subst, ◌∙◌, arith}
use Rattle.std.specs.Prelude.{◌==◌, map}
use Rattle.std.specs.List.{range_with_len}
use Rattle.std.proofs.lemmas.Bool.{eqb-true, ne_eqb}
use Rattle.std.proofs.lemmas.List.{drop-append-le, drop_all, length-take-le, take-append-le, take-append-drop, take_all, take_at}
use Rattle.std.proofs.lemmas.List.FromFn.{fill_by_all, get_or-map-range_with_len, length-map-range_with_len, map-range_with_len_more}
use Rattle.cache_base.specs.Limits.{chunk_size}
use Rattle.chunk_store.specs.Chunks.{chunk}
use Rattle.chunk_store.specs.Stored.{chunk_write, stop_tail, unfinished_file, whole_len}
use Rattle.disk_theory.specs.Calls.{MayWriteAt}
use Rattle.disk_theory.specs.State.{written}
use Rattle.entry_file.specs.NewEntry.{Growing, HasBody, IsItsFile, grown_len}
use Rattle.jenkins_hash.specs.Hash.{hash16_of}

-- functions that agree below n make the same list
same_map : (f g : ℕ → ℕ) (n : ℕ) → ((i : ℕ) → i < n → f i ≡ g i) → map f (range_with_len 0 n) ≡ map g (range_with_len 0 n)
same_map f g n same = fill_by_all g (map f (range_with_len 0 n)) n 0 (length-map-range_with_len f 0 n) (λ k lt. get_or-map-range_with_len f 0 n k k 0 lt (omega arith) ∙ same k lt)

-- a part of a list's prefix
pub part_in_front : (size from : ℕ) (xs ys : List ℕ) → from + size ≤ length xs → take size (drop from (xs ++ ys)) ≡ take size (drop from xs)
part_in_front size from xs ys le =
    let long = length-drop from xs in
    ap (take size) (drop-append-le from xs ys (omega (arith, le))) ∙ take-append-le size (drop from xs) ys (omega (arith, le, long))

-- the hash of each of the first n chunks
abbrev pub first_hashes : List ℕ → ℕ → List ℕ
first_hashes body n = map (λ i. hash16_of (chunk body i)) (range_with_len 0 n)

-- the whole chunks of a body are those of a longer one
same_hashes : (body b : List ℕ) (n : ℕ) → n * 262144 ≤ length body → first_hashes (body ++ b) n ≡ first_hashes body n
same_hashes body b n le = same_map (λ i. hash16_of (chunk (body ++ b) i)) (λ i. hash16_of (chunk body i)) n
    (λ i lt. ap hash16_of (part_in_front 262144 (i * 262144) body b (omega (arith, le, lt))))

-- the file of n whole chunks, which have w bytes
abbrev file_with : ℕ → ℕ → List ℕ → List ℕ
file_with n w body = cond (n == 0) [] (take w body ++ stop_tail)

front_by : (w : ℕ) (body : List ℕ) (b : Bool) → (b ≡ true → w ≡ 0) → w ≤ length body → take w (cond b [] (take w body ++ stop_tail)) ≡ take w body
front_by w body true none le = let e = none refl in ap (λ k. take k []) e ∙ ap (λ k. take k body) (sym e)
front_by w body false none le = take_at (take w body) stop_tail w (length-take-le w body le)

long_by : (w : ℕ) (body : List ℕ) (b : Bool) → (b ≡ true → w ≡ 0) → w ≤ length body → w ≤ length (cond b [] (take w body ++ stop_tail))
long_by w body true none le = let e = none refl in omega (arith, e)
long_by w body false none le = let h = length-append (take w body) stop_tail in let l = length-take-le w body le in omega (arith, h, l)

-- the file of an unfinished body begins with its whole chunks
pub unfinished_front : (body : List ℕ) → take (whole_len body) (unfinished_file body) ≡ take (whole_len body) body
unfinished_front body = front_by (whole_len body) body (length body / 262144 == 0) (λ e. let z = eqb-true _ _ e in omega (arith, z)) (omega arith)

pub unfinished_long : (body : List ℕ) → whole_len body ≤ length (unfinished_file body)
unfinished_long body = long_by (whole_len body) body (length body / 262144 == 0) (λ e. let z = eqb-true _ _ e in omega (arith, z)) (omega arith)

-- an entry and its body so far
module _ (e : Growing) (body : List ℕ) (has : HasBody e body) where
  pub count : length e.hashes ≡ length body / 262144
  count = ap length has.hashes ∙ length-map-range_with_len (λ i. hash16_of (chunk body i)) 0 (length body / 262144)

  pub rest_long : length e.rest ≡ length body - whole_len body
  rest_long = ap length has.rest ∙ length-drop (whole_len body) body

  pub grown : grown_len e ≡ length body
  grown = let c = count in let r = rest_long in omega (arith, c, r)

  -- within the chunk
  module _ (b : List ℕ) (within : length e.rest + length b < 262144) where
    same_count : length (body ++ b) / 262144 ≡ length body / 262144
    same_count = let h = length-append body b in let r = rest_long in omega (arith, within, h, r)

    pub has_more : HasBody (record { hashes = e.hashes; rest = e.rest ++ b }) (body ++ b)
    has_more = record {
      hashes = has.hashes ∙ sym (same_hashes body b (length body / 262144) (omega arith)) ∙ ap (first_hashes (body ++ b)) (sym same_count);
      rest = ap (λ r. r ++ b) has.rest ∙ sym (drop-append-le (whole_len body) body b (omega arith)) ∙ ap (λ n. drop (n * 262144) (body ++ b)) (sym same_count);
    }

    pub file_same : unfinished_file (body ++ b) ≡ unfinished_file body
    file_same = ap (λ n. file_with n (n * 262144) (body ++ b)) same_count
        ∙ ap (λ front. cond (length body / 262144 == 0) [] (front ++ stop_tail)) (take-append-le (whole_len body) body b (omega arith))

  -- up to the end of the chunk
  module _ (b : List ℕ) (full : length e.rest + length b ≡ 262144) where
    more_count : length (body ++ b) / 262144 ≡ length body / 262144 + 1
    more_count = let h = length-append body b in let r = rest_long in omega (arith, full, h, r)

    all_whole : whole_len (body ++ b) ≡ length (body ++ b)
    all_whole = let h = length-append body b in let r = rest_long in omega (arith, full, h, r)

    joined : e.rest ++ b ≡ drop (whole_len body) (body ++ b)
    joined = ap (λ r. r ++ b) has.rest ∙ sym (drop-append-le (whole_len body) body b (omega arith))

    last_chunk : e.rest ++ b ≡ chunk (body ++ b) (length body / 262144)
    last_chunk = joined ∙ sym (take_all 262144 (drop (whole_len body) (body ++ b)) (let h = ap length joined in let l = length-append e.rest b in omega (arith, full, h, l)))

    pub has_chunk : HasBody (record { hashes = e.hashes ++ hash16_of (e.rest ++ b) ∷ []; rest = [] }) (body ++ b)
    has_chunk = record {
      hashes = (λ i. (has.hashes ∙ sym (same_hashes body b (length body / 262144) (omega arith))) i ++ hash16_of (last_chunk i) ∷ [])
          ∙ sym (map-range_with_len_more (λ i. hash16_of (chunk (body ++ b) i)) 0 (length body / 262144) (length body / 262144) (omega arith))
          ∙ ap (first_hashes (body ++ b)) (sym more_count);
      rest = sym (drop_all (whole_len (body ++ b)) (body ++ b) (let h = all_whole in omega (arith, h)));
    }

    file_whole : unfinished_file (body ++ b) ≡ (body ++ b) ++ stop_tail
    file_whole = ap (λ (test : Bool). cond test [] (take (whole_len (body ++ b)) (body ++ b) ++ stop_tail)) (ne_eqb (length (body ++ b) / 262144) 0 (λ z. let m = more_count in omega (arith, m, z)))
        ∙ ap (λ (xs : List ℕ). xs ++ stop_tail) (take_all (whole_len (body ++ b)) (body ++ b) (let h = all_whole in omega (arith, h)))

    pub chunk_written : written (chunk_write (length e.hashes) (e.rest ++ b)) (unfinished_file body) ≡ unfinished_file (body ++ b)
    chunk_written =
        let w : ℕ = whole_len body in
        let place : length e.hashes * 262144 ≡ w = ap (λ n. n * 262144) count in
        let cut : take (length e.hashes * 262144) (unfinished_file body) ≡ take w body = ap (λ k. take k (unfinished_file body)) place ∙ unfinished_front body in
        let whole : take w body ++ (e.rest ++ b) ≡ body ++ b =
        ap (λ r. take w body ++ (r ++ b)) has.rest ∙ sym (append_assoc (take w body) (drop w body) b) ∙ ap (λ xs. xs ++ b) (take-append-drop w body) in
        ap (λ front. front ++ ((e.rest ++ b) ++ stop_tail)) cut ∙ sym (append_assoc (take w body) (e.rest ++ b) stop_tail) ∙ ap (λ xs. xs ++ stop_tail) whole ∙ sym file_whole

-- after the whole chunks of the entry's file may be written
pub may_write : (e : Growing) (file : Option (List ℕ)) → IsItsFile e file → MayWriteAt file (length e.hashes * chunk_size)
may_write e file its =
    let body = its.0 in
    let c = count e body its.1 in
    let l = unfinished_long body in
    subst (λ o. MayWriteAt o (length e.hashes * chunk_size)) (sym its.2) (omega (arith, c, l))
