-- What is known after a read.
use Rattle.std.proofs.Common.{◌≡◌, ◌≢◌, ℕ, suc, ◌+◌, ◌<◌, ◌≤◌, Bool, true, false, cond, min, List, [], ◌∷◌, ◌++◌, length, take, drop, ltb, Option, refl, sym, ap, ◌∙◌, arith}
use Rattle.std.specs.Prelude.{nat_eq, nat_lt, ◌==◌, ◌||◌}
use Rattle.std.specs.Cmp.Lexicographic.{pointwise}
use Rattle.std.proofs.lemmas.Bool.{ltb-true, ltb-false, eqb-true, or_parts}
use Rattle.std.proofs.lemmas.List.{length-drop}
use Rattle.cache_base.specs.Bytes.{be32_at}
use Rattle.cache_base.specs.Limits.{chunk_size}
use Rattle.cache_base.specs.declared.limits.TheConstants.{BLOCK_MAX, BODY_MAX, KEY_MAX}
use Rattle.cache_export.specs.Dump.{head}
use Rattle.cache_export.specs.Front.{block_front, body_front, front_at, head_front, item_front, key_front, length_front, sized}
use Rattle.cache_io.specs.Window.{Grew}
use Rattle.cache_export.specs.declared.front.Due.{Due}
use Rattle.cache_export.specs.declared.front.Due.TheVariants as due
use Rattle.cache_export.specs.declared.front.Front.{Front}
use Rattle.cache_export.specs.declared.front.Front.TheVariants.{Whole, More, Bad}
use Rattle.cache_export.specs.declared.limits.TheConstants.{DUMP_MAX}
use Rattle.cache_export.proofs.FrontLaws.{front_stays, item_some}

-- where more is wanted after a read, more was wanted before it
pub more_before : (d : Due) (left used : ℕ) (xs ys : List ℕ) (l n : Option (List ℕ)) → Grew xs ys l n → front_at d left used ys ≡ More → front_at d left used xs ≡ More
more_before d left used xs ys l n g more = go (front_at d left used xs) refl
  where
    later : front_at d left used (xs ++ g.piece) ≡ More
    later = ap (front_at d left used) (sym g.grown) ∙ more

    go : (f : Front) → front_at d left used xs ≡ f → front_at d left used xs ≡ More
    go More e = e
    go Bad e = absurd (let odds : Bad ≡ More = sym e ∙ sym (front_stays d left used xs g.piece (λ m. let other : Bad ≡ More = sym e ∙ m in cc)) ∙ later in cc)
    go (Whole k) e = absurd (let odds : Whole k ≡ More = sym e ∙ sym (front_stays d left used xs g.piece (λ m. let other : Whole k ≡ More = sym e ∙ m in cc)) ∙ later in cc)

-- ---- so few bytes are held where more are wanted

test_more : (t : Bool) (f x : Front) (P : Type 0) → f ≢ More → (t ≡ false → x ≡ More → P) → cond t f x ≡ More → P
test_more true f x P differs h e = absurd (differs e)
test_more false f x P differs h e = h refl e

bad_more : Bad ≢ More
bad_more e = cc

wait_more : (n m : ℕ) (bytes : List ℕ) (x : Front) → n ≤ m → (x ≡ More → length bytes < m) → cond (ltb (length bytes) n) More x ≡ More → length bytes < m
wait_more n m bytes x le h = go (ltb (length bytes) n) refl
  where
    go : (t : Bool) → ltb (length bytes) n ≡ t → cond t More x ≡ More → length bytes < m
    go true e k = let low = ltb-true (length bytes) n e in omega (arith, low, le)
    go false e k = h k

sized_more : (len used : ℕ) (bytes : List ℕ) → sized len used bytes ≡ More → length bytes < len
sized_more len used bytes = test_more (nat_lt DUMP_MAX (used + len)) Bad _ (length bytes < len) bad_more (λ _. wait_more len len bytes (Whole len) (omega arith) (λ e. absurd (let odds : Whole len ≡ More = e in cc)))

key_more : (used : ℕ) (bytes : List ℕ) → key_front used bytes ≡ More → length bytes < 16390
unfolding key_front
key_more used bytes = wait_more 5 16390 bytes _ (omega arith) (test_more (be32_at bytes 1 == 0 || nat_lt KEY_MAX (be32_at bytes 1)) Bad _ (length bytes < 16390) bad_more (λ t e.
    let small = ltb-false KEY_MAX (be32_at bytes 1) (or_parts (be32_at bytes 1 == 0) (nat_lt KEY_MAX (be32_at bytes 1)) t).1 in
    let few = sized_more (5 + be32_at bytes 1) used bytes e in
    omega (arith, small, few)))

block_more : (used : ℕ) (bytes : List ℕ) → block_front used bytes ≡ More → length bytes < 262148
unfolding block_front
block_more used bytes = test_more (nat_lt DUMP_MAX (used + 4)) Bad _ (length bytes < 262148) bad_more (λ _. wait_more 4 262148 bytes _ (omega arith) (test_more (nat_lt BLOCK_MAX (be32_at bytes 0)) Bad _ (length bytes < 262148) bad_more (λ t e.
    let small = ltb-false BLOCK_MAX (be32_at bytes 0) t in
    let few = sized_more (4 + be32_at bytes 0) used bytes e in
    omega (arith, small, few))))

body_more : (left used : ℕ) (bytes : List ℕ) → body_front left used bytes ≡ More → length bytes < 262148
unfolding body_front
body_more left used bytes = go (left == 0)
  where
    go : (t : Bool) → cond t (block_front used bytes) (sized (min chunk_size left) used bytes) ≡ More → length bytes < 262148
    go true e = block_more used bytes e
    go false e = let few = sized_more (min chunk_size left) used bytes e in omega (arith, few)

length_more : (used : ℕ) (bytes : List ℕ) → length_front used bytes ≡ More → length bytes < 262152
unfolding length_front
length_more used bytes = test_more (nat_lt DUMP_MAX (used + 4)) Bad _ (length bytes < 262152) bad_more (λ _. wait_more 4 262152 bytes _ (omega arith) (test_more (nat_lt BODY_MAX (be32_at bytes 0)) Bad _ (length bytes < 262152) bad_more (λ t e.
    let few = body_more (be32_at bytes 0) (used + 4) (drop 4 bytes) e in
    omega (arith, few, length-drop 4 bytes))))

item_more : (used : ℕ) (bytes : List ℕ) → item_front used bytes ≡ More → length bytes < 16390
item_more used [] e = omega arith
item_more used (x ∷ a) e = test_more (nat_lt DUMP_MAX (used + 1)) Bad _ (suc (length a) < 16390) bad_more (λ _. go (x == 0) (x == 1)) (sym (item_some used x a) ∙ e)
  where
    one : (t : Bool) → (suc (length a) == 1) ≡ t → cond t More Bad ≡ More → suc (length a) < 16390
    one true e k = let same = eqb-true (suc (length a)) 1 e in omega (arith, same)
    one false e k = absurd (bad_more k)

    go : (s t : Bool) → cond s (cond (suc (length a) == 1) More Bad) (cond t (key_front used (x ∷ a)) Bad) ≡ More → suc (length a) < 16390
    go true t e = one (suc (length a) == 1) refl e
    go false true e = key_more used (x ∷ a) e
    go false false e = absurd (bad_more e)

head_more : (used : ℕ) (bytes : List ℕ) → head_front used bytes ≡ More → length bytes < 16398
unfolding head_front
head_more used bytes = wait_more 8 16398 bytes _ (omega arith) (go (pointwise nat_eq (take 8 bytes) head))
  where
    go : (t : Bool) → cond t (item_front (used + 8) (drop 8 bytes)) Bad ≡ More → length bytes < 16398
    go true e = let few = item_more (used + 8) (drop 8 bytes) e in omega (arith, few, length-drop 8 bytes)
    go false e = absurd (bad_more e)

pub more_is_short : (d : Due) (left used : ℕ) (bytes : List ℕ) → front_at d left used bytes ≡ More → length bytes < 262152
more_is_short due.Head left used bytes e = let few = head_more used bytes e in omega (arith, few)
more_is_short due.Item left used bytes e = let few = item_more used bytes e in omega (arith, few)
more_is_short due.Length left used bytes e = let few = length_more used bytes e in omega (arith, few)
more_is_short due.Body left used bytes e = let few = body_more left used bytes e in omega (arith, few)
