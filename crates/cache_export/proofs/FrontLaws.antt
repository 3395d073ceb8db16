-- What stands at the beginning of bytes that a part or the end begins.
use Rattle.std.proofs.Common.{◌≡◌, ◌≢◌, ℕ, suc, ◌+◌, ◌<◌, ◌≤◌, Bool, true, false, cond, min, List, [], ◌∷◌, ◌++◌, length, take, drop, ltb, refl, sym, ap, ◌∙◌, arith}
use Rattle.std.specs.Cmp.Lexicographic.{pointwise}
use Rattle.std.specs.Prelude.{nat_eq, nat_lt, ◌==◌, ◌||◌}
use Rattle.std.specs.Int.{w32, from_be_bytes}
use Rattle.std.proofs.lemmas.Bool.{le-ltb, ltb-true, ltb-false, ne_eqb, or_from}
use Rattle.std.proofs.lemmas.List.{drop-append-le, length-append, take-append-le}
use Rattle.cache_base.proofs.ByteLaws.{be32_front}
use Rattle.cache_base.specs.Bytes.{be32, be32_at}
use Rattle.cache_base.specs.Limits.{chunk_size}
use Rattle.cache_base.specs.declared.limits.TheConstants.{BLOCK_MAX, BODY_MAX, KEY_MAX}
use Rattle.entry_metadata.specs.Metadata.{block_bytes}
use Rattle.cache_export.specs.Dump.{back_bytes, head}
use Rattle.cache_export.specs.Front.{block_front, body_front, front_at, head_front, item_front, key_front, lead_len, length_front, sized}
use Rattle.cache_export.specs.Parts.{Part, Spells, SpellsEnd, SpellsRest, key_bytes, left_of}
use Rattle.cache_export.specs.Stages.{stage_at}
use Rattle.cache_export.specs.declared.front.Due.{Due}
use Rattle.cache_export.specs.declared.front.Due.TheVariants as due
use Rattle.cache_export.specs.declared.front.Front.{Front}
use Rattle.cache_export.specs.declared.front.Front.TheVariants.{Whole, More, Bad}
use Rattle.cache_export.specs.declared.limits.TheConstants.{DUMP_MAX}
use Rattle.cache_export.proofs.FieldLaws.{key_sizes}

-- ---- a number before bytes that go on

front_number : (xs more : List ℕ) → 4 ≤ length xs → from_be_bytes w32 (xs ++ more) ≡ from_be_bytes w32 xs
front_number [] more l = absurd (omega (arith, l))
front_number (a ∷ []) more l = absurd (omega (arith, l))
front_number (a ∷ b ∷ []) more l = absurd (omega (arith, l))
front_number (a ∷ b ∷ c ∷ []) more l = absurd (omega (arith, l))
front_number (a ∷ b ∷ c ∷ d ∷ xs) more l = refl

pub number_0 : (xs more : List ℕ) → 4 ≤ length xs → be32_at (xs ++ more) 0 ≡ be32_at xs 0
number_0 xs more l = front_number xs more l

pub number_1 : (xs more : List ℕ) → 5 ≤ length xs → be32_at (xs ++ more) 1 ≡ be32_at xs 1
number_1 [] more l = absurd (omega (arith, l))
number_1 (x ∷ xs) more l = front_number xs more (omega (arith, l))

-- ---- what is whole or bad stays so, whatever follows

-- where the first is no wish for more, the second is the same
abbrev pub Stays : Front → Front → Type 0
Stays x y = x ≢ More → y ≡ x

same_stays : (x y : Front) → y ≡ x → Stays x y
same_stays x y e = λ _. e

test_stays : (t : Bool) (f x y : Front) → Stays x y → Stays (cond t f x) (cond t f y)
test_stays true f x y h = λ _. refl
test_stays false f x y h = h

either_stays : (t : Bool) (f g x y : Front) → Stays f g → Stays x y → Stays (cond t f x) (cond t g y)
either_stays true f g x y k h = k
either_stays false f g x y k h = h

-- after a wait for n bytes
wait_stays : (n : ℕ) (a b : List ℕ) (x y : Front) → (n ≤ length a → Stays x y) → Stays (cond (ltb (length a) n) More x) (cond (ltb (length (a ++ b)) n) More y)
wait_stays n a b x y h = go (ltb (length a) n) (ltb (length (a ++ b)) n) refl refl
  where
    go : (s t : Bool) → ltb (length a) n ≡ s → ltb (length (a ++ b)) n ≡ t → Stays (cond s More x) (cond t More y)
    go true t e k = λ wait. absurd (wait refl)
    go false true e k = absurd (let low = ltb-false (length a) n e in let high = ltb-true (length (a ++ b)) n k in omega (arith, low, high, length-append a b))
    go false false e k = h (ltb-false (length a) n e)

pub sized_stays : (len used : ℕ) (a b : List ℕ) → Stays (sized len used a) (sized len used (a ++ b))
sized_stays len used a b = test_stays (nat_lt DUMP_MAX (used + len)) Bad _ _ (wait_stays len a b (Whole len) (Whole len) (λ _ _. refl))

key_stays : (used : ℕ) (a b : List ℕ) → Stays (key_front used a) (key_front used (a ++ b))
unfolding key_front
key_stays used a b = wait_stays 5 a b _ _ (λ long.
    rw (number_1 a b long) (test_stays (be32_at a 1 == 0 || nat_lt KEY_MAX (be32_at a 1)) Bad _ _ (sized_stays (5 + be32_at a 1) used a b)))

block_stays : (used : ℕ) (a b : List ℕ) → Stays (block_front used a) (block_front used (a ++ b))
unfolding block_front
block_stays used a b = test_stays (nat_lt DUMP_MAX (used + 4)) Bad _ _ (wait_stays 4 a b _ _ (λ long.
    rw (number_0 a b long) (test_stays (nat_lt BLOCK_MAX (be32_at a 0)) Bad _ _ (sized_stays (4 + be32_at a 0) used a b))))

body_stays : (left used : ℕ) (a b : List ℕ) → Stays (body_front left used a) (body_front left used (a ++ b))
unfolding body_front
body_stays left used a b = either_stays (left == 0) _ _ _ _ (block_stays used a b) (sized_stays (min chunk_size left) used a b)

length_stays : (used : ℕ) (a b : List ℕ) → Stays (length_front used a) (length_front used (a ++ b))
unfolding length_front
length_stays used a b = test_stays (nat_lt DUMP_MAX (used + 4)) Bad _ _ (wait_stays 4 a b _ _ (λ long.
    rw (number_0 a b long, drop-append-le 4 a b long) (test_stays (nat_lt BODY_MAX (be32_at a 0)) Bad _ _ (body_stays (be32_at a 0) (used + 4) (drop 4 a) b))))

no_one : (n : ℕ) → (suc (suc n) == 1) ≡ false
no_one n = ne_eqb (suc (suc n)) 1 (λ e. absurd (omega (arith, e)))

longer : (m n : ℕ) → cond (suc (suc m) == 1) More Bad ≡ cond (suc (suc n) == 1) More Bad
longer m n = ap (λ t. cond t More Bad) (no_one m ∙ sym (no_one n))

-- the bytes are not empty
pub item_some : (used x : ℕ) (a : List ℕ) → item_front used (x ∷ a) ≡ cond (nat_lt DUMP_MAX (used + 1)) Bad (cond (x == 0) (cond (suc (length a) == 1) More Bad) (cond (x == 1) (key_front used (x ∷ a)) Bad))
unfolding item_front
item_some used x a =
    ap (λ t. cond (nat_lt DUMP_MAX (used + 1)) Bad (cond t More (cond (x == 0) (cond (suc (length a) == 1) More Bad) (cond (x == 1) (key_front used (x ∷ a)) Bad))))
    (ne_eqb (suc (length a)) 0 (λ e. absurd (omega (arith, e))))

item_none : (used : ℕ) → item_front used [] ≡ cond (nat_lt DUMP_MAX (used + 1)) Bad More
unfolding item_front
item_none used = refl

stays_by : (x y z w : Front) → x ≡ z → y ≡ w → Stays z w → Stays x y
stays_by x y z w e k h = λ some. k ∙ h (λ more. some (e ∙ more)) ∙ sym e

last_stays : (a b : List ℕ) → Stays (cond (suc (length a) == 1) More Bad) (cond (suc (length (a ++ b)) == 1) More Bad)
last_stays [] b = λ wait. absurd (wait refl)
last_stays (y ∷ a) b = λ _. longer (length (a ++ b)) (length a)

item_stays : (used : ℕ) (a b : List ℕ) → Stays (item_front used a) (item_front used (a ++ b))
item_stays used [] b = λ some. go (nat_lt DUMP_MAX (used + 1)) refl some
  where
    past : (bytes : List ℕ) → nat_lt DUMP_MAX (used + 1) ≡ true → item_front used bytes ≡ Bad
    past [] e = item_none used ∙ ap (λ t. cond t Bad More) e
    past (x ∷ a) e = item_some used x a ∙ ap (λ t. cond t Bad (cond (x == 0) (cond (suc (length a) == 1) More Bad) (cond (x == 1) (key_front used (x ∷ a)) Bad))) e

    go : (t : Bool) → nat_lt DUMP_MAX (used + 1) ≡ t → item_front used [] ≢ More → item_front used b ≡ item_front used []
    go true e some = past b e ∙ sym (past [] e)
    go false e some = absurd (some (item_none used ∙ ap (λ t. cond t Bad More) e))
item_stays used (x ∷ a) b = stays_by _ _ _ _ (item_some used x a) (item_some used x (a ++ b))
    (test_stays (nat_lt DUMP_MAX (used + 1)) Bad _ _ (either_stays (x == 0) _ _ _ _ (last_stays a b) (either_stays (x == 1) (key_front used (x ∷ a)) (key_front used (x ∷ (a ++ b))) Bad Bad (key_stays used (x ∷ a) b) (λ _. refl))))

head_stays : (used : ℕ) (a b : List ℕ) → Stays (head_front used a) (head_front used (a ++ b))
unfolding head_front
head_stays used a b = wait_stays 8 a b _ _ (λ long.
    rw (take-append-le 8 a b long, drop-append-le 8 a b long) (either_stays (pointwise nat_eq (take 8 a) head) _ _ _ _ (item_stays (used + 8) (drop 8 a) b) (λ _. refl)))

pub front_stays : (d : Due) (left used : ℕ) (a b : List ℕ) → Stays (front_at d left used a) (front_at d left used (a ++ b))
front_stays due.Head left used a b = head_stays used a b
front_stays due.Item left used a b = item_stays used a b
front_stays due.Length left used a b = length_stays used a b
front_stays due.Body left used a b = body_stays left used a b

-- ---- a part that is due is found whole

sized_whole : (len used : ℕ) (bytes : List ℕ) → used + len ≤ DUMP_MAX → len ≤ length bytes → sized len used bytes ≡ Whole len
sized_whole len used bytes fits long =
    ap (λ t. cond t Bad (cond (ltb (length bytes) len) More (Whole len))) (le-ltb DUMP_MAX (used + len) fits)
    ∙ ap (λ t. cond t More (Whole len)) (le-ltb (length bytes) len long)

key_found : (used n : ℕ) (bytes : List ℕ) → be32_at bytes 1 ≡ n → 0 < n → n ≤ KEY_MAX → 5 + n ≤ length bytes → used + (5 + n) ≤ DUMP_MAX → key_front used bytes ≡ Whole (5 + n)
unfolding key_front
key_found used n bytes is some small long fits =
    ap (λ t. cond t More (cond (be32_at bytes 1 == 0 || nat_lt KEY_MAX (be32_at bytes 1)) Bad (sized (5 + be32_at bytes 1) used bytes))) (le-ltb (length bytes) 5 (omega (arith, long)))
    ∙ ap (λ k. cond (k == 0 || nat_lt KEY_MAX k) Bad (sized (5 + k) used bytes)) is
    ∙ ap (λ t. cond t Bad (sized (5 + n) used bytes)) (or_from (n == 0) (nat_lt KEY_MAX n) (ne_eqb n 0 (λ e. absurd (omega (arith, e, some)))) (le-ltb KEY_MAX n small))
    ∙ sized_whole (5 + n) used bytes fits long

item_found : (used : ℕ) (key after : List ℕ) → 0 < length key → length key ≤ KEY_MAX → used + (5 + length key) ≤ DUMP_MAX → item_front used (key_bytes key ++ after) ≡ Whole (5 + length key)
unfolding key_bytes
item_found used key after some small fits =
    let rest : List ℕ = be32 (length key) ++ (key ++ after) in
    item_some used 1 rest ∙ ap (λ t. cond t Bad (key_front used (1 ∷ rest))) (le-ltb DUMP_MAX (used + 1) (omega (arith, fits)))
    ∙ key_found used (length key) (1 ∷ rest) (be32_front (length key) (key ++ after) (omega (arith, small))) some small (omega (arith, length-append key after)) fits

block_found : (used n : ℕ) (bytes : List ℕ) → be32_at bytes 0 ≡ n → n ≤ BLOCK_MAX → 4 + n ≤ length bytes → used + (4 + n) ≤ DUMP_MAX → block_front used bytes ≡ Whole (4 + n)
unfolding block_front
block_found used n bytes is small long fits =
    ap (λ t. cond t Bad (cond (ltb (length bytes) 4) More (cond (nat_lt BLOCK_MAX (be32_at bytes 0)) Bad (sized (4 + be32_at bytes 0) used bytes)))) (le-ltb DUMP_MAX (used + 4) (omega (arith, fits)))
    ∙ ap (λ t. cond t More (cond (nat_lt BLOCK_MAX (be32_at bytes 0)) Bad (sized (4 + be32_at bytes 0) used bytes))) (le-ltb (length bytes) 4 (omega (arith, long)))
    ∙ ap (λ k. cond (nat_lt BLOCK_MAX k) Bad (sized (4 + k) used bytes)) is
    ∙ ap (λ t. cond t Bad (sized (4 + n) used bytes)) (le-ltb BLOCK_MAX n small)
    ∙ sized_whole (4 + n) used bytes fits long

pub number_size : (n : ℕ) (xs : List ℕ) → length (be32 n ++ xs) ≡ 4 + length xs
number_size n xs = omega arith

pub key_size : (key : List ℕ) → length (key_bytes key) ≡ 5 + length key
unfolding key_bytes
key_size key = omega arith

pub head_size : (xs : List ℕ) → length (head ++ xs) ≡ 8 + length xs
head_size xs = omega arith

-- what is found whole at the beginning of the bytes, whatever follows
pub record Finds (front : Front) (lead : ℕ) (own : List ℕ) : Type 0 where
  pub len : ℕ
  pub found : front ≡ Whole len
  pub size : lead + len ≡ length own

rest_found : (key : List ℕ) (len : ℕ) (hashes : List ℕ) (used : ℕ) (p : Part) (own after : List ℕ) → SpellsRest key len hashes p own → used + length own ≤ DUMP_MAX
    → Finds (body_front (left_of len (length hashes)) used (own ++ after)) 0 own
unfolding body_front back_bytes
rest_found key len hashes used (Part.KeyPart k) own after h fits = absurd h
rest_found key len hashes used (Part.PiecePart piece) own after h fits =
    let left = left_of len (length hashes) in
    let size : length own ≡ min chunk_size left = ap length h.1.1.1 ∙ h.1.0 in
    record {
      len = min chunk_size left;
      found = ap (λ t. cond t (block_front used (own ++ after)) (sized (min chunk_size left) used (own ++ after))) (ne_eqb left 0 (λ e. absurd (omega (arith, e, h.0))))
          ∙ sized_whole (min chunk_size left) used (own ++ after) (omega (arith, fits, size)) (omega (arith, size, length-append own after));
      size = omega (arith, size);
    }
rest_found key len hashes used (Part.BlockPart said) own after h fits =
    let left = left_of len (length hashes) in
    let block = block_bytes said in
    let is : own ≡ be32 (length block) ++ block = h.1.1.1.1.1 in
    let size : length own ≡ 4 + length block = ap length is ∙ number_size (length block) block in
    let there : own ++ after ≡ be32 (length block) ++ (block ++ after) = ap (λ l. l ++ after) is in
    let small = h.1.0.small in
    record {
      len = 4 + length block;
      found = ap (λ t. cond t (block_front used (own ++ after)) (sized (min chunk_size left) used (own ++ after))) (ap (λ n. n == 0) h.0)
          ∙ block_found used (length block) (own ++ after) (ap (λ l. be32_at l 0) there ∙ be32_front (length block) (block ++ after) (omega (arith, small))) small
          (omega (arith, size, length-append own after)) (omega (arith, fits, size));
      size = omega (arith, size);
    }

length_found : (used n : ℕ) (bytes : List ℕ) → be32_at bytes 0 ≡ n → n ≤ BODY_MAX → 4 ≤ length bytes → used + 4 ≤ DUMP_MAX → length_front used bytes ≡ body_front n (used + 4) (drop 4 bytes)
unfolding length_front
length_found used n bytes is small long fits =
    ap (λ t. cond t Bad (cond (ltb (length bytes) 4) More (cond (nat_lt BODY_MAX (be32_at bytes 0)) Bad (body_front (be32_at bytes 0) (used + 4) (drop 4 bytes))))) (le-ltb DUMP_MAX (used + 4) fits)
    ∙ ap (λ t. cond t More (cond (nat_lt BODY_MAX (be32_at bytes 0)) Bad (body_front (be32_at bytes 0) (used + 4) (drop 4 bytes)))) (le-ltb (length bytes) 4 long)
    ∙ ap (λ k. cond (nat_lt BODY_MAX k) Bad (body_front k (used + 4) (drop 4 bytes))) is
    ∙ ap (λ t. cond t Bad (body_front n (used + 4) (drop 4 bytes))) (le-ltb BODY_MAX n small)

pub head_found : (used : ℕ) (bytes : List ℕ) → head_front used (head ++ bytes) ≡ item_front (used + 8) bytes
unfolding head_front
head_found used bytes = ap (λ t. cond t More (item_front (used + 8) bytes)) (le-ltb (length (head ++ bytes)) 8 (omega (arith, length-append head bytes)))

pub part_found : (d : Due) (key : List ℕ) (len : ℕ) (hashes : List ℕ) (used : ℕ) (p : Part) (own after : List ℕ) → Spells (stage_at d key len hashes) p own → used + length own ≤ DUMP_MAX
    → Finds (front_at d (left_of len (length hashes)) used (own ++ after)) (lead_len d) own
unfolding key_bytes
part_found due.Head key len hashes used (Part.KeyPart k) own after h fits =
    let sizes = key_sizes k h.0 in
    let size : length own ≡ 13 + length k = omega (arith, ap length h.1.1, head_size (key_bytes k), key_size k) in
    let there : own ++ after ≡ head ++ (key_bytes k ++ after) = ap (λ l. l ++ after) h.1.1 in
    record {
      len = 5 + length k;
      found = ap (head_front used) there ∙ head_found used (key_bytes k ++ after) ∙ item_found (used + 8) k after sizes.0 sizes.1 (omega (arith, size, fits));
      size = omega (arith, size);
    }
part_found due.Head key len hashes used (Part.PiecePart piece) own after h fits = absurd h
part_found due.Head key len hashes used (Part.BlockPart said) own after h fits = absurd h
part_found due.Item key len hashes used (Part.KeyPart k) own after h fits =
    let sizes = key_sizes k h.0 in
    let size : length own ≡ 5 + length k = ap length h.1.1 ∙ key_size k in
    record {
      len = 5 + length k;
      found = ap (λ l. item_front used (l ++ after)) h.1.1 ∙ item_found used k after sizes.0 sizes.1 (omega (arith, size, fits));
      size = omega (arith, size);
    }
part_found due.Item key len hashes used (Part.PiecePart piece) own after h fits = absurd h
part_found due.Item key len hashes used (Part.BlockPart said) own after h fits = absurd h
part_found due.Length key len hashes used p own after h fits =
    let n = h.0 in
    let rest = h.1.0 in
    let is : own ≡ be32 n ++ rest = h.1.1.1.0 in
    let size : length own ≡ 4 + length rest = ap length is ∙ number_size n rest in
    let there : own ++ after ≡ be32 n ++ (rest ++ after) = ap (λ l. l ++ after) is in
    let small = h.1.1.0 in
    let inner = rest_found key n [] (used + 4) p rest after h.1.1.1.1 (omega (arith, size, fits)) in
    record {
      len = inner.len;
      found = length_found used n (own ++ after) (ap (λ l. be32_at l 0) there ∙ be32_front n (rest ++ after) (omega (arith, small))) small
          (omega (arith, size, length-append own after)) (omega (arith, size, fits))
          ∙ ap (λ l. body_front n (used + 4) (drop 4 l)) there ∙ ap (λ k. body_front k (used + 4) (rest ++ after)) (let none : n ≡ left_of n 0 = omega arith in none) ∙ inner.found;
      size = omega (arith, size, inner.size);
    }
part_found due.Body key len hashes used p own after h fits = rest_found key len hashes used p own after h fits

-- ---- at the end of a dump more may come

item_end : (used : ℕ) → used + 1 ≤ DUMP_MAX → item_front used (0 ∷ []) ≡ More
item_end used fits = item_some used 0 [] ∙ ap (λ t. cond t Bad More) (le-ltb DUMP_MAX (used + 1) fits)

pub end_is_more : (d : Due) (key : List ℕ) (len : ℕ) (hashes : List ℕ) (left used : ℕ) (bytes : List ℕ) → SpellsEnd (stage_at d key len hashes) bytes → used + length bytes ≤ DUMP_MAX → front_at d left used bytes ≡ More
end_is_more due.Head key len hashes left used bytes h fits =
    let size : length bytes ≡ 9 = ap length h in
    ap (head_front used) h ∙ head_found used (0 ∷ []) ∙ item_end (used + 8) (omega (arith, size, fits))
end_is_more due.Item key len hashes left used bytes h fits =
    let size : length bytes ≡ 1 = ap length h in
    ap (item_front used) h ∙ item_end used (omega (arith, size, fits))
end_is_more due.Length key len hashes left used bytes h fits = absurd h
end_is_more due.Body key len hashes left used bytes h fits = absurd h
