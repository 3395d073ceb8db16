-- What is found whole stands there, and keeps the dump within its length.
use Rattle.std.proofs.Common.{◌≡◌, ◌≢◌, ℕ, zero, suc, ◌+◌, ◌<◌, ◌≤◌, Bool, true, false, cond, min, List, [], ◌∷◌, length, take, drop, ltb, refl, sym, ap, ◌∙◌, subst, arith}
use Rattle.std.specs.Cmp.Lexicographic.{pointwise}
use Rattle.std.specs.Prelude.{nat_eq, nat_lt, ◌==◌, ◌||◌, slice_index}
use Rattle.std.proofs.lemmas.Bool.{eqb-false, eqb-true, ltb-false}
use Rattle.std.proofs.lemmas.List.{drop-take, length-drop, length-take-le, take-append-drop, take-take}
use Rattle.std.proofs.lemmas.Slice.Eq.{bytes_eq-Decides}
use Rattle.cache_base.specs.Bytes.{be32_at}
use Rattle.cache_base.specs.Limits.{chunk_size}
use Rattle.cache_base.specs.declared.limits.TheConstants.{BLOCK_MAX, BODY_MAX, KEY_MAX}
use Rattle.cache_export.specs.Dump.{head}
use Rattle.cache_export.specs.Front.{block_front, body_front, front_at, head_front, item_front, key_front, lead_len, length_front, sized}
use Rattle.cache_export.specs.PartRead.{IsKeyField, IsWholeBlock, IsWholePart, IsWholeRest}
use Rattle.cache_export.specs.Parts.{left_of}
use Rattle.cache_export.specs.Reader.{StandsWhole, held_in}
use Rattle.cache_export.specs.declared.reader.DumpReader.{DumpReader}
use Rattle.cache_export.specs.declared.front.Due.{Due}
use Rattle.cache_export.specs.declared.front.Due.TheVariants as due
use Rattle.cache_export.specs.declared.front.Front.{Front}
use Rattle.cache_export.specs.declared.front.Front.TheVariants.{Whole, More, Bad}
use Rattle.cache_export.specs.declared.limits.TheConstants.{DUMP_MAX}
use Rattle.cache_export.proofs.FrontLaws.{number_0, number_1}

-- so many bytes are there, and no more of the dump than its limit
pub record Stands (n used : ℕ) (bytes : List ℕ) : Type 0 where
  pub there : n ≤ length bytes
  pub fits : used + n ≤ DUMP_MAX
  pub some : 0 < n

bad_whole : (n : ℕ) → Bad ≢ Whole n
bad_whole n e = cc

more_whole : (n : ℕ) → More ≢ Whole n
more_whole n e = cc

test_whole : (t : Bool) (f x : Front) (n : ℕ) (P : Type 0) → f ≢ Whole n → (t ≡ false → x ≡ Whole n → P) → cond t f x ≡ Whole n → P
test_whole true f x n P differs h e = absurd (differs e)
test_whole false f x n P differs h e = h refl e

whole_len : Front → ℕ
whole_len (Whole n) = n
whole_len More = 0
whole_len Bad = 0

same_len : (m n : ℕ) → Whole m ≡ Whole n → m ≡ n
unfolding whole_len
same_len m n e = ap whole_len e

-- it stands there, and has this length
abbrev pub IsSized : ℕ → ℕ → ℕ → List ℕ → Type 0
IsSized len used n bytes = (n ≡ len) × Stands n used bytes

sized_stands : (len used n : ℕ) (bytes : List ℕ) → 0 < len → sized len used bytes ≡ Whole n → IsSized len used n bytes
sized_stands len used n bytes some e = go (nat_lt DUMP_MAX (used + len)) (ltb (length bytes) len) refl refl e
  where
    go : (s t : Bool) → nat_lt DUMP_MAX (used + len) ≡ s → ltb (length bytes) len ≡ t → cond s Bad (cond t More (Whole len)) ≡ Whole n → IsSized len used n bytes
    go true t a b e = absurd (bad_whole n e)
    go false true a b e = absurd (more_whole n e)
    go false false a b e =
        let same = same_len len n e in
        let fits = ltb-false DUMP_MAX (used + len) a in
        let there = ltb-false (length bytes) len b in
        (sym same, record { there = omega (arith, there, same); fits = omega (arith, fits, same); some = omega (arith, some, same) })

key_stands : (used n : ℕ) (bytes : List ℕ) → key_front used bytes ≡ Whole n → IsSized (5 + be32_at bytes 1) used n bytes
unfolding key_front
key_stands used n bytes =
    let P = IsSized (5 + be32_at bytes 1) used n bytes in
    test_whole (ltb (length bytes) 5) More _ n P (more_whole n) (λ _. test_whole (be32_at bytes 1 == 0 || nat_lt KEY_MAX (be32_at bytes 1)) Bad _ n P (bad_whole n) (λ _ e. sized_stands (5 + be32_at bytes 1) used n bytes (omega arith) e))

block_stands : (used n : ℕ) (bytes : List ℕ) → block_front used bytes ≡ Whole n → IsSized (4 + be32_at bytes 0) used n bytes
unfolding block_front
block_stands used n bytes =
    let P = IsSized (4 + be32_at bytes 0) used n bytes in
    test_whole (nat_lt DUMP_MAX (used + 4)) Bad _ n P (bad_whole n) (λ _. test_whole (ltb (length bytes) 4) More _ n P (more_whole n) (λ _. test_whole (nat_lt BLOCK_MAX (be32_at bytes 0)) Bad _ n P (bad_whole n) (λ _ e. sized_stands (4 + be32_at bytes 0) used n bytes (omega arith) e)))

-- ---- what stands there is whole

number_taken : (n : ℕ) (bytes : List ℕ) → 4 ≤ n → n ≤ length bytes → be32_at (take n bytes) 0 ≡ be32_at bytes 0
number_taken n bytes some there =
    sym (number_0 (take n bytes) (drop n bytes) (omega (arith, some, length-take-le n bytes there))) ∙ ap (λ l. be32_at l 0) (take-append-drop n bytes)

number_taken_1 : (n : ℕ) (bytes : List ℕ) → 5 ≤ n → n ≤ length bytes → be32_at (take n bytes) 1 ≡ be32_at bytes 1
number_taken_1 n bytes some there =
    sym (number_1 (take n bytes) (drop n bytes) (omega (arith, some, length-take-le n bytes there))) ∙ ap (λ l. be32_at l 1) (take-append-drop n bytes)

first_taken : (n : ℕ) (bytes : List ℕ) → 0 < n → slice_index (take n bytes) 0 ≡ slice_index bytes 0
first_taken zero bytes some = absurd (omega (arith, some))
first_taken (suc n) [] some = refl
first_taken (suc n) (x ∷ bytes) some = refl

-- a part of so many bytes stands whole
abbrev pub IsFound : Due → ℕ → ℕ → ℕ → List ℕ → Type 0
IsFound d left used n bytes = Stands n used bytes × IsWholePart d left (take n bytes)

key_whole : (n : ℕ) (bytes : List ℕ) → n ≡ 5 + be32_at bytes 1 → n ≤ length bytes → slice_index bytes 0 ≡ 1 → IsKeyField (take n bytes)
key_whole n bytes is there one =
    (first_taken n bytes (omega (arith, is)) ∙ one, length-take-le n bytes there ∙ is ∙ ap (λ k. 5 + k) (sym (number_taken_1 n bytes (omega (arith, is)) there)))

block_whole : (n : ℕ) (bytes : List ℕ) → n ≡ 4 + be32_at bytes 0 → n ≤ length bytes → IsWholeBlock (take n bytes)
block_whole n bytes is there = length-take-le n bytes there ∙ is ∙ ap (λ k. 4 + k) (sym (number_taken n bytes (omega (arith, is)) there))

body_found : (left used n : ℕ) (bytes : List ℕ) → body_front left used bytes ≡ Whole n → IsFound due.Body left used n bytes
unfolding body_front
body_found left used n bytes = go (left == 0) refl
  where
    go : (t : Bool) → (left == 0) ≡ t → cond t (block_front used bytes) (sized (min chunk_size left) used bytes) ≡ Whole n → IsFound due.Body left used n bytes
    go true none e =
        let s = block_stands used n bytes e in
        let zero_is = eqb-true left 0 none in
        (s.1, record { piece = λ some. absurd (omega (arith, some, zero_is)); block = λ _. block_whole n bytes s.0 s.1.there })
    go false some e =
        let more = eqb-false left 0 some in
        let s = sized_stands (min chunk_size left) used n bytes (omega (arith, more)) e in
        (s.1, record { piece = λ _. length-take-le n bytes s.1.there ∙ s.0; block = λ none. absurd (more none) })

length_found : (left used n : ℕ) (bytes : List ℕ) → length_front used bytes ≡ Whole n → IsFound due.Length left used (4 + n) bytes
unfolding length_front
length_found left used n bytes =
    let P = IsFound due.Length left used (4 + n) bytes in
    test_whole (nat_lt DUMP_MAX (used + 4)) Bad _ n P (bad_whole n) (λ _. test_whole (ltb (length bytes) 4) More _ n P (more_whole n) (λ long. test_whole (nat_lt BODY_MAX (be32_at bytes 0)) Bad _ n P (bad_whole n) (λ small e.
    let f = body_found (be32_at bytes 0) (used + 4) n (drop 4 bytes) e in
    let enough = ltb-false (length bytes) 4 long in
    let there : 4 + n ≤ length bytes = omega (arith, f.0.there, length-drop 4 bytes, enough) in
    let number = number_taken (4 + n) bytes (omega arith) there in (
      record { there = there; fits = omega (arith, f.0.fits); some = omega arith },
      (
        omega (arith, length-take-le (4 + n) bytes there),
        (
          omega (arith, number, ltb-false BODY_MAX (be32_at bytes 0) small),
          subst (λ (k : ℕ). IsWholeRest k (drop 4 (take (4 + n) bytes))) (sym number) (subst (λ (l : List ℕ). IsWholeRest (be32_at bytes 0) l) (sym (drop-take 4 n bytes)) f.1),
        ),
      ),
    ))))

item_found : (left used n : ℕ) (bytes : List ℕ) → item_front used bytes ≡ Whole n → IsFound due.Item left used n bytes
unfolding item_front
item_found left used n bytes =
    let P = IsFound due.Item left used n bytes in
    test_whole (nat_lt DUMP_MAX (used + 1)) Bad _ n P (bad_whole n) (λ _. test_whole (length bytes == 0) More _ n P (more_whole n) (λ _. go (slice_index bytes 0 == 0) (length bytes == 1) (slice_index bytes 0 == 1) refl))
  where
    go : (r s t : Bool) → (slice_index bytes 0 == 1) ≡ t → cond r (cond s More Bad) (cond t (key_front used bytes) Bad) ≡ Whole n → IsFound due.Item left used n bytes
    go true true t is e = absurd (more_whole n e)
    go true false t is e = absurd (bad_whole n e)
    go false s false is e = absurd (bad_whole n e)
    go false s true is e =
        let k = key_stands used n bytes e in
        (k.1, key_whole n bytes k.0 k.1.there (eqb-true (slice_index bytes 0) 1 is))

head_found : (left used n : ℕ) (bytes : List ℕ) → head_front used bytes ≡ Whole n → IsFound due.Head left used (8 + n) bytes
unfolding head_front
head_found left used n bytes = test_whole (ltb (length bytes) 8) More _ n (IsFound due.Head left used (8 + n) bytes) (more_whole n) (λ long. go (pointwise nat_eq (take 8 bytes) head) refl (ltb-false (length bytes) 8 long))
  where
    go : (t : Bool) → pointwise nat_eq (take 8 bytes) head ≡ t → 8 ≤ length bytes → cond t (item_front (used + 8) (drop 8 bytes)) Bad ≡ Whole n → IsFound due.Head left used (8 + n) bytes
    go false is long e = absurd (bad_whole n e)
    go true is long e =
        let f = item_found left (used + 8) n (drop 8 bytes) e in
        let there : 8 + n ≤ length bytes = omega (arith, f.0.there, length-drop 8 bytes, long) in (
          record { there = there; fits = omega (arith, f.0.fits); some = omega arith },
          (
            take-take 8 (8 + n) bytes (omega arith) ∙ (bytes_eq-Decides (take 8 bytes) head).0 is,
            subst (λ (l : List ℕ). IsKeyField l) (sym (drop-take 8 n bytes)) f.1,
          ),
        )

found_at : (d : Due) (left used n : ℕ) (bytes : List ℕ) → front_at d left used bytes ≡ Whole n → IsFound d left used (lead_len d + n) bytes
found_at due.Head left used n bytes e = head_found left used n bytes e
found_at due.Item left used n bytes e = subst (λ (m : ℕ). IsFound due.Item left used m bytes) (let same : n ≡ 0 + n = omega arith in same) (item_found left used n bytes e)
found_at due.Length left used n bytes e = length_found left used n bytes e
found_at due.Body left used n bytes e = subst (λ (m : ℕ). IsFound due.Body left used m bytes) (let same : n ≡ 0 + n = omega arith in same) (body_found left used n bytes e)

-- what a reader finds whole
pub stands_whole : (r : DumpReader) (lead left n : ℕ) → lead ≡ lead_len r.progress.due → left ≡ left_of r.progress.len (length r.progress.hashes)
    → front_at r.progress.due left r.used (held_in r) ≡ Whole n → StandsWhole r (lead + n)
stands_whole r lead left n is same e =
    let f = found_at r.progress.due left r.used n (held_in r) e in
    let mine : StandsWhole r (lead_len r.progress.due + n) = record {
      there = f.0.there;
      some = f.0.some;
      fits = f.0.fits;
      whole = subst (λ (k : ℕ). IsWholePart r.progress.due k (take (lead_len r.progress.due + n) (held_in r))) same f.1;
    } in
    subst (λ (k : ℕ). StandsWhole r (k + n)) (sym is) mine
