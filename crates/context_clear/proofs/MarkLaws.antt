-- A mark, its bytes, and what a read of its file tells.
use Rattle.std.proofs.Common.{◌≡◌, ◌≢◌, ℕ, ◌^◌, ◌<◌, ◌&&◌, Bool, true, false, cond, List, [], ◌++◌, length, take, drop, Option, Some, None, inl, inr, refl, sym, ap, subst, unwrap_or, ◌∙◌, arith, take-append-drop}
use Rattle.std.specs.Prelude.{◌==◌, IfSome}
use Rattle.std.specs.Int.{from_be_bytes, w64}
use Rattle.std.proofs.lemmas.Bool.{cases_lt, eq-eqb, eqb-true, ne_eqb}
use Rattle.std.proofs.lemmas.List.{length-drop, length-take-le, take_all, take_at}
use Rattle.std.proofs.lemmas.Nat.{from_be_bytes-to_be_bytes_4, from_be_bytes-to_be_bytes_8}
use Rattle.cache_base.specs.Bytes.{AreBytes, be32, be32_at}
use Rattle.cache_base.proofs.ByteLaws.{bytes_drop, bytes_take, eight, four, small64}
use Rattle.disk_theory.specs.State.{part_of}
use Rattle.jenkins_hash.specs.Hash.{hash_of}
use Rattle.jenkins_hash.proofs.HashLaws.{hash_of-lt}
use Rattle.context_clear.specs.Mark.{IsMark, MarkIsRead, MarkIsSpelled, TellsMark, mark_bytes, mark_of, marked_in, origin_bytes}

both_hold : (a b : Bool) (x : Option ℕ) → a ≡ true → b ≡ true → cond (a && b) x None ≡ x
both_hold a b x h k = rw (h, k) refl

first_fails : (a b : Bool) (x : Option ℕ) → a ≡ false → cond (a && b) x None ≡ None
first_fails a b x h = rw (h) refl

pub mark_read : MarkIsRead
unfolding mark_bytes marked_in
mark_read origin small =
    let hash : be32_at (mark_bytes origin) 8 ≡ hash_of (origin_bytes origin) = from_be_bytes-to_be_bytes_4 (hash_of (origin_bytes origin)) (hash_of-lt (origin_bytes origin)) in (
      refl,
      both_hold true (be32_at (mark_bytes origin) 8 == hash_of (origin_bytes origin)) (Some (from_be_bytes w64 (mark_bytes origin))) refl (eq-eqb _ _ hash)
          ∙ ap Some (from_be_bytes-to_be_bytes_8 origin small),
    )

both_true : (a b : Bool) → (a && b) ≡ true → (a ≡ true) × (b ≡ true)
both_true true b h = (refl, h)
both_true false b h = cc

-- twelve bytes of which the last four are the hash of the others
spelled : (xs : List ℕ) → AreBytes xs → length xs ≡ 12 → be32_at xs 8 ≡ hash_of (take 8 xs) → mark_bytes (from_be_bytes w64 xs) ≡ xs
unfolding mark_bytes
spelled xs bytes long hashed =
    let origin : origin_bytes (from_be_bytes w64 xs) ≡ take 8 xs = eight xs bytes (omega (arith, long)) in
    let rest : length (drop 8 xs) ≡ 4 = length-drop 8 xs ∙ omega (arith, long) in
    let hash : be32 (hash_of (origin_bytes (from_be_bytes w64 xs))) ≡ drop 8 xs =
    ap (λ (ys : List ℕ). be32 (hash_of ys)) origin ∙ ap be32 (sym hashed) ∙ four (drop 8 xs) (bytes_drop 8 xs bytes) (omega (arith, rest)) ∙ take_all 4 (drop 8 xs) (omega (arith, rest)) in
    (λ i. origin i ++ hash i) ∙ take-append-drop 8 xs

pub mark_spelled : MarkIsSpelled
unfolding marked_in
mark_spelled xs bytes = go (length xs == 12 && be32_at xs 8 == hash_of (take 8 xs)) refl
  where
    go : (b : Bool) → (length xs == 12 && be32_at xs 8 == hash_of (take 8 xs)) ≡ b → IfSome (cond b (Some (from_be_bytes w64 xs)) None) (λ origin. (origin < 2 ^ 64) × (mark_bytes origin ≡ xs))
    go true e =
        let parts = both_true (length xs == 12) (be32_at xs 8 == hash_of (take 8 xs)) e in
        (small64 xs bytes, spelled xs bytes (eqb-true _ _ parts.0) (eqb-true _ _ parts.1))
    go false e = tt

-- a list of another length is no mark
pub no_mark : (xs : List ℕ) → length xs ≢ 12 → marked_in xs ≡ None
unfolding marked_in
no_mark xs other = first_fails (length xs == 12) (be32_at xs 8 == hash_of (take 8 xs)) (Some (from_be_bytes w64 xs)) (ne_eqb (length xs) 12 other)

-- the first thirteen bytes tell
front_tells : (c : List ℕ) → marked_in (take 13 c) ≡ marked_in c
front_tells c =
    elim (cases_lt (length c) 14) [
      | inl short ↦ ap marked_in (take_all 13 c (omega (arith, short)))
      | inr long ↦
          let front : length (take 13 c) ≡ 13 = length-take-le 13 c (omega (arith, long)) in
          no_mark (take 13 c) (λ same. omega (arith, front, same)) ∙ sym (no_mark c (λ same. omega (arith, long, same)))
    ]

file_tells : (file : Option (List ℕ)) → marked_in (part_of 0 13 file) ≡ mark_of file
file_tells None = no_mark (part_of 0 13 None) (λ same. omega (arith, same))
file_tells (Some c) = front_tells c

-- what was read of the file tells
pub read_tells : (file : Option (List ℕ)) (n : ℕ) (old now : List ℕ) (found : Option ℕ) → n ≡ length (part_of 0 13 file) → now ≡ part_of 0 13 file ++ drop n old → found ≡ marked_in (take n now) → found ≡ mark_of file
read_tells file n old now found long is told =
    told ∙ ap marked_in (ap (λ (xs : List ℕ). take n xs) is ∙ take_at (part_of 0 13 file) (drop n old) n (sym long)) ∙ file_tells file

-- a mark that is found has twelve bytes
twelve : (xs : List ℕ) (origin : ℕ) → marked_in xs ≡ Some origin → length xs ≡ 12
unfolding marked_in
twelve xs origin found = go (length xs == 12) refl
  where
    go : (b : Bool) → (length xs == 12) ≡ b → length xs ≡ 12
    go true e = eqb-true (length xs) 12 e
    go false e = let none : marked_in xs ≡ None = first_fails (length xs == 12) (be32_at xs 8 == hash_of (take 8 xs)) (Some (from_be_bytes w64 xs)) e in absurd (cc)

-- bytes that are read as the mark of an origin are its mark
spells : (xs : List ℕ) (origin : ℕ) → AreBytes xs → marked_in xs ≡ Some origin → IsMark origin (Some xs)
spells xs origin bytes found =
    let is : (origin < 2 ^ 64) × (mark_bytes origin ≡ xs) = subst (λ (o : Option ℕ). IfSome o (λ origin. (origin < 2 ^ 64) × (mark_bytes origin ≡ xs))) found (mark_spelled xs bytes) in
    (is.0, ap Some (sym is.1))

-- where the first thirteen bytes of a file are bytes, its mark is found, and no other
file_tells_mark : (file : Option (List ℕ)) → AreBytes (part_of 0 13 file) → TellsMark file (mark_of file)
file_tells_mark None bytes origin = ((λ found. absurd (cc)), (λ mark. let is : None ≡ Some (mark_bytes origin) = mark.1 in absurd (cc)))
file_tells_mark (Some c) bytes origin = (there, back)
  where
    there : marked_in c ≡ Some origin → IsMark origin (Some c)
    there found = spells c origin (subst AreBytes (take_all 13 c (omega (arith, twelve c origin found))) bytes) found

    back : IsMark origin (Some c) → marked_in c ≡ Some origin
    back mark = let is : c ≡ mark_bytes origin = ap (λ (o : Option (List ℕ)). unwrap_or o []) mark.1 in ap marked_in is ∙ (mark_read origin mark.0).1

-- so what was read of the file tells
pub read_tells_mark : (file : Option (List ℕ)) (n : ℕ) (old now : List ℕ) (found : Option ℕ) → AreBytes now → n ≡ length (part_of 0 13 file) → now ≡ part_of 0 13 file ++ drop n old → found ≡ marked_in (take n now) → TellsMark file found
read_tells_mark file n old now found bytes long is told =
    let part : take n now ≡ part_of 0 13 file = ap (λ (xs : List ℕ). take n xs) is ∙ take_at (part_of 0 13 file) (drop n old) n (sym long) in
    subst (TellsMark file) (sym (read_tells file n old now found long is told)) (file_tells_mark file (subst AreBytes part (bytes_take n now bytes)))
