-- Hashing a spelled value by runs, each up to a comma and with it.
use Rattle.std.proofs.Common.{◌≡◌, ℕ, zero, suc, ◌+◌, ◌-◌, ◌<◌, ◌≤◌, List, [], ◌∷◌, ◌++◌, length, length-drop, take, drop, Bool, true, false, cond, refl, sym, ap, subst, ◌∙◌, arith, append_assoc}
use Rattle.std.specs.Prelude.{Option, Some, None, ◌==◌, min, nat_lt, position, slice_index}
use Rattle.std.specs.List.{position_or_len}
use Rattle.std.proofs.lemmas.Bool.{eqb-true, ltb-false}
use Rattle.std.proofs.lemmas.List.{drop_min}
use Rattle.std.proofs.Math.Nat.{min_comm}
use Rattle.std.proofs.Math.Seq.{take-length}
use Rattle.std.proofs.lemmas.List.Quantifiers.{position-Some}
use Rattle.std.proofs.lemmas.List.Sums.{fails_before_first}
use Rattle.sha1.specs.declared.Sha1.{Sha1}
use Rattle.sha1.specs.Sha1.{Holds}
use Rattle.entry_key.specs.Key.{doubled}

abbrev pub is_comma : ℕ → Bool
is_comma x = x == 44

-- the first comma of these bytes stands at this place
record FirstComma (xs : List ℕ) (at : ℕ) : Type 0 where
  within : at < length xs
  here : is_comma (slice_index xs at) ≡ true
  before : (i : ℕ) → i < at → is_comma (slice_index xs i) ≡ false

-- up to the first comma, and with it, a value stands as it is spelled; the comma's double is passed over
record Run (value spelled : List ℕ) (comma : ℕ) : Type 0 where
  more : List ℕ
  front : value ≡ take (comma + 1) spelled ++ more
  back : drop (comma + 2) spelled ≡ doubled more

run_behind : (x comma : ℕ) (xs : List ℕ) (t : Bool) → (x == 44) ≡ t → ((at : ℕ) → FirstComma (doubled xs) at → Run xs (doubled xs) at)
    → FirstComma (cond t (44 ∷ 44 ∷ []) (x ∷ []) ++ doubled xs) comma → Run (x ∷ xs) (cond t (44 ∷ 44 ∷ []) (x ∷ []) ++ doubled xs) comma
run_behind x zero xs true e r first = record { more = xs; front = ap (λ y. y ∷ xs) (eqb-true x 44 e); back = refl }
run_behind x (suc at) xs true e r first = cc (first.before 0 (omega arith))
run_behind x zero xs false e r first = cc (e, first.here)
run_behind x (suc at) xs false e r first =
    let within = first.within in
    let run = r at (record { within = omega (arith, within); here = first.here; before = λ i lt. first.before (suc i) (omega (arith, lt)) }) in
    let one : suc at + 1 ≡ suc (at + 1) = omega arith in
    let two : suc at + 2 ≡ suc (at + 2) = omega arith in
    record {
      more = run.more;
      front = ap (λ ys. x ∷ ys) run.front ∙ ap (λ n. take n (x ∷ doubled xs) ++ run.more) (sym one);
      back = ap (λ n. drop n (x ∷ doubled xs)) two ∙ run.back;
    }

run_at : (value : List ℕ) (comma : ℕ) → FirstComma (doubled value) comma → Run value (doubled value) comma
run_at [] comma first = let within = first.within in absurd (omega (arith, within))
run_at (x ∷ xs) comma first = run_behind x comma xs (x == 44) refl (run_at xs) first

-- a value without a comma stands as it is spelled
plain_behind : (x : ℕ) (xs : List ℕ) (t : Bool) → (x == 44) ≡ t → doubled xs ≡ xs → is_comma (slice_index (cond t (44 ∷ 44 ∷ []) (x ∷ []) ++ doubled xs) 0) ≡ false
    → cond t (44 ∷ 44 ∷ []) (x ∷ []) ++ doubled xs ≡ x ∷ xs
plain_behind x xs true e same none = cc none
plain_behind x xs false e same none = ap (λ ys. x ∷ ys) same

all_plain : (value : List ℕ) → ((i : ℕ) → i < length (doubled value) → is_comma (slice_index (doubled value) i) ≡ false) → doubled value ≡ value
all_plain [] none = refl
all_plain (x ∷ xs) none =
    plain_behind x xs (x == 44) refl
    (all_plain xs (λ i lt. behind x xs (x == 44) none i lt))
    (none 0 (some x xs (x == 44)))
  where
    some : (x : ℕ) (xs : List ℕ) (t : Bool) → 0 < length (cond t (44 ∷ 44 ∷ []) (x ∷ []) ++ doubled xs)
    some x xs true = omega arith
    some x xs false = omega arith

    behind : (x : ℕ) (xs : List ℕ) (t : Bool) → ((i : ℕ) → i < length (cond t (44 ∷ 44 ∷ []) (x ∷ []) ++ doubled xs) → is_comma (slice_index (cond t (44 ∷ 44 ∷ []) (x ∷ []) ++ doubled xs) i) ≡ false)
        → (i : ℕ) → i < length (doubled xs) → is_comma (slice_index (doubled xs) i) ≡ false
    behind x xs true none i lt = none (suc (suc i)) (omega (arith, lt))
    behind x xs false none i lt = none (suc i) (omega (arith, lt))

-- what was hashed, and what is left
pub record Hashing (hasher : Sha1) (rest value : List ℕ) : Type 0 where
  pub front : List ℕ
  pub left : List ℕ
  pub holds : Holds hasher front
  pub spelled : rest ≡ doubled left
  pub joined : front ++ left ≡ value

pub run_hashed : (old new : Sha1) (run rest value : List ℕ) (comma : ℕ) → Hashing old rest value → position is_comma rest ≡ Some comma
    → run ≡ take (comma + 1) rest → ((m : List ℕ) → Holds old m → Holds new (m ++ run)) → Hashing new (drop (comma + 2) rest) value
run_hashed old new bytes rest value comma h first whole update =
    let p = position-Some is_comma rest comma 0 first in
    let run = run_at h.left comma (subst (λ ys. FirstComma ys comma) h.spelled (record { within = p.0; here = p.1; before = p.2 })) in
    record {
      front = h.front ++ bytes;
      left = run.more;
      holds = update h.front h.holds;
      spelled = ap (drop (comma + 2)) h.spelled ∙ run.back;
      joined =
          append_assoc h.front bytes run.more
          ∙ ap (λ ys. h.front ++ (ys ++ run.more)) (whole ∙ ap (take (comma + 1)) h.spelled)
          ∙ ap (λ ys. h.front ++ ys) (sym run.front) ∙ h.joined;
    }

-- what follows a run and the comma's double, also where the bytes end before it
pub behind_run : (rest : List ℕ) (n : ℕ) → take (length rest - min (length rest) n) (drop (min (length rest) n) rest) ≡ drop n rest
behind_run rest n =
    ap (λ k. take k (drop (min (length rest) n) rest)) (sym (length-drop (min (length rest) n) rest)) ∙ take-length _
    ∙ ap (λ k. drop k rest) (min_comm (length rest) n) ∙ drop_min n rest

-- the last run is the rest
pub rest_hashed : (hasher : Sha1) (rest value : List ℕ) (h : Hashing hasher rest value) → position is_comma rest ≡ None → h.front ++ rest ≡ value
rest_hashed hasher rest value h none = ap (λ ys. h.front ++ ys) (h.spelled ∙ all_plain h.left (λ i lt. ap (λ ys. is_comma (slice_index ys i)) (sym h.spelled) ∙ plain i (omega (arith, lt, ap length h.spelled)))) ∙ h.joined
  where
    go : (t : Bool) → nat_lt (position_or_len is_comma rest) (length rest) ≡ t
        → ◌≡◌ {A = Option ℕ} (cond t (Some (position_or_len is_comma rest)) None) None → length rest ≤ position_or_len is_comma rest
    go true e h = absurd (cc h)
    go false e h = ltb-false _ _ e

    plain : (i : ℕ) → i < length rest → is_comma (slice_index rest i) ≡ false
    plain i lt = let le = go _ refl none in fails_before_first is_comma rest i 0 (omega (arith, lt, le))
