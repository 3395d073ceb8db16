-- The places that slots use: while a slot is free they are fewer than the table has rows.
use Rattle.std.proofs.Common.{◌≡◌, ◌≢◌, inl, inr, ℕ, zero, suc, ◌<◌, ◌≤◌, List, [], ◌∷◌, length, Bool, true, false, cond, Option, Some, None, IsSome, refl, sym, ap, subst, ◌∙◌, arith, ltb}
use Rattle.std.specs.List.{Contains, cons_option, filter_map, list_any, position, position_or_len}
use Rattle.std.specs.Prelude.{is_none, option_map, slice_get, slice_set, unwrap_or, ◌||◌}
use Rattle.std.proofs.lemmas.Bool.{cases_Bool, cases_eq, eq-eqb, eqb-true, ltb-false, ne_eqb, or_right}
use Rattle.std.proofs.lemmas.List.Quantifiers.{position-Some}
use Rattle.std.proofs.lemmas.List.Sums.{fails_before_first}
use Rattle.std.proofs.lemmas.Option.{unwrap_or-slice_get}
use Rattle.cache_base.specs.declared.limits.TheConstants.{SLOTS}
use Rattle.doom_area.proofs.LeastFree.{long_enough}
use Rattle.handle_table.specs.Aside.{number_in, numbers_in}
use Rattle.handle_table.specs.Finding.{is_free}
use Rattle.handle_table.specs.Kept.{Kept, object_at, use_at}
use Rattle.handle_table.specs.Seats.{AreUsed, is_use_of}
use Rattle.handle_table.specs.declared.object.Object.{Object}
use Rattle.handle_table.specs.declared.object.Use.{Use}
use Rattle.handle_table.proofs.AsideNumbers.{at_most_one, kept_number, new_number}
use Rattle.handle_table.proofs.Joined.{free_is_none}

-- what a use passes is still passed where another use is set
any_kept : (test : Option Use → Bool) (slots : List (Option Use)) (s : ℕ) (y : Option Use) → test (unwrap_or (slice_get slots s) None) ≡ false → list_any test slots ≡ true
    → list_any test (slice_set slots s y) ≡ true
any_kept test [] s y fails any = absurd (let never : false ≡ true = any in cc)
any_kept test (x ∷ xs) zero y fails any = or_right (test y) (list_any test xs) (ap (λ b. b || list_any test xs) (sym fails) ∙ any)
any_kept test (x ∷ xs) (suc s) y fails any = go (test x) any (any_kept test xs s y fails)
  where
    go : (b : Bool) → (b || list_any test xs) ≡ true → (list_any test xs ≡ true → list_any test (slice_set xs s y) ≡ true) → (b || list_any test (slice_set xs s y)) ≡ true
    go true any more = refl
    go false any more = more any

-- a use that is set passes
any_new : (test : Option Use → Bool) (slots : List (Option Use)) (s : ℕ) (y : Option Use) → s < length slots → test y ≡ true → list_any test (slice_set slots s y) ≡ true
any_new test [] s y lt passes = absurd (omega (arith, lt))
any_new test (x ∷ xs) zero y lt passes = ap (λ b. b || list_any test xs) passes
any_new test (x ∷ xs) (suc s) y lt passes = or_right (test x) _ (any_new test xs s y (omega (arith, lt)) passes)

-- a slot that is free has no place
pub joined_used : (slots : List (Option Use)) (s p : ℕ) (u : Use) → s < length slots → u.place ≡ p → list_any (is_use_of p) (slice_set slots s (Some u)) ≡ true
joined_used slots s p u lt same = any_new (is_use_of p) slots s (Some u) lt (eq-eqb u.place p same)

pub used_joined : (objects : List (Option Object)) (slots : List (Option Use)) (s : ℕ) (y : Option Use) → unwrap_or (slice_get slots s) None ≡ None → AreUsed objects slots → AreUsed objects (slice_set slots s y)
used_joined objects slots s y free are p there = any_kept (is_use_of p) slots s y (ap (is_use_of p) free) (are p there)

-- A slot that leaves its place.
module _ (objects : List (Option Object)) (slots : List (Option Use)) (s place : ℕ) (used : option_map (λ (u : Use). u.place) (unwrap_or (slice_get slots s) None) ≡ Some place) (are : AreUsed objects slots) where
  no_other : (p : ℕ) → p ≢ place → is_use_of p (unwrap_or (slice_get slots s) None) ≡ false
  no_other p apart = go (unwrap_or (slice_get slots s) None) used
    where
      go : (o : Option Use) → option_map (λ (u : Use). u.place) o ≡ Some place → is_use_of p o ≡ false
      go None is = refl
      go (Some u) is = let one : u.place ≡ place = cc in ne_eqb u.place p (λ same. apart (sym same ∙ one))

  others : (p : ℕ) → p ≢ place → IsSome (unwrap_or (slice_get objects p) None) → list_any (is_use_of p) (slice_set slots s None) ≡ true
  others p apart there = any_kept (is_use_of p) slots s None (no_other p apart) (are p there)

  -- where another slot uses it
  pub used_shared : list_any (is_use_of place) (slice_set slots s None) ≡ true → AreUsed objects (slice_set slots s None)
  used_shared shared p there = elim (cases_eq p place) [
    | inl same ↦ ap (λ q. list_any (is_use_of q) (slice_set slots s None)) same ∙ shared
    | inr apart ↦ others p apart there
  ]

  -- and where the object goes with it
  pub used_last : AreUsed (slice_set objects place None) (slice_set slots s None)
  used_last p there = elim (cases_eq p place) [
    | inl same ↦ absurd (gone objects place (subst (λ q. IsSome (unwrap_or (slice_get (slice_set objects place None) q) None)) same there))
    | inr apart ↦ others p apart (still objects place p apart there)
  ]
    where
      gone : (xs : List (Option Object)) (q : ℕ) → IsSome (unwrap_or (slice_get (slice_set xs q None) q) None) → ⊥
      gone [] q some = absurd (let never : false ≡ true = some in cc)
      gone (x ∷ xs) zero some = absurd (let never : false ≡ true = some in cc)
      gone (x ∷ xs) (suc q) some = gone xs q some

      still : (xs : List (Option Object)) (q p : ℕ) → p ≢ q → IsSome (unwrap_or (slice_get (slice_set xs q None) p) None) → IsSome (unwrap_or (slice_get xs p) None)
      still [] q p apart some = some
      still (x ∷ xs) zero zero apart some = absurd (apart refl)
      still (x ∷ xs) zero (suc p) apart some = some
      still (x ∷ xs) (suc q) zero apart some = some
      still (x ∷ xs) (suc q) (suc p) apart some = still xs q p (λ same. apart (ap suc same)) some

-- the places of the uses
abbrev place_in : Option Use → Option ℕ
place_in x = option_map (λ u. u.place) x

abbrev places_in : List (Option Use) → List ℕ
places_in slots = filter_map place_in slots

place_is : (x : Option Use) (p : ℕ) → is_use_of p x ≡ true → place_in x ≡ Some p
place_is None p is = absurd (let never : false ≡ true = is in cc)
place_is (Some u) p is = ap Some (eqb-true u.place p is)

used_place : (slots : List (Option Use)) (p : ℕ) → list_any (is_use_of p) slots ≡ true → Contains (places_in slots) p
used_place [] p any = absurd (let never : false ≡ true = any in cc)
used_place (x ∷ xs) p any = go (is_use_of p x) refl any (used_place xs p)
  where
    go : (b : Bool) → is_use_of p x ≡ b → (b || list_any (is_use_of p) xs) ≡ true → (list_any (is_use_of p) xs ≡ true → Contains (places_in xs) p) → Contains (places_in (x ∷ xs)) p
    go true is any more = new_number (place_in x) (places_in xs) p (place_is x p is)
    go false is any more = kept_number (place_in x) (places_in xs) p (more any)

-- numbers that some rows of a table have: fewer than there are rows, where a row has none
module _ {X : Type 0} (in_row : Option X → Option ℕ) where
  at_most : (rows : List (Option X)) → length (filter_map in_row rows) ≤ length rows
  at_most [] = omega arith
  at_most (x ∷ xs) = let rest = at_most xs in let one = at_most_one (in_row x) (filter_map in_row xs) in omega (arith, rest, one)

  pub fewer_than_rows : (rows : List (Option X)) (i : ℕ) → i < length rows → in_row (unwrap_or (slice_get rows i) None) ≡ None → length (filter_map in_row rows) < length rows
  fewer_than_rows [] i lt none = absurd (omega (arith, lt))
  fewer_than_rows (x ∷ xs) zero lt none = let rest = at_most xs in let one = ap (λ o. length (cons_option o (filter_map in_row xs))) none in omega (arith, rest, one)
  fewer_than_rows (x ∷ xs) (suc i) lt none =
      let rest = fewer_than_rows xs i (omega (arith, lt)) none in
      let one = at_most_one (in_row x) (filter_map in_row xs) in
      omega (arith, rest, one)

-- while a slot is free some place is
module _ (k : Kept) (s : ℕ) (small : s < SLOTS) (free : use_at k s ≡ None) (rows : length k.objects ≡ SLOTS) (slots : length k.slots ≡ SLOTS) (are : AreUsed k.objects k.slots) where
  all_there : position is_free k.objects ≡ None → (p : ℕ) → p < SLOTS → IsSome (object_at k p)
  all_there none p lt = elim (cases_Bool (ltb (position_or_len is_free k.objects) (length k.objects))) [
    | inl found ↦ absurd (let some : None ≡ Some (position_or_len is_free k.objects) = sym none ∙ ap (λ b. cond b (Some (position_or_len is_free k.objects)) None) found in cc)
    | inr past ↦
        let le = ltb-false (position_or_len is_free k.objects) (length k.objects) past in
        let fails = fails_before_first is_free k.objects p None (omega (arith, lt, le, rows)) in
        go (object_at k p) (ap (λ (o : Option Object). is_none o) (unwrap_or-slice_get k.objects p None) ∙ fails)
  ]
    where
      go : (o : Option Object) → is_none o ≡ false → IsSome o
      go None is = absurd (let never : true ≡ false = is in cc)
      go (Some x) is = refl

  pub some_free : position is_free k.objects ≡ None → ⊥
  some_free none =
      let many = long_enough (places_in k.slots) SLOTS (λ p lt. used_place k.slots p (are p (all_there none p lt))) in
      let few = fewer_than_rows place_in k.slots s (omega (arith, small, slots)) (ap place_in free) in
      omega (arith, many, few, slots)

  -- so fewer files stand aside than the table has rows
  pub few_aside : length (numbers_in k.objects) < SLOTS
  few_aside = go (position is_free k.objects) refl
    where
      go : (o : Option ℕ) → position is_free k.objects ≡ o → length (numbers_in k.objects) < SLOTS
      go None none = absurd (some_free none)
      go (Some p) found =
          let few = fewer_than_rows number_in k.objects p (position-Some is_free k.objects p None found).0 (ap number_in (free_is_none k p found)) in
          omega (arith, few, rows)
