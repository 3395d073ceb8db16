-- Each key reads or has a fault.
use Rattle.std.proofs.Common.{◌≡◌, ◌≢◌, ◌⊎◌, inl, inr, ℕ, zero, suc, ◌+◌, ◌<◌, ◌≤◌, List, [], ◌∷◌, ◌++◌, length, length-append, Bool, true, false, cond, refl, sym, ap, subst, ◌∙◌, arith, append_assoc}
use Rattle.std.specs.Prelude.{◌==◌, nat_lt, slice_index}
use Rattle.std.proofs.lemmas.Bool.{eqb-true, eqb-false, ltb-true, ltb-false}
use Rattle.entry_key.specs.declared.key_fault.KeyFault.{KeyFault}
use Rattle.entry_key.specs.declared.key_fault.KeyFault.TheVariants.{NoAddress, NoComma, Order}
use Rattle.entry_key.specs.Key.{Tag, doubled, tag_bytes, is_bare, MayFollow, KeyReadsAbove}
use Rattle.entry_key.specs.Faults.{LacksComma, EndsTag, FaultAbove}
use Rattle.entry_key.proofs.Walking.{spelled}

-- bytes after a letter: a value that runs to their end, or one with its comma
abbrev Split : List ℕ → Type 0
Split xs =
    ((value : List ℕ) × (xs ≡ doubled value))
    ⊎ ((value : List ℕ) × (rest : List ℕ) × (xs ≡ doubled value ++ 44 ∷ rest) × (slice_index rest 0 ≢ 44))

split_more : (x : ℕ) (xs : List ℕ) → Split xs → Split (spelled x ++ xs)
split_more x xs (inl s) = inl (x ∷ s.0, ap (λ ys. spelled x ++ ys) s.1)
split_more x xs (inr s) = inr (x ∷ s.0, s.1, ap (λ ys. spelled x ++ ys) s.2 ∙ sym (append_assoc (spelled x) (doubled s.0) (44 ∷ s.1)), s.3)

-- a byte that is no comma
split_byte : (x : ℕ) (xs : List ℕ) → (x == 44) ≡ false → Split xs → Split (x ∷ xs)
split_byte x xs e s = subst Split (ap (λ b. cond b (44 ∷ 44 ∷ []) (x ∷ []) ++ xs) e) (split_more x xs s)

split_pair : (x y : ℕ) (ys : List ℕ) (b c : Bool) → (x == 44) ≡ b → (y == 44) ≡ c → Split ys → Split (y ∷ ys) → Split (x ∷ y ∷ ys)
split_pair x y ys true true e f s t = subst Split (λ i. sym (eqb-true x 44 e) i ∷ sym (eqb-true y 44 f) i ∷ ys) (split_more 44 ys s)
split_pair x y ys true false e f s t = inr ([], y ∷ ys, (λ i. eqb-true x 44 e i ∷ y ∷ ys), eqb-false y 44 f)
split_pair x y ys false c e f s t = split_byte x (y ∷ ys) e t

split : (xs : List ℕ) → Split xs
split [] = inl ([], refl)
split (x ∷ []) = go (x == 44) refl
  where
    go : (b : Bool) → (x == 44) ≡ b → Split (x ∷ [])
    go true e = inr ([], [], (λ i. eqb-true x 44 e i ∷ []), λ h. absurd (omega (arith, h)))
    go false e = split_byte x [] e (inl ([], refl))
split (x ∷ y ∷ ys) = split_pair x y ys (x == 44) (y == 44) refl refl (split ys) (split (y ∷ ys))

-- where a letter above `last` is due at the place `at`, these bytes read or have a fault
abbrev pub Decided : ℕ → ℕ → List ℕ → Type 0
Decided last at bytes =
    ((tags : List Tag) × (address : List ℕ) × KeyReadsAbove last bytes tags address)
    ⊎ ((tags : List Tag) × (f : KeyFault) × FaultAbove last at bytes tags f)

-- a tag before the others
decided_more : (last at : ℕ) (t : Tag) (bytes rest : List ℕ) → bytes ≡ tag_bytes t ++ rest → MayFollow last t → EndsTag t rest
    → Decided t.letter (at + length (tag_bytes t)) rest → Decided last at bytes
decided_more last at t bytes rest e may ends (inl d) = inl (t ∷ d.0, d.1, (may, (rest, e, d.2)))
decided_more last at t bytes rest e may ends (inr d) = inr (t ∷ d.0, d.1, (may, (rest, e, ends, d.2)))

-- what stands after a letter without a value
bare_decided : (n last at x : ℕ) (xs : List ℕ) → ((last at : ℕ) (bytes : List ℕ) → length bytes ≤ n → Decided last at bytes)
    → length xs ≤ n → x ≢ 58 → last < x → is_bare x ≡ true → Decided last at (x ∷ xs)
bare_decided n last at x [] r short colon above bare =
    let lacks : LacksComma x (at + 1) [] (at + 1) = record { bare = λ _. (λ h. omega (arith, h), refl); other = λ o. absurd (cc) } in
    inr ([], NoComma (at + 1), (x, [], refl, colon, above, lacks))
bare_decided n last at x (y ∷ ys) r short colon above bare = go (y == 44) refl
  where
    go : (b : Bool) → (y == 44) ≡ b → Decided last at (x ∷ y ∷ ys)
    go true e =
        decided_more last at (record { letter = x; value = [] }) (x ∷ y ∷ ys) ys (λ i. x ∷ eqb-true y 44 e i ∷ ys)
        (record { rising = above; letter = colon; bare = λ _. refl }) (λ o. absurd (cc (o, bare))) (r x _ ys (omega (arith, short)))
    go false e =
        let lacks : LacksComma x (at + 1) (y ∷ ys) (at + 1) = record { bare = λ _. (eqb-false y 44 e, refl); other = λ o. absurd (cc (o, bare)) } in
        inr ([], NoComma (at + 1), (x, y ∷ ys, refl, colon, above, lacks))

-- what stands after a letter with a value
valued_decided : (n last at x : ℕ) (xs : List ℕ) → ((last at : ℕ) (bytes : List ℕ) → length bytes ≤ n → Decided last at bytes)
    → length xs ≤ n → x ≢ 58 → last < x → is_bare x ≡ false → Split xs → Decided last at (x ∷ xs)
valued_decided n last at x xs r short colon above valued (inl s) =
    let lacks : LacksComma x (at + 1) xs (at + 1 + length xs) = record { bare = λ b. absurd (cc (b, valued)); other = λ _. (s.0, s.1, refl) } in
    inr ([], NoComma (at + 1 + length xs), (x, xs, refl, colon, above, lacks))
valued_decided n last at x xs r short colon above valued (inr s) =
    let long = ap length s.2 ∙ length-append (doubled s.0) (44 ∷ s.1) in
    decided_more last at (record { letter = x; value = s.0 }) (x ∷ xs) s.1
    (ap (λ ys. x ∷ ys) (s.2 ∙ sym (append_assoc (doubled s.0) (44 ∷ []) s.1)))
    (record { rising = above; letter = colon; bare = λ b. absurd (cc (b, valued)) }) (λ _. s.3) (r x _ s.1 (omega (arith, short, long)))

letter_decided : (n last at x : ℕ) (xs : List ℕ) → ((last at : ℕ) (bytes : List ℕ) → length bytes ≤ n → Decided last at bytes)
    → length xs ≤ n → (b c d : Bool) → (x == 58) ≡ b → nat_lt last x ≡ c → is_bare x ≡ d → Decided last at (x ∷ xs)
letter_decided n last at x xs r short true c d e f g = inl ([], xs, λ i. eqb-true x 58 e i ∷ xs)
letter_decided n last at x xs r short false false d e f g = inr ([], Order at, (x, xs, refl, eqb-false x 58 e, ltb-false last x f, refl))
letter_decided n last at x xs r short false true true e f g = bare_decided n last at x xs r short (eqb-false x 58 e) (ltb-true last x f) g
letter_decided n last at x xs r short false true false e f g = valued_decided n last at x xs r short (eqb-false x 58 e) (ltb-true last x f) g (split xs)

decided : (n last at : ℕ) (bytes : List ℕ) → length bytes ≤ n → Decided last at bytes
decided n last at [] short = inr ([], NoAddress, refl)
decided zero last at (x ∷ xs) short = absurd (omega (arith, short))
decided (suc n) last at (x ∷ xs) short =
    letter_decided n last at x xs (decided n) (omega (arith, short)) (x == 58) (nat_lt last x) (is_bare x) refl refl refl

pub key_decided : (key : List ℕ) → Decided 44 0 key
key_decided key = decided (length key) 44 0 key (omega arith)
