-- The sixteen upper-case digits: each is written at the place that it reads as.
use Rattle.std.proofs.Common.{◌≡◌, ℕ, zero, suc, ◌+◌, ◌-◌, ◌<◌, ◌≤◌, Bool, true, false, ◌&&◌, ◌||◌, inl, inr, refl, ◌∙◌, arith}
use Rattle.std.specs.Prelude.{Some, nat_le, nat_lt, ◌==◌, if◌then◌else◌, slice_index}
use Rattle.std.proofs.lemmas.Bool.{eqb-true, leb-true, and_parts, cases_lt}
use Rattle.hex.specs.Hex.{hex_digit_value, upper_digits}
use Rattle.entry_name.specs.EntryName.{is_upper_digit}

-- the digit of a value below 16
abbrev pub digit_of : ℕ → ℕ
digit_of v = if nat_lt v 10 then 48 + v else 55 + v

-- the test of the first n places of the table
abbrev are_digits : ℕ → Bool
are_digits zero = true
are_digits (suc n) = (slice_index upper_digits n == digit_of n) && are_digits n

are_digits-at : (n v : ℕ) → are_digits n ≡ true → v < n → slice_index upper_digits v ≡ digit_of v
are_digits-at zero v h lt = absurd (omega arith)
are_digits-at (suc n) v h lt =
    let parts = and_parts (slice_index upper_digits n == digit_of n) (are_digits n) h in
    elim (cases_lt v n) [
      | inl below ↦ are_digits-at n v parts.1 below
      | inr top ↦ let e : v ≡ n = omega arith in rw e (eqb-true (slice_index upper_digits n) (digit_of n) parts.0)
    ]

-- the table's digit at each place
pub upper_digits-at : (v : ℕ) → v < 16 → slice_index upper_digits v ≡ digit_of v
upper_digits-at v lt = are_digits-at 16 v refl lt

-- the digit of a value is an upper-case digit
pub is_upper_digit-digit_of : (v : ℕ) → v < 16 → is_upper_digit (digit_of v) ≡ true
is_upper_digit-digit_of v lt = grind arith

-- a digit and its value
pub record Digit (c : ℕ) : Type 0 where
  pub value : ℕ
  pub small : value < 16
  pub reads : hex_digit_value c ≡ Some value
  pub writes : slice_index upper_digits value ≡ c

low_digit : (c : ℕ) → 48 ≤ c → c ≤ 57 → (hex_digit_value c ≡ Some (c - 48)) × (digit_of (c - 48) ≡ c)
low_digit c low high = grind arith

high_digit : (c : ℕ) → 65 ≤ c → c ≤ 70 → (hex_digit_value c ≡ Some (c - 55)) × (digit_of (c - 55) ≡ c)
high_digit c low high = grind arith

-- what is read at a value and is its digit, is a digit
digit_at : (c v : ℕ) → v < 16 → (hex_digit_value c ≡ Some v) × (digit_of v ≡ c) → Digit c
digit_at c v lt h = record { value = v; small = lt; reads = h.0; writes = upper_digits-at v lt ∙ h.1 }

-- an upper-case digit has a value
pub digit : (c : ℕ) → is_upper_digit c ≡ true → Digit c
digit c h = go (nat_le 48 c && nat_le c 57) refl h
  where
    go : (b : Bool) → (nat_le 48 c && nat_le c 57) ≡ b → (b || (nat_le 65 c && nat_le c 70)) ≡ true → Digit c
    go true e h =
        let p : _ × _ = and_parts (nat_le 48 c) (nat_le c 57) e in
        let low : 48 ≤ c = leb-true 48 c p.0 in
        let high : c ≤ 57 = leb-true c 57 p.1 in
        digit_at c (c - 48) (omega arith) (low_digit c low high)
    go false e h =
        let p : _ × _ = and_parts (nat_le 65 c) (nat_le c 70) h in
        let low : 65 ≤ c = leb-true 65 c p.0 in
        let high : c ≤ 70 = leb-true c 70 p.1 in
        digit_at c (c - 55) (omega arith) (high_digit c low high)
