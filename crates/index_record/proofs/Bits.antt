-- Flags by their bits.
use Rattle.std.proofs.Common.{◌≡◌, ℕ, zero, suc, ◌+◌, ◌-◌, ◌*◌, ◌/◌, ◌%◌, ◌^◌, ◌<◌, not, ap, arith, nat_eq, bit_and}
use Rattle.std.specs.Prelude.{◌==◌}
use Rattle.std.proofs.lemmas.Bool.{ne_eqb}
use Rattle.std.proofs.lemmas.Nat.{and-not, and_comm, pow_pos}
use Rattle.std.proofs.lemmas.Nat.Bits.{and_high, and_pow}
use Rattle.index_record.specs.Record.{has_bit}

-- one bit, times its worth
one_or_none : (b p : ℕ) → b < 2 → 0 < p → not (nat_eq (b * p) 0) ≡ (b == 1)
one_or_none zero p l h = let none : 0 * p ≡ 0 = omega arith in ap (λ m. not (nat_eq m 0)) none
one_or_none (suc zero) p l h = ap not (ne_eqb (1 * p) 0 (λ e. omega (arith, e, h)))
one_or_none (suc (suc b)) p l h = absurd (omega (arith, l))

-- the mask of one bit leaves something where the bit is set
pub is_set : (n k : ℕ) → not (nat_eq (bit_and n (2 ^ k)) 0) ≡ has_bit k n
is_set n k = rw (and_pow n k) (one_or_none (n / 2 ^ k % 2) (2 ^ k) (omega arith) (pow_pos k))

-- the mask of all bits but 27 and 28
pub without_two : (n : ℕ) → n < 2 ^ 32 → bit_and n (2 ^ 32 - 1 - (2 ^ 29 - 2 ^ 27)) ≡ n / 2 ^ 29 * 2 ^ 29 + n % 2 ^ 27
without_two n small =
    let all = and-not 32 (2 ^ 29 - 2 ^ 27) n (omega arith) small in
    let two = and_high n 2 27 in
    let swapped = and_comm n (2 ^ 32 - 1 - (2 ^ 29 - 2 ^ 27)) in
    let swapped_two = and_comm (2 ^ 29 - 2 ^ 27) n in
    omega (arith, all, two, swapped, swapped_two)
