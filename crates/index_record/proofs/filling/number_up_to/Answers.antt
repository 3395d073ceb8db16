use Rattle.std.proofs.Common.{◌≡◌, ℕ, ◌+◌, ◌-◌, ◌*◌, ◌<◌, true, List, length, get_or, take, min, arith}
use Rattle.std.specs.Char.{is_ascii_digit, digit_value}
use Rattle.std.specs.List.{list_all}
use Rattle.std.specs.Str.Parse.{digits_value}
use Rattle.std.proofs.lemmas.Bool.Decides.{nat_tests}
use Rattle.std.proofs.lemmas.Grind.{common_steps}
use Rattle.std.proofs.lemmas.Int.Digits.{digits_value_more}
use Rattle.index_record.proofs.filling.number_up_to.Goals as goal

is_digit : (ds : List ℕ) (i : ℕ) → i < length ds → list_all is_ascii_digit ds ≡ true → is_ascii_digit (get_or ds i 0) ≡ true
is_digit ds i inside all = grind (arith, common_steps)

-- past `most` a further digit changes nothing
one_more : (ds : List ℕ) (i most n : ℕ) → i < length ds → is_ascii_digit (get_or ds i 0) ≡ true → n ≡ min (digits_value 10 (take i ds)) most
    → min (n * 10 + (get_or ds i 0 - 48)) most ≡ min (digits_value 10 (take (i + 1) ds)) most
one_more ds i most n inside digit so_far =
    let worth : digit_value (get_or ds i 0) ≡ get_or ds i 0 - 48 = grind (arith, nat_tests) in
    let more = digits_value_more 10 ds i inside in
    omega (arith, worth, more, so_far)

pub loop-digit-preserved : goal.loop-digit-preserved
loop-digit-preserved c =
    let digits = c.args.digits.now in
    let digit = is_digit digits c.loop-digit.digit-index c.loop-digit-test.true c.requires in
    let next = one_more digits c.loop-digit.digit-index c.from-most.result c.loop-digit.number c.loop-digit-test.true digit c.loop-digit.invariant in
    omega (arith, next)
