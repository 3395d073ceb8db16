use Rattle.std.proofs.Common.{◌≡◌, ◌<◌, ◌+◌, List, ℕ, length, Some, None, take, ap, sym, ◌∙◌, arith, rules}
use Rattle.std.specs.Prelude.{codes, option_map}
use Rattle.cache_base.specs.Numbers.{number_in}
use Rattle.alt_data.specs.AltData.{alt_told}
use Rattle.alt_data.proofs.AltValue.{to_end, value_read}
use Rattle.alt_data.proofs.element.read_value.Goals as goal

pub returns-in_err-offset : goal.returns-in_err-offset
returns-in_err-offset c =
    let form = c.split_at.result.0.now in
    let rest = c.split_at.result.1.now in
    let is : form ≡ codes "1;" = search rules in
    let some : c.comma_at-at.result + 1 < length rest = omega (arith, c.if-at-rest.false) in
    let none : None ≡ number_in (take c.comma_at-at.result rest) = sym (c.in_err-offset.was) ∙ c.number.ensures in
    ap (option_map alt_told) c.from_residual.ensures
    ∙ value_read c.args.value.now form rest c.comma_at-at.result None c.requires c.split_at.ensures.front c.split_at.ensures.back is c.comma_at-at.ensures.at some none

pub returns : goal.returns
returns c =
    let form = c.split_at.result.0.now in
    let rest = c.split_at.result.1.now in
    let is : form ≡ codes "1;" = search rules in
    let some : c.comma_at-at.result + 1 < length rest = omega (arith, c.if-at-rest.false) in
    let read : Some c.in_ok-offset.offset ≡ number_in (take c.comma_at-at.result rest) = sym (c.in_ok-offset.was) ∙ c.number.ensures in
    ap (λ (kind : List ℕ). Some (record { offset = c.in_ok-offset.offset; kind = kind })) (to_end (c.comma_at-at.result + 1) rest)
    ∙ value_read c.args.value.now form rest c.comma_at-at.result (Some c.in_ok-offset.offset) c.requires c.split_at.ensures.front c.split_at.ensures.back is c.comma_at-at.ensures.at some read
