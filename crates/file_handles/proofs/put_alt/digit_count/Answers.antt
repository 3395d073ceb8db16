use Rattle.std.proofs.Common.{◌+◌, ◌/◌, ◌≡◌, decimal, length, arith, length-append, ap, ◌∙◌, ℕ, List}
use Rattle.std.proofs.lemmas.Fmt.{decimal_digit, decimal_nonempty, decimal_step, length-decimal-le_succ}
use Rattle.file_handles.proofs.put_alt.digit_count.Goals as goal

pub overflow_add-count : goal.overflow_add-count
overflow_add-count c =
    let all = c.loop-rest.invariant in
    let some = decimal_nonempty c.loop-rest.rest (omega (arith, c.loop-rest.auto.rest-fits)) in
    let short = length-decimal-le_succ c.args.n (omega (arith, c.ranges.n.fits)) in
    omega (arith, all, some, short, c.ranges.n.fits)

pub loop-rest-preserved : goal.loop-rest-preserved
loop-rest-preserved c =
    let all = c.loop-rest.invariant in
    let rest = c.loop-rest.rest in
    let step : length (decimal rest) ≡ length (decimal (rest / 10)) + 1 =
    ap (λ (ds : List ℕ). length ds) (decimal_step rest (omega (arith, c.loop-rest-test.true)) (omega (arith, c.loop-rest.auto.rest-fits))) ∙ length-append (decimal (rest / 10)) _ in
    omega (arith, all, step)

pub returns : goal.returns
returns c =
    let all = c.loop-rest.invariant in
    let rest = c.loop-rest.rest in
    let one : length (decimal rest) ≡ 1 = ap (λ (ds : List ℕ). length ds) (decimal_digit rest (omega (arith, c.loop-rest-test.false))) in
    omega (arith, all, one)
