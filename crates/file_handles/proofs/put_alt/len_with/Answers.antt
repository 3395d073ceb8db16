use Rattle.std.proofs.Common.{◌-◌, ◌<◌, ◌^◌, ◌≡◌, ℕ, decimal, length, arith}
use Rattle.std.proofs.lemmas.Fmt.{length-decimal-le_succ}
use Rattle.file_handles.proofs.PuttingAlt.AltChecks.{small_elements, told_length}
use Rattle.file_handles.proofs.put_alt.len_with.Goals as goal

digits_few : (n d : ℕ) → n < 2 ^ 32 - 1 → d ≡ length (decimal n) → d < 2 ^ 32
digits_few n d low is = let short = length-decimal-le_succ n (omega (arith, low)) in omega (arith, is, short, low)

pub overflow_add-value : goal.overflow_add-value
overflow_add-value c = let few = digits_few c.args.meta.now.offset c.digit_count.result c.args.meta.now.finished c.digit_count.ensures in omega (arith, few)

pub overflow_add-value-2 : goal.overflow_add-value-2
overflow_add-value-2 c = let few = digits_few c.args.meta.now.offset c.digit_count.result c.args.meta.now.finished c.digit_count.ensures in omega (arith, few)

pub overflow_add-value-3 : goal.overflow_add-value-3
overflow_add-value-3 c = let few = digits_few c.args.meta.now.offset c.digit_count.result c.args.meta.now.finished c.digit_count.ensures in omega (arith, few, c.requires.short)

pub overflow_add-result-2 : goal.overflow_add-result-2
overflow_add-result-2 c =
    let few = digits_few c.args.meta.now.offset c.digit_count.result c.args.meta.now.finished c.digit_count.ensures in
    omega (arith, few, c.requires.short, c.len.ensures, small_elements c.args.meta.now)

pub overflow_add-result-3 : goal.overflow_add-result-3
overflow_add-result-3 c =
    let few = digits_few c.args.meta.now.offset c.digit_count.result c.args.meta.now.finished c.digit_count.ensures in
    omega (arith, few, c.requires.short, c.len.ensures, small_elements c.args.meta.now)

pub returns : goal.returns
returns c =
    let told = told_length c.args.meta.now c.args.kind.now c.requires.none in
    omega (arith, told, c.len.ensures, c.digit_count.ensures)
