use Rattle.std.proofs.Common.{ap, ◌∙◌, arith, length-drop, take, drop, ◌≡◌, ◌+◌, ◌-◌}
use Rattle.cache_base.proofs.ByteLaws.{all_below, bytes_drop}
use Rattle.entry_parts.specs.Header.{short_header_in}
use Rattle.entry_parts.proofs.HeaderLaws.{short_header_taken}
use Rattle.entry_metadata.proofs.checks.short_header_at.Goals as goal

pub returns : goal.returns
returns c =
    let b = c.args.b.now in
    let n : c.args.at + 28 - c.args.at ≡ 28 = omega arith in
    let bytes = bytes_drop c.args.at b (all_below 256 b (λ i. omega (arith, c.type_inv.b i))) in
    let long = length-drop c.args.at b in
    c.read_short.ensures ∙ ap short_header_in (c.copy_from_slice.ensures.after ∙ ap (λ k. take k (drop c.args.at b)) n) ∙ short_header_taken (drop c.args.at b) bytes (omega (arith, long))
