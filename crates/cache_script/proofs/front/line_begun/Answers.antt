use Rattle.std.proofs.Common.{◌+◌, ◌<◌, length, arith}
use Rattle.cache_base.specs.declared.limits.TheConstants.{SCRIPT_MAX}
use Rattle.cache_script.proofs.BadFrontLaws.{long_begun, cut_at_limit, line_part}
use Rattle.cache_script.proofs.front.line_begun.Goals as goal
use Rattle.cache_script.proofs.front.line_begun.Goals.{else-len-gt0-via-then-len-gt0+else-used-len, else-len-gt0-via-else-len-gt0}

pub returns-then-len-gt-LINE_MAX : goal.returns-then-len-gt-LINE_MAX
returns-then-len-gt-LINE_MAX c = long_begun c.args.used c.args.bytes.now c.requires.line (omega (arith, c.if-len-gt-LINE_MAX.true))

pub returns-then-used-len : goal.returns-then-used-len
returns-then-used-len c = cut_at_limit c.args.used c.args.bytes.now c.requires.line (omega (arith, c.if-len-gt0.true)) (omega (arith, c.if-used-len.true))

pub returns : goal.returns
returns c =
    let bytes = c.args.bytes.now in
    let fits : 0 < length bytes → c.args.used + length bytes < SCRIPT_MAX =
    elim c.else-len-gt0.branch [
      | else-len-gt0-via-then-len-gt0+else-used-len w ↦ λ some. omega (arith, w.if-used-len.false)
      | else-len-gt0-via-else-len-gt0 w ↦ λ some. absurd (omega (arith, some, w.if-len-gt0.false))
    ] in
    line_part c.args.used bytes c.requires.line (omega (arith, c.if-len-gt-LINE_MAX.false)) fits
