use Rattle.std.proofs.Common.{◌∙◌, ◌/◌, ap, arith, take}
use Rattle.cache_tool.proofs.Fills.FillTexts.{part_of}
use Rattle.cache_tool.proofs.fill.body.Goals as goal

pub returns : goal.returns
returns c =
    let small = c.requires.small in
    c.split_at-2.ensures.front ∙ ap (take (c.args.x / 65536)) c.split_at.ensures.back
    ∙ part_of 33022 c.args.i (c.args.x / 65536) c.args.pattern.now c.requires.pattern (omega (arith, small))
