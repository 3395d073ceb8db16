use Rattle.std.proofs.Common.{arith}
use Rattle.cache_base.proofs.ByteLaws.{all_below}
use Rattle.entry_metadata.proofs.ReadBlock.{refused, spelled}
use Rattle.entry_metadata.proofs.reading.parse.Goals as goal

pub returns-clause-spelled : goal.returns-clause-spelled
returns-clause-spelled c =
    spelled c.args.block.now c.args.offset c.read_all.result (all_below 256 c.args.block.now (λ i. omega (arith, c.type_inv.block i))) c.requires
    c.read_all.ensures.passes c.read_all.ensures.says

pub returns-clause-refused : goal.returns-clause-refused
returns-clause-refused c = λ said s. refused c.args.block.now c.args.offset c.read_all.result said s c.read_all.ensures.fault
