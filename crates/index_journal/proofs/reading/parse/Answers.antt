use Rattle.std.proofs.Common.{arith}
use Rattle.cache_base.proofs.ByteLaws.{all_below}
use Rattle.index_journal.proofs.JournalLaws.{refused, spelled}
use Rattle.index_journal.proofs.reading.parse.Goals as goal

pub returns-clause-spelled : goal.returns-clause-spelled
returns-clause-spelled c =
    spelled c.args.b.now (all_below 256 c.args.b.now (λ i. omega (arith, c.type_inv.b i))) c.read_all.result c.read_all.ensures.passes c.read_all.ensures.records

pub returns-clause-refused : goal.returns-clause-refused
returns-clause-refused c = λ rs s. refused c.args.b.now c.read_all.result rs s c.read_all.ensures.fault
