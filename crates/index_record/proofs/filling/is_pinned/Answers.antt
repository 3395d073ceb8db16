use Rattle.index_record.proofs.Bits.{is_set}
use Rattle.index_record.proofs.filling.is_pinned.Goals as goal

pub returns : goal.returns
returns c = is_set c.args.flags 0
