use Rattle.index_record.proofs.Bits.{is_set}
use Rattle.index_record.proofs.record.is_removed.Goals as goal

pub returns : goal.returns
returns c = is_set c.args.r.now.flags 29
