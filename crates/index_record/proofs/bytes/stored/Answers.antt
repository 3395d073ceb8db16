use Rattle.index_record.proofs.Bits.{without_two}
use Rattle.index_record.proofs.bytes.stored.Goals as goal

pub returns : goal.returns
returns c = without_two c.args.flags c.ranges.flags.fits
