use Rattle.alt_data.proofs.AltValue.{alt_read}
use Rattle.alt_data.proofs.laws.alt_is_read.Goals as goal

pub returns : goal.returns
returns c = alt_read
