use Rattle.alt_data.proofs.AltValue.{alt_spelled}
use Rattle.alt_data.proofs.laws.alt_is_spelled.Goals as goal

pub returns : goal.returns
returns c = alt_spelled
