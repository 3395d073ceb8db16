use Rattle.alt_data.proofs.PutAfterBody.{alt_put}
use Rattle.alt_data.proofs.laws.alt_is_put.Goals as goal

pub returns : goal.returns
returns c = alt_put
