use Rattle.jenkins_hash.proofs.Pieces.{fed_hash}
use Rattle.jenkins_hash.proofs.hasher.Hasher.finish.Goals as goal

pub returns : goal.returns
returns c = λ m holds. fed_hash c.args.self m c.close.result holds c.close.ensures
