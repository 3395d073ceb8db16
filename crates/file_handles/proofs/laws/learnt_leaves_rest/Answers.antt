use Rattle.file_handles.proofs.LearntRest.{learnt_rest}
use Rattle.file_handles.proofs.laws.learnt_leaves_rest.Goals as goal

pub returns : goal.returns
returns c = learnt_rest
