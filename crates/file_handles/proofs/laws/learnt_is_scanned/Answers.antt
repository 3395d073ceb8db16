use Rattle.file_handles.proofs.LearntLaws.{learnt_scanned}
use Rattle.file_handles.proofs.laws.learnt_is_scanned.Goals as goal

pub returns : goal.returns
returns c = learnt_scanned
