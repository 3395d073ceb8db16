use Rattle.record_list.proofs.ChangeLaws as laws
use Rattle.record_list.proofs.laws.diff_then_apply.Goals as goal

pub returns : goal.returns
returns c = laws.diff_then_apply
