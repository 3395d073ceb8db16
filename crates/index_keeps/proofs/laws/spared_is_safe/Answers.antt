use Rattle.index_keeps.proofs.KeepsLaws as laws
use Rattle.index_keeps.proofs.laws.spared_is_safe.Goals as goal

pub returns-clause-safe : goal.returns-clause-safe
returns-clause-safe c = laws.spared_is_safe

pub returns-clause-once : goal.returns-clause-once
returns-clause-once c = laws.spared_is_filed_once
