use Rattle.cache_check.proofs.FoundExactly as laws
use Rattle.cache_check.proofs.laws.findings_are_exact.Goals as goal

pub returns-clause-exact : goal.returns-clause-exact
returns-clause-exact c = laws.findings_are_exact

pub returns-clause-silent : goal.returns-clause-silent
returns-clause-silent c = laws.right_records_are_silent

pub returns-clause-sorted : goal.returns-clause-sorted
returns-clause-sorted c = laws.listed_names_rise
