use Rattle.entry_key.proofs.KeyLaws as laws
use Rattle.entry_key.proofs.laws.reads_or_fails.Goals as goal

pub returns-clause-reads_one_way : goal.returns-clause-reads_one_way
returns-clause-reads_one_way c = laws.reads_one_way

pub returns-clause-fails_one_way : goal.returns-clause-fails_one_way
returns-clause-fails_one_way c = laws.fails_one_way

pub returns-clause-each : goal.returns-clause-each
returns-clause-each c = laws.reads_or_fails

pub returns-clause-never_both : goal.returns-clause-never_both
returns-clause-never_both c = laws.never_both
