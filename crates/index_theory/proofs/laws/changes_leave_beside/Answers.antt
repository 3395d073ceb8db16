use Rattle.index_theory.proofs.LeavesLaws as laws
use Rattle.index_theory.proofs.laws.changes_leave_beside.Goals as goal

pub returns-clause-nothing : goal.returns-clause-nothing
returns-clause-nothing c = laws.nothing_leaves_beside

pub returns-clause-both : goal.returns-clause-both
returns-clause-both c = laws.both_leave_beside

pub returns-clause-create : goal.returns-clause-create
returns-clause-create c = laws.create_leaves_beside

pub returns-clause-write : goal.returns-clause-write
returns-clause-write c = laws.write_leaves_beside

pub returns-clause-writes : goal.returns-clause-writes
returns-clause-writes c = laws.writes_leave_beside

pub returns-clause-rename : goal.returns-clause-rename
returns-clause-rename c = laws.rename_leaves_beside

pub returns-clause-remove : goal.returns-clause-remove
returns-clause-remove c = laws.remove_leaves_beside

pub returns-clause-sync : goal.returns-clause-sync
returns-clause-sync c = laws.sync_leaves_beside
