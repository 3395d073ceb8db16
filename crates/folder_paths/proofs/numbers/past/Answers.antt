use Rattle.std.proofs.Common.{sym}
use Rattle.folder_paths.proofs.NumberLaws.{past_none, past_same, past_some}
use Rattle.folder_paths.proofs.numbers.past.Goals as goal

pub returns-then-folder-number-clause-past : goal.returns-then-folder-number-clause-past
returns-then-folder-number-clause-past c = past_some c.checked_add.result c.args.folder c.args.number c.if-folder-number.true c.checked_add.ensures

pub returns-then-folder-number-clause-none : goal.returns-then-folder-number-clause-none
returns-then-folder-number-clause-none c = past_none c.checked_add.result c.args.folder c.args.number c.if-folder-number.true c.checked_add.ensures

pub returns-else-folder-number-clause-past : goal.returns-else-folder-number-clause-past
returns-else-folder-number-clause-past c = sym (past_same c.args.folder c.args.number c.if-folder-number.false)
