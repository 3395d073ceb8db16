use Rattle.cache_theory.proofs.CrashImages.Unpublished as laws
use Rattle.cache_theory.proofs.laws.changes_leave_unpublished.Goals as goal

pub returns-clause-new : goal.returns-clause-new
returns-clause-new c = laws.create_unpublished

pub returns-clause-create : goal.returns-clause-create
returns-clause-create c = laws.create_leaves_unpublished

pub returns-clause-write : goal.returns-clause-write
returns-clause-write c = laws.write_leaves_unpublished

pub returns-clause-rename : goal.returns-clause-rename
returns-clause-rename c = laws.rename_leaves_unpublished

pub returns-clause-publish : goal.returns-clause-publish
returns-clause-publish c = laws.publish_leaves_unpublished

pub returns-clause-remove : goal.returns-clause-remove
returns-clause-remove c = laws.remove_leaves_unpublished

pub returns-clause-sync : goal.returns-clause-sync
returns-clause-sync c = laws.sync_leaves_unpublished

pub returns-clause-quiet : goal.returns-clause-quiet
returns-clause-quiet c = laws.quiet_unpublished
