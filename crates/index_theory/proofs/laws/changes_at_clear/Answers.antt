use Rattle.index_theory.proofs.AtClearLaws as laws
use Rattle.index_theory.proofs.laws.changes_at_clear.Goals as goal

pub returns-clause-image : goal.returns-clause-image
returns-clause-image c = laws.image_may_be_at_clear

pub returns-clause-quiet : goal.returns-clause-quiet
returns-clause-quiet c = laws.quiet_is_clear_apart

pub returns-clause-stands : goal.returns-clause-stands
returns-clause-stands c = laws.quiet_is_at_clear

pub returns-clause-sync : goal.returns-clause-sync
returns-clause-sync c = laws.sync_keeps_clear

pub returns-clause-remove : goal.returns-clause-remove
returns-clause-remove c = laws.remove_at_clear

pub returns-clause-rename : goal.returns-clause-rename
returns-clause-rename c = laws.rename_to_clear
