use Rattle.entry_file.proofs.WholeLaws as laws
use Rattle.entry_file.proofs.laws.reads_by_damage.Goals as goal

pub returns : goal.returns
returns c = laws.reads_by_damage
