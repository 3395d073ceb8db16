use Rattle.index_record.proofs.RecordLaws as laws
use Rattle.index_record.proofs.laws.record_spells.Goals as goal

pub returns : goal.returns
returns c = laws.record_spells
