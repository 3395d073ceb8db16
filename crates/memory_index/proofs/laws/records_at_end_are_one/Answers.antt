use Rattle.memory_index.proofs.RecordsAtEnd as laws
use Rattle.memory_index.proofs.laws.records_at_end_are_one.Goals as goal

pub returns : goal.returns
returns c = laws.at_end_is_one
