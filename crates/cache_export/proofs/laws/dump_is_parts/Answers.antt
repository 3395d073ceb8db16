use Rattle.cache_export.proofs.JoinedLaws as laws
use Rattle.cache_export.proofs.laws.dump_is_parts.Goals as goal

pub returns : goal.returns
returns c = laws.dump_is_parts
