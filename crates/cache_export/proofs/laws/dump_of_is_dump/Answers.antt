use Rattle.cache_export.proofs.DumpedLaws as laws
use Rattle.cache_export.proofs.laws.dump_of_is_dump.Goals as goal

pub returns : goal.returns
returns c = laws.dump_of_is_dump
