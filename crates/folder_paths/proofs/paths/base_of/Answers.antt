use Rattle.folder_paths.proofs.PathLaws.{base_is}
use Rattle.folder_paths.proofs.paths.base_of.Goals as goal

pub returns-else-is_empty : goal.returns-else-is_empty
returns-else-is_empty c = base_is c.args.dir.now c.trim_end_matches.result.now c.if-is_empty.ensures c.trim_end_matches.ensures.matches
