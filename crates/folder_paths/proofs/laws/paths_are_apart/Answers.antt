use Rattle.folder_paths.proofs.PathLaws.{paths_apart}
use Rattle.folder_paths.proofs.laws.paths_are_apart.Goals as goal

pub returns : goal.returns
returns c = λ dir numbers path one other. paths_apart dir numbers c.args._one.now c.args._other.now path one other
