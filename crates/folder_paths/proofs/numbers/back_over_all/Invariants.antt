use Rattle.std.proofs.Common.{◌≡◌}
use Rattle.std.specs.Prelude.{◌-◌}
use Rattle.folder_paths.specs.Numbers.{IsFree}
use Rattle.folder_paths.proofs.NumberLaws.{below_it}
use Rattle.folder_paths.proofs.numbers.back_over_all.Given as goal

-- what is left completes the whole, and no folder that was passed has the number in the name
abbrev pub invariant-folders : goal.invariant-folders
invariant-folders l = (goal.iterator-folders).can_next l.folder-iterator × (goal.iterator-folders).is_finite l.folder-iterator
    × (l.number - below_it l.folder-iterator l.named ≡ l.named - below_it l.folders.keys l.named)
    × (IsFree l.folder-iterator l.named → IsFree l.folders.keys l.named)
    × (IsFree l.folders.keys l.named → IsFree l.folder-iterator l.named)
