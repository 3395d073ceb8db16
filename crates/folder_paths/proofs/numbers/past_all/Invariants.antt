use Rattle.std.proofs.Common.{◌≡◌}
use Rattle.folder_paths.specs.Numbers.{named}
use Rattle.folder_paths.proofs.numbers.past_all.Given as goal

-- what is left completes the whole
abbrev pub invariant-folders : goal.invariant-folders
invariant-folders l = (goal.iterator-folders).can_next l.folder-iterator × (goal.iterator-folders).is_finite l.folder-iterator × (named l.folder-iterator l.named ≡ named l.folders.keys l.number)
