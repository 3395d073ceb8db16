-- Which file is read or written as that of a place.
use Rattle.std.specs.Prelude.{◌≡◌, ◌⊎◌, ℕ, List, Some}
use Rattle.disk_theory.specs.declared.place.Place.{Place}
use Rattle.pending_syncs.specs.Kept.{opened_at}
use Rattle.folder_paths.specs.Paths.{IsPathOf}
use Rattle.pending_syncs.specs.declared.kept.Kept.{Kept}
use Rattle.folder_paths.specs.declared.numbers.Folders.{Folders}
use Rattle.pending_syncs.specs.declared.kept.Opened.{Opened}
use Rattle.machine_files.specs.declared.machine.Machine.{Ghosts}

module _ {R File Dir : Type 0} (M : Ghosts R File Dir) (rt : R) (dir : List ℕ) (numbers : Folders) where
  -- the file was opened at the path of the place
  pub record IsOpenedAt (place : Place) (file : File) : Type 0 where
    pub path : List ℕ
    pub is : IsPathOf dir numbers place path
    pub opened : M.opened rt path file

  -- it is the file that was kept of the place, or was opened at its path
  abbrev pub IsFileOf : Kept File → Place → Opened File → Type 0
  IsFileOf kept place opened = (opened_at kept place ≡ Some opened) ⊎ IsOpenedAt place opened.file
