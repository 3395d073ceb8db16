-- Which files are kept open after a call that makes, moves or removes one.
use Rattle.std.specs.Prelude.{◌≡◌, ℕ, List, Some, string_bytes}
use Rattle.disk_theory.specs.declared.place.Place.{Place}
use Rattle.pending_syncs.specs.Kept.{opened_at}
use Rattle.folder_paths.specs.Paths.{IsPathOf}
use Rattle.pending_syncs.specs.declared.kept.Kept.{Kept}
use Rattle.pending_syncs.specs.declared.kept.Opened.{Opened}
use Rattle.machine_files.specs.declared.machine.Machine.{Ghosts}
use Rattle.real_disk.specs.declared.tree.Tree.{Tree}

module _ {R File Dir : Type 0} (M : Ghosts R File Dir) (tree : Tree R File Dir) where
  -- the path of the place
  abbrev pub IsPathIn : Place → List ℕ → Type 0
  IsPathIn place path = IsPathOf (string_bytes tree.dir) tree.numbers place path

  -- the file was made at the path of the place
  pub record IsMadeAt (place : Place) (file : File) : Type 0 where
    pub path : List ℕ
    pub is : IsPathIn place path
    pub made : M.made tree.rt.now path file

  -- the file that is kept of the place was made at its path
  pub record KeepsMade (place : Place) (now : Kept File) : Type 0 where
    pub opened : Opened File
    pub kept : opened_at now place ≡ Some opened
    pub made : IsMadeAt place opened.file

  -- the file at the path of the first place was moved to the path of the second
  pub record IsMoved (from to : Place) : Type 0 where
    pub old : List ℕ
    pub new : List ℕ
    pub is_old : IsPathIn from old
    pub is_new : IsPathIn to new
    pub moved : M.moved tree.rt.now old new

  -- the file at the path of the place was removed
  pub record IsRemoved (place : Place) : Type 0 where
    pub path : List ℕ
    pub is : IsPathIn place path
    pub removed : M.removed tree.rt.now path
