-- The folders that are kept open, as a map from the folders of the cache.
use Rattle.std.specs.Prelude.{◌≡◌, ◌⊎◌, ℕ, List, Option, Some, None, IfSome, false}
use Rattle.std.specs.BTreeMap.{get, is_at}
use Rattle.std.specs.List.{All}
use Rattle.folder_paths.specs.contracts.paths.AreaOrd.TheImpl as area_ord
use Rattle.machine_files.specs.declared.machine.Machine.{Ghosts}
use Rattle.pending_syncs.specs.declared.open_folders.OpenFolders.{OpenFolders}
use Rattle.folder_paths.specs.declared.paths.Area.{Area}
use Rattle.pending_syncs.specs.declared.notes.FolderNotes.{FolderNotes}
use Rattle.machine_files.specs.Called.{IsSyncedOrMissing}
use Rattle.pending_syncs.specs.Folders.{NoneLost}
use Rattle.folder_paths.specs.Paths.{IsPathOfArea}

-- the folder that is kept open
abbrev pub folder_at : {F : Type 0} → OpenFolders F → Area → Option F
folder_at opened area = get area_ord.ghosts.cmp opened.folders area

-- none is open
abbrev pub IsClosed : {F : Type 0} → OpenFolders F → Type 0
IsClosed opened = (area : Area) → folder_at opened area ≡ None

-- the other folders stay as they are
abbrev pub KeepsOtherFolders : {F : Type 0} → Area → OpenFolders F → OpenFolders F → Type 0
KeepsOtherFolders area before now = (other : Area) → is_at (area_ord.ghosts.cmp area) other ≡ false → folder_at now other ≡ folder_at before other

module _ {R File Dir : Type 0} (M : Ghosts R File Dir) (rt : R) (dir : List ℕ) where
  -- the folder was opened at a path of this one
  pub record IsOpenedAt (area : Area) (folder : File) : Type 0 where
    pub path : List ℕ
    pub is : IsPathOfArea dir area path
    pub opened : M.opened rt path folder

  -- what is open there stays, or was opened now, or nothing is
  abbrev pub OpensAt : Area → OpenFolders File → OpenFolders File → Type 0
  OpensAt area before now = (folder_at now area ≡ folder_at before area) ⊎ IfSome (folder_at now area) (IsOpenedAt area)

  -- so it is of each folder
  abbrev pub OpensNoted : OpenFolders File → OpenFolders File → Type 0
  OpensNoted before now = (area : Area) → OpensAt area before now

  -- the folder that is open was synced, or else the one at its path, unless none stands there
  abbrev pub SyncsFolder : OpenFolders File → Area → Type 0
  SyncsFolder opened area = ((folder : File) × (folder_at opened area ≡ Some folder) × M.synced rt folder)
      ⊎ ((folder_at opened area ≡ None) × ((path : List ℕ) × IsPathOfArea dir area path × IsSyncedOrMissing M rt path))

  -- each folder that was noted was synced, and so were those that were noted since
  pub record SyncsNoted (opened : OpenFolders File) (before : FolderNotes) : Type 0 where
    pub noted : FolderNotes
    pub kept : NoneLost before noted
    pub each : All (SyncsFolder opened) noted.areas.keys
