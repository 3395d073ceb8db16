-- The notes of files that are to be synced, by their places.
use Rattle.std.specs.Prelude.{◌≡◌, ◌⊎◌, IsTrue, Bool, false, ℕ, List, Some, None}
use Rattle.std.specs.BTreeMap.{is_at}
use Rattle.std.specs.BTreeSet.{BTreeSet, contains, IsSubset}
use Rattle.disk_theory.specs.declared.place.Place.{Place}
use Rattle.disk_theory.specs.contracts.place.PlaceOrd.TheImpl as place_ord
use Rattle.pending_syncs.specs.declared.notes.FolderNotes.{FolderNotes}
use Rattle.folder_paths.specs.Areas.{area_in}
use Rattle.machine_files.specs.Called.{SyncedAt}
use Rattle.pending_syncs.specs.Kept.{file_at}
use Rattle.folder_paths.specs.Paths.{IsPathOf}
use Rattle.pending_syncs.specs.declared.kept.Kept.{Kept}
use Rattle.folder_paths.specs.declared.numbers.Folders.{Folders}
use Rattle.machine_files.specs.declared.machine.Machine.{Ghosts}
use Rattle.pending_syncs.specs.Folders.{HasNote}

-- the places whose files are noted
abbrev pub FileNotes : Type 0
FileNotes = BTreeSet Place

-- the file at the place is noted
abbrev pub IsNoted : FileNotes → Place → Type 0
IsNoted notes place = IsTrue (contains place_ord.ghosts.cmp notes place)

-- a note of the file at the place is not lost
abbrev pub KeepsNote : Place → FileNotes → FileNotes → Type 0
KeepsNote place before now = IsNoted before place → IsNoted now place

-- a file that was noted at the first place is noted at the second
abbrev pub MovesNote : Place → Place → FileNotes → FileNotes → Type 0
MovesNote from to before now = IsNoted before from → IsNoted now to

-- no note is lost
abbrev pub KeepsAll : FileNotes → FileNotes → Type 0
KeepsAll before now = IsSubset place_ord.ghosts.cmp before now

-- such a note is given up only where the folder of the place is noted, since no file stands there any more
abbrev pub Owes : Place → FileNotes → FileNotes → FolderNotes → Type 0
Owes place before now folders = IsNoted before place → IsNoted now place ⊎ HasNote folders (area_in place)

-- at every other place a file is noted exactly where it was
abbrev pub KeepsOthers : Place → FileNotes → FileNotes → Type 0
KeepsOthers place before now = (other : Place) → is_at (place_ord.ghosts.cmp place) other ≡ false → contains place_ord.ghosts.cmp now other ≡ contains place_ord.ghosts.cmp before other

-- so it is at every place but these two
abbrev pub KeepsAllBut : Place → Place → FileNotes → FileNotes → Type 0
KeepsAllBut a b before now = (other : Place) → is_at (place_ord.ghosts.cmp a) other ≡ false → is_at (place_ord.ghosts.cmp b) other ≡ false → contains place_ord.ghosts.cmp now other ≡ contains place_ord.ghosts.cmp before other

-- at most the note of the place was added, and whether it was
pub record NotesNew (is_new : Bool) (place : Place) (before now : FileNotes) : Type 0 where
  pub absent : IsTrue is_new → contains place_ord.ghosts.cmp before place ≡ false
  pub kept : KeepsAll before now
  pub others : KeepsOthers place before now

-- whatever the notes were to which the place was added, none of them is lost
abbrev pub PutsBack : Bool → Place → FileNotes → FileNotes → Type 0
PutsBack is_new place before now = (earlier : FileNotes) → NotesNew is_new place earlier before → KeepsAll earlier now

module _ {R File Dir : Type 0} (M : Ghosts R File Dir) (rt : R) (dir : List ℕ) (numbers : Folders) where
  -- the file that was opened at the path of the place was synced
  pub record SyncsPlace (place : Place) : Type 0 where
    pub path : List ℕ
    pub is : IsPathOf dir numbers place path
    pub synced : SyncedAt M rt path

  -- the file that is kept open of the place was synced, or else the one at its path
  abbrev pub SyncsFile : Kept File → Place → Type 0
  SyncsFile kept place = ((file : File) × (file_at kept place ≡ Some file) × M.synced rt file)
      ⊎ ((file_at kept place ≡ None) × SyncsPlace place)
