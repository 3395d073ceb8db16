-- The notes of folders that are to be synced.
use Rattle.std.specs.Prelude.{◌≡◌, IsTrue, ℕ, List, String}
use Rattle.std.specs.BTreeSet.{contains, contains_text, IsSubset, btree_set_len}
use Rattle.std.specs.String.{string_cmp}
use Rattle.std.specs.declared.alloc.Global.{Global}
use Rattle.folder_paths.specs.contracts.paths.AreaOrd.TheImpl as area_ord
use Rattle.folder_paths.specs.declared.paths.Area.{Area}
use Rattle.folder_paths.specs.declared.paths.Area.TheVariants.{Top, Entries, Doomed}
use Rattle.pending_syncs.specs.declared.notes.FolderNotes.{FolderNotes}

-- the folder is noted
abbrev pub HasNote : FolderNotes → Area → Type 0
HasNote notes area = IsTrue (contains area_ord.ghosts.cmp notes.areas area)

-- the folder at the path, outside the cache, is noted
abbrev pub HasNoteAbove : FolderNotes → List ℕ → Type 0
HasNoteAbove notes path = IsTrue (contains_text notes.above path)

-- the folders of the cache that are noted, in their order
abbrev pub noted_areas : FolderNotes → List Area
noted_areas notes = notes.areas.keys

-- the folders outside it that are, in the order of their paths
abbrev pub noted_above : FolderNotes → List (String Global)
noted_above notes = notes.above.keys

-- each folder of the cache is noted
pub record AllNoted (notes : FolderNotes) : Type 0 where
  pub top : HasNote notes Top
  pub entries : HasNote notes Entries
  pub doomed : HasNote notes Doomed

-- no note is lost
pub record NoneLost (before now : FolderNotes) : Type 0 where
  pub areas : IsSubset area_ord.ghosts.cmp before.areas now.areas
  pub above : IsSubset string_cmp before.above now.above

-- nothing is noted
pub record NoneLeft (now : FolderNotes) : Type 0 where
  pub areas : btree_set_len now.areas ≡ 0
  pub above : btree_set_len now.above ≡ 0
