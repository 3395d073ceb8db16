-- Why no change of an earlier process waits: the cache was closed, or a process left the note that all was synced.
use Rattle.std.specs.Prelude.{◌≡◌, ◌⊎◌, ℕ, List, ◌∷◌, ◌++◌, codes, decimal}
use Rattle.std.specs.Fmt.{signed_decimal}
use Rattle.std.specs.Int.{from_be_bytes, w32}
use Rattle.std.specs.declared.fs.attrs.Metadata.{Metadata}
use Rattle.machine_files.specs.Called.{FoundFileAt, HeldAt}
use Rattle.folder_paths.specs.Paths.{IsIn}
use Rattle.machine_files.specs.declared.machine.Machine.{Ghosts}
use Rattle.machine_files.specs.declared.machine.Stamp.{Stamp}

-- which file or folder it is
abbrev pub identity_text : Stamp → List ℕ
identity_text stamp = decimal stamp.device ++ (32 ∷ decimal stamp.inode)

-- when it was changed last
abbrev pub change_text : Stamp → List ℕ
change_text stamp = signed_decimal stamp.seconds ++ (32 ∷ signed_decimal stamp.nanoseconds)

-- what a note says: which file it is, and which folder that of entries is and when it was changed last
abbrev pub note_text : Stamp → Stamp → List ℕ
note_text itself entries = codes "synced " ++ (((identity_text itself ++ (32 ∷ identity_text entries)) ++ (32 ∷ change_text entries)) ++ codes "\n")

-- something holds of the path of this name in the folder of the cache
pub record HoldsAt (dir name : List ℕ) (P : List ℕ → Type 0) : Type 0 where
  pub path : List ℕ
  pub is_in : IsIn dir name path
  pub holds : P path

module _ {R File Dir : Type 0} (M : Ghosts R File Dir) (rt : R) where
  -- the four bytes of the flag were 0 in the file at the path
  pub record IsFlagClear (path : List ℕ) : Type 0 where
    pub flag : List ℕ
    pub held : HeldAt M rt path 8 flag
    pub clear : from_be_bytes w32 flag ≡ 0

  -- the file at the path had this text and this stamp
  pub record IsNoteAt (path text : List ℕ) (itself : Stamp) : Type 0 where
    pub file : File
    pub opened : M.opened rt path file
    pub attributes : Metadata
    pub is_of : M.is_of rt file attributes
    pub stamped : M.stamped rt attributes itself
    pub held : M.held rt file 0 text

  module _ (dir : List ℕ) where
    -- the folder of entries had this stamp
    pub record HasStampAt (entries : Stamp) : Type 0 where
      pub path : List ℕ
      pub is_in : IsIn dir (codes "entries") path
      pub attributes : Metadata
      pub found : M.found rt path attributes
      pub stamped : M.stamped rt attributes entries

    -- the cache was closed: a journal stood, no new index did, and the flag of the index was clear
    pub record WasClosed : Type 0 where
      pub journal : HoldsAt dir (codes "index.log") (FoundFileAt M rt)
      pub no_tmp : HoldsAt dir (codes "index.tmp") (M.missing rt)
      pub clear : HoldsAt dir (codes "index") IsFlagClear

    -- the note stood, and said of itself and of the folder of entries what was found of both
    pub record NoteIsLeft : Type 0 where
      pub itself : Stamp
      pub entries : Stamp
      pub names_entries : HasStampAt entries
      pub note : HoldsAt dir (codes "synced") (λ path. IsNoteAt path (note_text itself entries) itself)

    -- either of both
    abbrev pub HasReason : Type 0
    HasReason = WasClosed ⊎ NoteIsLeft
