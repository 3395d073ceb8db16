-- What calls of the machine have shown.
use Rattle.std.specs.Prelude.{◌≡◌, ◌⊎◌, ℕ, List}
use Rattle.std.specs.declared.fs.attrs.Metadata.{Metadata}
use Rattle.std.specs.Fs.{file_type, metadata_len, IsFile}
use Rattle.machine_files.specs.declared.machine.Machine.{Ghosts}

module _ {R File Dir : Type 0} (M : Ghosts R File Dir) (rt : R) where
  -- the file that was opened at the path was synced
  pub record SyncedAt (path : List ℕ) : Type 0 where
    pub file : File
    pub opened : M.opened rt path file
    pub synced : M.synced rt file

  -- so it is, or nothing stood there
  abbrev pub IsSyncedOrMissing : List ℕ → Type 0
  IsSyncedOrMissing path = SyncedAt path ⊎ M.missing rt path

  -- the file that was opened at the path had these bytes from the offset on
  pub record HeldAt (path : List ℕ) (from : ℕ) (bytes : List ℕ) : Type 0 where
    pub file : File
    pub opened : M.opened rt path file
    pub held : M.held rt file from bytes

  -- a look at the path found a regular file
  pub record FoundFileAt (path : List ℕ) : Type 0 where
    pub attributes : Metadata
    pub found : M.found rt path attributes
    pub is_file : IsFile (file_type attributes)

  -- so it did, and the file had this length
  pub record FoundLengthAt (path : List ℕ) (len : ℕ) : Type 0 where
    pub attributes : Metadata
    pub found : M.found rt path attributes
    pub is_file : IsFile (file_type attributes)
    pub has_len : metadata_len attributes ≡ len
