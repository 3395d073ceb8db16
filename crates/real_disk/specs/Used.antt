-- Which file of the machine a call on a place used, and what is kept of the place after it.
use Rattle.std.specs.Prelude.{◌≡◌, ◌⊎◌, ℕ, List, [], Option, Some, None, IfSome, string_bytes}
use Rattle.disk_theory.specs.declared.place.Place.{Place}
use Rattle.machine_files.specs.Called.{FoundLengthAt}
use Rattle.pending_syncs.specs.Kept.{file_at}
use Rattle.real_disk.specs.Opening.{IsOpenedAt}
use Rattle.folder_paths.specs.Paths.{IsPathOf}
use Rattle.pending_syncs.specs.declared.kept.Kept.{Kept}
use Rattle.machine_files.specs.declared.machine.Machine.{Ghosts}
use Rattle.real_disk.specs.declared.tree.Tree.{Tree}

module _ {R File Dir : Type 0} (M : Ghosts R File Dir) (tree : Tree R File Dir) where
  -- the file of the place: it was kept of it, or was opened at its path
  abbrev pub IsOwnFile : Kept File → Place → File → Type 0
  IsOwnFile kept place file =
      (file_at kept place ≡ Some file) ⊎ IsOpenedAt M tree.rt.now (string_bytes tree.dir) tree.numbers place file

  -- what is kept of the place now, if any, is its own file
  abbrev pub KeepsOwn : Place → Kept File → Kept File → Type 0
  KeepsOwn place before now = IfSome (file_at now place) (IsOwnFile before place)

  -- the file of the place was used so, and that file or none is kept of the place now
  pub record KeepsUsed (Used : File → Type 0) (place : Place) (before now : Kept File) : Type 0 where
    pub file : File
    pub own : IsOwnFile before place file
    pub used : Used file
    pub kept : (file_at now place ≡ Some file) ⊎ (file_at now place ≡ None)

  -- the file of the place had these bytes from the offset on, and is the one that is kept; or there are no bytes
  abbrev pub KeepsRead : Place → ℕ → List ℕ → Kept File → Kept File → Type 0
  KeepsRead place from bytes before now =
      (bytes ≡ []) ⊎ KeepsUsed (λ file. M.held tree.rt.now file from bytes) place before now

  -- these bytes were written to the file of the place from the offset on, and it is the one that is kept
  abbrev pub KeepsWritten : Place → ℕ → List ℕ → Kept File → Kept File → Type 0
  KeepsWritten place from bytes = KeepsUsed (λ file. M.written tree.rt.now file from bytes) place

  -- so they were, and the file was made to end after them
  abbrev pub KeepsEnded : Place → ℕ → List ℕ → Kept File → Kept File → Type 0
  KeepsEnded place from bytes = KeepsUsed (λ file. M.ended tree.rt.now file from bytes) place

  -- what the machine told of a path: the length of the file there, or that nothing stands there
  abbrev pub Told : List ℕ → Option ℕ → Type 0
  Told path (Some len) = FoundLengthAt M tree.rt.now path len
  Told path None = M.missing tree.rt.now path

  -- so it told of the path of the place
  pub record IsToldOf (place : Place) (len : Option ℕ) : Type 0 where
    pub path : List ℕ
    pub is : IsPathOf (string_bytes tree.dir) tree.numbers place path
    pub told : Told path len
