-- Which files a folder of the machine keeps open after a call, and which file of the machine that call used.
use Rattle.std.specs.Prelude.{◌≡◌, ℕ, List, Option, None}
use Rattle.disk_theory.specs.declared.place.Place.{Place}
use Rattle.real_disk.specs.Changes.{IsMoved, IsRemoved, KeepsMade}
use Rattle.pending_syncs.specs.Kept.{opened_at, ClosesElsewhere, IsIdle, IsSettled, MovesKept, SameElsewhere, SameFiles, StaysOrGoes}
use Rattle.real_disk.specs.Used.{IsToldOf, KeepsOwn, KeepsRead, KeepsWritten, KeepsEnded}
use Rattle.machine_files.specs.declared.machine.Machine.{Ghosts}
use Rattle.real_disk.specs.declared.real_disk.RealDisk.{RealDisk}

module _ {R File Dir : Type 0} where
  -- all that was kept of any place stays
  abbrev pub KeepsAllOpen : RealDisk R File Dir → RealDisk R File Dir → Type 0
  KeepsAllOpen before now = now.folder.kept ≡ before.folder.kept

  -- of each place the same file is kept, or none any more
  abbrev pub KeepsSameFiles : RealDisk R File Dir → RealDisk R File Dir → Type 0
  KeepsSameFiles before now = SameFiles before.folder.kept now.folder.kept

  -- what was kept of the place stays, or none is kept of it any more
  abbrev pub KeepsOrCloses : Place → RealDisk R File Dir → RealDisk R File Dir → Type 0
  KeepsOrCloses place before now = StaysOrGoes place before.folder.kept now.folder.kept

  -- what is kept of any other place stays
  abbrev pub KeepsOthersOpen : Place → RealDisk R File Dir → RealDisk R File Dir → Type 0
  KeepsOthersOpen place before now = SameElsewhere place before.folder.kept now.folder.kept

  -- so it does, or was closed: it waited for no sync
  abbrev pub ClosesIdle : Place → RealDisk R File Dir → RealDisk R File Dir → Type 0
  ClosesIdle place before now = ClosesElsewhere IsIdle place before.folder.kept now.folder.kept

module _ {R File Dir : Type 0} (M : Ghosts R File Dir) where
  -- the file that is kept of the place was made now, at its path
  abbrev pub CreatesAt : Place → RealDisk R File Dir → RealDisk R File Dir → Type 0
  CreatesAt place before now = KeepsMade M before.folder.tree place now.folder.kept

  -- what is kept of any other place stays, or was closed: it waited for no sync, or was synced
  abbrev pub KeepsElsewhere : Place → RealDisk R File Dir → RealDisk R File Dir → Type 0
  KeepsElsewhere place before now = ClosesElsewhere (IsSettled M before.folder.tree.rt.now) place before.folder.kept now.folder.kept

  -- the file at the path of the first place was moved to that of the second, and what was kept of it went with it
  pub record RenamesTo (from to : Place) (before now : RealDisk R File Dir) : Type 0 where
    pub moved : IsMoved M before.folder.tree from to
    pub kept : MovesKept from to before.folder.kept now.folder.kept

  -- the file at the path of the place was removed, and none is kept of it
  pub record RemovesAt (place : Place) (before now : RealDisk R File Dir) : Type 0 where
    pub removed : IsRemoved M before.folder.tree place
    pub closed : opened_at now.folder.kept place ≡ None

  -- what is kept of the place, if any, was kept of it before, or was opened now at its path
  abbrev pub KeepsOwnFile : Place → RealDisk R File Dir → RealDisk R File Dir → Type 0
  KeepsOwnFile place before now = KeepsOwn M before.folder.tree place before.folder.kept now.folder.kept

  -- the file of the place had these bytes from the offset on, and is the one that is kept; or there are no bytes
  abbrev pub ReadsKept : Place → ℕ → List ℕ → RealDisk R File Dir → RealDisk R File Dir → Type 0
  ReadsKept place from bytes before now = KeepsRead M before.folder.tree place from bytes before.folder.kept now.folder.kept

  -- these bytes were written to the file of the place from the offset on, and it is the one that is kept
  abbrev pub PatchesKept : Place → ℕ → List ℕ → RealDisk R File Dir → RealDisk R File Dir → Type 0
  PatchesKept place from bytes before now = KeepsWritten M before.folder.tree place from bytes before.folder.kept now.folder.kept

  -- so they were, and the file was made to end after them
  abbrev pub EndsKept : Place → ℕ → List ℕ → RealDisk R File Dir → RealDisk R File Dir → Type 0
  EndsKept place from bytes before now = KeepsEnded M before.folder.tree place from bytes before.folder.kept now.folder.kept

  -- the machine told of this length at the path of the place, or that nothing stands there
  abbrev pub ToldAt : Place → RealDisk R File Dir → Option ℕ → Type 0
  ToldAt place before len = IsToldOf M before.folder.tree place len
