-- When all of a folder is synced.
use Rattle.std.specs.Prelude.{◌≡◌}
use Rattle.std.specs.BTreeSet.{btree_set_len}
use Rattle.real_disk.specs.Earlier.{IsSynced}
use Rattle.pending_syncs.specs.Files.{FileNotes}
use Rattle.pending_syncs.specs.Folders.{NoneLeft}
use Rattle.real_disk.specs.declared.earlier.Earlier.{Earlier}
use Rattle.pending_syncs.specs.declared.notes.FolderNotes.{FolderNotes}

-- no change of a file or of a name waits for a sync, and none that an earlier process has left
pub record IsAllSynced (files : FileNotes) (folders : FolderNotes) (earlier : Earlier)
    : Type 0 where
  pub no_file : btree_set_len files ≡ 0
  pub no_name : NoneLeft folders
  pub no_earlier : IsSynced earlier
