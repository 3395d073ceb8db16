-- What a folder of the machine has to sync.
use Rattle.real_disk.specs.Settled.{IsAllSynced}
use Rattle.real_disk.specs.declared.real_disk.RealDisk.{RealDisk}

-- no change of a file or of a name waits for a sync, and none that an earlier process has left
pub record NothingPending {R File Dir : Type 0} (disk : RealDisk R File Dir) : Type 0 where
  pub settled : IsAllSynced disk.folder.files disk.folder.tree.folders disk.folder.earlier
