-- A store that is open, over its disk.
use Rattle.std.specs.Prelude.{Bool, ℕ}
use Rattle.memory_index.specs.declared.memory_index.MemoryIndex.{MemoryIndex}
use Rattle.cache_store.specs.declared.store.Store.{Store}
use Rattle.disk_theory.specs.State.{State}
use Rattle.disk_theory.specs.declared.disk.Disk.{Ghosts}
use Rattle.file_handles.specs.Cache.{Cache}
use Rattle.handle_table.specs.Kept.{Kept}
use Rattle.file_handles.specs.Kept.{kept}

-- what a store keeps: the handles, the moment, and the index in memory
pub record Open : Type 0 where
  pub handles : Kept
  pub moment : ℕ
  pub index : MemoryIndex

-- what this store keeps
abbrev pub open_of : Store → Open
open_of store =
    record { handles = kept store.handles; moment = store.moment; index = store.index }

-- whether its last command ended in a look at the disk that failed before anything of the reply was out
abbrev pub is_faulting : Store → Bool
is_faulting store = store.faulting

-- a store that is open, and the disk under it
pub record Session : Type 0 where
  pub open_store : Open
  pub disk : State

-- this store, and the disk under it
abbrev pub session : {C : _} → Ghosts C → Store → C → Session
session D store disk = record { open_store = open_of store; disk = D.state disk }

-- the handles, and the disk under them
abbrev pub cache_of : Session → Cache
cache_of now = record { handles = now.open_store.handles; disk = now.disk }
