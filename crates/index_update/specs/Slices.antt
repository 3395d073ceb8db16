-- A slice of an update: some first names of the rest are read, and taken off.
use Rattle.std.specs.Prelude.{IsTrue, List, [], ℕ, ◌*◌, ◌≡◌, ◌≢◌}
use Rattle.cache_base.specs.Causes.{CountsFailure}
use Rattle.cache_base.specs.declared.name.Name.{Name}
use Rattle.disk_theory.specs.Account.{Ending}
use Rattle.disk_theory.specs.Account.Ending.{OneFailed}
use Rattle.disk_theory.specs.Calls.{LastLookFails}
use Rattle.disk_theory.specs.declared.disk.Disk.{Ghosts}
use Rattle.entry_file.specs.Looks.{LooksAtMost, meta_looks}
use Rattle.index_map.specs.Known.{Known}
use Rattle.index_theory.specs.Ever.{Entries}
use Rattle.index_update.specs.Reads.{ReadsIn}
use Rattle.index_update.specs.Tells.{ComesToTell}

-- the records of the first names of the rest are those of their entries; where none is left, the records that were not
-- seen are dropped, and all is told
pub record ReadsSlice (es : Entries) (first rest left : List Name) (old new : Known) : Type 0 where
  pub seen : ReadsIn es first old.seen new.seen
  pub records : left ≢ [] → ReadsIn es first old.records new.records
  pub tells : left ≡ [] → ComesToTell es old rest new

-- the disk is looked at alone, for each of so many names by at most the calls that an entry's metadata take, and its
-- faults are accounted for
pub record LooksAtNames {Self : _} (D : Ghosts Self) (answer : Ending) (names : ℕ)
    (before now : Self) : Type 0 where
  pub cause : CountsFailure (answer ≡ OneFailed) (D.faults before) (D.faults now)
  pub state : IsTrue D.tells → D.state now ≡ D.state before
  pub looks : IsTrue D.tells → LooksAtMost (meta_looks * names) (D.counts before) (D.counts now)
  -- where a look failed no call follows
  pub last : answer ≡ OneFailed → IsTrue D.tells → LastLookFails (D.counts now)
