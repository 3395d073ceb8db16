-- What ending the update does, and the sum of the sizes of all entries.
use Rattle.std.specs.Prelude.{OnOk, Result, ℕ, ◌≡◌}
use Rattle.cache_store.specs.Open.{KeepsTo, Represents, Tells}
use Rattle.cache_store.specs.Session.{Session}
use Rattle.cache_store.specs.declared.fault.StoreFault.{StoreFault}
use Rattle.cache_theory.specs.Crash.{IsSafe}
use Rattle.cache_theory.specs.History.{History}
use Rattle.cache_theory.specs.Machine.{Machine}
use Rattle.cache_theory.specs.Step.{update_ended}
use Rattle.evictor.specs.Evict.{total_kb}
use Rattle.index_theory.specs.Scan.{scan}

-- the update has ended, and nothing else of the machine and the marks has changed
abbrev pub update_over : History → History
update_over h = record h { machine = update_ended h.machine }

-- with an answer the store and the disk stand for the machine whose update has ended, whichever it was before, and keep
-- to the history with that machine; and a crash loses no more than before, at every exit
pub record EndsUpdate {T : Type 0} (answer : Result T StoreFault) (before after : Session)
    : Type 0 where
  pub stands : (m : Machine) → Represents before m → OnOk answer (Represents after (update_ended m))
  pub keeps : (h : History) → KeepsTo before h → OnOk answer (KeepsTo after (update_over h))
  pub safe : (h : History) → KeepsTo before h → IsSafe after.disk h.marks
  -- the records go on to be right
  pub tells : (m : Machine) → Represents before m → Tells before m
      → OnOk answer (Tells after (update_ended m))

-- the sum of the sizes of all entries, where the records are right
abbrev pub IsTotal : Session → ℕ → Type 0
IsTotal before kb = (m : Machine) → Represents before m → Tells before m → kb ≡ total_kb (scan m.shelf)
