-- The handles and the disk as the machine has them.
use Rattle.std.specs.Prelude.{Bool, IsTrue, OnOk, Result, Some, ℕ, ◌≡◌}
use Rattle.cache_theory.specs.Crash.{IsCrashKept, IsSafe}
use Rattle.cache_theory.specs.History.{History}
use Rattle.cache_theory.specs.Machine.{Machine}
use Rattle.cache_theory.specs.Proper.{IsProper}
use Rattle.cache_theory.specs.Stands.{AsideStand, EntriesStand}
use Rattle.disk_theory.specs.Image.{Files}
use Rattle.disk_theory.specs.State.{standing}
use Rattle.handle_table.specs.Standing.{HandlesStand}
use Rattle.file_handles.specs.Cache.{Cache}
use Rattle.handle_table.specs.Kept.{Kept, object_at}
use Rattle.handle_table.specs.declared.object.Object.{Object}

-- the file of the machine's object of a number has this number among the doomed
pub record IsAt (k : Kept) (number : ℕ → ℕ) (aside i : ℕ) : Type 0 where
  pub place : ℕ
  pub object : Object
  pub at_place : object_at k place ≡ Some object
  pub set_aside : object.aside ≡ Some aside
  pub numbered : number place ≡ i

-- the files and the handles are the machine's
pub record Stands (files : Files) (k : Kept) (m : Machine) (number : ℕ → ℕ) : Type 0 where
  pub proper : IsProper m
  pub handles : HandlesStand k m number
  pub entries : EntriesStand files m
  pub aside : AsideStand files m (IsAt k number)

-- the handles and the files represent the machine
abbrev pub Represents : Cache → Machine → Type 0
Represents now m = (number : ℕ → ℕ) × Stands (standing now.disk) now.handles m number

-- they represent the machine of the history, and the disk keeps what its marks ask for
pub record KeepsTo (now : Cache) (h : History) : Type 0 where
  pub number : ℕ → ℕ
  pub stands : Stands (standing now.disk) now.handles h.machine number
  pub crash_kept : IsCrashKept now.disk h.machine h.marks (IsAt now.handles number)

-- they represent the machine of the history, and where a crash is spoken of the disk keeps what its
-- marks ask for
pub record KeepsWhere (crash : Bool) (now : Cache) (h : History) : Type 0 where
  pub number : ℕ → ℕ
  pub stands : Stands (standing now.disk) now.handles h.machine number
  pub crash_kept : IsTrue crash → IsCrashKept now.disk h.machine h.marks (IsAt now.handles number)

-- a call leaves this history: a crash at any exit may lose no more than its marks allow, and after
-- an Ok the disk keeps to it
pub record ReachesHistory {T E : Type 0} (crash : Bool) (h : History) (answer : Result T E)
    (after : Cache)
    : Type 0 where
  pub safe : IsTrue crash → IsSafe after.disk h.marks
  pub next : OnOk answer (KeepsWhere crash after h)

-- they represent some machine
abbrev pub RepresentsSome : Cache → Type 0
RepresentsSome now = (m : Machine) × Represents now m
