-- What a call promises that carries out a command.
use Rattle.std.specs.Prelude.{IfSome, List, None, Option, Some, ℕ, ◌<◌, ◌^◌, ◌≡◌}
use Rattle.cache_base.specs.Bytes.{AreBytes}
use Rattle.cache_theory.specs.Command.{Command, Reply}
use Rattle.cache_theory.specs.Crash.{IsSafe}
use Rattle.cache_theory.specs.Ever.{IsFiledOnce, entries}
use Rattle.cache_theory.specs.History.{History, acked, begun, settled_at}
use Rattle.cache_theory.specs.Machine.{Machine, opened}
use Rattle.cache_theory.specs.Marks.{marks_of}
use Rattle.cache_theory.specs.Step.{step}
use Rattle.cache_theory.specs.Table.{IsTable, Table, get}
use Rattle.disk_theory.specs.State.{State, standing}
use Rattle.disk_theory.specs.declared.place.Place.TheVariants.{Doomed}
use Rattle.file_handles.specs.Cache.{Cache, cache_at}
use Rattle.handle_table.specs.Kept.{Kept}
use Rattle.file_handles.specs.Stands.{KeepsTo, Represents}

-- the answer to a command in a state of the machine: a reply is the machine's, and then its next
-- state is represented
pub record Replies (c : Command) (m : Machine) (replied : Option Reply) (after : Cache)
    : Type 0 where
  pub reply : IfSome replied (λ r. r ≡ (step m c).reply)
  pub next : IfSome replied (λ r. Represents after (step m c).next)

-- what it leaves of a history on the disk: at every exit a crash may lose no more than the marks
-- allow, and with a reply the disk keeps what the next marks ask for
pub record LeavesHistory (c : Command) (h : History) (replied : Option Reply) (after : Cache)
    : Type 0 where
  pub safe : IsSafe after.disk (begun c h).marks
  pub next : IfSome replied (λ r. KeepsTo after (acked c h))

-- the command is carried out, whatever machine is represented at the call
pub record CarriesOut (c : Command) (replied : Option Reply) (before after : Cache) : Type 0 where
  pub answers : (m : Machine) → Represents before m → Replies c m replied after
  -- and whatever history the disk keeps to as well
  pub crash : (h : History) → KeepsTo before h → LeavesHistory c h replied after

-- the same for the machines whose moment is this
pub record CarriesOutAt (now : ℕ) (c : Command) (replied : Option Reply) (before after : Cache)
    : Type 0 where
  pub answers : (m : Machine) → m.moment ≡ now → Represents before m → Replies c m replied after
  pub crash : (h : History) → h.machine.moment ≡ now → KeepsTo before h
      → LeavesHistory c h replied after

-- the command, which asks nothing of the disk, is carried out with this reply and changes nothing
abbrev pub Answers : Kept → Command → Reply → Type 0
Answers k c r = (s : State) → CarriesOut c (Some r) (cache_at k s) (cache_at k s)

-- a table of the entry files that stand
pub record IsShelf (s : State) (shelf : Table (List ℕ)) : Type 0 where
  pub table : IsTable shelf
  pub bytes : (name c : List ℕ) → get shelf name ≡ Some c → AreBytes c
  pub entries_are : (name : List ℕ) → entries (standing s) name ≡ get shelf name

-- the machine at an opening is represented, and where it is safe at that mark, the disk keeps to it
pub record StartsAs (now : Cache) (m : Machine) : Type 0 where
  pub stands : Represents now m
  pub crash : IsFiledOnce now.disk → IsSafe now.disk (marks_of m) → KeepsTo now (settled_at m)

-- on a disk with no doomed file the handles represent the machine at any opening
abbrev pub StandsForOpening : Kept → Type 0
StandsForOpening k = (s : State) (now : ℕ) (shelf : Table (List ℕ)) (mark : Option (List ℕ)) (rest : List (List ℕ))
    → now < 2 ^ 32 → IsShelf s shelf → ((number : ℕ) → standing s (Doomed number) ≡ None)
    → StartsAs (cache_at k s) (opened now shelf mark rest)
