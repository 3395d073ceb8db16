-- What a stop leaves of a clearing: nothing of it, its mark, or all of it.
use Rattle.std.specs.Prelude.{List, ℕ}
use Rattle.cache_base.specs.declared.status.Status.{Status}
use Rattle.cache_store.specs.Open.{KeepsTo}
use Rattle.cache_store.specs.Session.{Session}
use Rattle.cache_store.specs.StoppedClearing.{IsMarkedOrCleared, IsNoneOrAll}
use Rattle.cache_theory.specs.Crash.{IsCrashSafe, IsSafe}
use Rattle.cache_theory.specs.History.{History}
use Rattle.cache_theory.specs.Marks.{Marks}
use Rattle.cache_tool.specs.Statuses.{IsClosing}
use Rattle.context_clear.specs.Mark.{IsMark}
use Rattle.disk_theory.specs.Image.{Files, IsImage}
use Rattle.disk_theory.specs.Sound.{IsQuiet}
use Rattle.disk_theory.specs.State.{State, standing}
use Rattle.disk_theory.specs.declared.place.Place.TheVariants.{Clear}
use Rattle.entry_key.specs.Tags.{value_hash}
use Rattle.index_theory.specs.Honest.{Honest}

-- Where the disk held this before the clearing, and a crash then lost no more than these marks allow: each image has the
-- mark of the origin; or under each key what a crash could leave then; or no version of the origin that is not pinned.
pub record LeavesNoneOrAll (origin : List ℕ) (w : Marks) (t : State) : Type 0 where
  pub before : State
  pub safe : IsCrashSafe before w
  pub images : (image : Files) → IsImage t image → IsNoneOrAll (value_hash origin) before w image

-- so it is, and where the session goes on to be closed, whatever the closing leaves
pub record MayHaveCleared (origin : List ℕ) (w : Marks) (came : Status) (now : Session)
    : Type 0 where
  pub stopped : LeavesNoneOrAll origin w now.disk
  pub closed : IsClosing came → (h : History)
      × (KeepsTo now h × ((t : State) → IsSafe t h.marks → LeavesNoneOrAll origin w t))

-- A clearing that was stopped before has its mark in each image still, or all of it is done, where the directory was
-- honest and nothing was pending.
abbrev pub KeepsClearing : State → State → Type 0
KeepsClearing s t = (origin : ℕ) → IsMark origin (standing s Clear)
    → IsQuiet s → Honest (standing s) → (image : Files) → IsImage t image
    → IsMarkedOrCleared origin image
