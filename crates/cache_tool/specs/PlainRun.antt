-- What a run of a script leaves, said plainly.
use Rattle.std.specs.Prelude.{List, length, min, ℕ, ◌+◌, ◌≡◌}
use Rattle.cache_base.specs.declared.status.Status.{Status}
use Rattle.cache_theory.specs.Command.{Command}
use Rattle.cache_theory.specs.Crash.{IsCrashSafe}
use Rattle.cache_theory.specs.Faulted.{unfaulted}
use Rattle.cache_theory.specs.Machine.{Machine}
use Rattle.cache_theory.specs.Step.{step}
use Rattle.cache_tool.specs.DoneFor.{AreDoneFor}
use Rattle.cache_tool.specs.Verbs.{PrintsReplies, marks_behind}
use Rattle.cache_tool.specs.World.{World}
use Rattle.disk_theory.specs.Sound.{IsQuiet}
use Rattle.disk_theory.specs.State.{State, standing}
use Rattle.index_theory.specs.Honest.{Honest}

-- Those alone are left out that are answered `fault`: for all other commands of the script something is done, the first
-- of them are acknowledged, and one more may have begun where there is one.
pub record SaysPlainly (m : Machine) (d : Command) (cs : List Command) (faults : List ℕ) (acked : ℕ)
    (s t : State) : Type 0 where
  pub done : List Command
  pub as_many : length done ≡ length cs
  pub are_done : AreDoneFor (Honest (standing s)) (step m d).next
      (unfaulted faults cs) (unfaulted faults done)
  pub crash : IsQuiet s
      → IsCrashSafe t (marks_behind m d done faults acked (min (acked + 1) (length done)))

-- a run says so, whether or not the next command was to be answered `fault`
abbrev pub RunSaysPlainly : Type 0
RunSaysPlainly = (m : Machine) (d : Command) (bytes : List ℕ) (cs : List Command) (ended : Status)
    (before now : World) (run : PrintsReplies m d bytes cs ended before now)
    → SaysPlainly m d cs run.faults run.acked before.disk now.disk
