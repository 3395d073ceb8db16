-- How a command is answered: by its result, or by the line that tells of a failed look at the disk.
use Rattle.std.specs.Io.KnownBytes.{Appends}
use Rattle.std.specs.Prelude.{Err, IfOk, IsTrue, List, Ok, OnErr, OnOk, Option, Result, ℕ, ◌≡◌, ◌≢◌}
use Rattle.cache_store.specs.Faulting.{StaysAs}
use Rattle.cache_replies.specs.Said.{IsCut}
use Rattle.cache_store.specs.Session.{open_of, session}
use Rattle.cache_store.specs.declared.outcome.Outcome.{Outcome}
use Rattle.cache_store.specs.declared.outcome.Outcome.TheVariants as outcome
use Rattle.cache_store.specs.declared.fault.StoreFault.{StoreFault}
use Rattle.cache_store.specs.declared.fault.StoreFault.TheVariants as fault
use Rattle.cache_replies.specs.declared.verdict.Verdict.{Verdict}
use Rattle.cache_replies.specs.declared.verdict.Verdict.TheVariants as verdict
use Rattle.cache_store.specs.declared.store.Store.{Store}
use Rattle.cache_theory.specs.Faulted.{fault_line}
use Rattle.disk_theory.specs.Account.{Ending, Looks}
use Rattle.disk_theory.specs.declared.disk.Disk.{Ghosts}
use Rattle.index_map.specs.Known.{SameBase}

-- the result of a command that was performed
abbrev pub verdict_of : Outcome → Verdict
verdict_of outcome.Ok = verdict.Ok
verdict_of outcome.Refused = verdict.Refused
verdict_of outcome.Faulted = verdict.Refused

-- the same of an answer, whose fault stays as it is
abbrev pub verdict_in : Result Outcome StoreFault → Result Verdict StoreFault
verdict_in (Ok o) = Ok (verdict_of o)
verdict_in (Err f) = Err f

-- A look at the disk failed before anything of the reply was out: the store and the disk are as they were, and the line
-- that tells it was printed, or a part of it where the sink failed or memory ran out.
pub record Faults {Self : _} (D : Ghosts Self) (answer : Result Outcome StoreFault)
    (old new : Store) (before now : Self)
    (taken later : Option (List ℕ)) : Type 0 where
  pub outcome : IfOk answer (λ o. o ≡ outcome.Faulted)
  pub no_disk : answer ≢ Err fault.Disk
  pub looked : Looks D Ending.OneFailed before now
  pub stays : IsTrue D.tells → StaysAs (session D old before) (session D new now)
  pub base : SameBase (open_of old).index.map (open_of new).index.map
  pub printed : OnOk answer (Appends taken later fault_line)
  pub cut : OnErr answer (IsCut taken later fault_line)
