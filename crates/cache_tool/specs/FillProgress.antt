-- How far a `fill` came.
use Rattle.std.specs.Prelude.{IfOk, List, OnOk, Result, [], ℕ, ◌∷◌, ◌≡◌}
use Rattle.cache_base.specs.declared.status.Status.{Status}
use Rattle.cache_store.specs.DoneFor.{IsDoneFor}
use Rattle.cache_store.specs.Open.{KeepsTo, Tells}
use Rattle.cache_store.specs.Session.{Session}
use Rattle.cache_store.specs.declared.fault.StoreFault.{StoreFault}
use Rattle.cache_theory.specs.Command.{Command}
use Rattle.cache_theory.specs.Command.Command.{Evict}
use Rattle.cache_theory.specs.Crash.{IsSafe}
use Rattle.cache_theory.specs.History.{History}
use Rattle.cache_theory.specs.Step.{step}
use Rattle.cache_theory.specs.Text.{reply_text}
use Rattle.cache_tool.specs.Fill.{half_of}
use Rattle.cache_tool.specs.Filled.{AreFilled, done_in, lines_in, status_in_check}
use Rattle.cache_tool.specs.MarkLeft.{KeepsMark}
use Rattle.cache_tool.specs.PutProgress.{all_unanswered}
use Rattle.cache_tool.specs.Right.{LeadTo}
use Rattle.evictor.specs.Evict.{total_kb}
use Rattle.index_theory.specs.Scan.{scan}

-- for a history: the commands were performed one after the other, as far as a fault let them
pub record AreRun {T : Type 0} (cs : List Command) (h : History) (answer : Result T StoreFault)
    (before now : Session) : Type 0 where
  pub safe : IsSafe now.disk (all_unanswered cs h).marks
  pub stands : OnOk answer (LeadTo cs before h.machine now (all_unanswered cs h))

-- whatever history the disk kept to
pub record RunsAll {T : Type 0} (cs : List Command) (answer : Result T StoreFault)
    (before now : Session)
    : Type 0 where
  pub each : (h : History) → KeepsTo before h → AreRun cs h answer before now
  pub mark : KeepsMark before.disk now.disk

-- for a history: half of all was evicted, by a sum which is that of all entries where the records in memory are right
pub record HalfIsEvicted {T : Type 0} (h : History) (answer : Result T StoreFault)
    (before now : Session)
    (said : List ℕ) : Type 0 where
  pub kb : ℕ
  pub summed : Tells before h.machine → kb ≡ total_kb (scan h.machine.shelf)
  pub done : Command
  pub is_done : IsDoneFor (Tells before h.machine) (Evict (half_of kb)) h.machine done
  pub safe : IsSafe now.disk (all_unanswered (done ∷ []) h).marks
  pub stands : OnOk answer (LeadTo (done ∷ []) before h.machine now (all_unanswered (done ∷ []) h))
  pub replied : OnOk answer (said ≡ reply_text (step h.machine done).reply)

-- the same for every history that the disk kept to
pub record EvictsHalf {T : Type 0} (answer : Result T StoreFault) (before now : Session)
    (said : List ℕ)
    : Type 0 where
  pub each : (h : History) → KeepsTo before h → HalfIsEvicted h answer before now said
  pub mark : KeepsMark before.disk now.disk

-- for a history: all of it
pub record FillIsPerformed (moment count first : ℕ) (h : History) (came : Result Status StoreFault)
    (before now : Session) (lines : List ℕ) : Type 0 where
  pub filled : AreFilled (Tells before h.machine) moment count first h.machine
  pub safe : IsSafe now.disk (all_unanswered (done_in filled) h).marks
  pub stands : OnOk came
      (LeadTo (done_in filled) before h.machine now (all_unanswered (done_in filled) h))
  pub status : IfOk came (λ s. s ≡ status_in_check filled)
  pub printed : OnOk came (lines ≡ lines_in filled)

-- whatever history the disk kept to
pub record PerformsFill (moment count first : ℕ) (came : Result Status StoreFault)
    (before now : Session)
    (lines : List ℕ) : Type 0 where
  pub each : (h : History) → KeepsTo before h
      → FillIsPerformed moment count first h came before now lines
  pub mark : KeepsMark before.disk now.disk
