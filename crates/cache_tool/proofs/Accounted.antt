-- How failures are accounted for.
use Rattle.std.proofs.Common.{◌≡◌, ◌≢◌, ◌≤◌, ◌⊎◌, ◌∙◌, inl, inr, ℕ, IfOk, IsErrAnd, IsTrue, Option, Result, Ok, Err, refl, sym, subst, arith}
use Rattle.std.specs.Prelude.{IsErrOf}
use Rattle.cache_base.specs.Causes.{HasCause, Rose}
use Rattle.cache_base.specs.declared.status.Status.{Status}
use Rattle.cache_base.specs.declared.status.Status.TheVariants as status
use Rattle.cache_store.specs.Faults.{fault_ending}
use Rattle.cache_store.specs.declared.outcome.Outcome.{Outcome}
use Rattle.cache_store.specs.declared.fault.StoreFault.{StoreFault}
use Rattle.cache_store.specs.declared.fault.StoreFault.TheVariants as fault
use Rattle.cache_tool.specs.Statuses.{status_in}
use Rattle.cache_tool.specs.Tally.{Failure, IsAccounted, Tally, fault_failure, script_failure, turn_failure}
use Rattle.cache_tool.specs.declared.script.ScriptEnd.{ScriptEnd}
use Rattle.disk_theory.specs.Account.{Ending}
use Rattle.disk_theory.specs.Calls.{StopsAtFault}

-- the same failure by another name
renamed : {P Q : Type 0} (before now : ℕ) → (P → Q) → (Q → P) → HasCause P before now → HasCause Q before now
renamed before now on back cause = record { later = cause.later; rose = λ q. cause.rose (back q); kept = λ none. cause.kept (λ p. none (on p)) }

module _ (before now : Tally) (calm : now.source ≡ before.source) where
  source_is_calm : (what : Failure) → what ≢ Failure.OfSourceCall → HasCause (what ≡ Failure.OfSourceCall) before.source now.source
  source_is_calm what other = record { later = omega (arith, calm); rose = λ is. absurd (other is); kept = λ none. calm }

  fault_accounted : (f : StoreFault) → HasCause (IsErrOf {T = Outcome} (Err f) fault.Sink) before.sink now.sink → before.disk ≤ now.disk → (f ≡ fault.Disk → Rose before.disk now.disk)
      → (fault_ending f ≡ Ending.NoneFailed → IsTrue now.tells → now.calls.failed ≡ before.calls.failed) → (IsTrue now.tells → StopsAtFault before.calls now.calls) → IsAccounted (fault_failure f) before now
  fault_accounted fault.Memory sink later rose went_on stops = record {
    source = source_is_calm Failure.OfMemory (λ e. cc);
    sink = renamed before.sink now.sink (λ e. absurd (cc)) (λ e. absurd (cc)) sink;
    disk_later = later;
    disk_rose = λ e. absurd (cc e);
    went_on = λ sound room. absurd (room refl);
    stops = stops;
  }
  fault_accounted fault.Disk sink later rose went_on stops = record {
    source = source_is_calm Failure.OfDiskCall (λ e. cc);
    sink = renamed before.sink now.sink (λ e. absurd (cc)) (λ e. absurd (cc)) sink;
    disk_later = later;
    disk_rose = λ e. rose refl;
    went_on = λ sound. absurd (sound refl);
    stops = stops;
  }
  fault_accounted fault.Sink sink later rose went_on stops = record {
    source = source_is_calm Failure.OfSinkCall (λ e. cc);
    sink = renamed before.sink now.sink (λ e. refl) (λ e. refl) sink;
    disk_later = later;
    disk_rose = λ e. absurd (cc e);
    went_on = λ sound room. went_on refl;
    stops = stops;
  }

-- a command failed, and that is what the turn answers
pub command_accounted : (answer : Result (Option ScriptEnd) StoreFault) (f : StoreFault) (before now : Tally) → IsErrAnd answer (λ e. e ≡ f) → now.source ≡ before.source
    → HasCause (IsErrOf {T = Outcome} (Err f) fault.Sink) before.sink now.sink → before.disk ≤ now.disk → (f ≡ fault.Disk → Rose before.disk now.disk)
    → (fault_ending f ≡ Ending.NoneFailed → IsTrue now.tells → now.calls.failed ≡ before.calls.failed) → (IsTrue now.tells → StopsAtFault before.calls now.calls) → IsAccounted (turn_failure answer) before now
command_accounted (Ok x) f before now is calm sink later rose went_on stops = absurd is
command_accounted (Err e) f before now is calm sink later rose went_on stops = subst (λ x. IsAccounted (fault_failure x) before now) (sym is) (fault_accounted before now calm f sink later rose went_on stops)

-- a command was answered
pub answer_accounted : (o : Outcome) (before now : Tally) → now.source ≡ before.source → HasCause (IsErrOf (Ok o) fault.Sink) before.sink now.sink → before.disk ≤ now.disk
    → (IsTrue now.tells → now.calls.failed ≡ before.calls.failed) → (IsTrue now.tells → StopsAtFault before.calls now.calls) → IsAccounted Failure.NoFailure before now
answer_accounted o before now calm sink later went_on stops = record {
  source = source_is_calm before now calm Failure.NoFailure (λ e. cc);
  sink = renamed before.sink now.sink (λ e. absurd (cc)) (λ e. absurd (cc)) sink;
  disk_later = later;
  disk_rose = λ e. absurd (cc e);
  went_on = λ sound room. went_on;
  stops = stops;
}

-- the status of a script is that of a sink that failed only where it was so
pub sink_failed : (came : Result Status StoreFault) → IfOk came (λ s. (s ≡ status.Done) ⊎ ((s ≡ status.Script) ⊎ (s ≡ status.Source))) → status_in came ≡ status.Sink → script_failure came ≡ Failure.OfSinkCall
sink_failed (Ok s) (inl done) sink = let e : status.Done ≡ status.Sink = sym done ∙ sink in absurd (cc e)
sink_failed (Ok s) (inr (inl script)) sink = let e : status.Script ≡ status.Sink = sym script ∙ sink in absurd (cc e)
sink_failed (Ok s) (inr (inr source)) sink = let e : status.Source ≡ status.Sink = sym source ∙ sink in absurd (cc e)
sink_failed (Err fault.Memory) only sink = absurd (cc sink)
sink_failed (Err fault.Disk) only sink = absurd (cc sink)
sink_failed (Err fault.Sink) only sink = refl
