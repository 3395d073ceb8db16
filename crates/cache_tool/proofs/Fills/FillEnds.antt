-- How a `fill` ends: the store is closed, and the lines are printed.
use Rattle.std.proofs.Common.{◌≡◌, ◌≢◌, ◌⊎◌, ◌∙◌, ◌∷◌, [], inl, inr, ℕ, List, Ok, Err, Option, Result, refl, sym, subst, arith}
use Rattle.std.specs.Prelude.{IfOk, OnOk}
use Rattle.std.specs.Io.KnownBytes.{Appends}
use Rattle.std.proofs.KnownBytes.{Appends-nil}
use Rattle.cache_base.specs.Causes.{CountsFailure}
use Rattle.cache_base.specs.declared.status.Status.{Status}
use Rattle.cache_base.specs.declared.status.Status.TheVariants as status
use Rattle.cache_store.specs.Open.{StartsOn}
use Rattle.cache_replies.specs.Said.{IsCut}
use Rattle.cache_replies.specs.Saying.{IsPart}
use Rattle.cache_store.specs.Session.{Session}
use Rattle.cache_store.specs.declared.fault.StoreFault.{StoreFault}
use Rattle.cache_store.specs.declared.fault.StoreFault.TheVariants as fault
use Rattle.cache_theory.specs.History.{acked, settled_at}
use Rattle.cache_theory.specs.Machine.{Machine}
use Rattle.cache_theory.specs.Step.{after, step}
use Rattle.cache_tool.specs.Beginning.{BeginsRun}
use Rattle.cache_tool.specs.Ending.{EndsSession}
use Rattle.cache_tool.specs.Fill.{halving_commands, making_commands}
use Rattle.cache_tool.specs.Filled.{AreFilled, PrintsFill, done_in, lines_in, status_in_check}
use Rattle.cache_tool.specs.FillProgress.{FillIsPerformed}
use Rattle.cache_tool.specs.Statuses.{IsAnswer, IsClosing, status_in}
use Rattle.cache_tool.specs.Verbs.{LeavesDisk, all_begun_none_acked}
use Rattle.cache_tool.specs.World.{Output}
use Rattle.cache_tool.proofs.Counting.{calm_cause}
use Rattle.cache_tool.proofs.DoneLaws.{are_done_where}
use Rattle.cache_tool.proofs.Puts.PutEnds.{Printed, never_disk}
use Rattle.cache_tool.proofs.SessionEnds.{begun_leave, leaves_at, resumed_tells}
use Rattle.cache_tool.proofs.StatusLaws.{EndsAs, answer_closes, closing_same}
use Rattle.disk_theory.specs.Calls.{Counts, LastCallFails}
use Rattle.disk_theory.specs.State.{State, standing}
use Rattle.index_theory.specs.Honest.{Honest, LeavesHonest}

-- the same where less is known to be right
abbrev pub filled_where : {right other : Type 0} {moment count first : ℕ} {m : Machine} → (other → right) → AreFilled right moment count first m → AreFilled other moment count first m
filled_where {right} {other} {moment} {count} {first} {m} so filled = record {
  kb = filled.kb;
  summed = λ is. filled.summed (so is);
  evicts = filled.evicts;
  checks = filled.checks;
  lists = filled.lists;
  are_done = are_done_where so (after m (making_commands moment count first)) (halving_commands filled.kb) (filled.evicts ∷ (filled.checks ∷ (filled.lists ∷ []))) filled.are_done;
}

none_printed : (known : Option (List ℕ)) (text : List ℕ) → IsPart known known text
none_printed known text = (0, (omega arith, Appends-nil known))

-- what is printed ends as an answer only where one was to be
printed_same : (ended final : Status) → IsAnswer final → (final ≡ ended) ⊎ ((final ≡ status.Sink) ⊎ (final ≡ status.Memory)) → final ≡ ended
printed_same ended final answer (inl same) = same
printed_same ended final (inl done) (inr (inl sink)) = absurd (let e : status.Done ≡ status.Sink = sym done ∙ sink in cc)
printed_same ended final (inr nay) (inr (inl sink)) = absurd (let e : status.No ≡ status.Sink = sym nay ∙ sink in cc)
printed_same ended final (inl done) (inr (inr memory)) = absurd (let e : status.Done ≡ status.Memory = sym done ∙ memory in cc)
printed_same ended final (inr nay) (inr (inr memory)) = absurd (let e : status.No ≡ status.Memory = sym nay ∙ memory in cc)

-- where the store is closed the commands came to an answer
came_ok : (P : Type 0) (came : Result Status StoreFault) → came ≢ Err fault.Sink → OnOk came P → IsClosing (status_in came) → P
came_ok P (Ok s) other is closing = is
came_ok P (Err fault.Memory) other is closing = absurd closing
came_ok P (Err fault.Disk) other is closing = absurd closing
came_ok P (Err fault.Sink) other is closing = absurd (other refl)

status_is : (came : Result Status StoreFault) (given : Status) → came ≢ Err fault.Sink → IfOk came (λ s. s ≡ given) → IsClosing (status_in came) → status_in came ≡ given
status_is (Ok s) given other is closing = is
status_is (Err fault.Memory) given other is closing = absurd closing
status_is (Err fault.Disk) given other is closing = absurd closing
status_is (Err fault.Sink) given other is closing = absurd (other refl)

module _ {moment : ℕ} (count given : ℕ) (came : Result Status StoreFault) (ended : Status) (before : Output) (mid last : Session) (t : State) (lines : List ℕ) (begins : BeginsRun moment before.disk mid) (m : Machine) (is_start : StartsOn moment before.disk m)
    (fill : FillIsPerformed moment count given (acked (begins.resumed m is_start).done (settled_at m)) came mid last lines) (ends : EndsSession ended last t) (same : EndsAs ended (status_in came)) (no_sink : came ≢ Err fault.Sink)
    (kept : LeavesHonest last.disk) (dropped : ¬ (IsClosing (status_in came)) → t ≡ last.disk) where
  abbrev filled : AreFilled (Honest (standing before.disk)) moment count given (step m (begins.resumed m is_start).done).next
  filled = filled_where (resumed_tells before.disk mid begins m is_start) fill.filled

  -- what the session left
  left : LeavesDisk m (all_begun_none_acked m (begins.resumed m is_start).done (done_in fill.filled)) ended before.disk t
  left = begun_leave before.disk mid begins m is_start last t ended ends (done_in fill.filled) (status_in came) same dropped kept fill.safe (came_ok _ came no_sink fill.stands)

  -- an answer is printed
  pub answered : {sink_faults faults : ℕ} {counts : Counts} (final : Status) (taken : Option (List ℕ)) → CountsFailure (ended ≡ status.Disk) before.disk_faults faults → IsAnswer ended → Printed ended final before.taken taken lines
      → PrintsFill moment count given m (begins.resumed m is_start).done final before (record { taken = taken; sink_faults = sink_faults; disk = t; disk_faults = faults; disk_counts = counts })
  answered final taken cause answer printed =
      let closes : IsClosing (status_in came) = subst IsClosing (closing_same ended (status_in came) same (answer_closes ended answer)) (answer_closes ended answer) in
      let text : lines ≡ lines_in fill.filled = came_ok _ came no_sink fill.printed closes in
      record {
        filled = filled;
        answer = λ a. printed_same ended final a printed.same ∙ closing_same ended (status_in came) same (answer_closes ended answer) ∙ status_is came (status_in_check fill.filled) no_sink fill.status closes;
        text = record {
          printed = λ a. subst (Appends before.taken taken) text (printed.all a);
          part = subst (IsPart before.taken taken) text printed.part;
          cut = λ sink. subst (IsCut before.taken taken) text (printed.cut sink);
        };
        cause = calm_cause (never_disk ended ended answer (inl refl)) (never_disk ended final answer printed.same) cause;
        last = λ disk. absurd (never_disk ended final answer printed.same disk);
        leaves = leaves_at m (all_begun_none_acked m (begins.resumed m is_start).done (done_in fill.filled)) ended final before.disk t (λ closing. answer_closes ended answer) left;
      }

  -- none is
  pub not_answered : {faults : ℕ} {counts : Counts} → CountsFailure (ended ≡ status.Disk) before.disk_faults faults → (ended ≡ status.Disk → LastCallFails counts) → ¬ (IsAnswer ended) → ended ≢ status.Sink
      → PrintsFill moment count given m (begins.resumed m is_start).done ended before (record before { disk = t; disk_faults = faults; disk_counts = counts })
  not_answered cause last other sink_not = record {
    filled = filled;
    answer = λ a. absurd (other a);
    text = record {
      printed = λ a. absurd (other a);
      part = none_printed before.taken _;
      cut = λ sink. absurd (sink_not sink);
    };
    cause = cause;
    last = last;
    leaves = left;
  }

-- ---- the status

pub answers_only : (came : Result Status StoreFault) → IfOk came IsAnswer → IfOk came (λ s. IsAnswer s ⊎ (s ≡ status.Source))
answers_only (Ok s) only = inl only
answers_only (Err f) only = tt

abbrev pub IsAnswerOrFault : Status → Type 0
IsAnswerOrFault s = IsAnswer s ⊎ ((s ≡ status.Sink) ⊎ ((s ≡ status.Disk) ⊎ (s ≡ status.Memory)))

pub ends_so : (came : Result Status StoreFault) (ended : Status) → IfOk came IsAnswer → came ≢ Err fault.Sink → EndsAs ended (status_in came) → IsAnswerOrFault ended
ends_so came ended only other (inr (inl disk)) = inr (inr (inl disk))
ends_so came ended only other (inr (inr memory)) = inr (inr (inr memory))
ends_so (Ok s) ended only other (inl same) = inl (subst IsAnswer (sym same) only)
ends_so (Err fault.Memory) ended only other (inl same) = inr (inr (inr same))
ends_so (Err fault.Disk) ended only other (inl same) = inr (inr (inl same))
ends_so (Err fault.Sink) ended only other (inl same) = absurd (other refl)

pub prints_so : (ended final : Status) → IsAnswer ended → (final ≡ ended) ⊎ ((final ≡ status.Sink) ⊎ (final ≡ status.Memory)) → IsAnswerOrFault final
prints_so ended final answer (inl same) = inl (subst IsAnswer (sym same) answer)
prints_so ended final answer (inr (inl sink)) = inr (inl sink)
prints_so ended final answer (inr (inr memory)) = inr (inr (inr memory))
