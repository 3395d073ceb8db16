-- How a put ends: the store is closed, and the last reply is printed.
use Rattle.std.proofs.Common.{◌≡◌, ◌≢◌, ◌⊎◌, inl, inr, ℕ, ◌≤◌, List, refl, sym, ap, subst, ◌∙◌, arith}
use Rattle.std.specs.Prelude.{Err, IfOk, Ok, Option, Result}
use Rattle.std.specs.Io.KnownBytes.{Appends}
use Rattle.std.proofs.KnownBytes.{Appends-nil, Keeps-refl}
use Rattle.cache_base.specs.Causes.{CountsFailure, RoseOnce}
use Rattle.cache_base.specs.declared.status.Status.{Status}
use Rattle.cache_base.specs.declared.status.Status.TheVariants as status
use Rattle.cache_store.specs.Faults.{ending}
use Rattle.cache_store.specs.Open.{StartsOn}
use Rattle.cache_replies.specs.Said.{IsCut}
use Rattle.cache_replies.specs.Saying.{IsPart}
use Rattle.cache_replies.specs.Printed.{PrintsRefusal}
use Rattle.cache_store.specs.Session.{Session}
use Rattle.cache_store.specs.declared.fault.StoreFault.{StoreFault}
use Rattle.cache_store.specs.declared.fault.StoreFault.TheVariants as fault
use Rattle.cache_theory.specs.Command.{Command}
use Rattle.cache_theory.specs.History.{acked, settled_at}
use Rattle.cache_theory.specs.Machine.{Machine}
use Rattle.cache_theory.specs.Step.{step}
use Rattle.disk_theory.specs.Calls.{Counts, FailsLast, LastFails, StopsAtFault}
use Rattle.cache_tool.specs.AnyDisk.{IsRefusalLine}
use Rattle.cache_tool.specs.Beginning.{BeginsRun}
use Rattle.cache_tool.specs.Ending.{EndsSession}
use Rattle.cache_tool.specs.Put.{ArePut}
use Rattle.cache_tool.specs.Put.ArePut.{Broken, Whole}
use Rattle.cache_tool.specs.PutProgress.{PutIsPerformed}
use Rattle.cache_tool.specs.Statuses.{IsAnswer, IsClosing, status_in}
use Rattle.cache_tool.specs.Verbs.{LeavesDisk, PrintsLast, all_begun_none_acked}
use Rattle.cache_tool.specs.World.{Output, Supply}
use Rattle.cache_tool.proofs.Counting.{calm_cause}
use Rattle.cache_tool.proofs.ForGood.{stops_last}
use Rattle.cache_tool.proofs.SessionEnds.{begun_leave, leaves_at}
use Rattle.cache_tool.proofs.StatusLaws.{EndsAs, answer_closes, closing_same}
use Rattle.disk_theory.specs.Account.{Ending}
use Rattle.disk_theory.specs.State.{State}
use Rattle.index_theory.specs.Honest.{LeavesHonest}

-- what was printed, where an answer was to be
pub record Printed (ended final : Status) (before now : Option (List ℕ)) (said : List ℕ) : Type 0 where
  pub same : (final ≡ ended) ⊎ ((final ≡ status.Sink) ⊎ (final ≡ status.Memory))
  pub all : IsAnswer final → Appends before now said
  pub part : IsPart before now said
  pub cut : final ≡ status.Sink → IsCut before now said

none_printed : (known : Option (List ℕ)) (text : List ℕ) → IsPart known known text
none_printed known text = (0, (omega arith, Appends-nil known))

-- what is printed ends as an answer only where one was to be
printed_same : (ended final : Status) → IsAnswer final → (final ≡ ended) ⊎ ((final ≡ status.Sink) ⊎ (final ≡ status.Memory)) → final ≡ ended
printed_same ended final answer (inl same) = same
printed_same ended final (inl done) (inr (inl sink)) = absurd (let e : status.Done ≡ status.Sink = sym done ∙ sink in cc)
printed_same ended final (inr nay) (inr (inl sink)) = absurd (let e : status.No ≡ status.Sink = sym nay ∙ sink in cc)
printed_same ended final (inl done) (inr (inr memory)) = absurd (let e : status.Done ≡ status.Memory = sym done ∙ memory in cc)
printed_same ended final (inr nay) (inr (inr memory)) = absurd (let e : status.No ≡ status.Memory = sym nay ∙ memory in cc)

never_source : (ended final : Status) → IsAnswer ended → (final ≡ ended) ⊎ ((final ≡ status.Sink) ⊎ (final ≡ status.Memory)) → final ≢ status.Source
never_source ended final (inl done) (inl same) source = let e : status.Done ≡ status.Source = sym done ∙ sym same ∙ source in cc
never_source ended final (inr nay) (inl same) source = let e : status.No ≡ status.Source = sym nay ∙ sym same ∙ source in cc
never_source ended final answer (inr (inl sink)) source = let e : status.Sink ≡ status.Source = sym sink ∙ source in cc
never_source ended final answer (inr (inr memory)) source = let e : status.Memory ≡ status.Source = sym memory ∙ source in cc

pub never_disk : (ended final : Status) → IsAnswer ended → (final ≡ ended) ⊎ ((final ≡ status.Sink) ⊎ (final ≡ status.Memory)) → final ≢ status.Disk
never_disk ended final (inl done) (inl same) disk = let e : status.Done ≡ status.Disk = sym done ∙ sym same ∙ disk in cc
never_disk ended final (inr nay) (inl same) disk = let e : status.No ≡ status.Disk = sym nay ∙ sym same ∙ disk in cc
never_disk ended final answer (inr (inl sink)) disk = let e : status.Sink ≡ status.Disk = sym sink ∙ disk in cc
never_disk ended final answer (inr (inr memory)) disk = let e : status.Memory ≡ status.Disk = sym memory ∙ disk in cc

-- the commands of a put, by another end
are_put_at : (m : Machine) (key : List ℕ) (from to : Supply) (came final : Status) (cs : List Command) → (IsAnswer final → IsAnswer came)
    → ArePut m key from to came cs → ArePut m key from to final cs
are_put_at m key from to came final cs answers (Whole body gives is) = Whole body gives is
are_put_at m key from to came final cs answers (Broken body gives other is) = Broken body gives (λ answer. other (answers answer)) is

module _ {moment : ℕ} (key : List ℕ) (from to : Supply) (came ended : Status) (before : Output) (mid last : Session) (t : State) (said : List ℕ) (begins : BeginsRun moment before.disk mid) (m : Machine) (is_start : StartsOn moment before.disk m)
    (put : PutIsPerformed key (acked (begins.resumed m is_start).done (settled_at m)) from to came mid last said) (ends : EndsSession ended last t) (same : EndsAs ended came) (kept : LeavesHonest last.disk) (dropped : ¬ (IsClosing came) → t ≡ last.disk) where
  -- what the session left
  left : LeavesDisk m (all_begun_none_acked m (begins.resumed m is_start).done put.commands) ended before.disk t
  left = begun_leave before.disk mid begins m is_start last t ended ends put.commands came same dropped kept put.safe put.stands

  -- an answer is printed
  pub answered : {sink_faults faults : ℕ} {counts : Counts} (final : Status) (taken : Option (List ℕ)) → CountsFailure (ended ≡ status.Disk) before.disk_faults faults → IsAnswer ended → Printed ended final before.taken taken said
      → (cs : List Command) × (ArePut (step m (begins.resumed m is_start).done).next key from to final cs × PrintsLast m (begins.resumed m is_start).done cs final before (record { taken = taken; sink_faults = sink_faults; disk = t; disk_faults = faults; disk_counts = counts }))
  answered final taken cause answer printed =
      let is : ended ≡ came = closing_same ended came same (answer_closes ended answer) in
      let reply = put.last (subst IsAnswer is answer) in (
        put.commands,
        (
          are_put_at (step m (begins.resumed m is_start).done).next key from to came final put.commands (λ a. subst IsAnswer is answer) put.are_put,
          record {
            answer = λ a. printed_same ended final a printed.same ∙ is ∙ reply.status;
            text = record {
              printed = λ a. subst (Appends before.taken taken) reply.replied (printed.all a);
              part = subst (IsPart before.taken taken) reply.replied printed.part;
              cut = λ sink. subst (IsCut before.taken taken) reply.replied (printed.cut sink);
            };
            silent = λ source. absurd (never_source ended final answer printed.same source);
            cause = calm_cause (never_disk ended ended answer (inl refl)) (never_disk ended final answer printed.same) cause;
            for_good = λ disk. absurd (never_disk ended final answer printed.same disk);
            leaves = leaves_at m (all_begun_none_acked m (begins.resumed m is_start).done put.commands) ended final before.disk t (λ closing. answer_closes ended answer) left;
          },
        ),
      )

  -- none is
  pub not_answered : {faults : ℕ} {counts : Counts} → CountsFailure (ended ≡ status.Disk) before.disk_faults faults → (ended ≡ status.Disk → LastFails counts) → ¬ (IsAnswer ended) → ended ≢ status.Sink
      → (cs : List Command) × (ArePut (step m (begins.resumed m is_start).done).next key from to ended cs × PrintsLast m (begins.resumed m is_start).done cs ended before (record before { disk = t; disk_faults = faults; disk_counts = counts }))
  not_answered cause last other no_sink = (
    put.commands,
    (
      are_put_at (step m (begins.resumed m is_start).done).next key from to came ended put.commands (λ a. absurd (other a)) put.are_put,
      record {
        answer = λ a. absurd (other a);
        text = record {
          printed = λ a. absurd (other a);
          part = none_printed before.taken _;
          cut = λ sink. absurd (no_sink sink);
        };
        silent = λ source. Keeps-refl before.taken;
        cause = cause;
        for_good = λ disk. stops_last (step m (begins.resumed m is_start).done).next put.commands before _ (last disk);
        leaves = left;
      },
    ),
  )

-- what a put comes to is never a fault of the sink
pub never_sink : (came : Result Status StoreFault) → IfOk came (λ s. IsAnswer s ⊎ (s ≡ status.Source)) → came ≢ Err fault.Sink → status_in came ≢ status.Sink
never_sink (Ok s) (inl (inl done)) other sink = let e : status.Done ≡ status.Sink = sym done ∙ sink in cc
never_sink (Ok s) (inl (inr nay)) other sink = let e : status.No ≡ status.Sink = sym nay ∙ sink in cc
never_sink (Ok s) (inr source) other sink = let e : status.Source ≡ status.Sink = sym source ∙ sink in cc
never_sink (Err fault.Memory) only other sink = absurd (cc)
never_sink (Err fault.Disk) only other sink = absurd (cc)
never_sink (Err fault.Sink) only other sink = other refl

pub ended_no_sink : (ended came : Status) → came ≢ status.Sink → EndsAs ended came → ended ≢ status.Sink
ended_no_sink ended came other (inl same) sink = other (sym same ∙ sink)
ended_no_sink ended came other (inr (inl disk)) sink = let e : status.Disk ≡ status.Sink = sym disk ∙ sink in cc
ended_no_sink ended came other (inr (inr memory)) sink = let e : status.Memory ≡ status.Sink = sym memory ∙ sink in cc

-- it is an answer, or the source failed, or it is a fault of the disk or memory ran out
pub never_others : (came : Result Status StoreFault) (ended : Status) → IfOk came (λ s. IsAnswer s ⊎ (s ≡ status.Source)) → came ≢ Err fault.Sink
    → EndsAs ended (status_in came) → (ended ≢ status.Words) × (ended ≢ status.Script)
never_others came ended only other (inr (inl disk)) = ((λ e. let d : status.Disk ≡ status.Words = sym disk ∙ e in cc), (λ e. let d : status.Disk ≡ status.Script = sym disk ∙ e in cc))
never_others came ended only other (inr (inr memory)) = ((λ e. let d : status.Memory ≡ status.Words = sym memory ∙ e in cc), (λ e. let d : status.Memory ≡ status.Script = sym memory ∙ e in cc))
never_others (Ok s) ended (inl (inl done)) other (inl same) =
    ((λ e. let d : status.Done ≡ status.Words = sym (same ∙ done) ∙ e in cc), (λ e. let d : status.Done ≡ status.Script = sym (same ∙ done) ∙ e in cc))
never_others (Ok s) ended (inl (inr nay)) other (inl same) =
    ((λ e. let d : status.No ≡ status.Words = sym (same ∙ nay) ∙ e in cc), (λ e. let d : status.No ≡ status.Script = sym (same ∙ nay) ∙ e in cc))
never_others (Ok s) ended (inr source) other (inl same) =
    ((λ e. let d : status.Source ≡ status.Words = sym (same ∙ source) ∙ e in cc), (λ e. let d : status.Source ≡ status.Script = sym (same ∙ source) ∙ e in cc))
never_others (Err fault.Memory) ended only other (inl same) =
    ((λ e. let d : status.Memory ≡ status.Words = sym same ∙ e in cc), (λ e. let d : status.Memory ≡ status.Script = sym same ∙ e in cc))
never_others (Err fault.Disk) ended only other (inl same) =
    ((λ e. let d : status.Disk ≡ status.Words = sym same ∙ e in cc), (λ e. let d : status.Disk ≡ status.Script = sym same ∙ e in cc))
never_others (Err fault.Sink) ended only other (inl same) = absurd (other refl)

-- with a source that failed it came so
pub source_came : (came : Result Status StoreFault) (ended : Status) → EndsAs ended (status_in came) → ended ≡ status.Source → came ≡ Ok status.Source
source_came came ended (inr (inl disk)) source = absurd (let d : status.Disk ≡ status.Source = sym disk ∙ source in cc)
source_came came ended (inr (inr memory)) source = absurd (let d : status.Memory ≡ status.Source = sym memory ∙ source in cc)
source_came (Ok s) ended (inl same) source = ap (λ x. Ok x) (sym same ∙ source)
source_came (Err fault.Memory) ended (inl same) source = absurd (let d : status.Memory ≡ status.Source = sym same ∙ source in cc)
source_came (Err fault.Disk) ended (inl same) source = absurd (let d : status.Disk ≡ status.Source = sym same ∙ source in cc)
source_came (Err fault.Sink) ended (inl same) source = absurd (let d : status.Sink ≡ status.Source = sym same ∙ source in cc)

-- and so with a refusal
no_came : (came : Result Status StoreFault) (ended : Status) → EndsAs ended (status_in came) → ended ≡ status.No → came ≡ Ok status.No
no_came came ended (inr (inl disk)) no_is = absurd (let d : status.Disk ≡ status.No = sym disk ∙ no_is in cc)
no_came came ended (inr (inr memory)) no_is = absurd (let d : status.Memory ≡ status.No = sym memory ∙ no_is in cc)
no_came (Ok s) ended (inl same) no_is = ap (λ x. Ok x) (sym same ∙ no_is)
no_came (Err fault.Memory) ended (inl same) no_is = absurd (let d : status.Memory ≡ status.No = sym same ∙ no_is in cc)
no_came (Err fault.Disk) ended (inl same) no_is = absurd (let d : status.Disk ≡ status.No = sym same ∙ no_is in cc)
no_came (Err fault.Sink) ended (inl same) no_is = absurd (let d : status.Sink ≡ status.No = sym same ∙ no_is in cc)

-- the refusal that is held is what is printed
pub put_refuses : (came : Result Status StoreFault) (ended : Status) (said : List ℕ) (before now : Option (List ℕ)) → EndsAs ended (status_in came) → ended ≡ status.No
    → (came ≡ Ok status.No → IsRefusalLine said) → Appends before now said → PrintsRefusal before now
put_refuses came ended said before now same no_is holds all =
    let is = holds (no_came came ended same no_is) in (is.0, subst (Appends before now) is.1 all)

-- the faults of the disk, over the opening, the commands and the closing
only_closes : (s : Status) → IsAnswer s ⊎ (s ≡ status.Source) → IsClosing s
only_closes s (inl answer) = answer_closes s answer
only_closes s (inr source) = subst IsClosing (sym source) tt

pub closing_cause : (came : Result Status StoreFault) (ended : Status) {a b c d : ℕ} → IfOk came IsClosing → b ≡ a
    → CountsFailure (ending came ≡ Ending.OneFailed) b c → (IsClosing (status_in came) → CountsFailure (ended ≡ status.Disk) c d)
    → (¬ (IsClosing (status_in came)) → (ended ≡ status_in came) × (d ≡ c)) → CountsFailure (ended ≡ status.Disk) a d
closing_cause (Ok s) ended {a} {b} {c} {d} closes same first second dropped =
    let kept : c ≡ a = first.kept (λ h. cc) ∙ same in
    subst (λ n. CountsFailure (ended ≡ status.Disk) n d) kept (second closes)
closing_cause (Err fault.Memory) ended {a} {b} {c} {d} closes same first second dropped =
    let end = dropped (λ h. h) in
    let kept : d ≡ a = end.1 ∙ first.kept (λ h. absurd (cc)) ∙ same in
    record {
      later = omega (arith, kept);
      rose = λ disk. absurd (let e : status.Memory ≡ status.Disk = sym end.0 ∙ disk in cc);
      kept = λ other_end. kept;
    }
closing_cause (Err fault.Disk) ended {a} {b} {c} {d} closes same first second dropped =
    let end = dropped (λ h. h) in
    let rose : RoseOnce a d = subst (λ n. RoseOnce n d) same (subst (λ n. RoseOnce b n) (sym end.1) (first.rose refl)) in
    let later : b ≤ c = first.later in
    record {
      later = (let same_end = end.1 in omega (arith, later, same, same_end));
      rose = λ disk. rose;
      kept = λ other_end. absurd (other_end end.0);
    }
closing_cause (Err fault.Sink) ended {a} {b} {c} {d} closes same first second dropped =
    let kept : c ≡ a = first.kept (λ h. cc) ∙ same in
    subst (λ n. CountsFailure (ended ≡ status.Disk) n d) kept (second tt)

pub disk_cause : (came : Result Status StoreFault) (ended : Status) {a b c d : ℕ} → IfOk came (λ s. IsAnswer s ⊎ (s ≡ status.Source)) → b ≡ a
    → CountsFailure (ending came ≡ Ending.OneFailed) b c → (IsClosing (status_in came) → CountsFailure (ended ≡ status.Disk) c d)
    → (¬ (IsClosing (status_in came)) → (ended ≡ status_in came) × (d ≡ c)) → CountsFailure (ended ≡ status.Disk) a d
disk_cause came ended only same first second dropped = closing_cause came ended (closes came only) same first second dropped
  where
    closes : (came : Result Status StoreFault) → IfOk came (λ s. IsAnswer s ⊎ (s ≡ status.Source)) → IfOk came IsClosing
    closes (Ok s) only = only_closes s only
    closes (Err f) only = tt

-- Once a change or a sync fails no call follows: the opening went on, and where the commands failed the closing makes
-- no call.

module _ (a b : Counts) (went_on : b.failed ≡ a.failed) where
  pub stops_after : (c d : Counts) → c.failed ≡ b.failed → StopsAtFault c d → StopsAtFault a d
  stops_after c d same stops = subst (λ failed. (d.failed ≡ failed) ⊎ FailsLast failed d) (same ∙ went_on) stops

  stops_at : (c d : Counts) → StopsAtFault b c → d ≡ c → StopsAtFault a d
  stops_at c d stops is = subst (StopsAtFault a) (sym is) (stops_after b c refl stops)

  pub put_stops : (came : Result Status StoreFault) (c d : Counts) → (ending came ≡ Ending.NoneFailed → c.failed ≡ b.failed) → StopsAtFault b c → StopsAtFault c d
      → (¬ (IsClosing (status_in came)) → d ≡ c) → StopsAtFault a d
  put_stops (Ok s) c d calm first second dropped = stops_after c d (calm refl) second
  put_stops (Err fault.Sink) c d calm first second dropped = stops_after c d (calm refl) second
  put_stops (Err fault.Disk) c d calm first second dropped = stops_at c d first (dropped (λ h. h))
  put_stops (Err fault.Memory) c d calm first second dropped = stops_at c d first (dropped (λ h. h))
