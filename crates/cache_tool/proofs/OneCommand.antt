-- What one command of a session comes to.
use Rattle.std.proofs.Common.{◌≡◌, ◌≢◌, ◌≤◌, ◌+◌, ◌*◌, ◌⊎◌, ⊎_elim, inl, inr, ℕ, ◌∷◌, ◌∙◌, [], List, length, Option, Result, Ok, Err, refl, sym, ap, subst, arith}
use Rattle.std.specs.Io.KnownBytes.{Appends}
use Rattle.std.specs.Prelude.{IfOk, IsOkAnd, MatchResult, OnErr, OnOk}
use Rattle.std.proofs.KnownBytes.{Appends-nil, Keeps-refl}
use Rattle.std.proofs.lemmas.List.{take_all}
use Rattle.cache_base.specs.Causes.{CountsFailure, Rose, RoseOnce, one_more, raised_by}
use Rattle.cache_base.specs.declared.status.Status.{Status}
use Rattle.cache_base.specs.declared.status.Status.TheVariants as status
use Rattle.cache_replies.specs.Answers.{outcome_of}
use Rattle.entry_file.specs.Looks.{meta_looks}
use Rattle.cache_store.specs.Faulting.{StaysAs}
use Rattle.cache_store.specs.Faults.{ending, fault_ending}
use Rattle.cache_store.specs.Open.{LeavesOpen, StartsOn}
use Rattle.cache_store.specs.Performing.{HadEffect, KeepsHistory, Performs}
use Rattle.cache_replies.specs.Said.{IsCut}
use Rattle.cache_replies.specs.Saying.{IsPart}
use Rattle.cache_store.specs.Session.{Session}
use Rattle.cache_replies.specs.declared.verdict.Verdict.{Verdict}
use Rattle.cache_replies.specs.declared.verdict.Verdict.TheVariants as outcome
use Rattle.cache_store.specs.declared.fault.StoreFault.{StoreFault}
use Rattle.cache_store.specs.declared.fault.StoreFault.TheVariants as fault
use Rattle.cache_theory.specs.Command.{Command}
use Rattle.cache_theory.specs.Crash.{IsSafe}
use Rattle.cache_theory.specs.Faulted.{fault_line}
use Rattle.cache_theory.specs.History.{History, acked, begun, settled_at, unanswered}
use Rattle.cache_theory.specs.Machine.{Machine}
use Rattle.cache_theory.specs.Step.{step}
use Rattle.cache_theory.specs.Text.{IsSpoken, reply_text}
use Rattle.cache_theory.proofs.Faults.RepliesApart.{step_spoken}
use Rattle.cache_tool.specs.Beginning.{BeginsRun, FailsBeforeCommands, FailsToBegin, ReadsNone}
use Rattle.cache_tool.specs.Ending.{EndsSession}
use Rattle.cache_tool.specs.Right.{LeadTo}
use Rattle.cache_tool.specs.Syncs.{SyncsWithin, opening_syncs}
use Rattle.cache_tool.specs.Statuses.{IsAnswer, IsClosing, status_in, status_of}
use Rattle.cache_tool.specs.Staying.{StaysOnce}
use Rattle.cache_tool.specs.Verbs.{HasNotBegun, LeavesDisk, PrintsFault, PrintsLast, StopsForGood, all_begun_none_acked, none_begun, none_performed}
use Rattle.cache_tool.specs.World.{Output}
use Rattle.cache_tool.proofs.Clearings.{closes_after}
use Rattle.cache_tool.proofs.Counting.{raised_more}
use Rattle.cache_tool.proofs.MarkLeft.{closed_leaves_mark, leaves_mark, none_change_mark}
use Rattle.cache_tool.proofs.RightLaws.{leads_begun, leads_none, leads_one, leads_still}
use Rattle.cache_tool.proofs.SessionEnds.{ends_leave, stops_leave}
use Rattle.disk_theory.specs.Account.{Ending}
use Rattle.disk_theory.specs.Calls.{Counts, LastCallFails, LastFailed, LastFails}
use Rattle.disk_theory.specs.State.{State}
use Rattle.index_map.specs.Known.{SameBase}
use Rattle.index_theory.specs.Honest.{LeavesHonest}

-- ---- the statuses

-- the disk failed, or memory ran out
abbrev pub IsStop : Status → Type 0
IsStop ended = (ended ≡ status.Disk) ⊎ (ended ≡ status.Memory)

stop_is_no_answer : (ended : Status) → IsStop ended → IsAnswer ended → ⊥
stop_is_no_answer ended (inl is) (inl done) = cc
stop_is_no_answer ended (inl is) (inr refused) = cc
stop_is_no_answer ended (inr is) (inl done) = cc
stop_is_no_answer ended (inr is) (inr refused) = cc

stop_closes_not : (ended : Status) → IsStop ended → IsClosing ended → ⊥
stop_closes_not ended (inl is) closing = subst IsClosing is closing
stop_closes_not ended (inr is) closing = subst IsClosing is closing

outcome_closes : (o : Verdict) (ended : Status) → ended ≡ status_of o → IsClosing ended
outcome_closes outcome.Ok ended is = subst IsClosing (sym is) tt
outcome_closes outcome.Refused ended is = subst IsClosing (sym is) tt

outcome_is_answer : (o : Verdict) (ended : Status) → ended ≡ status_of o → IsAnswer ended
outcome_is_answer outcome.Ok ended is = inl is
outcome_is_answer outcome.Refused ended is = inr is

sink_is_no_answer : (ended : Status) → ended ≡ status.Sink → IsAnswer ended → ⊥
sink_is_no_answer ended is (inl done) = cc
sink_is_no_answer ended is (inr refused) = cc

source_is_no_answer : (ended : Status) → ended ≡ status.Source → IsAnswer ended → ⊥
source_is_no_answer ended is (inl done) = cc
source_is_no_answer ended is (inr refused) = cc

stop_is_no_sink : (ended : Status) → IsStop ended → ended ≡ status.Sink → ⊥
stop_is_no_sink ended (inl is) sink = cc
stop_is_no_sink ended (inr is) sink = cc

stop_is_no_source : (ended : Status) → IsStop ended → ended ≡ status.Source → ⊥
stop_is_no_source ended (inl is) source = cc
stop_is_no_source ended (inr is) source = cc

-- ---- parts of a reply

pub none_part : (before : Option (List ℕ)) (text : List ℕ) → IsPart before before text
none_part before text = (0, (omega arith, Appends-nil before))

all_part : (before now : Option (List ℕ)) (text : List ℕ) → Appends before now text → IsPart before now text
all_part before now text all = (length text, (omega arith, subst (Appends before now) (sym (take_all (length text) text (omega arith))) all))

cut_part : (before now : Option (List ℕ)) (text : List ℕ) → IsCut before now text → IsPart before now text
cut_part before now text (n, (short, out)) = (n, (omega arith, out))

pub said_part : {T : Type 0} (r : Result T StoreFault) (before now : Option (List ℕ)) (text : List ℕ) → OnOk r (Appends before now text) → OnErr r (IsCut before now text) → IsPart before now text
said_part (Ok value) before now text all cut = all_part before now text all
said_part (Err f) before now text all cut = cut_part before now text cut

-- ---- the run did not begin

no_sink_stops : {T : Type 0} (answer : Result T StoreFault) (f : StoreFault) (ended : Status) → answer ≡ Err f → answer ≢ Err fault.Sink → ended ≡ status_in (Err f) → IsStop ended
no_sink_stops answer fault.Memory ended failed no_sink is = inr is
no_sink_stops answer fault.Disk ended failed no_sink is = inl is
no_sink_stops answer fault.Sink ended failed no_sink is = absurd (no_sink failed)

pub disk_failed : (f : StoreFault) (ended : Status) → ended ≡ status_in (Err f) → ended ≡ status.Disk → fault_ending f ≡ Ending.OneFailed
disk_failed fault.Memory ended is disk = absurd (let e : status.Memory ≡ status.Disk = sym is ∙ disk in cc)
disk_failed fault.Disk ended is disk = refl
disk_failed fault.Sink ended is disk = absurd (let e : status.Sink ≡ status.Disk = sym is ∙ disk in cc)

failed_disk : (f : StoreFault) (ended : Status) → ended ≡ status_in (Err f) → fault_ending f ≡ Ending.OneFailed → ended ≡ status.Disk
failed_disk fault.Memory ended is one = absurd (cc)
failed_disk fault.Disk ended is one = is
failed_disk fault.Sink ended is one = absurd (cc)

-- a bound of no looks
pub none_read : {m n : ℕ} → n ≤ m + meta_looks * 0 → n ≤ m
none_read few = omega (arith, few)

pub not_begun : {moment : ℕ} {counts : Counts} {T : Type 0} (before : Output) (t : State) (faults : ℕ) (answer : Result T StoreFault) (f : StoreFault) (ended : Status) → answer ≡ Err f → answer ≢ Err fault.Sink → ended ≡ status_in (Err f)
    → CountsFailure (ending answer ≡ Ending.OneFailed) before.disk_faults faults → (ending answer ≡ Ending.OneFailed → LastCallFails counts) → (ending answer ≡ Ending.OneFailed → FailsBeforeCommands before.disk t before.disk_counts counts) → ReadsNone before.disk before.disk_counts counts → SyncsWithin opening_syncs before.disk_counts counts → FailsToBegin moment before.disk t
    → (m : Machine) → StartsOn moment before.disk m → HasNotBegun m ended before (record before { disk = t; disk_faults = faults; disk_counts = counts })
not_begun before t faults answer f ended failed no_sink same cause last opening none syncs fails m is =
    let stop : IsStop ended = no_sink_stops answer f ended failed no_sink same in
    record {
      failed = stop;
      cause = record {
        later = cause.later;
        rose = λ disk. cause.rose (ap ending failed ∙ disk_failed f ended same disk);
        kept = λ none. cause.kept (λ one. none (failed_disk f ended same (sym (ap ending failed) ∙ one)));
      };
      last = λ disk. last (ap ending failed ∙ disk_failed f ended same disk);
      opening = λ disk. opening (ap ending failed ∙ disk_failed f ended same disk);
      no_entry = none;
      silent = Keeps-refl before.taken;
      mark = leaves_mark [] before.disk t fails.mark;
      clearing = fails.clearing;
      syncs = syncs;
      leaves = elim (fails.crash m is) [
        | inl safe ↦ inl (stops_leave m (none_begun m) ended before.disk t (stop_closes_not ended stop) safe fails.images)
        | inr (d, (done, safe)) ↦ inr (d, (done, stops_leave m (none_performed m d) ended before.disk t (stop_closes_not ended stop) (λ quiet. safe) fails.images))
      ];
    }

-- ---- it opened

-- the status of a session by the answer to its last command
abbrev pub CameBy : Result Verdict StoreFault → Result Status StoreFault → Type 0
CameBy answer came = MatchResult answer (λ o. IsOkAnd came (λ s. s ≡ status_of o)) (λ f. came ≡ Err f)

pub came_open : (answer : Result Verdict StoreFault) (came : Result Status StoreFault) (now : Session) → CameBy answer came → LeavesOpen answer now → LeavesOpen came now
came_open (Ok o) (Ok s) now by still = still
came_open (Ok o) (Err f) now by still = absurd by
came_open (Err f) came now by still = λ none. still (sym (ap (λ r. ending r) by) ∙ none)

-- the disk failed in the command where it did in what that came to
pub came_ending : (answer : Result Verdict StoreFault) (came : Result Status StoreFault) → CameBy answer came → ending came ≡ Ending.NoneFailed → ending answer ≡ Ending.NoneFailed
came_ending (Ok o) came by calm = refl
came_ending (Err f) came by calm = sym (ap (λ r. ending r) by) ∙ calm

-- it goes on to be closed only where the command had its effect
pub closes_with : (answer : Result Verdict StoreFault) (came : Result Status StoreFault) → CameBy answer came → IsClosing (status_in came) → HadEffect answer
closes_with (Ok o) came by closing = tt
closes_with (Err f) came by closing = closes_after f (subst (λ x. IsClosing (status_in x)) by closing)

came_ok : (o : Verdict) (came : Result Status StoreFault) → IsOkAnd came (λ s. s ≡ status_of o) → status_in came ≡ status_of o
came_ok o (Ok s) is = is
came_ok o (Err f) is = absurd is

module _ {moment : ℕ} (before now : Output) (mid last : Session) (begins : BeginsRun moment before.disk mid) (m : Machine) (is : StartsOn moment before.disk m) (ended : Status) where
  -- this was done for `Resume`
  abbrev d : Command
  d = (begins.resumed m is).done

  abbrev at : History
  at = acked (begins.resumed m is).done (settled_at m)

  module _ (c : Command) (ends : EndsSession ended last now.disk) (cause : CountsFailure (ended ≡ status.Disk) before.disk_faults now.disk_faults) where
    -- what a session leaves whose command had its effect, and may have begun only for whoever looks at the disk
    led_leaves : LeadTo (c ∷ []) mid at.machine last (unanswered c at) → LeavesDisk m (all_begun_none_acked m (begins.resumed m is).done (c ∷ [])) ended before.disk now.disk
    led_leaves leads = ends_leave before.disk mid begins m is last now.disk ended ends (c ∷ []) (begun c at).marks (unanswered c at) leads refl (λ x safe. safe)

    -- and one whose command failed
    stopped : IsStop ended → (ended ≡ status.Disk → StopsForGood at.machine (c ∷ []) before now) → IsSafe now.disk (begun c at).marks → LeavesHonest now.disk → IsPart before.taken now.taken (reply_text (step at.machine c).reply)
        → PrintsLast m (begins.resumed m is).done (c ∷ []) ended before now
    stopped stop good safe kept part = record {
      answer = λ is. absurd (stop_is_no_answer ended stop is);
      text = record {
        printed = λ is. absurd (stop_is_no_answer ended stop is);
        part = part;
        cut = λ is. absurd (stop_is_no_sink ended stop is);
      };
      silent = λ is. absurd (stop_is_no_source ended stop is);
      cause = cause;
      for_good = good;
      leaves = stops_leave m (all_begun_none_acked m (begins.resumed m is).done (c ∷ [])) ended before.disk now.disk (stop_closes_not ended stop) (λ quiet. safe) (λ quiet honest. kept);
    }

    -- it had its effect, and the session was ended so, or failed in its closing
    ended_so : (ended ≡ status.Disk → LastFails now.disk_counts) → (ended ≡ status_of (outcome_of (step at.machine c).reply)) ⊎ ((ended ≡ status.Sink) ⊎ IsStop ended) → LeadTo (c ∷ []) mid at.machine last (unanswered c at)
        → IsPart before.taken now.taken (reply_text (step at.machine c).reply) → (IsAnswer ended → Appends before.taken now.taken (reply_text (step at.machine c).reply))
        → (ended ≡ status.Sink → IsCut before.taken now.taken (reply_text (step at.machine c).reply)) → PrintsLast m (begins.resumed m is).done (c ∷ []) ended before now
    ended_so last so leads part printed cut = record {
      answer = λ answer. answered_so so answer;
      text = record { printed = printed; part = part; cut = cut };
      silent = λ source. absurd (never_source so source);
      cause = cause;
      for_good = λ disk. inl (last disk);
      leaves = led_leaves leads;
    }
      where
        answered_so : (ended ≡ status_of (outcome_of (step at.machine c).reply)) ⊎ ((ended ≡ status.Sink) ⊎ IsStop ended) → IsAnswer ended → ended ≡ status_of (outcome_of (step at.machine c).reply)
        answered_so (inl same) answer = same
        answered_so (inr (inl sink)) answer = absurd (sink_is_no_answer ended sink answer)
        answered_so (inr (inr stop)) answer = absurd (stop_is_no_answer ended stop answer)

        never_source : (ended ≡ status_of (outcome_of (step at.machine c).reply)) ⊎ ((ended ≡ status.Sink) ⊎ IsStop ended) → ended ≡ status.Source → ⊥
        never_source (inl same) source = source_is_no_answer ended source (outcome_is_answer (outcome_of (step at.machine c).reply) ended same)
        never_source (inr (inl sink)) source = let e : status.Sink ≡ status.Source = sym sink ∙ source in cc
        never_source (inr (inr stop)) source = stop_is_no_source ended stop source

    -- it was performed, and the session was ended by what it came to
    pub performed_prints : (answer : Result Verdict StoreFault) (came : Result Status StoreFault) → IsSpoken c
        → Performs c (step m (begins.resumed m is).done).next answer mid last before.taken now.taken → KeepsHistory c (acked (begins.resumed m is).done (settled_at m)) answer last
        → (HadEffect answer → StaysOnce c mid (step m (begins.resumed m is).done).next last) → LeavesHonest last.disk
        → CameBy answer came → (ended ≡ status_in came) ⊎ IsStop ended → ((IsClosing (status_in came) → ⊥) → (ended ≡ status_in came) × (now.disk ≡ last.disk))
        → (IsClosing (status_in came) → ended ≡ status.Disk → LastFails now.disk_counts) → (answer ≡ Err fault.Disk → StopsForGood at.machine (c ∷ []) before now)
        → PrintsLast m (begins.resumed m is).done (c ∷ []) ended before now
    performed_prints (Ok o) came spoken performs keeps stays kept by same dropped closed good =
        let acked_leads = leads_one c mid at.machine last (acked c at) keeps.next (performs.tells tt) (stays tt) in
        ended_so (closed (outcome_closes o (status_in came) (came_ok o came by))) (ok_ends same) (leads_begun c at mid last (begins.resumed m is).leads.keeps keeps.safe acked_leads)
        (all_part before.taken now.taken (reply_text (step at.machine c).reply) performs.printed) (λ answer. performs.printed) (λ sink. absurd (no_sink same sink))
      where
        as_outcome : ended ≡ status_in came → ended ≡ status_of o
        as_outcome same = same ∙ came_ok o came by

        ok_ends : (ended ≡ status_in came) ⊎ IsStop ended → (ended ≡ status_of (outcome_of (step at.machine c).reply)) ⊎ ((ended ≡ status.Sink) ⊎ IsStop ended)
        ok_ends (inl same) = inl (as_outcome same ∙ ap status_of performs.outcome)
        ok_ends (inr stop) = inr (inr stop)

        no_sink : (ended ≡ status_in came) ⊎ IsStop ended → ended ≡ status.Sink → ⊥
        no_sink (inl same) sink = sink_is_no_answer ended sink (outcome_is_answer o ended (as_outcome same))
        no_sink (inr stop) sink = stop_is_no_sink ended stop sink
    performed_prints (Err fault.Sink) came spoken performs keeps stays kept by same dropped closed good =
        ended_so (closed (subst (λ x. IsClosing (status_in x)) (sym by) tt)) (inr (sink_ends same)) (leads_one c mid at.machine last (unanswered c at) (keeps.unanswered refl) (performs.tells refl) (stays refl))
        (cut_part before.taken now.taken (reply_text (step at.machine c).reply) (performs.cut (step_spoken at.machine c spoken))) (λ answer. absurd (no_answer_then (sink_ends same) answer)) (λ sink. performs.cut (step_spoken at.machine c spoken))
      where
        sink_ends : (ended ≡ status_in came) ⊎ IsStop ended → (ended ≡ status.Sink) ⊎ IsStop ended
        sink_ends (inl same) = inl (same ∙ ap status_in by)
        sink_ends (inr stop) = inr stop

        no_answer_then : (ended ≡ status.Sink) ⊎ IsStop ended → IsAnswer ended → ⊥
        no_answer_then (inl sink) answer = sink_is_no_answer ended sink answer
        no_answer_then (inr stop) answer = stop_is_no_answer ended stop answer
    performed_prints (Err fault.Disk) came spoken performs keeps stays kept by same dropped closed good =
        let left = dropped (λ closing. subst (λ x. IsClosing (status_in x)) by closing) in
        stopped (inl (left.0 ∙ ap status_in by)) (λ disk. good refl) (subst (λ x. IsSafe x (begun c at).marks) (sym left.1) keeps.safe) (subst LeavesHonest (sym left.1) kept)
        (cut_part before.taken now.taken (reply_text (step at.machine c).reply) (performs.cut (step_spoken at.machine c spoken)))
    performed_prints (Err fault.Memory) came spoken performs keeps stays kept by same dropped closed good =
        let left = dropped (λ closing. subst (λ x. IsClosing (status_in x)) by closing) in
        stopped (inr (left.0 ∙ ap status_in by)) (λ disk. absurd (let both : status.Memory ≡ status.Disk = sym (left.0 ∙ ap status_in by) ∙ disk in cc)) (subst (λ x. IsSafe x (begun c at).marks) (sym left.1) keeps.safe) (subst LeavesHonest (sym left.1) kept)
        (cut_part before.taken now.taken (reply_text (step at.machine c).reply) (performs.cut (step_spoken at.machine c spoken)))

  -- ---- a look at the disk failed

  module _ (stays : StaysAs mid last) (base : SameBase mid.open_store.index.map last.open_store.index.map) where
    -- what the session left, in which no command was performed
    fault_leaves : (final : Status) → EndsSession final last now.disk → LeavesDisk m (none_performed m (begins.resumed m is).done) final before.disk now.disk
    fault_leaves final ends =
        let keeps = (begins.resumed m is).leads.keeps in
        ends_leave before.disk mid begins m is last now.disk final ends [] at.marks at (leads_still [] mid at.machine mid last at (leads_none mid at keeps) stays base) refl (λ x safe. safe)

    -- the line was printed, or a part of it, and all stayed as it was
    pub faulted_prints : EndsSession ended last now.disk → IsStop ended → IsPart before.taken now.taken fault_line
        → (ended ≡ status.Disk → Appends before.taken now.taken fault_line ⊎ Rose before.sink_faults now.sink_faults)
        → (RoseOnce before.disk_faults now.disk_faults × (ended ≡ status.Disk → EndsSession status.No last now.disk × (now.disk_counts.failed ≡ before.disk_counts.failed))) ⊎ ((now.disk_faults ≡ raised_by 2 before.disk_faults) × LastFails now.disk_counts)
        → PrintsFault m (begins.resumed m is).done ended before now
    faulted_prints ends stop part said closed = record {
      failed = stop;
      part = part;
      said = said;
      leaves = fault_leaves ended ends;
      mark = closed_leaves_mark [] before.disk mid.disk last.disk now.disk begins.mark (none_change_mark [] mid.disk last.disk stays.disk) ends.mark;
      closed = ⊎_elim (λ once. inl (once.0, λ disk. (fault_leaves status.No (once.1 disk).0, (once.1 disk).1))) (λ twice. inr twice) closed;
    }

-- the look that failed, and maybe a call of the closing
pub rose_twice : {P R S E : Type 0} {a b c d : ℕ} {x y z : LastFailed} → b ≡ a → RoseOnce b c → y ≡ x → P → ((d ≡ c) × (R → P → E × (z ≡ y))) ⊎ (RoseOnce c d × (P → S))
    → (RoseOnce a d × (R → E × (z ≡ x))) ⊎ ((d ≡ raised_by 2 a) × S)
rose_twice {a} {b} {c} {d} same first kept told (inl (calm, shut)) = inl (calm ∙ first ∙ ap one_more same, λ r. ((shut r told).0, (shut r told).1 ∙ kept))
rose_twice {a} {b} {c} {d} same first kept told (inr (more, last)) = inr (raised_more 1 a c d more (first ∙ ap one_more same), last told)

-- what came of a command goes on to be closed, or one fault ended it
pub came_closes : (answer : Result Verdict StoreFault) (came : Result Status StoreFault) → CameBy answer came → IfOk came IsClosing
came_closes (Ok o) (Ok s) by = outcome_closes o s by
came_closes (Ok o) (Err f) by = tt
came_closes (Err f) (Ok s) by = absurd (cc by)
came_closes (Err f) (Err g) by = tt

pub same_ending : (answer : Result Verdict StoreFault) (came : Result Status StoreFault) → CameBy answer came → ending answer ≡ ending came
same_ending (Ok o) (Ok s) by = refl
same_ending (Ok o) (Err f) by = absurd by
same_ending (Err f) came by = sym (ap (λ r. ending r) by)
