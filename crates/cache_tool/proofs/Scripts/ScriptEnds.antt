-- What the verb `run` comes to, by what its commands and the end of the session came to.
use Rattle.std.proofs.Common.{◌≡◌, ◌≢◌, ◌⊎◌, inl, inr, ⊎_elim, ℕ, ◌+◌, List, length, take, Option, None, Some, Result, Err, refl, sym, subst, ◌∙◌}
use Rattle.cache_base.specs.Causes.{CountsFailure, Rose, RoseOnce}
use Rattle.cache_base.specs.declared.status.Status.{Status}
use Rattle.cache_base.specs.declared.status.Status.TheVariants as status
use Rattle.cache_store.specs.Faults.{ending}
use Rattle.cache_store.specs.Open.{StartsOn}
use Rattle.cache_store.specs.Session.{Session}
use Rattle.cache_store.specs.declared.fault.StoreFault.{StoreFault}
use Rattle.cache_store.specs.declared.fault.StoreFault.TheVariants as fault
use Rattle.cache_theory.specs.Command.{Command}
use Rattle.cache_theory.specs.Crash.{IsSafe}
use Rattle.cache_theory.specs.Faulted.{unfaulted}
use Rattle.cache_theory.specs.History.{History, acked, settled_at}
use Rattle.cache_theory.specs.Machine.{Machine}
use Rattle.cache_theory.specs.Step.{step}
use Rattle.cache_tool.specs.Clearings.{LeavesNoneOrAll}
use Rattle.cache_tool.specs.Beginning.{BeginsRun, FailsBeforeCommands, FailsToBegin, ReadsNone}
use Rattle.cache_tool.specs.Ending.{EndsSession}
use Rattle.cache_tool.specs.ScriptProgress.{LeavesScript, PerformsScript, marks_on, one_begun_on}
use Rattle.cache_tool.specs.Statuses.{IsClosing, status_in}
use Rattle.cache_tool.specs.Verbs.{LeavesDisk, Reach, RunsScript, one_begun_after, begun_of}
use Rattle.cache_tool.specs.World.{Progress, World, output_of, world_of}
use Rattle.cache_tool.proofs.Counting.{raised_more}
use Rattle.cache_tool.proofs.DoneLaws.{are_done_where}
use Rattle.cache_tool.proofs.MarkLeft.{closed_leaves_mark}
use Rattle.cache_tool.proofs.Moments.{with_left}
use Rattle.cache_tool.proofs.SyncLaws.{syncs_run}
use Rattle.cache_tool.specs.Syncs.{SyncsWithin, ending_syncs, opening_syncs}
use Rattle.cache_store.specs.Syncs.{all_syncs}
use Rattle.cache_tool.proofs.OneCommand.{not_begun}
use Rattle.cache_tool.proofs.SessionEnds.{ends_leave, resumed_done, resumed_tells, stops_leave}
use Rattle.cache_tool.proofs.StatusLaws.{EndsAs, closes_or_not, closing_same}
use Rattle.disk_theory.specs.Account.{Ending}
use Rattle.disk_theory.specs.Calls.{Counts, LastCallFails, LastFails, LastLookFails}
use Rattle.disk_theory.specs.Listing.{IsFinite}
use Rattle.disk_theory.specs.State.{State, standing}
use Rattle.index_theory.specs.Honest.{Honest, LeavesHonest}

-- ---- the run did not begin

-- the same world with other bytes left in the source
abbrev told : World → Option (List ℕ) → World
told w left = record w { source = record (w.source) { left = left } }

pub runs_not_begun : {T : Type 0} (counts : Counts) (moment : ℕ) (before : World) (t : State) (faults : ℕ) (answer : Result T StoreFault) (f : StoreFault) (ended : Status) → answer ≡ Err f → answer ≢ Err fault.Sink → ended ≡ status_in (Err f)
    → CountsFailure (ending answer ≡ Ending.OneFailed) before.disk_faults faults → (ending answer ≡ Ending.OneFailed → LastCallFails counts) → (ending answer ≡ Ending.OneFailed → FailsBeforeCommands before.disk t before.disk_counts counts) → ReadsNone before.disk before.disk_counts counts → SyncsWithin opening_syncs before.disk_counts counts → FailsToBegin moment before.disk t → RunsScript moment ended before (record before { disk = t; disk_faults = faults; disk_counts = counts })
runs_not_begun counts moment before t faults answer f ended failed no_sink same cause last opening none syncs fails = go before.source.left
  where
    go : (left : Option (List ℕ)) → RunsScript moment ended (told before left) (record (told before left) { disk = t; disk_faults = faults; disk_counts = counts })
    go None = tt
    go (Some bytes) = λ m cs is found. inr (not_begun (output_of (told before (Some bytes))) t faults answer f ended failed no_sink same cause last opening none syncs fails m is, refl)

-- ---- the session was ended

module _ {moment : ℕ} (s : State) (mid : Session) (begins : BeginsRun moment s mid) (m : Machine) (is : StartsOn moment s m) (acked_now : ℕ) (with_last : List ℕ) (cs : List Command) (last : Session) (t : State) (ended came : Status) where
  abbrev d : Command
  d = (begins.resumed m is).done

  abbrev at : History
  at = acked (begins.resumed m is).done (settled_at m)

  -- how far they came
  abbrev reach : Status → Reach
  reach e = one_begun_after m (begins.resumed m is).done acked_now with_last e cs

  pub ended_leaves : LeavesScript (step m (begins.resumed m is).done).next (one_begun_on (acked (begins.resumed m is).done (settled_at m)) acked_now with_last came cs) came mid last → EndsSession ended last t
      → EndsAs ended came → (¬ (IsClosing came) → t ≡ last.disk) → LeavesHonest last.disk → LeavesDisk m (one_begun_after m (begins.resumed m is).done acked_now with_last ended cs) ended s t
  ended_leaves leaves ends same dropped kept = elim (closes_or_not ended) [
    | inl closing ↦
        let as_came : ended ≡ came = closing_same ended came same closing in
        let led = leaves.stands (subst IsClosing as_came closing) in
        subst (λ e. LeavesDisk m (reach e) ended s t) (sym as_came)
        (ends_leave s mid begins m is last t ended ends (one_begun_on at acked_now with_last came cs).done (reach came).marks led.history led.leads led.machine led.within)
    | inr still ↦ stops_leave m (reach ended) ended s t still (λ quiet. safe) (λ quiet honest. images honest)
  ]
    where
      safe : IsSafe t (reach ended).marks
      safe = elim (closes_or_not came) [
        | inl closing ↦ let led = leaves.stands closing in led.within t (ends.each led.history led.leads.keeps).safe
        | inr still ↦ subst (λ x. IsSafe x (reach ended).marks) (sym (dropped still)) leaves.safe
      ]

      images : Honest (standing s) → LeavesHonest t
      images honest = elim (closes_or_not came) [
        | inl closing ↦ let led = leaves.stands closing in (ends.each led.history led.leads.keeps).images (led.leads.tells (inl (resumed_tells s mid begins m is honest)))
        | inr still ↦ subst LeavesHonest (sym (dropped still)) kept
      ]

pub runs_ended : (k0 k1 : ℕ) (c0 c1 : Counts) (moment : ℕ) (ended : Status) (came : Result Status StoreFault) (s : State) (mid last : Progress) (t : State) (begun faults : ℕ) → mid.disk_faults ≡ begun → IsFinite s → BeginsRun moment s mid.session
    → PerformsScript came mid last → LeavesHonest last.session.disk
    → EndsSession ended last.session t → EndsAs ended (status_in came) → (¬ (IsClosing (status_in came)) → t ≡ last.session.disk)
    → (ended ≡ status.Disk → ((status_in came ≡ status.Disk) × ((c1 ≡ last.disk_counts) × (faults ≡ last.disk_faults))) ⊎ ((status_in came ≢ status.Disk) × (RoseOnce last.disk_faults faults × LastFails c1)))
    → (ended ≢ status.Disk → (status_in came ≢ status.Disk) × (faults ≡ last.disk_faults))
    → (¬ (IsClosing (status_in came)) → ended ≡ status_in came) → (status_in came ≡ status.Sink → Rose k0 k1)
    → SyncsWithin opening_syncs c0 mid.disk_counts → SyncsWithin ending_syncs last.disk_counts c1
    → RunsScript moment ended (record (world_of mid k0 c0) { disk = s; disk_faults = begun }) (record (world_of last k1 c1) { disk = t; disk_faults = faults })
runs_ended k0 k1 c0 c1 moment ended came s mid last t begun faults calm finite begins performs kept ends same dropped failed sound still sank opened closed =
    subst (λ n. RunsScript moment ended (record (world_of mid k0 c0) { disk = s; disk_faults = n }) (record (world_of last k1 c1) { disk = t; disk_faults = faults })) calm (go mid.source.left performs)
  where
    go : (left : Option (List ℕ)) → PerformsScript came (with_left mid left) last → RunsScript moment ended (record (world_of (with_left mid left) k0 c0) { disk = s }) (record (world_of last k1 c1) { disk = t; disk_faults = faults })
    go None performs = tt
    go (Some bytes) performs = λ m cs is found.
        let resumed = begins.resumed m is in
        let r = performs.each (acked resumed.done (settled_at m)) cs resumed.leads.keeps found in
        let as_came : IsClosing ended → status_in came ≡ ended = λ closes. sym (closing_same ended (status_in came) same closes) in
        inl (
          resumed.done,
          (
            resumed_done s mid.session begins m is finite,
            record {
              done = r.done;
              as_many = r.is_done.as_many;
              acked = r.acked;
              faults = r.faults;
              with_last = r.with_last;
              counts = record {
                numbers = r.counts.numbers;
                last = r.counts.last;
                counted = λ other. (sound other).1 ∙ r.counts.counted (sound other).0;
                disk = λ e. elim (failed e) [
                  | inl (before, (still, same_faults)) ↦ same_faults ∙ r.counts.disk before
                  | inr (before, (closing, last_call)) ↦ raised_more (length r.with_last) mid.disk_faults last.disk_faults faults closing (r.counts.counted before)
                ];
              };
              line_cut = λ other.
                  let cut = r.line_cut other in (
                    cut.0,
                    elim cut.1 [
                      | inl memory ↦ inl (still (λ closing. subst IsClosing memory closing) ∙ memory)
                      | inr sink ↦ elim same [
                        | inl is ↦ inr (inl (is ∙ sink), sank sink)
                        | inr (inl disk) ↦ inr (inr disk, sank sink)
                        | inr (inr memory) ↦ inl memory
                      ]
                    ],
                  );
              are_done = are_done_where (resumed_tells s mid.session begins m is) (step m resumed.done).next (unfaulted r.with_last cs) (unfaulted r.with_last r.done) r.is_done.are_done;
              all = λ e. r.tells.all (⊎_elim (λ done. inl (as_came (subst IsClosing (sym done) tt) ∙ done)) (λ script. inr (as_came (subst IsClosing (sym script) tt) ∙ script)) e);
              replies =
                  let said = r.tells.replies in
                  record {
                    out = said.out;
                    printed = said.printed;
                    told = said.told;
                    front = said.front;
                    no_line = said.no_line;
                    all = λ e. said.all (as_came (subst IsClosing (sym e) tt) ∙ e);
                    script = λ e. said.script (as_came (subst IsClosing (sym e) tt) ∙ e);
                    source = λ e. said.source (as_came (subst IsClosing (sym e) tt) ∙ e);
                    cut = λ e. said.cut (as_came (subst IsClosing (sym e) tt) ∙ e);
                    no_line_cut = λ e. said.no_line_cut (as_came (subst IsClosing (sym e) tt) ∙ e);
                  };
              source = λ e. r.tells.source (as_came (subst IsClosing (sym e) tt) ∙ e);
              for_good = λ e. elim (failed e) [
                | inl (before, (still, same_faults)) ↦ ⊎_elim (λ last_call. inl (subst LastFails (sym still) last_call)) (λ sends. inr (subst LastLookFails (sym still) sends.0, sends.1)) (r.for_good before)
                | inr (before, (closing, last_call)) ↦ inl last_call
              ];
              leaves = ended_leaves s mid.session begins m is r.acked r.with_last r.done last.session t ended (status_in came) r.leaves ends same dropped kept;
              clearing = λ origin next right.
                  let cleared = r.clearing origin next (⊎_elim (λ honest. inl (resumed_tells s mid.session begins m is honest)) (λ rebuilt. inr rebuilt) right) in
                  elim (closes_or_not (status_in came)) [
                    | inl closing ↦ let (h, (leads, all)) = cleared.closed closing in all t (ends.each h leads).safe
                    | inr still ↦ subst (λ x. LeavesNoneOrAll origin (marks_on (acked resumed.done (settled_at m)) r.done r.faults r.acked r.acked) x) (sym (dropped still)) cleared.stopped
                  ];
              mark = closed_leaves_mark (begun_of r.acked r.with_last cs) s mid.session.disk last.session.disk t begins.mark r.mark ends.mark;
              syncs = syncs_run (all_syncs (take (r.acked + 1) cs)) c0 mid.disk_counts last.disk_counts c1 opened r.syncs closed;
            },
          ),
        )
