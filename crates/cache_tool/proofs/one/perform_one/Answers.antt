-- What the command came to, where the run began and where it did not.
use Rattle.std.proofs.Common.{◌≡◌, ◌⊎◌, ◌∙◌, IfSome, ap, arith, inl, inr, refl, subst, sym, [], ◌∷◌}
use Rattle.std.specs.Io.KnownBytes.{Appends}
use Rattle.cache_base.specs.Causes.{CountsFailure, Rose}
use Rattle.cache_script.specs.Command.{command_of}
use Rattle.cache_store.specs.Clearing.{origin_cleared}
use Rattle.cache_store.specs.DoneFor.{IsDoneFor}
use Rattle.cache_store.specs.Faulting.{FailsForGood}
use Rattle.cache_store.specs.Faults.{ending}
use Rattle.cache_store.specs.IndexCalls.{ReadsEntriesOf}
use Rattle.cache_store.specs.Open.{Tells}
use Rattle.cache_replies.specs.Saying.{IsPart}
use Rattle.cache_store.specs.Session.{cache_of, open_of, session}
use Rattle.cache_store.specs.StoppedClearing.{ClearsUnderMark}
use Rattle.cache_store.proofs.Performing.Represented.{represents}
use Rattle.cache_theory.specs.Faulted.{fault_line}
use Rattle.cache_theory.specs.History.{acked, settled_at}
use Rattle.cache_theory.specs.Step.{step}
use Rattle.cache_tool.specs.Clearings.{LeavesNoneOrAll}
use Rattle.cache_tool.specs.Statuses.{status_in}
use Rattle.cache_tool.specs.World.{output}
use Rattle.cache_tool.proofs.SyncLaws.{syncs_run}
use Rattle.cache_store.proofs.SyncLaws.{of_most}
use Rattle.cache_store.specs.Syncs.{all_syncs}
use Rattle.cache_tool.proofs.Clearings.{cleared_by, with_told}
use Rattle.cache_tool.proofs.Dated.{dated_by}
use Rattle.cache_tool.proofs.DoneLaws.{done_right, done_spoken}
use Rattle.cache_tool.proofs.EntryLooks.{looks_none, nothing_to_read, reads_none}
use Rattle.cache_tool.proofs.ForGood.{disk_drops, no_resume, stops_for_good}
use Rattle.cache_tool.proofs.MarkLeft.{closed_leaves_mark, leaves_mark, none_leaves_mark, one_changes_mark, may_mark}
use Rattle.cache_tool.proofs.OneCommand.{came_ending, closes_with, came_closes, came_open, faulted_prints, none_read, not_begun, performed_prints, rose_twice, same_ending}
use Rattle.cache_tool.proofs.Puts.PutEnds.{closing_cause, put_stops}
use Rattle.cache_tool.proofs.SessionEnds.{next_done, resumed_done, resumed_tells}
use Rattle.cache_tool.proofs.StatusLaws.{closes_or_not}
use Rattle.cache_tool.proofs.StayingLaws.{stays_done, stays_for}
use Rattle.context_clear.specs.Mark.{mark_of}
use Rattle.disk_theory.specs.Account.{Ending}
use Rattle.disk_theory.specs.Calls.{LastCallFails}
use Rattle.disk_theory.specs.State.{standing}
use Rattle.disk_theory.specs.declared.place.Place.TheVariants.{Clear}
use Rattle.index_theory.specs.Start.{start_of}
use Rattle.cache_tool.proofs.one.perform_one.Goals as goal

pub returns-in-Err-clause-answers : goal.returns-in-Err-clause-answers
returns-in-Err-clause-answers g c = λ tells m is.
    inr (not_begun (output g.K.Sink g.D.Disk c.args.sink.now c.args.disk.now) (g.D.Disk.state c.begin.new.disk) (g.D.Disk.faults c.begin.new.disk) c.begin.result c.in-Err.fault c.status_of_fault.result c.in-Err.is
    c.begin.ensures.no_sink c.status_of_fault.ensures c.begin.ensures.account.cause (λ failed. c.begin.ensures.account.last failed tells) (λ failed. c.begin.ensures.before failed tells) (λ none. none_read (c.begin.ensures.looks tells none tells)) (c.begin.ensures.account.syncs tells) (c.in-Err.ensures.fails tells) m is)

pub returns-then-faulting-clause-answers : goal.returns-then-faulting-clause-answers
returns-then-faulting-clause-answers g c = λ tells m is.
    let failed = sym c.faulting.ensures ∙ c.if-faulting.true in
    let command = c.attempt-answered.ensures in
    let same : g.K.Sink.taken c.attempt-answered.new.sink ≡ g.K.Sink.taken c.args.sink.now = ap (λ k. g.K.Sink.taken k) (command.silent failed) in
    let calm : g.D.Disk.faults c.begin.new.disk ≡ g.D.Disk.faults c.args.disk.now = c.in-Ok.ensures.account.cause.kept (λ e. cc e) in
    let looked = command.looked failed in
    let begins = c.in-Ok.ensures.begins tells in
    let s = g.D.Disk.state c.args.disk.now in
    let mid = session g.D.Disk c.in-Ok.store c.begin.new.disk in
    inl (
      (begins.resumed m is).done,
      (
        resumed_done s mid begins m is (g.met.D.Disk.finite c.args.disk.now tells),
        inr (faulted_prints (output g.K.Sink g.D.Disk c.args.sink.now c.args.disk.now) (output g.K.Sink g.D.Disk c.end_faulted.new.sink c.end_faulted.new.disk)
            mid (session g.D.Disk c.attempt-answered.new.self c.attempt-answered.new.disk) begins m is c.end_faulted.result (command.stays failed tells) (command.same_base failed) (c.end_faulted.ensures.ends tells)
            c.end_faulted.ensures.failed
            (subst (λ taken. IsPart taken (g.K.Sink.taken c.end_faulted.new.sink) fault_line) same c.end_faulted.ensures.part)
            (λ disk. subst (λ k. Appends (g.K.Sink.taken k) (g.K.Sink.taken c.end_faulted.new.sink) fault_line ⊎ Rose (g.K.Sink.faults k) (g.K.Sink.faults c.end_faulted.new.sink)) (command.silent failed) (c.end_faulted.ensures.said disk))
            (rose_twice calm (looked.cause.rose refl) (looked.no_change tells ∙ c.in-Ok.ensures.account.went_on refl tells) tells c.end_faulted.ensures.closed)),
      ),
    )

pub returns-clause-answers : goal.returns-clause-answers
returns-clause-answers g c = λ tells m is.
    let begins = c.in-Ok.ensures.begins tells in
    let resumed = begins.resumed m is in
    let next = (step m resumed.done).next in
    let command = command_of c.args.command.now in
    let s = g.D.Disk.state c.args.disk.now in
    let finite = g.met.D.Disk.finite c.args.disk.now tells in
    let mid = session g.D.Disk c.in-Ok.store c.begin.new.disk in
    let last = session g.D.Disk c.attempt-answered.new.self c.attempt-answered.new.disk in
    let does = (c.attempt-answered.ensures.does.reply.performs tells).crash (acked resumed.done (settled_at m)) resumed.leads.keeps in
    let done = done_right mid command next does.0 does.1.0 in
    let cause = closing_cause c.map.result c.end.result (came_closes c.attempt-answered.result c.map.result c.map.ensures.cases) (c.in-Ok.ensures.account.cause.kept (λ e. cc e))
    (subst (λ e. CountsFailure (e ≡ Ending.OneFailed) (g.D.Disk.faults c.begin.new.disk) (g.D.Disk.faults c.attempt-answered.new.disk)) (same_ending c.attempt-answered.result c.map.result c.map.ensures.cases) c.attempt-answered.ensures.does.calls.account.cause)
    c.end.ensures.cause (λ not. let kept = c.end.ensures.dropped not in (kept.0, ap (λ d. g.D.Disk.faults d) kept.1)) in
    let stays = stays_for command c.attempt-answered.result mid last (λ spares. c.attempt-answered.ensures.does.files.index spares tells) c.attempt-answered.ensures.does.files.base
    (λ had. dated_by g.D.Disk command c.attempt-answered.result c.in-Ok.store c.attempt-answered.new.self c.begin.new.disk c.attempt-answered.new.disk c.attempt-answered.ensures.does.files had tells (g.met.D.Disk.sound c.begin.new.disk tells)) in
    inl (
      resumed.done,
      (
        resumed_done s mid begins m is finite,
        inl (
          does.0,
          (
            next_done s mid begins m is finite command does.0 does.1.0,
            (
              performed_prints (output g.K.Sink g.D.Disk c.args.sink.now c.args.disk.now) (output g.K.Sink g.D.Disk c.attempt-answered.new.sink c.end.new.disk) mid last begins m is c.end.result
                  does.0 (c.end.ensures.ends tells) cause c.attempt-answered.result c.map.result (done_spoken (Tells mid next) command next does.0 done c.requires.spoken) does.1.1.performs does.1.1.keeps
                  (λ had. stays_done (Tells mid next) command mid next last does.0 done (stays next (represents resumed.leads.keeps) had)) (c.attempt-answered.ensures.always.honest tells) c.map.ensures.cases c.end.ensures.same
                  (λ not. let kept = c.end.ensures.dropped not in (kept.0, ap (λ d. g.D.Disk.state d) kept.1))
                  (λ closing disk. c.end.ensures.last closing disk tells)
                  (λ failed.
                  let kept = c.end.ensures.dropped (disk_drops c.attempt-answered.result c.map.result c.map.ensures.cases failed) in
                  stops_for_good (Tells mid next) command next does.0 done (g.D.Disk.counts c.end.new.disk) (g.K.Sink.taken c.args.sink.now) (g.K.Sink.taken c.attempt-answered.new.sink) (cache_of mid) (represents resumed.leads.keeps).stands
                  (subst (λ d. LastCallFails (g.D.Disk.counts d)) (sym kept.1) (c.attempt-answered.ensures.does.calls.account.last (ap ending failed) tells))
                  (subst (λ d. FailsForGood (g.D.Disk.counts d) command (cache_of mid) (g.K.Sink.taken c.args.sink.now) (g.K.Sink.taken c.attempt-answered.new.sink)) (sym kept.1)
                  (c.attempt-answered.ensures.fails (sym c.faulting.ensures ∙ c.if-faulting.false) (no_resume command c.requires.spoken) failed tells))),
              λ origin clears honest.
                  let at = acked resumed.done (settled_at m) in
                  let cleared = cleared_by origin at mid last resumed.leads.keeps (resumed_tells s mid begins m is honest) does.0 (subst (λ x. IsDoneFor (Tells mid next) x next does.0) clears done) c.attempt-answered.result (status_in c.map.result)
                  (subst (λ x. IfSome (origin_cleared x (standing (g.D.Disk.state c.begin.new.disk) Clear)) (λ o. ClearsUnderMark o mid (g.D.Disk.state c.attempt-answered.new.disk))) clears (with_told (origin_cleared command (standing (g.D.Disk.state c.begin.new.disk) Clear)) _ tells c.attempt-answered.ensures.always.stopped))
                  does.1.1.keeps (closes_with c.attempt-answered.result c.map.result c.map.ensures.cases) in
                  elim (closes_or_not (status_in c.map.result)) [
                    | inl closing ↦ let (h, (leads, all)) = cleared.closed closing in all (g.D.Disk.state c.end.new.disk) ((c.end.ensures.ends tells).each h leads).safe
                    | inr still ↦ subst (λ x. LeavesNoneOrAll origin at.marks x) (sym (ap (λ d. g.D.Disk.state d) (c.end.ensures.dropped still).1)) cleared.stopped
                  ],
            ),
          ),
        ),
      ),
    )

pub end-requires-clause-told : goal.end-requires-clause-told
end-requires-clause-told g c = λ tells. came_open c.attempt-answered.result c.map.result _ c.map.ensures.cases (c.attempt-answered.ensures.always.stays_open tells)

pub end_faulted-requires : goal.end_faulted-requires
end_faulted-requires g c = record {
  told = λ tells.
      let some = c.in-Ok.ensures.open tells in
      (some.0, (c.attempt-answered.ensures.stays (sym c.faulting.ensures ∙ c.if-faulting.true) tells).stands some.0 some.1);
}

pub returns-then-faulting-clause-no_entry : goal.returns-then-faulting-clause-no_entry
returns-then-faulting-clause-no_entry g c = λ none told.
    let files = standing (g.D.Disk.state c.args.disk.now) in
    let command = command_of c.args.command.now in
    let opened = c.begin.ensures.looks told (looks_none command (mark_of (files Clear)) (start_of files) none) told in
    let ready = nothing_to_read c.args.now (g.D.Disk.state c.args.disk.now) (session g.D.Disk c.in-Ok.store c.begin.new.disk) (g.met.D.Disk.finite c.args.disk.now told) (c.in-Ok.ensures.begins told) in
    let performed = reads_none (λ names. ReadsEntriesOf g.D.Disk names c.begin.new.disk c.attempt-answered.new.disk) command (mark_of (files Clear)) (mark_of (standing (g.D.Disk.state c.begin.new.disk) Clear)) (start_of files)
    c.in-Ok.store.index.update none ready c.attempt-answered.ensures.always.looks told in
    let ended = c.end_faulted.ensures.no_entry told in
    omega (arith, opened, performed, ended)

pub returns-in-Err-clause-no_entry : goal.returns-in-Err-clause-no_entry
returns-in-Err-clause-no_entry g c = λ none told.
    let files = standing (g.D.Disk.state c.args.disk.now) in
    let command = command_of c.args.command.now in
    let opened = c.begin.ensures.looks told (looks_none command (mark_of (files Clear)) (start_of files) none) told in
    omega (arith, opened)

pub returns-clause-no_entry : goal.returns-clause-no_entry
returns-clause-no_entry g c = λ none told.
    let files = standing (g.D.Disk.state c.args.disk.now) in
    let command = command_of c.args.command.now in
    let opened = c.begin.ensures.looks told (looks_none command (mark_of (files Clear)) (start_of files) none) told in
    let ready = nothing_to_read c.args.now (g.D.Disk.state c.args.disk.now) (session g.D.Disk c.in-Ok.store c.begin.new.disk) (g.met.D.Disk.finite c.args.disk.now told) (c.in-Ok.ensures.begins told) in
    let performed = reads_none (λ names. ReadsEntriesOf g.D.Disk names c.begin.new.disk c.attempt-answered.new.disk) command (mark_of (files Clear)) (mark_of (standing (g.D.Disk.state c.begin.new.disk) Clear)) (start_of files)
    c.in-Ok.store.index.update none ready c.attempt-answered.ensures.always.looks told in
    let ended = c.end.ensures.no_entry told in
    omega (arith, opened, performed, ended)

pub returns-clause-stops : goal.returns-clause-stops
returns-clause-stops g c = λ told.
    let command = c.attempt-answered.ensures.does.calls.account in
    put_stops (g.D.Disk.counts c.args.disk.now) (g.D.Disk.counts c.begin.new.disk) (c.in-Ok.ensures.account.went_on refl told) c.map.result
    (g.D.Disk.counts c.attempt-answered.new.disk) (g.D.Disk.counts c.end.new.disk) (λ calm. command.went_on (came_ending c.attempt-answered.result c.map.result c.map.ensures.cases calm) told)
    (command.stops told) (c.end.ensures.stops told) (λ dropped. ap g.D.Disk.counts (c.end.ensures.dropped dropped).1)

-- what a crash may leave of a mark
pub returns-in-Err-clause-mark : goal.returns-in-Err-clause-mark
returns-in-Err-clause-mark g c = λ told.
    let s = g.D.Disk.state c.args.disk.now in
    let t = g.D.Disk.state c.begin.new.disk in
    none_leaves_mark (command_of c.args.command.now ∷ []) s t (leaves_mark [] s t (c.in-Err.ensures.fails told).mark)

pub returns-then-faulting-clause-mark : goal.returns-then-faulting-clause-mark
returns-then-faulting-clause-mark g c = λ told.
    closed_leaves_mark (command_of c.args.command.now ∷ []) _ _ _ _ (c.in-Ok.ensures.begins told).mark
    (one_changes_mark (command_of c.args.command.now) _ _ c.requires.spoken (may_mark (command_of c.args.command.now) _ _ (c.attempt-answered.ensures.always.at_clear told))) (c.end_faulted.ensures.ends told).mark

pub returns-clause-mark : goal.returns-clause-mark
returns-clause-mark g c = λ told.
    closed_leaves_mark (command_of c.args.command.now ∷ []) _ _ _ _ (c.in-Ok.ensures.begins told).mark
    (one_changes_mark (command_of c.args.command.now) _ _ c.requires.spoken (may_mark (command_of c.args.command.now) _ _ (c.attempt-answered.ensures.always.at_clear told))) (c.end.ensures.ends told).mark

pub returns-clause-syncs : goal.returns-clause-syncs
returns-clause-syncs g c = λ told.
    let command = command_of c.args.command.now in
    let made = c.attempt-answered.ensures.always.syncs told in
    let most = of_most (open_of c.in-Ok.store).handles command in
    syncs_run (all_syncs (command ∷ [])) (g.D.Disk.counts c.args.disk.now) (g.D.Disk.counts c.begin.new.disk) (g.D.Disk.counts c.attempt-answered.new.disk) (g.D.Disk.counts c.end.new.disk)
    (c.in-Ok.ensures.account.syncs told) (omega (arith, made, most)) (c.end.ensures.syncs told)
