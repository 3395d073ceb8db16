use Rattle.std.proofs.Common.{◌+◌, ap, inl, inr, refl, subst, []}
use Rattle.cache_base.specs.declared.status.Status.TheVariants as status
use Rattle.cache_store.specs.Session.{session}
use Rattle.cache_theory.specs.History.{acked, settled_at}
use Rattle.cache_tool.specs.Statuses.{status_in}
use Rattle.cache_tool.specs.World.{output}
use Rattle.cache_tool.proofs.SyncLaws.{syncs_run}
use Rattle.cache_store.specs.Syncs.{writing_syncs}
use Rattle.cache_tool.proofs.Fills.FillEnds.{answered, answers_only, ends_so, not_answered, prints_so}
use Rattle.cache_tool.proofs.ForGood.{ended_last, only_came}
use Rattle.cache_tool.proofs.Growing.{takes_none, takes_part}
use Rattle.cache_tool.proofs.MarkLeft.{closed_leaves_mark, kept_change_mark, leaves_mark}
use Rattle.cache_tool.proofs.OneCommand.{none_read, not_begun}
use Rattle.cache_tool.proofs.Puts.PutEnds.{Printed, disk_cause, ended_no_sink, never_sink, put_stops}
use Rattle.cache_tool.proofs.SessionEnds.{resumed_done}
use Rattle.cache_tool.proofs.StatusLaws.{no_answer}
use Rattle.disk_theory.specs.Calls.{LastCallFails}
use Rattle.cache_tool.proofs.fill.fill.Goals as goal

pub returns-in-Err-clause-fills : goal.returns-in-Err-clause-fills
returns-in-Err-clause-fills g c = λ told m is.
    inr (not_begun (output g.K.Sink g.D.Disk c.args.sink.now c.args.disk.now) (g.D.Disk.state c.begin.new.disk) (g.D.Disk.faults c.begin.new.disk) c.begin.result c.in-Err.fault c.status_of_fault.result c.in-Err.is
    c.begin.ensures.no_sink c.status_of_fault.ensures c.begin.ensures.account.cause (λ failed. c.begin.ensures.account.last failed told) (λ failed. c.begin.ensures.before failed told) (λ none. none_read (c.begin.ensures.looks told none told)) (c.begin.ensures.account.syncs told) (c.in-Err.ensures.fails told) m is)

pub returns-in-Done-clause-fills : goal.returns-in-Done-clause-fills
returns-in-Done-clause-fills g c = λ told m is.
    let begins = c.in-Ok.ensures.begins told in
    let resumed = begins.resumed m is in
    let s = g.D.Disk.state c.args.disk.now in
    let mid = session g.D.Disk c.in-Ok.store c.begin.new.disk in
    inl (
      resumed.done,
      (
        resumed_done s mid begins m is (g.met.D.Disk.finite c.args.disk.now told),
        answered c.args.count c.args.first c.perform_fill-came.result c.end.result (output g.K.Sink g.D.Disk c.args.sink.now c.args.disk.now) mid
            (session g.D.Disk c.perform_fill-came.new.store c.perform_fill-came.new.disk) (g.D.Disk.state c.end.new.disk) c.perform_fill-came.new.lines begins m is
            ((c.perform_fill-came.ensures.performs told).each (acked resumed.done (settled_at m)) resumed.leads.keeps) (c.end.ensures.ends told) c.end.ensures.same c.perform_fill-came.ensures.keeps.no_sink
            (c.perform_fill-came.ensures.keeps.honest told) (λ dropped. ap g.D.Disk.state (c.end.ensures.dropped dropped).1)
            c.print_answer.result (g.K.Sink.taken c.print_answer.new.sink) (disk_cause c.perform_fill-came.result c.end.result (answers_only c.perform_fill-came.result c.perform_fill-came.ensures.only) (c.in-Ok.ensures.account.cause.kept (λ h. cc)) c.perform_fill-came.ensures.keeps.account.cause c.end.ensures.cause
            (λ dropped. let left = c.end.ensures.dropped dropped in (left.0, ap g.D.Disk.faults left.1))) (inl c.in-Done.is)
            (subst (Printed c.end.result c.print_answer.result (g.K.Sink.taken c.args.sink.now) (g.K.Sink.taken c.print_answer.new.sink)) c.as_slice.ensures
            (record { same = rw c.in-Done.is c.print_answer.ensures.same; all = c.print_answer.ensures.all; part = c.print_answer.ensures.part; cut = c.print_answer.ensures.cut })),
      ),
    )

pub returns-in-Done-clause-grows : goal.returns-in-Done-clause-grows
returns-in-Done-clause-grows g c = takes_part (g.K.Sink.taken c.args.sink.now) (g.K.Sink.taken c.print_answer.new.sink) c.as_slice.result.now c.print_answer.ensures.part

pub returns-in-Done-clause-others : goal.returns-in-Done-clause-others
returns-in-Done-clause-others g c = prints_so status.Done c.print_answer.result (inl refl) c.print_answer.ensures.same

pub returns-in-No-clause-fills : goal.returns-in-No-clause-fills
returns-in-No-clause-fills g c = λ told m is.
    let begins = c.in-Ok.ensures.begins told in
    let resumed = begins.resumed m is in
    let s = g.D.Disk.state c.args.disk.now in
    let mid = session g.D.Disk c.in-Ok.store c.begin.new.disk in
    inl (
      resumed.done,
      (
        resumed_done s mid begins m is (g.met.D.Disk.finite c.args.disk.now told),
        answered c.args.count c.args.first c.perform_fill-came.result c.end.result (output g.K.Sink g.D.Disk c.args.sink.now c.args.disk.now) mid
            (session g.D.Disk c.perform_fill-came.new.store c.perform_fill-came.new.disk) (g.D.Disk.state c.end.new.disk) c.perform_fill-came.new.lines begins m is
            ((c.perform_fill-came.ensures.performs told).each (acked resumed.done (settled_at m)) resumed.leads.keeps) (c.end.ensures.ends told) c.end.ensures.same c.perform_fill-came.ensures.keeps.no_sink
            (c.perform_fill-came.ensures.keeps.honest told) (λ dropped. ap g.D.Disk.state (c.end.ensures.dropped dropped).1)
            c.print_answer-in-No.result (g.K.Sink.taken c.print_answer-in-No.new.sink) (disk_cause c.perform_fill-came.result c.end.result (answers_only c.perform_fill-came.result c.perform_fill-came.ensures.only) (c.in-Ok.ensures.account.cause.kept (λ h. cc)) c.perform_fill-came.ensures.keeps.account.cause c.end.ensures.cause
            (λ dropped. let left = c.end.ensures.dropped dropped in (left.0, ap g.D.Disk.faults left.1))) (inr c.in-No.is)
            (subst (Printed c.end.result c.print_answer-in-No.result (g.K.Sink.taken c.args.sink.now) (g.K.Sink.taken c.print_answer-in-No.new.sink)) c.as_slice-in-No.ensures
            (record { same = rw c.in-No.is c.print_answer-in-No.ensures.same; all = c.print_answer-in-No.ensures.all; part = c.print_answer-in-No.ensures.part; cut = c.print_answer-in-No.ensures.cut })),
      ),
    )

pub returns-in-No-clause-grows : goal.returns-in-No-clause-grows
returns-in-No-clause-grows g c = takes_part (g.K.Sink.taken c.args.sink.now) (g.K.Sink.taken c.print_answer-in-No.new.sink) c.as_slice-in-No.result.now c.print_answer-in-No.ensures.part

pub returns-in-No-clause-others : goal.returns-in-No-clause-others
returns-in-No-clause-others g c = prints_so status.No c.print_answer-in-No.result (inr refl) c.print_answer-in-No.ensures.same

pub returns : goal.returns
returns g c =
    let came = c.perform_fill-came.result in
    let only = answers_only came c.perform_fill-came.ensures.only in
    let no_sink = ended_no_sink c.end.result (status_in came) (never_sink came only c.perform_fill-came.ensures.keeps.no_sink) c.end.ensures.same in
    let other = no_answer c.end.result c.in_default.not-Done c.in_default.not-No in
    let cause = disk_cause came c.end.result only (c.in-Ok.ensures.account.cause.kept (λ h. cc)) c.perform_fill-came.ensures.keeps.account.cause c.end.ensures.cause
    (λ dropped. let left = c.end.ensures.dropped dropped in (left.0, ap g.D.Disk.faults left.1)) in
    record {
      fills = λ told m is.
          let begins = c.in-Ok.ensures.begins told in
          let resumed = begins.resumed m is in
          let s = g.D.Disk.state c.args.disk.now in
          let mid = session g.D.Disk c.in-Ok.store c.begin.new.disk in
          inl (
            resumed.done,
            (
              resumed_done s mid begins m is (g.met.D.Disk.finite c.args.disk.now told),
              not_answered c.args.count c.args.first came c.end.result (output g.K.Sink g.D.Disk c.args.sink.now c.args.disk.now) mid
                  (session g.D.Disk c.perform_fill-came.new.store c.perform_fill-came.new.disk) (g.D.Disk.state c.end.new.disk) c.perform_fill-came.new.lines begins m is
                  ((c.perform_fill-came.ensures.performs told).each (acked resumed.done (settled_at m)) resumed.leads.keeps) (c.end.ensures.ends told) c.end.ensures.same c.perform_fill-came.ensures.keeps.no_sink
                  (c.perform_fill-came.ensures.keeps.honest told) (λ dropped. ap g.D.Disk.state (c.end.ensures.dropped dropped).1)
                  cause (ended_last LastCallFails came c.end.result (g.D.Disk.counts c.perform_fill-came.new.disk) (g.D.Disk.counts c.end.new.disk) (λ last. inl last) (only_came came only)
                  (λ closing disk. c.end.ensures.last closing disk told) (λ not. let left = c.end.ensures.dropped not in (left.0, ap g.D.Disk.counts left.1))
                  (λ failed. c.perform_fill-came.ensures.keeps.account.last failed told)) other no_sink,
            ),
          );
      grows = takes_none (g.K.Sink.taken c.args.sink.now);
      others = ends_so came c.end.result c.perform_fill-came.ensures.only c.perform_fill-came.ensures.keeps.no_sink c.end.ensures.same;
      mark = λ told. closed_leaves_mark [] _ _ _ _ (c.in-Ok.ensures.begins told).mark (kept_change_mark _ _ (c.perform_fill-came.ensures.performs told).mark) (c.end.ensures.ends told).mark;
      quiet = c.end.ensures.quiet;
      syncs = λ told.
          syncs_run (c.args.count + writing_syncs) (g.D.Disk.counts c.args.disk.now) (g.D.Disk.counts c.begin.new.disk) (g.D.Disk.counts c.perform_fill-came.new.disk) (g.D.Disk.counts c.end.new.disk)
          (c.in-Ok.ensures.account.syncs told) (c.perform_fill-came.ensures.keeps.account.syncs told) (c.end.ensures.syncs told);
      stops = λ told.
          put_stops (g.D.Disk.counts c.args.disk.now) (g.D.Disk.counts c.begin.new.disk) (c.in-Ok.ensures.account.went_on refl told) came
          (g.D.Disk.counts c.perform_fill-came.new.disk) (g.D.Disk.counts c.end.new.disk) (λ calm. c.perform_fill-came.ensures.keeps.account.went_on calm told)
          (c.perform_fill-came.ensures.keeps.account.stops told) (c.end.ensures.stops told) (λ dropped. ap g.D.Disk.counts (c.end.ensures.dropped dropped).1);
      sink = λ sink. absurd (no_sink sink);
      calm = λ answer. absurd (other answer);
      disk = cause;
    }

-- what a crash may leave of a mark
pub returns-in-Err-clause-mark : goal.returns-in-Err-clause-mark
returns-in-Err-clause-mark g c = λ told. leaves_mark [] _ _ (c.in-Err.ensures.fails told).mark

pub returns-in-Done-clause-mark : goal.returns-in-Done-clause-mark
returns-in-Done-clause-mark g c = λ told. closed_leaves_mark [] _ _ _ _ (c.in-Ok.ensures.begins told).mark (kept_change_mark _ _ (c.perform_fill-came.ensures.performs told).mark) (c.end.ensures.ends told).mark

pub returns-in-No-clause-mark : goal.returns-in-No-clause-mark
returns-in-No-clause-mark g c = λ told. closed_leaves_mark [] _ _ _ _ (c.in-Ok.ensures.begins told).mark (kept_change_mark _ _ (c.perform_fill-came.ensures.performs told).mark) (c.end.ensures.ends told).mark
