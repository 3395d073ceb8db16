-- The dump was loaded, and the store is closed; or the run did not begin.
use Rattle.std.proofs.Common.{IsTrue, ap, inl, inr, refl, subst, []}
use Rattle.std.specs.Io.KnownBytes.{Appends}
use Rattle.cache_base.specs.declared.status.Status.TheVariants as status
use Rattle.cache_store.specs.Session.{session}
use Rattle.cache_tool.specs.Statuses.{status_in}
use Rattle.cache_tool.specs.World.{output, world}
use Rattle.cache_tool.proofs.ForGood.{ended_last}
use Rattle.cache_tool.proofs.Growing.{takes_none}
use Rattle.cache_tool.proofs.Loads.LoadEnds.{SaysLine, came_end, line_or_source_closes, line_said, load_ends, loads_told, never_ends, no_line, none_said, none_told, says_bad, says_loaded}
use Rattle.cache_tool.proofs.MarkLeft.{closed_leaves_mark, kept_change_mark, leaves_mark}
use Rattle.cache_tool.proofs.OneCommand.{none_read, not_begun}
use Rattle.cache_tool.proofs.Puts.PutEnds.{closing_cause, put_stops, source_came}
use Rattle.cache_tool.proofs.SessionEnds.{resumed_done}
use Rattle.disk_theory.specs.Calls.{LastCallFails}
use Rattle.cache_tool.proofs.load.load.Goals as goal

pub returns-in-Err-clause-loads : goal.returns-in-Err-clause-loads
returns-in-Err-clause-loads g c = λ told.
    loads_told c.args.now c.status_of_fault.result (world g.S.Source g.K.Sink g.D.Disk c.args.source.now c.args.sink.now c.args.disk.now)
    (world g.S.Source g.K.Sink g.D.Disk c.args.source.now c.args.sink.now c.begin.new.disk) (λ bytes from m is. inr (
      not_begun (output g.K.Sink g.D.Disk c.args.sink.now c.args.disk.now) (g.D.Disk.state c.begin.new.disk) (g.D.Disk.faults c.begin.new.disk) c.begin.result c.in-Err.fault c.status_of_fault.result c.in-Err.is
          c.begin.ensures.no_sink c.status_of_fault.ensures c.begin.ensures.account.cause (λ failed. c.begin.ensures.account.last failed told) (λ failed. c.begin.ensures.before failed told) (λ none. none_read (c.begin.ensures.looks told none told)) (c.begin.ensures.account.syncs told) (c.in-Err.ensures.fails told) m is,
      refl,
    ))

pub returns-in-Done-clause-loads : goal.returns-in-Done-clause-loads
returns-in-Done-clause-loads g c = λ told.
    loads_told c.args.now c.print_answer.result (world g.S.Source g.K.Sink g.D.Disk c.args.source.now c.args.sink.now c.args.disk.now)
    (world g.S.Source g.K.Sink g.D.Disk c.perform_load-came.new.source c.print_answer.new.sink c.end.new.disk) (λ bytes from m is.
    let begins = c.in-Ok.ensures.begins told in
    let resumed = begins.resumed m is in
    let s = g.D.Disk.state c.args.disk.now in
    let mid = session g.D.Disk c.in-Ok.store c.begin.new.disk in
    inl (
      resumed.done,
      (
        resumed_done s mid begins m is (g.met.D.Disk.finite c.args.disk.now told),
        line_said (IsTrue g.D.Disk.tells) told bytes c.perform_load-came.result c.end.result (world g.S.Source g.K.Sink g.D.Disk c.args.source.now c.args.sink.now c.args.disk.now)
            (g.S.Source.left c.perform_load-came.new.source) mid (session g.D.Disk c.perform_load-came.new.store c.perform_load-came.new.disk) (g.D.Disk.state c.end.new.disk) c.perform_load-came.new.line begins m is from
            c.perform_load-came.ensures.performs (c.end.ensures.ends told) c.end.ensures.same c.perform_load-came.ensures.keeps.no_sink (c.perform_load-came.ensures.keeps.honest told)
            (λ dropped. ap g.D.Disk.state (c.end.ensures.dropped dropped).1) (c.in-Ok.ensures.account.syncs told) c.print_answer.result (g.K.Sink.taken c.print_answer.new.sink)
            (closing_cause c.perform_load-came.result c.end.result (line_or_source_closes c.perform_load-came.result c.perform_load-came.ensures.only) (c.in-Ok.ensures.account.cause.kept (λ h. cc)) c.perform_load-came.ensures.keeps.account.cause c.end.ensures.cause
            (λ dropped. let left = c.end.ensures.dropped dropped in (left.0, ap g.D.Disk.faults left.1))) (c.end.ensures.syncs told) (inl c.in-Done.is)
            (subst (SaysLine c.end.result c.print_answer.result (g.K.Sink.taken c.args.sink.now) (g.K.Sink.taken c.print_answer.new.sink)) c.as_slice.ensures
            (record {
              same = rw c.in-Done.is c.print_answer.ensures.same;
              all = c.print_answer.ensures.all;
              bad = c.print_answer.ensures.bad;
              part = c.print_answer.ensures.part;
              cut = c.print_answer.ensures.cut;
            })),
      ),
    ))

pub returns-in-Done-clause-done : goal.returns-in-Done-clause-done
returns-in-Done-clause-done g c = λ is.
    says_loaded (IsTrue g.D.Disk.tells) c.perform_load-came.result (g.S.Source.left c.args.source.now) (g.S.Source.left c.perform_load-came.new.source) (session g.D.Disk c.in-Ok.store c.begin.new.disk)
    (session g.D.Disk c.perform_load-came.new.store c.perform_load-came.new.disk) c.perform_load-came.new.line (g.K.Sink.taken c.args.sink.now) (g.K.Sink.taken c.print_answer.new.sink) c.perform_load-came.ensures.performs
    (came_end c.end.result (status_in c.perform_load-came.result) status.Done (λ x. cc) (λ x. cc) c.end.ensures.same c.in-Done.is)
    (subst (Appends (g.K.Sink.taken c.args.sink.now) (g.K.Sink.taken c.print_answer.new.sink)) c.as_slice.ensures (c.print_answer.ensures.all (inl is)))

pub returns-in-Script-clause-loads : goal.returns-in-Script-clause-loads
returns-in-Script-clause-loads g c = λ told.
    loads_told c.args.now c.print_answer-in-Script.result (world g.S.Source g.K.Sink g.D.Disk c.args.source.now c.args.sink.now c.args.disk.now)
    (world g.S.Source g.K.Sink g.D.Disk c.perform_load-came.new.source c.print_answer-in-Script.new.sink c.end.new.disk) (λ bytes from m is.
    let begins = c.in-Ok.ensures.begins told in
    let resumed = begins.resumed m is in
    let s = g.D.Disk.state c.args.disk.now in
    let mid = session g.D.Disk c.in-Ok.store c.begin.new.disk in
    inl (
      resumed.done,
      (
        resumed_done s mid begins m is (g.met.D.Disk.finite c.args.disk.now told),
        line_said (IsTrue g.D.Disk.tells) told bytes c.perform_load-came.result c.end.result (world g.S.Source g.K.Sink g.D.Disk c.args.source.now c.args.sink.now c.args.disk.now)
            (g.S.Source.left c.perform_load-came.new.source) mid (session g.D.Disk c.perform_load-came.new.store c.perform_load-came.new.disk) (g.D.Disk.state c.end.new.disk) c.perform_load-came.new.line begins m is from
            c.perform_load-came.ensures.performs (c.end.ensures.ends told) c.end.ensures.same c.perform_load-came.ensures.keeps.no_sink (c.perform_load-came.ensures.keeps.honest told)
            (λ dropped. ap g.D.Disk.state (c.end.ensures.dropped dropped).1) (c.in-Ok.ensures.account.syncs told) c.print_answer-in-Script.result (g.K.Sink.taken c.print_answer-in-Script.new.sink)
            (closing_cause c.perform_load-came.result c.end.result (line_or_source_closes c.perform_load-came.result c.perform_load-came.ensures.only) (c.in-Ok.ensures.account.cause.kept (λ h. cc)) c.perform_load-came.ensures.keeps.account.cause c.end.ensures.cause
            (λ dropped. let left = c.end.ensures.dropped dropped in (left.0, ap g.D.Disk.faults left.1))) (c.end.ensures.syncs told) (inr c.in-Script.is)
            (subst (SaysLine c.end.result c.print_answer-in-Script.result (g.K.Sink.taken c.args.sink.now) (g.K.Sink.taken c.print_answer-in-Script.new.sink)) c.as_slice-in-Script.ensures
            (record {
              same = rw c.in-Script.is c.print_answer-in-Script.ensures.same;
              all = c.print_answer-in-Script.ensures.all;
              bad = c.print_answer-in-Script.ensures.bad;
              part = c.print_answer-in-Script.ensures.part;
              cut = c.print_answer-in-Script.ensures.cut;
            })),
      ),
    ))

pub returns-in-Script-clause-bad : goal.returns-in-Script-clause-bad
returns-in-Script-clause-bad g c = λ is.
    says_bad (IsTrue g.D.Disk.tells) c.perform_load-came.result (g.S.Source.left c.args.source.now) (g.S.Source.left c.perform_load-came.new.source) (session g.D.Disk c.in-Ok.store c.begin.new.disk)
    (session g.D.Disk c.perform_load-came.new.store c.perform_load-came.new.disk) c.perform_load-came.new.line (g.K.Sink.taken c.args.sink.now) (g.K.Sink.taken c.print_answer-in-Script.new.sink) c.perform_load-came.ensures.performs
    (came_end c.end.result (status_in c.perform_load-came.result) status.Script (λ x. cc) (λ x. cc) c.end.ensures.same c.in-Script.is)
    (subst (Appends (g.K.Sink.taken c.args.sink.now) (g.K.Sink.taken c.print_answer-in-Script.new.sink)) c.as_slice-in-Script.ensures (c.print_answer-in-Script.ensures.bad is))

pub returns : goal.returns
returns g c =
    let came = c.perform_load-came.result in
    let ended = c.end.result in
    let load = c.perform_load-came.ensures in
    let not_done = c.in_default.not-Done in
    let not_script = c.in_default.not-Script in
    let ends = load_ends came ended load.only load.keeps.no_sink c.end.ensures.same in
    let not_sink = never_ends ended status.Sink (λ x. cc) (λ x. cc) (λ x. cc) (λ x. cc) (λ x. cc) ends in
    let not_no = never_ends ended status.No (λ x. cc) (λ x. cc) (λ x. cc) (λ x. cc) (λ x. cc) ends in
    let cause = closing_cause came ended (line_or_source_closes came c.perform_load-came.ensures.only) (c.in-Ok.ensures.account.cause.kept (λ h. cc)) c.perform_load-came.ensures.keeps.account.cause c.end.ensures.cause
    (λ dropped. let left = c.end.ensures.dropped dropped in (left.0, ap g.D.Disk.faults left.1)) in
    record {
      loads = λ told.
          loads_told c.args.now ended (world g.S.Source g.K.Sink g.D.Disk c.args.source.now c.args.sink.now c.args.disk.now)
          (world g.S.Source g.K.Sink g.D.Disk c.perform_load-came.new.source c.args.sink.now c.end.new.disk) (λ bytes from m is.
          let begins = c.in-Ok.ensures.begins told in
          let resumed = begins.resumed m is in
          let s = g.D.Disk.state c.args.disk.now in
          let mid = session g.D.Disk c.in-Ok.store c.begin.new.disk in
          inl (
            resumed.done,
            (
              resumed_done s mid begins m is (g.met.D.Disk.finite c.args.disk.now told),
              none_said (IsTrue g.D.Disk.tells) told bytes came ended (world g.S.Source g.K.Sink g.D.Disk c.args.source.now c.args.sink.now c.args.disk.now)
                  (g.S.Source.left c.perform_load-came.new.source) mid (session g.D.Disk c.perform_load-came.new.store c.perform_load-came.new.disk) (g.D.Disk.state c.end.new.disk) c.perform_load-came.new.line begins m is from
                  load.performs (c.end.ensures.ends told) c.end.ensures.same load.keeps.no_sink (load.keeps.honest told) (λ dropped. ap g.D.Disk.state (c.end.ensures.dropped dropped).1) (c.in-Ok.ensures.account.syncs told)
                  cause (ended_last LastCallFails came ended (g.D.Disk.counts c.perform_load-came.new.disk) (g.D.Disk.counts c.end.new.disk) (λ last. inl last) (line_or_source_closes came load.only)
                  (λ closing disk. c.end.ensures.last closing disk told) (λ not. let left = c.end.ensures.dropped not in (left.0, ap g.D.Disk.counts left.1))
                  (λ failed. load.keeps.account.last failed told)) (c.end.ensures.syncs told) (no_line ended not_done not_script) not_sink not_no,
            ),
          ));
      grows = takes_none (g.K.Sink.taken c.args.sink.now);
      read = λ is. absurd (not_done is);
      dumped = λ is. absurd (not_done is);
      undumped = λ is. absurd (not_script is);
      done = λ is. absurd (not_done is);
      bad = λ is. absurd (not_script is);
      others = (never_ends ended status.Words (λ x. cc) (λ x. cc) (λ x. cc) (λ x. cc) (λ x. cc) ends, not_no);
      mark = λ told. closed_leaves_mark [] _ _ _ _ (c.in-Ok.ensures.begins told).mark (kept_change_mark _ _ (c.perform_load-came.ensures.performs.runs told).mark) (c.end.ensures.ends told).mark;
      quiet = c.end.ensures.quiet;
      stops = λ told.
          put_stops (g.D.Disk.counts c.args.disk.now) (g.D.Disk.counts c.begin.new.disk) (c.in-Ok.ensures.account.went_on refl told) came
          (g.D.Disk.counts c.perform_load-came.new.disk) (g.D.Disk.counts c.end.new.disk) (λ calm. load.keeps.account.went_on calm told)
          (load.keeps.account.stops told) (c.end.ensures.stops told) (λ dropped. ap g.D.Disk.counts (c.end.ensures.dropped dropped).1);
      source = λ source. load.source.rose (source_came came ended c.end.ensures.same source);
      sink = λ sink. absurd (not_sink sink);
      calm = λ said. absurd (none_told ended not_done not_script not_no said);
      disk = cause;
    }

-- what a crash may leave of a mark
pub returns-in-Err-clause-mark : goal.returns-in-Err-clause-mark
returns-in-Err-clause-mark g c = λ told. leaves_mark [] _ _ (c.in-Err.ensures.fails told).mark

pub returns-in-Done-clause-mark : goal.returns-in-Done-clause-mark
returns-in-Done-clause-mark g c = λ told. closed_leaves_mark [] _ _ _ _ (c.in-Ok.ensures.begins told).mark (kept_change_mark _ _ (c.perform_load-came.ensures.performs.runs told).mark) (c.end.ensures.ends told).mark

pub returns-in-Script-clause-mark : goal.returns-in-Script-clause-mark
returns-in-Script-clause-mark g c = λ told. closed_leaves_mark [] _ _ _ _ (c.in-Ok.ensures.begins told).mark (kept_change_mark _ _ (c.perform_load-came.ensures.performs.runs told).mark) (c.end.ensures.ends told).mark
