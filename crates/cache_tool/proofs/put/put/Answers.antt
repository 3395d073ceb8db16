use Rattle.std.proofs.Common.{◌≡◌, ◌∙◌, inl, inr, refl, sym, ap, subst, []}
use Rattle.std.specs.Io.KnownBytes.{Appends}
use Rattle.cache_replies.specs.Saying.{IsPart}
use Rattle.cache_store.specs.Session.{session}
use Rattle.cache_theory.specs.History.{acked, settled_at}
use Rattle.cache_tool.specs.HeldReply.{said_in}
use Rattle.cache_tool.specs.Statuses.{status_in}
use Rattle.cache_tool.specs.World.{output, supply}
use Rattle.cache_tool.proofs.SyncLaws.{syncs_run}
use Rattle.disk_theory.specs.Account.{one_sync}
use Rattle.cache_tool.proofs.Counting.{rose_once}
use Rattle.cache_tool.proofs.Growing.{takes_none, takes_part}
use Rattle.cache_tool.proofs.ForGood.{ended_last, only_came}
use Rattle.cache_tool.proofs.MarkLeft.{closed_leaves_mark, kept_change_mark, leaves_mark}
use Rattle.cache_tool.proofs.OneCommand.{faulted_prints, none_read, not_begun, rose_twice}
use Rattle.cache_tool.proofs.Puts.PutEnds.{Printed, answered, disk_cause, ended_no_sink, never_others, never_sink, not_answered, put_refuses, put_stops, source_came, stops_after}
use Rattle.cache_tool.proofs.SessionEnds.{resumed_done}
use Rattle.cache_tool.proofs.StatusLaws.{no_answer}
use Rattle.disk_theory.specs.Calls.{LastFails}
use Rattle.cache_tool.proofs.put.put.Goals as goal

pub returns-in-Err-clause-stores : goal.returns-in-Err-clause-stores
returns-in-Err-clause-stores g c = λ told some m is. inr (
  not_begun (output g.K.Sink g.D.Disk c.args.sink.now c.args.disk.now) (g.D.Disk.state c.begin.new.disk) (g.D.Disk.faults c.begin.new.disk) c.begin.result c.in-Err.fault c.status_of_fault.result c.in-Err.is
      c.begin.ensures.no_sink c.status_of_fault.ensures c.begin.ensures.account.cause (λ failed. c.begin.ensures.account.last failed told) (λ failed. c.begin.ensures.before failed told) (λ none. none_read (c.begin.ensures.looks told none told)) (c.begin.ensures.account.syncs told) (c.in-Err.ensures.fails told) m is,
  refl,
)

pub returns-in-Done-clause-stores : goal.returns-in-Done-clause-stores
returns-in-Done-clause-stores g c = λ told some m is.
    let begins = c.in-Ok.ensures.begins told in
    let resumed = begins.resumed m is in
    let s = g.D.Disk.state c.args.disk.now in
    let mid = session g.D.Disk c.in-Ok.store c.begin.new.disk in
    inl (
      resumed.done,
      (
        resumed_done s mid begins m is (g.met.D.Disk.finite c.args.disk.now told),
        inl (answered c.args.key.now (supply g.S.Source c.args.source.now) (supply g.S.Source c.perform_put-came.new.source) (status_in c.perform_put-came.result) c.end.result (output g.K.Sink g.D.Disk c.args.sink.now c.args.disk.now)
            mid (session g.D.Disk c.perform_put-came.new.store c.perform_put-came.new.disk) (g.D.Disk.state c.end.new.disk) (said_in c.perform_put-came.new.said) begins m is
            ((c.perform_put-came.ensures.performs told).each some (acked resumed.done (settled_at m)) resumed.leads.keeps) (c.end.ensures.ends told) c.end.ensures.same
            (c.perform_put-came.ensures.keeps.honest told) (λ dropped. ap g.D.Disk.state (c.end.ensures.dropped dropped).1)
            c.print_answer.result (g.K.Sink.taken c.print_answer.new.sink) (disk_cause c.perform_put-came.result c.end.result c.perform_put-came.ensures.only (c.in-Ok.ensures.account.cause.kept (λ h. cc)) c.perform_put-came.ensures.keeps.account.cause c.end.ensures.cause
            (λ dropped. let left = c.end.ensures.dropped dropped in (left.0, ap g.D.Disk.faults left.1))) (inl c.in-Done.is)
            (subst (Printed c.end.result c.print_answer.result (g.K.Sink.taken c.args.sink.now) (g.K.Sink.taken c.print_answer.new.sink)) c.as_slice.ensures
            (record { same = rw c.in-Done.is c.print_answer.ensures.same; all = c.print_answer.ensures.all; part = c.print_answer.ensures.part; cut = c.print_answer.ensures.cut }))),
      ),
    )

pub returns-in-No-clause-stores : goal.returns-in-No-clause-stores
returns-in-No-clause-stores g c = λ told some m is.
    let begins = c.in-Ok.ensures.begins told in
    let resumed = begins.resumed m is in
    let s = g.D.Disk.state c.args.disk.now in
    let mid = session g.D.Disk c.in-Ok.store c.begin.new.disk in
    inl (
      resumed.done,
      (
        resumed_done s mid begins m is (g.met.D.Disk.finite c.args.disk.now told),
        inl (answered c.args.key.now (supply g.S.Source c.args.source.now) (supply g.S.Source c.perform_put-came.new.source) (status_in c.perform_put-came.result) c.end.result (output g.K.Sink g.D.Disk c.args.sink.now c.args.disk.now)
            mid (session g.D.Disk c.perform_put-came.new.store c.perform_put-came.new.disk) (g.D.Disk.state c.end.new.disk) (said_in c.perform_put-came.new.said) begins m is
            ((c.perform_put-came.ensures.performs told).each some (acked resumed.done (settled_at m)) resumed.leads.keeps) (c.end.ensures.ends told) c.end.ensures.same
            (c.perform_put-came.ensures.keeps.honest told) (λ dropped. ap g.D.Disk.state (c.end.ensures.dropped dropped).1)
            c.print_answer-in-No.result (g.K.Sink.taken c.print_answer-in-No.new.sink) (disk_cause c.perform_put-came.result c.end.result c.perform_put-came.ensures.only (c.in-Ok.ensures.account.cause.kept (λ h. cc)) c.perform_put-came.ensures.keeps.account.cause c.end.ensures.cause
            (λ dropped. let left = c.end.ensures.dropped dropped in (left.0, ap g.D.Disk.faults left.1))) (inr c.in-No.is)
            (subst (Printed c.end.result c.print_answer-in-No.result (g.K.Sink.taken c.args.sink.now) (g.K.Sink.taken c.print_answer-in-No.new.sink)) c.as_slice-in-No.ensures
            (record { same = rw c.in-No.is c.print_answer-in-No.ensures.same; all = c.print_answer-in-No.ensures.all; part = c.print_answer-in-No.ensures.part; cut = c.print_answer-in-No.ensures.cut }))),
      ),
    )

pub returns : goal.returns
returns g c =
    let cause = disk_cause c.perform_put-came.result c.end.result c.perform_put-came.ensures.only (c.in-Ok.ensures.account.cause.kept (λ h. cc)) c.perform_put-came.ensures.keeps.account.cause c.end.ensures.cause
    (λ dropped. let left = c.end.ensures.dropped dropped in (left.0, ap g.D.Disk.faults left.1)) in
    record {
      stores = λ told some m is.
          let begins = c.in-Ok.ensures.begins told in
          let resumed = begins.resumed m is in
          let s = g.D.Disk.state c.args.disk.now in
          let mid = session g.D.Disk c.in-Ok.store c.begin.new.disk in
          inl (
            resumed.done,
            (
              resumed_done s mid begins m is (g.met.D.Disk.finite c.args.disk.now told),
              inl (not_answered c.args.key.now (supply g.S.Source c.args.source.now) (supply g.S.Source c.perform_put-came.new.source) (status_in c.perform_put-came.result) c.end.result (output g.K.Sink g.D.Disk c.args.sink.now c.args.disk.now)
                  mid (session g.D.Disk c.perform_put-came.new.store c.perform_put-came.new.disk) (g.D.Disk.state c.end.new.disk) (said_in c.perform_put-came.new.said) begins m is
                  ((c.perform_put-came.ensures.performs told).each some (acked resumed.done (settled_at m)) resumed.leads.keeps) (c.end.ensures.ends told) c.end.ensures.same
                  (c.perform_put-came.ensures.keeps.honest told) (λ dropped. ap g.D.Disk.state (c.end.ensures.dropped dropped).1)
                  cause (ended_last LastFails c.perform_put-came.result c.end.result (g.D.Disk.counts c.perform_put-came.new.disk) (g.D.Disk.counts c.end.new.disk) (λ last. last) (only_came c.perform_put-came.result c.perform_put-came.ensures.only)
                  (λ closing disk. c.end.ensures.last closing disk told) (λ not. let left = c.end.ensures.dropped not in (left.0, ap g.D.Disk.counts left.1))
                  (λ failed. c.perform_put-came.ensures.change (sym c.faulting.ensures ∙ c.if-faulting.false) failed told))
                  (no_answer c.end.result c.in_default.not-Done c.in_default.not-No) (ended_no_sink c.end.result (status_in c.perform_put-came.result) (never_sink c.perform_put-came.result c.perform_put-came.ensures.only c.perform_put-came.ensures.keeps.no_sink) c.end.ensures.same)),
            ),
          );
      grows = takes_none (g.K.Sink.taken c.args.sink.now);
      read = λ done. absurd (c.in_default.not-Done done);
      unread = c.perform_put-came.ensures.unread;
      taken = c.perform_put-came.ensures.taken;
      done = λ is. absurd (c.in_default.not-Done is);
      refused = λ is. absurd (c.in_default.not-No is);
      others = never_others c.perform_put-came.result c.end.result c.perform_put-came.ensures.only c.perform_put-came.ensures.keeps.no_sink c.end.ensures.same;
      mark = λ told. closed_leaves_mark [] _ _ _ _ (c.in-Ok.ensures.begins told).mark (kept_change_mark _ _ (c.perform_put-came.ensures.performs told).mark) (c.end.ensures.ends told).mark;
      quiet = c.end.ensures.quiet;
      syncs = λ told.
          syncs_run one_sync (g.D.Disk.counts c.args.disk.now) (g.D.Disk.counts c.begin.new.disk) (g.D.Disk.counts c.perform_put-came.new.disk) (g.D.Disk.counts c.end.new.disk)
          (c.in-Ok.ensures.account.syncs told) (c.perform_put-came.ensures.keeps.account.syncs told) (c.end.ensures.syncs told);
      stops = λ told.
          put_stops (g.D.Disk.counts c.args.disk.now) (g.D.Disk.counts c.begin.new.disk) (c.in-Ok.ensures.account.went_on refl told) c.perform_put-came.result
          (g.D.Disk.counts c.perform_put-came.new.disk) (g.D.Disk.counts c.end.new.disk) (λ calm. c.perform_put-came.ensures.keeps.account.went_on calm told)
          (c.perform_put-came.ensures.keeps.account.stops told) (c.end.ensures.stops told) (λ dropped. ap g.D.Disk.counts (c.end.ensures.dropped dropped).1);
      source = λ source. c.perform_put-came.ensures.source (source_came c.perform_put-came.result c.end.result c.end.ensures.same source);
      sink = λ sink. absurd (ended_no_sink c.end.result (status_in c.perform_put-came.result) (never_sink c.perform_put-came.result c.perform_put-came.ensures.only c.perform_put-came.ensures.keeps.no_sink) c.end.ensures.same sink);
      calm = λ answer. absurd (no_answer c.end.result c.in_default.not-Done c.in_default.not-No answer);
      disk = λ is. rose_once (g.D.Disk.faults c.args.disk.now) (g.D.Disk.faults c.end.new.disk) (cause.rose is);
      disk_first = λ other no_memory. cause.kept other;
    }

-- the first command made a look that failed
pub end_faulted-requires : goal.end_faulted-requires
end_faulted-requires g c = record {
  told = λ told.
      let some = c.in-Ok.ensures.open told in
      (some.0, (let failed = sym c.faulting.ensures ∙ c.if-faulting.true in c.perform_put-came.ensures.stays (c.perform_put-came.ensures.faulted failed) failed told).stands some.0 some.1);
}

pub returns-then-faulting-clause-stores : goal.returns-then-faulting-clause-stores
returns-then-faulting-clause-stores g c = λ told some m is.
    let failed = sym c.faulting.ensures ∙ c.if-faulting.true in
    let disk = c.perform_put-came.ensures.faulted failed in
    let put = c.perform_put-came.ensures in
    let calm : g.D.Disk.faults c.begin.new.disk ≡ g.D.Disk.faults c.args.disk.now = c.in-Ok.ensures.account.cause.kept (λ e. cc e) in
    let looked = put.looked disk failed in
    let begins = c.in-Ok.ensures.begins told in
    let s = g.D.Disk.state c.args.disk.now in
    let mid = session g.D.Disk c.in-Ok.store c.begin.new.disk in
    inl (
      (begins.resumed m is).done,
      (
        resumed_done s mid begins m is (g.met.D.Disk.finite c.args.disk.now told),
        inr (
          faulted_prints (output g.K.Sink g.D.Disk c.args.sink.now c.args.disk.now) (output g.K.Sink g.D.Disk c.end_faulted.new.sink c.end_faulted.new.disk)
              mid (session g.D.Disk c.perform_put-came.new.store c.perform_put-came.new.disk) begins m is c.end_faulted.result (put.stays disk failed told) (put.same_base disk failed) (c.end_faulted.ensures.ends told)
              c.end_faulted.ensures.failed c.end_faulted.ensures.part c.end_faulted.ensures.said
              (rose_twice calm (looked.cause.rose refl) (looked.no_change told ∙ c.in-Ok.ensures.account.went_on refl told) told c.end_faulted.ensures.closed),
          ap (supply g.S.Source) (put.unread_fault disk failed),
        ),
      ),
    )

pub returns-then-faulting-clause-stops : goal.returns-then-faulting-clause-stops
returns-then-faulting-clause-stops g c = λ told.
    let failed = sym c.faulting.ensures ∙ c.if-faulting.true in
    let looked = c.perform_put-came.ensures.looked (c.perform_put-came.ensures.faulted failed) failed in
    stops_after (g.D.Disk.counts c.args.disk.now) (g.D.Disk.counts c.begin.new.disk) (c.in-Ok.ensures.account.went_on refl told) (g.D.Disk.counts c.perform_put-came.new.disk) (g.D.Disk.counts c.end_faulted.new.disk)
    (looked.no_change told) (c.end_faulted.ensures.stops told)

pub returns-in-No-clause-refused : goal.returns-in-No-clause-refused
returns-in-No-clause-refused g c = λ is.
    put_refuses c.perform_put-came.result c.end.result (said_in c.perform_put-came.new.said) (g.K.Sink.taken c.args.sink.now) (g.K.Sink.taken c.print_answer-in-No.new.sink) c.end.ensures.same c.in-No.is c.perform_put-came.ensures.refused (subst (Appends (g.K.Sink.taken c.args.sink.now) (g.K.Sink.taken c.print_answer-in-No.new.sink)) c.as_slice-in-No.ensures (c.print_answer-in-No.ensures.all (inr is)))

pub returns-in-Done-clause-grows : goal.returns-in-Done-clause-grows
returns-in-Done-clause-grows g c = takes_part (g.K.Sink.taken c.args.sink.now) (g.K.Sink.taken c.print_answer.new.sink) (said_in c.perform_put-came.new.said)
    (subst (IsPart (g.K.Sink.taken c.args.sink.now) (g.K.Sink.taken c.print_answer.new.sink)) c.as_slice.ensures c.print_answer.ensures.part)

pub returns-in-No-clause-grows : goal.returns-in-No-clause-grows
returns-in-No-clause-grows g c = takes_part (g.K.Sink.taken c.args.sink.now) (g.K.Sink.taken c.print_answer-in-No.new.sink) (said_in c.perform_put-came.new.said)
    (subst (IsPart (g.K.Sink.taken c.args.sink.now) (g.K.Sink.taken c.print_answer-in-No.new.sink)) c.as_slice-in-No.ensures c.print_answer-in-No.ensures.part)

-- what a crash may leave of a mark
pub returns-in-Err-clause-mark : goal.returns-in-Err-clause-mark
returns-in-Err-clause-mark g c = λ told. leaves_mark [] _ _ (c.in-Err.ensures.fails told).mark

pub returns-then-faulting-clause-mark : goal.returns-then-faulting-clause-mark
returns-then-faulting-clause-mark g c = λ told. closed_leaves_mark [] _ _ _ _ (c.in-Ok.ensures.begins told).mark (kept_change_mark _ _ (c.perform_put-came.ensures.performs told).mark) (c.end_faulted.ensures.ends told).mark

pub returns-in-Done-clause-mark : goal.returns-in-Done-clause-mark
returns-in-Done-clause-mark g c = λ told. closed_leaves_mark [] _ _ _ _ (c.in-Ok.ensures.begins told).mark (kept_change_mark _ _ (c.perform_put-came.ensures.performs told).mark) (c.end.ensures.ends told).mark

pub returns-in-No-clause-mark : goal.returns-in-No-clause-mark
returns-in-No-clause-mark g c = λ told. closed_leaves_mark [] _ _ _ _ (c.in-Ok.ensures.begins told).mark (kept_change_mark _ _ (c.perform_put-came.ensures.performs told).mark) (c.end.ensures.ends told).mark
