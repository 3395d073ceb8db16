use Rattle.std.proofs.Common.{ap, inl, inr, subst, sym, ◌∙◌}
use Rattle.cache_tool.specs.Statuses.{IsClosing, status_in}
use Rattle.cache_tool.specs.World.{progress, world}
use Rattle.cache_tool.proofs.Accounted.{sink_failed}
use Rattle.cache_tool.proofs.OneCommand.{none_read}
use Rattle.cache_tool.proofs.Scripts.ScriptEnds.{runs_ended, runs_not_begun}
use Rattle.cache_tool.proofs.StatusLaws.{closes_or_not}
use Rattle.cache_tool.proofs.script.run_script.Goals as goal

pub returns-in-Err-clause-runs : goal.returns-in-Err-clause-runs
returns-in-Err-clause-runs g c = λ told.
    runs_not_begun _ c.args.now (world g.S.Source g.K.Sink g.D.Disk c.args.source.now c.args.sink.now c.args.disk.now) (g.D.Disk.state c.begin.new.disk) (g.D.Disk.faults c.begin.new.disk)
    c.begin.result c.in-Err.fault c.status_of_fault.result c.in-Err.is c.begin.ensures.no_sink c.status_of_fault.ensures c.begin.ensures.account.cause (λ failed. c.begin.ensures.account.last failed told) (λ failed. c.begin.ensures.before failed told) (λ none. none_read (c.begin.ensures.looks told none told)) (c.begin.ensures.account.syncs told) (c.in-Err.ensures.fails told)

pub returns-clause-runs : goal.returns-clause-runs
returns-clause-runs g c = λ told.
    let at = progress g.S.Source g.K.Sink g.D.Disk in
    let came = c.perform_script-came.new in
    runs_ended _ _ _ _ c.args.now c.end.result c.perform_script-came.result (g.D.Disk.state c.args.disk.now) (at c.in-Ok.store c.args.source.now c.args.sink.now c.begin.new.disk)
    (at came.store came.source came.sink came.disk) _ (g.D.Disk.faults c.args.disk.now) (g.D.Disk.faults c.end.new.disk) (c.in-Ok.ensures.account.cause.kept (λ e. cc e))
    (g.met.D.Disk.finite c.args.disk.now told) (c.in-Ok.ensures.begins told) (c.perform_script-came.ensures.performs told) (c.perform_script-came.ensures.honest told) (c.end.ensures.ends told) c.end.ensures.same
    (λ still. ap (λ d. g.D.Disk.state d) (c.end.ensures.dropped still).1)
    (λ disk. elim (closes_or_not (status_in c.perform_script-came.result)) [
      | inl closing ↦ inr ((λ is. subst IsClosing is closing), ((c.end.ensures.cause closing).rose disk, c.end.ensures.last closing disk told))
      | inr still ↦ let left = (c.end.ensures.dropped still).1 in inl (sym (c.end.ensures.dropped still).0 ∙ disk, (ap (λ d. g.D.Disk.counts d) left, ap (λ d. g.D.Disk.faults d) left))
    ])
    (λ sound. elim (closes_or_not (status_in c.perform_script-came.result)) [
      | inl closing ↦ ((λ disk. subst IsClosing disk closing), (c.end.ensures.cause closing).kept sound)
      | inr still ↦ ((λ disk. sound ((c.end.ensures.dropped still).0 ∙ disk)), ap (λ d. g.D.Disk.faults d) (c.end.ensures.dropped still).1)
    ])
    (λ still. (c.end.ensures.dropped still).0) (λ sink. c.perform_script-came.ensures.account.sink.rose (sink_failed c.perform_script-came.result c.perform_script-came.ensures.status sink))
    (c.in-Ok.ensures.account.syncs told) (c.end.ensures.syncs told)
