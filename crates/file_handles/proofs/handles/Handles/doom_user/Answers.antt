use Rattle.std.proofs.lemmas.Result.{IfOk-from_err}
use Rattle.cache_theory.specs.Step.{doomed_under}
use Rattle.file_handles.specs.Cache.{cache_at}
use Rattle.file_handles.specs.Kept.{kept}
use Rattle.file_handles.specs.Stands.{KeepsWhere}
use Rattle.file_handles.proofs.Histories.{history_of}
use Rattle.file_handles.proofs.handles.Handles.doom_user.Goals as goal

pub returns-in_err-doom_at-in-Some-clause-dooms : goal.returns-in_err-doom_at-in-Some-clause-dooms
returns-in_err-doom_at-in-Some-clause-dooms g c = λ tells some. record {
  leaves = λ b h touched stand.
      let doomed = (c.in_err-doom_at-in-Some.ensures.dooms tells).leaves b h touched stand in record {
        safe = doomed.safe;
        next = IfOk-from_err c.from_residual.result
            (λ done. KeepsWhere b (cache_at (kept c.doom_at.new.self) (g.D.Disk.state c.doom_at.new.disk)) (history_of (doomed_under h.machine c.args.name.now.0) h.marks)) c.from_residual.ensures.0;
      };
}

pub returns-in_ok-doom_at-in-Some-clause-dooms : goal.returns-in_ok-doom_at-in-Some-clause-dooms
returns-in_ok-doom_at-in-Some-clause-dooms g c = λ tells some. record {
  leaves = λ b h touched stand.
      let doomed = (c.in_ok-doom_at-in-Some.ensures.dooms tells).leaves b h touched stand in record { safe = doomed.safe; next = doomed.next };
}
