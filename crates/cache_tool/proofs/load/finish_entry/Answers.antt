use Rattle.std.proofs.Common.{[], ◌∷◌, arith, refl, rules}
use Rattle.cache_tool.specs.Syncs.{item_syncs}
use Rattle.cache_store.specs.Session.{session}
use Rattle.cache_theory.specs.Command.Command.{Close, FinishAs}
use Rattle.cache_tool.specs.HeldReply.{said_in}
use Rattle.cache_tool.specs.LoadProgress.{finish_commands}
use Rattle.cache_tool.proofs.Fills.FillRuns.{run_fails, run_handed, run_ok, run_one, run_then}
use Rattle.cache_tool.proofs.Handed.{handed_open, handed_account}
use Rattle.cache_tool.proofs.load.finish_entry.Goals as goal

pub returns-in_err-send-clause-runs : goal.returns-in_err-send-clause-runs
returns-in_err-send-clause-runs g c = λ told.
    let finish = FinishAs 0 c.args.meta.now.header c.args.meta.now.elements in
    let s0 = session g.D.Disk c.args.store.now c.args.disk.now in
    let s1 = session g.D.Disk c.send.new.store c.send.new.disk in
    run_fails (finish ∷ []) (Close 0 ∷ []) _ c.from_residual.result _ s0 s1 c.from_residual.ensures.1 (run_one finish _ s0 s1 (said_in c.send.new.said) refl (c.in_err-send.ensures.sends told))

pub returns-in_err-send-clause-keeps : goal.returns-in_err-send-clause-keeps
returns-in_err-send-clause-keeps g c = record {
  stays = λ told.
      handed_open c.from_residual.result c.in_err-send.field-0.0 (session g.D.Disk c.send.new.store c.send.new.disk) c.from_residual.ensures.1 (c.in_err-send.ensures.keeps.stays told);
  honest = search rules;
  no_sink = search rules;
  account = search rules;
}

pub returns-in_err-send-2-clause-runs : goal.returns-in_err-send-2-clause-runs
returns-in_err-send-2-clause-runs g c = λ told.
    let finish = FinishAs 0 c.args.meta.now.header c.args.meta.now.elements in
    let s0 = session g.D.Disk c.args.store.now c.args.disk.now in
    let s1 = session g.D.Disk c.send.new.store c.send.new.disk in
    let s2 = session g.D.Disk c.send-2.new.store c.send-2.new.disk in
    run_handed (finish_commands c.args.meta.now.header c.args.meta.now.elements) _ c.from_residual-in_err-send-2.result _ s0 s2 c.from_residual-in_err-send-2.ensures.1
    (run_then (finish ∷ []) (Close 0 ∷ []) _ _ s0 s1 s2 (run_one finish _ s0 s1 (said_in c.send.new.said) refl (c.in_ok-send.ensures.sends told))
    (run_one (Close 0) _ s1 s2 (said_in c.send-2.new.said) refl (c.in_err-send-2.ensures.sends told)))

pub returns-in_err-send-2-clause-keeps : goal.returns-in_err-send-2-clause-keeps
returns-in_err-send-2-clause-keeps g c = record {
  stays = λ told.
      handed_open c.from_residual-in_err-send-2.result c.in_err-send-2.field-0.0 (session g.D.Disk c.send-2.new.store c.send-2.new.disk) c.from_residual-in_err-send-2.ensures.1 (c.in_err-send-2.ensures.keeps.stays told);
  honest = search rules;
  no_sink = search rules;
  account = handed_account g.D.Disk item_syncs c.from_residual-in_err-send-2.result c.in_err-send-2.field-0.0 c.args.disk.now c.send.new.disk c.send-2.new.disk (omega arith) c.from_residual-in_err-send-2.ensures.1
      c.in_ok-send.ensures.keeps.account c.in_err-send-2.ensures.keeps.account;
}

pub returns-clause-runs : goal.returns-clause-runs
returns-clause-runs g c = λ told.
    let finish = FinishAs 0 c.args.meta.now.header c.args.meta.now.elements in
    let s0 = session g.D.Disk c.args.store.now c.args.disk.now in
    let s1 = session g.D.Disk c.send.new.store c.send.new.disk in
    let s2 = session g.D.Disk c.send-2.new.store c.send-2.new.disk in
    run_ok (finish_commands c.args.meta.now.header c.args.meta.now.elements) c.in_ok-send-2.field-0 tt s0 s2
    (run_then (finish ∷ []) (Close 0 ∷ []) _ _ s0 s1 s2 (run_one finish _ s0 s1 (said_in c.send.new.said) refl (c.in_ok-send.ensures.sends told))
    (run_one (Close 0) _ s1 s2 (said_in c.send-2.new.said) refl (c.in_ok-send-2.ensures.sends told)))
