use Rattle.std.proofs.Common.{[], ◌∷◌, refl, rules}
use Rattle.cache_store.specs.Session.{session}
use Rattle.cache_theory.specs.Command.Command.{Append}
use Rattle.cache_tool.specs.HeldReply.{said_in}
use Rattle.cache_tool.proofs.Fills.FillRuns.{run_handed, run_ok, run_one, run_same}
use Rattle.cache_tool.proofs.Handed.{handed_open}
use Rattle.cache_tool.proofs.load.append_piece.Goals as goal

pub returns-in_err-send-clause-runs : goal.returns-in_err-send-clause-runs
returns-in_err-send-clause-runs g c = λ told.
    let append = Append 0 c.as_slice-bytes.result.now in
    let s0 = session g.D.Disk c.args.store.now c.args.disk.now in
    let s1 = session g.D.Disk c.send.new.store c.send.new.disk in
    run_same (append ∷ []) (Append 0 c.args.piece.now ∷ []) c.from_residual.result s0 s1 (λ i. Append 0 (c.as_slice-bytes.ensures i) ∷ [])
    (run_handed (append ∷ []) _ c.from_residual.result _ s0 s1 c.from_residual.ensures.1 (run_one append _ s0 s1 (said_in c.send.new.said) refl (c.in_err-send.ensures.sends told)))

pub returns-in_err-send-clause-keeps : goal.returns-in_err-send-clause-keeps
returns-in_err-send-clause-keeps g c = record {
  stays = λ told.
      handed_open c.from_residual.result c.in_err-send.field-0.0 (session g.D.Disk c.send.new.store c.send.new.disk) c.from_residual.ensures.1 (c.in_err-send.ensures.keeps.stays told);
  honest = search rules;
  no_sink = search rules;
  account = search rules;
}

pub returns-clause-runs : goal.returns-clause-runs
returns-clause-runs g c = λ told.
    let append = Append 0 c.as_slice-bytes.result.now in
    let s0 = session g.D.Disk c.args.store.now c.args.disk.now in
    let s1 = session g.D.Disk c.send.new.store c.send.new.disk in
    run_ok (Append 0 c.args.piece.now ∷ []) c.in_ok-send.field-0 tt s0 s1
    (run_same (append ∷ []) (Append 0 c.args.piece.now ∷ []) _ s0 s1 (λ i. Append 0 (c.as_slice-bytes.ensures i) ∷ []) (run_one append _ s0 s1 (said_in c.send.new.said) refl (c.in_ok-send.ensures.sends told)))
