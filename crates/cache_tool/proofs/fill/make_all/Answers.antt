use Rattle.std.proofs.Common.{[], ◌∷◌, refl, rules}
use Rattle.cache_store.specs.Session.{session}
use Rattle.cache_theory.specs.Command.Command.{Flush}
use Rattle.cache_tool.specs.Fill.{entries_commands, making_commands}
use Rattle.cache_tool.specs.HeldReply.{said_in}
use Rattle.cache_tool.proofs.Fills.FillRuns.{run_fails, run_handed, run_ok, run_one, run_then}
use Rattle.cache_tool.proofs.Handed.{handed_open}
use Rattle.cache_tool.proofs.fill.make_all.Goals as goal

pub returns-in_err-make_entries-clause-runs : goal.returns-in_err-make_entries-clause-runs
returns-in_err-make_entries-clause-runs g c = λ told.
    run_fails (entries_commands c.args.now c.args.first c.args.count) (Flush ∷ []) _ c.from_residual.result _ (session g.D.Disk c.args.store.now c.args.disk.now)
    (session g.D.Disk c.make_entries.new.store c.make_entries.new.disk) c.from_residual.ensures.1 (c.in_err-make_entries.ensures.runs told)

pub returns-in_err-send-clause-runs : goal.returns-in_err-send-clause-runs
returns-in_err-send-clause-runs g c = λ told.
    let s0 = session g.D.Disk c.args.store.now c.args.disk.now in
    let s1 = session g.D.Disk c.make_entries.new.store c.make_entries.new.disk in
    let s2 = session g.D.Disk c.send.new.store c.send.new.disk in
    run_handed (making_commands c.args.now c.args.count c.args.first) _ c.from_residual-in_err-send.result _ s0 s2 c.from_residual-in_err-send.ensures.1
    (run_then (entries_commands c.args.now c.args.first c.args.count) (Flush ∷ []) _ _ s0 s1 s2 (c.in_ok-make_entries.ensures.runs told)
    (run_one Flush _ s1 s2 (said_in c.send.new.said) refl (c.in_err-send.ensures.sends told)))

pub returns-clause-runs : goal.returns-clause-runs
returns-clause-runs g c = λ told.
    let s0 = session g.D.Disk c.args.store.now c.args.disk.now in
    let s1 = session g.D.Disk c.make_entries.new.store c.make_entries.new.disk in
    let s2 = session g.D.Disk c.send.new.store c.send.new.disk in
    run_ok (making_commands c.args.now c.args.count c.args.first) c.in_ok-send.field-0 tt s0 s2
    (run_then (entries_commands c.args.now c.args.first c.args.count) (Flush ∷ []) _ _ s0 s1 s2 (c.in_ok-make_entries.ensures.runs told)
    (run_one Flush _ s1 s2 (said_in c.send.new.said) refl (c.in_ok-send.ensures.sends told)))

pub returns-in_err-make_entries-clause-keeps : goal.returns-in_err-make_entries-clause-keeps
returns-in_err-make_entries-clause-keeps g c = record {
  stays = λ told.
      handed_open c.from_residual.result c.in_err-make_entries.field-0.0 (session g.D.Disk c.make_entries.new.store c.make_entries.new.disk) c.from_residual.ensures.1 (c.in_err-make_entries.ensures.keeps.stays told);
  honest = search rules;
  no_sink = search rules;
  account = search rules;
}

pub returns-in_err-send-clause-keeps : goal.returns-in_err-send-clause-keeps
returns-in_err-send-clause-keeps g c = record {
  stays = λ told.
      handed_open c.from_residual-in_err-send.result c.in_err-send.field-0.0 (session g.D.Disk c.send.new.store c.send.new.disk) c.from_residual-in_err-send.ensures.1 (c.in_err-send.ensures.keeps.stays told);
  honest = search rules;
  no_sink = search rules;
  account = search rules;
}
