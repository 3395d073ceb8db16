use Rattle.std.proofs.Common.{◌∙◌, ◌+◌, ap, arith, refl, sym, rules}
use Rattle.cache_store.specs.Session.{session}
use Rattle.cache_tool.specs.Fill.{entries_commands, next_number}
use Rattle.file_handles.proofs.Accounting.{calm_sum, calm_accounts}
use Rattle.cache_tool.proofs.Handed.{keeps_handed}
use Rattle.cache_tool.proofs.Fills.FillRuns.{entries_fail, entries_then, number_next, run_never, run_none}
use Rattle.cache_tool.proofs.RightLaws.{open_leaves_honest}
use Rattle.cache_tool.proofs.fill.make_entries.Goals as goal

pub returns-in_err-pattern-clause-runs : goal.returns-in_err-pattern-clause-runs
returns-in_err-pattern-clause-runs g c = λ told.
    run_never (entries_commands c.args.now c.args.first c.args.count) c.from_residual.result _ (session g.D.Disk c.args.store.now c.args.disk.now) c.from_residual.ensures.1

pub returns-in_err-pattern-clause-keeps : goal.returns-in_err-pattern-clause-keeps
returns-in_err-pattern-clause-keeps g c = record {
  stays = search rules;
  honest = λ told. open_leaves_honest (session g.D.Disk c.args.store.now c.args.disk.now) (c.requires.told told);
  no_sink = search rules;
  account = search rules;
}

pub body-bytes-requires-clause-pattern : goal.body-bytes-requires-clause-pattern
body-bytes-requires-clause-pattern g c = c.as_slice.ensures ∙ c.in_ok-pattern.ensures

pub loop-i-init : goal.loop-i-init
loop-i-init g c = record {
  x = refl;
  runs = λ told. run_none (session g.D.Disk c.args.store.now c.args.disk.now);
  stands = c.requires.told;
  calm = record { faults = refl; no_change = λ told. refl; syncs = λ told. omega arith };
}

pub loop-i-preserved : goal.loop-i-preserved
loop-i-preserved g c =
    let s0 = session g.D.Disk c.args.store.now c.args.disk.now in
    let s1 = session g.D.Disk c.loop-i.store c.loop-i.disk in
    let s2 = session g.D.Disk c.make_entry.new.store c.make_entry.new.disk in
    let x = c.next-x.ensures.value ∙ ap next_number c.loop-i.invariant.x ∙ sym (number_next c.args.first c.loop-i.i) in
    record {
      x = x;
      runs = λ told. entries_then c.args.now c.args.first c.loop-i.i c.next-x.result _ s0 s1 s2 x (c.loop-i.invariant.runs told) (c.in_ok-make_entry.ensures.runs told c.next-x.result c.body-bytes.ensures);
      stands = λ told. c.in_ok-make_entry.ensures.keeps.stays told refl;
      calm = calm_sum g.D.Disk (c.loop-i.i + 1) c.args.disk.now c.loop-i.disk c.make_entry.new.disk (omega arith) c.loop-i.invariant.calm c.in_ok-make_entry.ensures.keeps.account;
    }

pub returns-in_err-make_entry-clause-runs : goal.returns-in_err-make_entry-clause-runs
returns-in_err-make_entry-clause-runs g c = λ told.
    let s0 = session g.D.Disk c.args.store.now c.args.disk.now in
    let s1 = session g.D.Disk c.loop-i.store c.loop-i.disk in
    let s2 = session g.D.Disk c.make_entry.new.store c.make_entry.new.disk in
    let x = c.next-x.ensures.value ∙ ap next_number c.loop-i.invariant.x ∙ sym (number_next c.args.first c.loop-i.i) in
    let lt = c.loop-i-test.true in
    entries_fail c.args.now c.args.first (c.loop-i.i + 1) c.args.count _ c.from_residual-in_err-make_entry.result _ s0 s2 (omega (arith, lt)) c.from_residual-in_err-make_entry.ensures.1
    (entries_then c.args.now c.args.first c.loop-i.i c.next-x.result _ s0 s1 s2 x (c.loop-i.invariant.runs told) (c.in_err-make_entry.ensures.runs told c.next-x.result c.body-bytes.ensures))

pub returns-clause-keeps : goal.returns-clause-keeps
returns-clause-keeps g c = record {
  stays = search rules;
  honest = λ told. open_leaves_honest (session g.D.Disk c.loop-i.store c.loop-i.disk) (c.loop-i.invariant.stands told);
  no_sink = search rules;
  account = search rules;
}

pub returns-in_err-make_entry-clause-keeps : goal.returns-in_err-make_entry-clause-keeps
returns-in_err-make_entry-clause-keeps g c =
    let lt = c.loop-i-test.true in
    keeps_handed g.D.Disk c.args.count c.from_residual-in_err-make_entry.result c.in_err-make_entry.field-0.0 c.make_entry.new.store c.args.disk.now c.loop-i.disk c.make_entry.new.disk (omega (arith, lt))
    c.from_residual-in_err-make_entry.ensures.1 (calm_accounts g.D.Disk c.args.disk.now c.loop-i.disk c.loop-i.invariant.calm) c.in_err-make_entry.ensures.keeps
