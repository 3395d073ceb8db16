use Rattle.std.proofs.Common.{◌∙◌, arith, refl, subst, sym, rules}
use Rattle.cache_base.specs.Bytes.{AreBytes}
use Rattle.cache_base.proofs.ByteLaws.{all_below}
use Rattle.cache_store.specs.Session.{session}
use Rattle.cache_tool.specs.Fill.{entry_commands, key_of}
use Rattle.cache_tool.specs.HeldReply.{said_in}
use Rattle.cache_tool.proofs.Fills.FillRuns.{appending_fails, closing_fails, creating_fails, entry_made, run_never, timing_fails}
use Rattle.cache_tool.proofs.Handed.{handed_account, handed_open}
use Rattle.cache_tool.proofs.RightLaws.{open_leaves_honest}
use Rattle.disk_theory.specs.Account.{Ending, one_sync}
use Rattle.file_handles.proofs.Accounting.{accounts_then}
use Rattle.cache_tool.proofs.fill.make_entry.Goals as goal

pub returns-in_err-key-clause-runs : goal.returns-in_err-key-clause-runs
returns-in_err-key-clause-runs g c = λ told x is.
    run_never (entry_commands c.args.now c.args.i x) c.from_residual.result _ (session g.D.Disk c.args.store.now c.args.disk.now) c.from_residual.ensures.1

pub returns-in_err-key-clause-keeps : goal.returns-in_err-key-clause-keeps
returns-in_err-key-clause-keeps g c = record {
  stays = search rules;
  honest = λ told. open_leaves_honest (session g.D.Disk c.args.store.now c.args.disk.now) (c.requires.told told);
  no_sink = search rules;
  account = search rules;
}

pub returns-in_err-send-clause-runs : goal.returns-in_err-send-clause-runs
returns-in_err-send-clause-runs g c = λ told x is.
    timing_fails c.args.now c.args.i x c.saturating_add.result (key_of c.args.i) c.args.bytes.now c.saturating_add.ensures refl is
    c.from_residual-in_err-send.result _ c.from_residual-in_err-send.ensures.1 (session g.D.Disk c.args.store.now c.args.disk.now) (session g.D.Disk c.send.new.store c.send.new.disk)
    (said_in c.send.new.said) _ (c.in_err-send.ensures.sends told)

pub returns-in_err-send-2-clause-runs : goal.returns-in_err-send-2-clause-runs
returns-in_err-send-2-clause-runs g c = λ told x is.
    creating_fails c.args.now c.args.i x c.saturating_add.result c.as_slice-2.result.now c.args.bytes.now c.saturating_add.ensures (c.as_slice-2.ensures ∙ c.in_ok-key.ensures) is
    (session g.D.Disk c.args.store.now c.args.disk.now) (session g.D.Disk c.send.new.store c.send.new.disk) (said_in c.send.new.said) _ (c.in_ok-send.ensures.sends told)
    (session g.D.Disk c.send-2.new.store c.send-2.new.disk) (said_in c.send-2.new.said)
    c.from_residual-in_err-send-2.result _ c.from_residual-in_err-send-2.ensures.1 _ (c.in_err-send-2.ensures.sends told)

pub returns-in_err-send-3-clause-runs : goal.returns-in_err-send-3-clause-runs
returns-in_err-send-3-clause-runs g c = λ told x is.
    appending_fails c.args.now c.args.i x c.saturating_add.result c.as_slice-2.result.now c.args.bytes.now c.saturating_add.ensures (c.as_slice-2.ensures ∙ c.in_ok-key.ensures) is
    (session g.D.Disk c.args.store.now c.args.disk.now) (session g.D.Disk c.send.new.store c.send.new.disk) (said_in c.send.new.said) _ (c.in_ok-send.ensures.sends told)
    (session g.D.Disk c.send-2.new.store c.send-2.new.disk) (said_in c.send-2.new.said) _ (c.in_ok-send-2.ensures.sends told)
    (session g.D.Disk c.send-3.new.store c.send-3.new.disk) (said_in c.send-3.new.said)
    c.from_residual-in_err-send-3.result _ c.from_residual-in_err-send-3.ensures.1 _ (c.in_err-send-3.ensures.sends told)

pub returns-in_err-send-4-clause-runs : goal.returns-in_err-send-4-clause-runs
returns-in_err-send-4-clause-runs g c = λ told x is.
    closing_fails c.args.now c.args.i x c.saturating_add.result c.as_slice-2.result.now c.args.bytes.now c.saturating_add.ensures (c.as_slice-2.ensures ∙ c.in_ok-key.ensures) is
    (session g.D.Disk c.args.store.now c.args.disk.now) (session g.D.Disk c.send.new.store c.send.new.disk) (said_in c.send.new.said) _ (c.in_ok-send.ensures.sends told)
    (session g.D.Disk c.send-2.new.store c.send-2.new.disk) (said_in c.send-2.new.said) _ (c.in_ok-send-2.ensures.sends told)
    (session g.D.Disk c.send-3.new.store c.send-3.new.disk) (said_in c.send-3.new.said) _ (c.in_ok-send-3.ensures.sends told)
    (session g.D.Disk c.send-4.new.store c.send-4.new.disk) (said_in c.send-4.new.said)
    c.from_residual-in_err-send-4.result _ c.from_residual-in_err-send-4.ensures.1 _ (c.in_err-send-4.ensures.sends told)

pub returns-clause-runs : goal.returns-clause-runs
returns-clause-runs g c = λ told x is.
    entry_made c.args.now c.args.i x c.saturating_add.result c.as_slice-2.result.now c.args.bytes.now c.saturating_add.ensures (c.as_slice-2.ensures ∙ c.in_ok-key.ensures) is
    (session g.D.Disk c.args.store.now c.args.disk.now) (session g.D.Disk c.send.new.store c.send.new.disk) (said_in c.send.new.said) _ (c.in_ok-send.ensures.sends told)
    (session g.D.Disk c.send-2.new.store c.send-2.new.disk) (said_in c.send-2.new.said) _ (c.in_ok-send-2.ensures.sends told)
    (session g.D.Disk c.send-3.new.store c.send-3.new.disk) (said_in c.send-3.new.said) _ (c.in_ok-send-3.ensures.sends told)
    (session g.D.Disk c.send-4.new.store c.send-4.new.disk) (said_in c.send-4.new.said) _ (c.in_ok-send-4.ensures.sends told)

pub send-requires-2-clause-given : goal.send-requires-2-clause-given
send-requires-2-clause-given g c = (omega arith, subst AreBytes (c.as_slice.ensures ∙ sym c.as_slice-2.ensures) c.bytes_fit.ensures)

pub send-requires-3-clause-given : goal.send-requires-3-clause-given
send-requires-3-clause-given g c = (omega arith, all_below 256 c.args.bytes.now (λ i. omega (arith, c.type_inv.bytes i)))

pub returns-in_err-send-4-clause-keeps : goal.returns-in_err-send-4-clause-keeps
returns-in_err-send-4-clause-keeps g c = record {
  stays = λ told.
      handed_open c.from_residual-in_err-send-4.result c.in_err-send-4.field-0.0 (session g.D.Disk c.send-4.new.store c.send-4.new.disk) c.from_residual-in_err-send-4.ensures.1 (c.in_err-send-4.ensures.keeps.stays told);
  honest = search rules;
  no_sink = search rules;
  account = handed_account g.D.Disk one_sync c.from_residual-in_err-send-4.result c.in_err-send-4.field-0.0 c.args.disk.now c.send-3.new.disk c.send-4.new.disk (omega arith) c.from_residual-in_err-send-4.ensures.1
      (accounts_then g.D.Disk Ending.NoneFailed c.args.disk.now c.send-2.new.disk c.send-3.new.disk (accounts_then g.D.Disk Ending.NoneFailed c.args.disk.now c.send.new.disk c.send-2.new.disk c.in_ok-send.ensures.keeps.account c.in_ok-send-2.ensures.keeps.account) c.in_ok-send-3.ensures.keeps.account) c.in_err-send-4.ensures.keeps.account;
}

pub returns-in_err-send-2-clause-keeps : goal.returns-in_err-send-2-clause-keeps
returns-in_err-send-2-clause-keeps g c = record {
  stays = λ told.
      handed_open c.from_residual-in_err-send-2.result c.in_err-send-2.field-0.0 (session g.D.Disk c.send-2.new.store c.send-2.new.disk) c.from_residual-in_err-send-2.ensures.1 (c.in_err-send-2.ensures.keeps.stays told);
  honest = search rules;
  no_sink = search rules;
  account = handed_account g.D.Disk one_sync c.from_residual-in_err-send-2.result c.in_err-send-2.field-0.0 c.args.disk.now c.send.new.disk c.send-2.new.disk (omega arith) c.from_residual-in_err-send-2.ensures.1
      c.in_ok-send.ensures.keeps.account c.in_err-send-2.ensures.keeps.account;
}

pub returns-in_err-send-3-clause-keeps : goal.returns-in_err-send-3-clause-keeps
returns-in_err-send-3-clause-keeps g c = record {
  stays = λ told.
      handed_open c.from_residual-in_err-send-3.result c.in_err-send-3.field-0.0 (session g.D.Disk c.send-3.new.store c.send-3.new.disk) c.from_residual-in_err-send-3.ensures.1 (c.in_err-send-3.ensures.keeps.stays told);
  honest = search rules;
  no_sink = search rules;
  account = handed_account g.D.Disk one_sync c.from_residual-in_err-send-3.result c.in_err-send-3.field-0.0 c.args.disk.now c.send-2.new.disk c.send-3.new.disk (omega arith) c.from_residual-in_err-send-3.ensures.1
      (accounts_then g.D.Disk Ending.NoneFailed c.args.disk.now c.send.new.disk c.send-2.new.disk c.in_ok-send.ensures.keeps.account c.in_ok-send-2.ensures.keeps.account) c.in_err-send-3.ensures.keeps.account;
}

pub send-requires-3-clause-told : goal.send-requires-3-clause-told
send-requires-3-clause-told g c = λ told. c.in_ok-send-2.ensures.keeps.stays told refl

pub send-requires-4-clause-told : goal.send-requires-4-clause-told
send-requires-4-clause-told g c = λ told. c.in_ok-send-3.ensures.keeps.stays told refl
