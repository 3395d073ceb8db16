use Rattle.std.proofs.Common.{arith, rules}
use Rattle.cache_store.specs.Session.{session}
use Rattle.cache_tool.specs.HeldReply.{said_in}
use Rattle.cache_tool.proofs.Fills.FillHalf.{half_evicted, half_fails, half_handed, half_ok}
use Rattle.cache_tool.proofs.Handed.{handed_open, handed_account, looks_account}
use Rattle.disk_theory.specs.Account.{no_sync}
use Rattle.cache_tool.proofs.fill.evict_half.Goals as goal

pub returns-in_err-kilobytes-clause-evicts : goal.returns-in_err-kilobytes-clause-evicts
returns-in_err-kilobytes-clause-evicts g c = λ told.
    half_fails c.kilobytes.result c.from_residual.result _ (session g.D.Disk c.args.store.now c.args.disk.now) (session g.D.Disk c.kilobytes.new.self c.kilobytes.new.disk) (said_in c.args.said.now)
    c.from_residual.ensures.1 (c.kilobytes.ensures.ends told) (c.kilobytes.ensures.looks.state told)

pub returns-in_err-send-clause-evicts : goal.returns-in_err-send-clause-evicts
returns-in_err-send-clause-evicts g c = λ told.
    half_handed _ c.from_residual-in_err-send.result _ (session g.D.Disk c.args.store.now c.args.disk.now) (session g.D.Disk c.send.new.store c.send.new.disk) (said_in c.send.new.said)
    c.from_residual-in_err-send.ensures.1
    (half_evicted (session g.D.Disk c.args.store.now c.args.disk.now) (session g.D.Disk c.kilobytes.new.self c.kilobytes.new.disk) (session g.D.Disk c.send.new.store c.send.new.disk) _ (said_in c.send.new.said)
    c.in_ok-kilobytes.ensures.base (c.in_ok-kilobytes.ensures.looks.state told) c.in_ok-kilobytes.field-0 c.half_of-kb.result (c.in_ok-kilobytes.ensures.ends told) (c.in_ok-kilobytes.ensures.total told)
    c.half_of-kb.ensures (c.in_err-send.ensures.sends told))

pub returns-clause-evicts : goal.returns-clause-evicts
returns-clause-evicts g c = λ told.
    half_ok _ _ (session g.D.Disk c.args.store.now c.args.disk.now) (session g.D.Disk c.send.new.store c.send.new.disk) (said_in c.send.new.said)
    (half_evicted (session g.D.Disk c.args.store.now c.args.disk.now) (session g.D.Disk c.kilobytes.new.self c.kilobytes.new.disk) (session g.D.Disk c.send.new.store c.send.new.disk) _ (said_in c.send.new.said)
    c.in_ok-kilobytes.ensures.base (c.in_ok-kilobytes.ensures.looks.state told) c.in_ok-kilobytes.field-0 c.half_of-kb.result (c.in_ok-kilobytes.ensures.ends told) (c.in_ok-kilobytes.ensures.total told)
    c.half_of-kb.ensures (c.in_ok-send.ensures.sends told))

pub returns-in_err-kilobytes-clause-keeps : goal.returns-in_err-kilobytes-clause-keeps
returns-in_err-kilobytes-clause-keeps g c = record {
  stays = λ told.
      handed_open c.from_residual.result c.in_err-kilobytes.field-0.0 (session g.D.Disk c.kilobytes.new.self c.kilobytes.new.disk) c.from_residual.ensures.1 (c.in_err-kilobytes.ensures.open told);
  honest = search rules;
  no_sink = search rules;
  account = search rules;
}

pub returns-in_err-send-clause-keeps : goal.returns-in_err-send-clause-keeps
returns-in_err-send-clause-keeps g c = record {
  stays = λ told.
      handed_open c.from_residual-in_err-send.result c.in_err-send.field-0.0 (session g.D.Disk c.send.new.store c.send.new.disk) c.from_residual-in_err-send.ensures.1 (c.in_err-send.ensures.keeps.stays told);
  honest = search rules;
  no_sink = search rules;
  account = handed_account g.D.Disk no_sync c.from_residual-in_err-send.result c.in_err-send.field-0.0 c.args.disk.now c.kilobytes.new.disk c.send.new.disk (omega arith) c.from_residual-in_err-send.ensures.1
      (looks_account g.D.Disk c.args.disk.now c.kilobytes.new.disk c.in_ok-kilobytes.ensures.looks) c.in_err-send.ensures.keeps.account;
}
