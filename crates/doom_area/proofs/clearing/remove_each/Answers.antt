use Rattle.std.proofs.Common.{get_or, rules}
use Rattle.doom_area.proofs.ClearedTo.{removes_done, rising_step, cleared_step}
use Rattle.doom_area.proofs.clearing.remove_each.Goals as goal

pub returns-in_err-remove-clause-removes : goal.returns-in_err-remove-clause-removes
returns-in_err-remove-clause-removes g c = λ tells.
    removes_done c.remove.result (get_or c.args.numbers.now c.loop-number.number-index 0)
    (g.D.Disk.state c.args.disk.now) (g.D.Disk.state c.loop-number.disk) (g.D.Disk.state c.remove.new.self)
    (c.loop-number.invariant.to tells).removes (c.remove.ensures.state tells)

pub loop-number-preserved : goal.loop-number-preserved
loop-number-preserved g c =
    let xs = c.args.numbers.now in
    let i = c.loop-number.number-index in
    let before = c.loop-number.invariant in
    record {
      rising = rising_step xs i c.loop-number-test.true before.rising;
      to = λ tells. cleared_step xs i c.loop-number-test.true (g.D.Disk.state c.args.disk.now) (g.D.Disk.state c.loop-number.disk) (g.D.Disk.state c.remove.new.self) before.rising (before.to tells) (c.in_ok-remove.ensures.state tells);
      looks = search rules;
      calm = search rules;
    }
