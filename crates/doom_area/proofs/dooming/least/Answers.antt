use Rattle.std.proofs.Common.{◌≤◌, ◌+◌, length, arith}
use Rattle.doom_area.proofs.LeastFree.{found, lesser_more, long_enough}
use Rattle.doom_area.proofs.dooming.least.Goals as goal

pub loop-number-smaller : goal.loop-number-smaller
loop-number-smaller c =
    let xs = c.args.in_use.now in
    let n = c.loop-number.number in
    let long : n + 1 ≤ length xs = long_enough xs (n + 1) (lesser_more xs n c.loop-number.invariant.lesser (found xs n c.loop-number-test.ensures.cases)) in
    omega arith

pub loop-number-preserved : goal.loop-number-preserved
loop-number-preserved c =
    let xs = c.args.in_use.now in
    let n = c.loop-number.number in
    let lesser = lesser_more xs n c.loop-number.invariant.lesser (found xs n c.loop-number-test.ensures.cases) in
    record { within = long_enough xs (n + 1) lesser; lesser = lesser }
