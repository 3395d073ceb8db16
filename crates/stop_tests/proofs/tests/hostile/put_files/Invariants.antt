use Rattle.disk_model.specs.MemDisk.{state_in}
use Rattle.disk_theory.specs.Sound.{IsQuiet}
use Rattle.stop_tests.proofs.tests.hostile.put_files.Given as goal

abbrev pub invariant-loop-index : goal.invariant-loop-index
invariant-loop-index l = IsQuiet (state_in l.disk)
