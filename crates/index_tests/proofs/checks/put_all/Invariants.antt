use Rattle.disk_model.specs.MemDisk.{state_in}
use Rattle.disk_theory.specs.Sound.{IsQuiet}
use Rattle.index_tests.proofs.checks.put_all.Given as goal

abbrev pub invariant-loop-file : goal.invariant-loop-file
invariant-loop-file l = IsQuiet (state_in l.disk)
