use Rattle.std.proofs.Common.{◌≡◌, ◌+◌, ◌++◌, length}
use Rattle.std.specs.Bool.{IsTrue}
use Rattle.cache_base.specs.Names.{AreSorted}
use Rattle.cache_check.specs.Findings.{findings}
use Rattle.disk_theory.specs.State.{standing}
use Rattle.record_list.specs.Lists.{AreSorted as AreByName}
use Rattle.cache_check.specs.Checks.{looks_over, table_of}
use Rattle.cache_check.proofs.LooksLeft.{LooksLeft}
use Rattle.cache_check.proofs.RowSteps.{Stand}
use Rattle.cache_check.proofs.checking.check_all.Given as goal

-- what is left completes the findings, and nothing has changed
abbrev pub invariant-rows : goal.invariant-rows
invariant-rows g l = record {
  rising : AreSorted l.filed;
  by_name : AreByName l.known;
  stand : IsTrue g.D.Disk.tells → Stand (standing (g.D.Disk.state l.fn.disk)) l.filed;
  completes : IsTrue g.D.Disk.tells → l.out ++ findings (table_of (standing (g.D.Disk.state l.fn.disk)) l.filed) l.known l.writing
      ≡ findings (table_of (standing (g.D.Disk.state l.fn.disk)) l.names) l.records l.writing;
  looks : IsTrue g.D.Disk.tells
      → LooksLeft (looks_over (table_of (standing (g.D.Disk.state l.fn.disk)) l.filed) l.writing) (looks_over (table_of (standing (g.D.Disk.state l.fn.disk)) l.names) l.writing)
      (g.D.Disk.counts l.fn.disk) (g.D.Disk.counts l.disk);
  state : IsTrue g.D.Disk.tells → g.D.Disk.state l.disk ≡ g.D.Disk.state l.fn.disk;
  faults : g.D.Disk.faults l.disk ≡ g.D.Disk.faults l.fn.disk;
}

abbrev pub decreases-rows : goal.decreases-rows
decreases-rows g l = length l.filed + length l.known
