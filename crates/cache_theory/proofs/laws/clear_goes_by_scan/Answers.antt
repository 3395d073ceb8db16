use Rattle.cache_theory.proofs.Clears.Clearing as laws
use Rattle.cache_theory.proofs.Clears.MarkStays as marks
use Rattle.cache_theory.proofs.Clears.Covering.{record_tells_covered}
use Rattle.cache_theory.proofs.Evictions.Evicting.{doomed_are_lost}
use Rattle.cache_theory.proofs.laws.clear_goes_by_scan.Goals as goal

pub returns-clause-same : goal.returns-clause-same
returns-clause-same c = laws.clear_is_of_names

pub returns-clause-scan : goal.returns-clause-scan
returns-clause-scan c = laws.clear_goes_by_scan

pub returns-clause-resumed : goal.returns-clause-resumed
returns-clause-resumed c = laws.resume_is_of_names

pub returns-clause-unmarked : goal.returns-clause-unmarked
returns-clause-unmarked c = laws.resume_without_mark

pub returns-clause-resumed_scan : goal.returns-clause-resumed_scan
returns-clause-resumed_scan c = laws.resume_goes_by_scan

pub returns-clause-stays : goal.returns-clause-stays
returns-clause-stays c = marks.mark_stays

pub returns-clause-left : goal.returns-clause-left
returns-clause-left c = marks.no_mark_is_left

pub returns-clause-records : goal.returns-clause-records
returns-clause-records c = record_tells_covered

pub returns-clause-lost : goal.returns-clause-lost
returns-clause-lost c = doomed_are_lost
