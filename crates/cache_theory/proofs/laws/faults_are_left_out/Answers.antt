use Rattle.cache_theory.proofs.Faults.FaultedMarks as marks
use Rattle.cache_theory.proofs.Faults.FaultedOn as on
use Rattle.cache_theory.proofs.laws.faults_are_left_out.Goals as goal

pub returns-clause-front : goal.returns-clause-front
returns-clause-front c = on.faults_are_in_front

pub returns-clause-next : goal.returns-clause-next
returns-clause-next c = on.next_may_fault

pub returns-clause-counted : goal.returns-clause-counted
returns-clause-counted c = on.kept_are_counted

pub returns-clause-within : goal.returns-clause-within
returns-clause-within c = on.faults_are_within

pub returns-clause-numbered : goal.returns-clause-numbered
returns-clause-numbered c = on.next_is_numbered

pub returns-clause-marks : goal.returns-clause-marks
returns-clause-marks c = marks.marks_are_of_kept
