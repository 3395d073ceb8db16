use Rattle.cache_theory.proofs.Faults.FaultedCuts as cuts
use Rattle.cache_theory.proofs.Faults.FaultedRead as read
use Rattle.cache_theory.proofs.Faults.FaultedTold as told
use Rattle.cache_theory.proofs.Faults.RepliesApart as apart
use Rattle.cache_theory.proofs.laws.faults_are_told.Goals as goal

pub returns-clause-reply : goal.returns-clause-reply
returns-clause-reply c = apart.no_reply_is_fault

pub returns-clause-told : goal.returns-clause-told
returns-clause-told c = told.faulted_is_told

pub returns-clause-whole : goal.returns-clause-whole
returns-clause-whole c = cuts.whole_is_told

pub returns-clause-front : goal.returns-clause-front
returns-clause-front c = cuts.front_is_told

pub returns-clause-cut : goal.returns-clause-cut
returns-clause-cut c = cuts.cut_is_told

pub returns-clause-fault_cut : goal.returns-clause-fault_cut
returns-clause-fault_cut c = cuts.fault_cut_is_told

pub returns-clause-read : goal.returns-clause-read
returns-clause-read c = read.faulted_is_read
