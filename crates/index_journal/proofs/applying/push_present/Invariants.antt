use Rattle.std.proofs.Common.{◌≡◌, ◌++◌, take}
use Rattle.record_list.specs.Stored.{present}
use Rattle.index_journal.proofs.applying.push_present.Given as goal

abbrev pub invariant-loop-record : goal.invariant-loop-record
invariant-loop-record l = l.out.items ≡ l.initial.out.items ++ present (take l.record-index l.records)
