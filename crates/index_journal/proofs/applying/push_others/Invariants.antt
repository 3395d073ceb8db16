use Rattle.std.proofs.Common.{◌≡◌, ◌++◌, take, not}
use Rattle.std.specs.Prelude.{filter}
use Rattle.cache_base.specs.Names.{has_name}
use Rattle.index_journal.proofs.applying.push_others.Given as goal

abbrev pub invariant-loop-record : goal.invariant-loop-record
invariant-loop-record l = l.out.items ≡ l.initial.out.items ++ filter (λ r. not (has_name l.sorted r.name)) (take l.record-index l.records)
