use Rattle.std.proofs.Common.{◌≡◌, filter, map, take}
use Rattle.context_clear.specs.Covered.{covers_record}
use Rattle.index_record.specs.declared.record.IndexRecord.{IndexRecord}
use Rattle.cache_store.proofs.clear.covered_names.Given as goal

abbrev pub invariant-loop-r : goal.invariant-loop-r
invariant-loop-r l = l.names ≡ map (λ (r : IndexRecord). r.name) (filter (covers_record l.origin) (take l.r-index l.records))
