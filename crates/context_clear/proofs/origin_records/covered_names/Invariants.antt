use Rattle.std.proofs.Common.{◌≡◌, take}
use Rattle.std.specs.Prelude.{filter}
use Rattle.record_list.specs.Lists.{names_of}
use Rattle.context_clear.specs.Covered.{covers_name}
use Rattle.context_clear.proofs.origin_records.covered_names.Given as goal

abbrev pub invariant-loop-r : goal.invariant-loop-r
invariant-loop-r l = l.names ≡ filter (covers_name l.map l.origin) (take l.r-index (names_of l.records))
