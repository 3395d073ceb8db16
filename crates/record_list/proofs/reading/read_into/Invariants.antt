use Rattle.std.proofs.Common.{◌≡◌, take}
use Rattle.std.specs.Prelude.{map}
use Rattle.index_record.specs.Record.{record_in}
use Rattle.record_list.specs.Stored.{read_as}
use Rattle.record_list.proofs.reading.read_into.Given as goal

abbrev pub invariant-loop-group : goal.invariant-loop-group
invariant-loop-group l = l.records.items ≡ read_as (map record_in (take l.group-index l.groups))
