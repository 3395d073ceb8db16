use Rattle.std.proofs.Common.{◌≡◌, ◌++◌, take}
use Rattle.std.specs.List.{All}
use Rattle.index_record.specs.Record.{IsRecord}
use Rattle.record_list.specs.Lists.{records_bytes}
use Rattle.record_list.specs.Stored.{read_as}
use Rattle.record_list.proofs.printing.push_records.Given as goal

abbrev pub invariant-loop-record : goal.invariant-loop-record
invariant-loop-record l = record {
  bytes : l.out ≡ l.initial.out ++ records_bytes (read_as (take l.record-index l.records));
  widths : All IsRecord (take l.record-index l.records);
}
