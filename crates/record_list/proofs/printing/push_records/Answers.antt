use Rattle.std.proofs.Common.{length, arith, sym, ◌≤◌}
use Rattle.std.proofs.lemmas.List.{take_all}
use Rattle.std.proofs.lemmas.List.Elements.{All-more, All-same, recursion_from_All}
use Rattle.index_record.specs.Record.{IsRecord}
use Rattle.record_list.proofs.Pushed.{pushed}
use Rattle.record_list.proofs.printing.push_records.Goals as goal

pub loop-record-preserved : goal.loop-record-preserved
loop-record-preserved c = record {
  bytes = pushed c.args.records.now c.loop-record.record-index _ c.loop-record-test.true c.args.out.now _ _ _ c.loop-record.invariant.bytes c.write.ensures.bytes c.in_ok-extend.ensures.ok;
  widths = All-more IsRecord c.args.records.now c.loop-record.record-index _ c.loop-record-test.true c.loop-record.invariant.widths c.write.ensures.widths;
}

pub returns-clause-widths : goal.returns-clause-widths
returns-clause-widths c =
    let all : length c.args.records.now ≤ c.loop-record.record-index = omega (arith, c.loop-record-test.false) in
    recursion_from_All IsRecord c.args.records.now (All-same IsRecord _ _ (sym (take_all _ _ all)) c.loop-record.invariant.widths)
