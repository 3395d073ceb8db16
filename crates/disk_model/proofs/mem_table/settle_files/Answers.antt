use Rattle.std.proofs.Common.{◌∙◌}
use Rattle.disk_model.proofs.MemPending.{loop_settled, all_settled}
use Rattle.disk_model.proofs.mem_table.settle_files.Goals as goal

pub loop-number-preserved : goal.loop-number-preserved
loop-number-preserved c = (
  c.settle_file.ensures.len ∙ c.loop-number.invariant.0,
  loop_settled c.args.files.now c.loop-number.files c.settle_file.new.files c.args.written.now c.loop-number.number-index c.loop-number-test.true c.settle_file.ensures.files c.loop-number.invariant.1,
)

pub returns-clause-files : goal.returns-clause-files
returns-clause-files c = all_settled c.args.files.now c.loop-number.files c.args.written.now c.loop-number.number-index c.loop-number-test.false c.loop-number.invariant.1
