use Rattle.std.proofs.Common.{◌∙◌}
use Rattle.disk_model.proofs.MemSlots.{loop_settled, all_settled}
use Rattle.disk_model.proofs.mem_slots.settle_names.Goals as goal

pub loop-step-preserved : goal.loop-step-preserved
loop-step-preserved c =
    let done = c.settle_step.ensures in (
      done.now ∙ c.loop-step.invariant.0,
      loop_settled c.loop-step.slots c.settle_step.new.slots c.args.steps.now c.loop-step.step-index _ c.loop-step-test.true done.now done.synced c.loop-step.invariant.1,
    )

pub returns-clause-synced : goal.returns-clause-synced
returns-clause-synced c = all_settled c.loop-step.slots c.args.steps.now c.loop-step.step-index c.loop-step-test.false c.loop-step.invariant.1 ∙ c.loop-step.invariant.0
