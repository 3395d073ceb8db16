use Rattle.std.proofs.Common.{sym, subst}
use Rattle.disk_theory.specs.declared.place.NameStep.{NameStep}
use Rattle.disk_model.specs.MemSlots.{AreSettled}
use Rattle.disk_model.proofs.MemSlots.{settled_at, both_settled}
use Rattle.disk_model.proofs.mem_slots.settle_step.Goals as goal

pub returns-in-Create-clause-synced : goal.returns-in-Create-clause-synced
returns-in-Create-clause-synced c =
    subst (λ (step : NameStep). AreSettled c.args.slots.now c.settle_place.new.slots step) (sym c.in-Create.is)
    (λ p. settled_at c.args.slots.now c.settle_place.new.slots c.in-Create.place p c.settle_place.ensures.synced)

pub returns-in-Rename-clause-synced : goal.returns-in-Rename-clause-synced
returns-in-Rename-clause-synced c =
    let one = c.settle_place-in-Rename in
    let two = c.settle_place-in-Rename-2 in
    subst (λ (step : NameStep). AreSettled c.args.slots.now two.new.slots step) (sym c.in-Rename.is)
    (λ p. both_settled c.args.slots.now one.new.slots two.new.slots c.in-Rename.from c.in-Rename.to p one.ensures.now one.ensures.synced two.ensures.synced)

pub returns-in-Remove-clause-synced : goal.returns-in-Remove-clause-synced
returns-in-Remove-clause-synced c =
    subst (λ (step : NameStep). AreSettled c.args.slots.now c.settle_place-in-Remove.new.slots step) (sym c.in-Remove.is)
    (λ p. settled_at c.args.slots.now c.settle_place-in-Remove.new.slots c.in-Remove.place p c.settle_place-in-Remove.ensures.synced)
