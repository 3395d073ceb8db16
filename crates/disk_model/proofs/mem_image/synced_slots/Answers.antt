use Rattle.std.proofs.Common.{◌∙◌}
use Rattle.disk_theory.specs.State.{with_name}
use Rattle.disk_model.proofs.MemReplay.{copied_none, copied_more}
use Rattle.disk_model.proofs.mem_image.synced_slots.Goals as goal

pub loop-place-init : goal.loop-place-init
loop-place-init c =
    copied_none c.args.slots.now c.new-synced.result c.into_iter-place-iterator.result (c.into_iter-place-iterator.ensures.into_iter_gives ∙ c.keys-place-items.ensures.rest) c.new-synced.ensures.empty

pub loop-place-preserved : goal.loop-place-preserved
loop-place-preserved c =
    let place = c.in-Some.place.now in
    copied_more c.args.slots.now c.loop-place.synced c.set_file.new.slots c.loop-place.place-iterator c.next.new.self place c.in-Some.ensures.steps
    (c.set_file.ensures.now ∙ (λ i. with_name place (c.synced_at.ensures i) (c.in_ok-make_slot.ensures.same.current i))) c.loop-place.invariant
