use Rattle.std.proofs.Common.{◌≡◌, IsSome, None, subst, refl, ap, ◌∙◌, rules}
use Rattle.disk_model.specs.declared.mem_slots.Slot.{Slot}
use Rattle.disk_theory.specs.State.{with_name}
use Rattle.disk_model.specs.MemSlots.{now_of, HasSlot, slot_at, synced_names_in}
use Rattle.disk_model.proofs.MemSlots.{nothing_settled, now_kept, synced_put}
use Rattle.disk_model.proofs.mem_slots.settle_place.Goals as goal

pub returns-in-Some-clause-now : goal.returns-in-Some-clause-now
returns-in-Some-clause-now c =
    let new : Slot = record { synced = c.in-Some.slot.now.now; now = c.in-Some.slot.now.now } in
    let has : HasSlot c.args.slots.now c.args.place.now = subst IsSome c.in-Some.ensures.value refl in
    now_kept c.args.slots.now (c.get_mut.follows.lender new) c.args.place.now new ((c.get_mut.follows.holds new).3 has) (ap now_of c.in-Some.ensures.value)

pub returns-in-Some-clause-synced : goal.returns-in-Some-clause-synced
returns-in-Some-clause-synced c =
    let new : Slot = record { synced = c.in-Some.slot.now.now; now = c.in-Some.slot.now.now } in
    let has : HasSlot c.args.slots.now c.args.place.now = subst IsSome c.in-Some.ensures.value refl in
    synced_put c.args.slots.now (c.get_mut.follows.lender new) c.args.place.now new ((c.get_mut.follows.holds new).3 has)
    ∙ ap (λ file. with_name c.args.place.now file (synced_names_in c.args.slots.now)) (ap now_of c.in-Some.ensures.value)

pub returns-in_default-clause-synced : goal.returns-in_default-clause-synced
returns-in_default-clause-synced c =
    let none : slot_at c.args.slots.now c.args.place.now ≡ None = search rules in
    nothing_settled c.args.slots.now c.get_mut.follows.lender-at-none c.args.place.now (search rules) none
