use Rattle.std.proofs.Common.{List, ⊎_elim, inl, inr, Contains, sym, ◌∙◌, ap, subst}
use Rattle.disk_theory.specs.declared.place.Place.{Place}
use Rattle.disk_model.specs.MemSlots.{now_of}
use Rattle.disk_model.proofs.MemReplay.{key_or_none}
use Rattle.disk_model.proofs.mem_image.any_stands.Goals as goal

pub loop-place-init : goal.loop-place-init
loop-place-init c = λ p.
    let keys = c.into_iter-place-iterator.ensures.into_iter_gives ∙ c.keys-place-items.ensures.rest in
    ⊎_elim (λ none. inl (ap now_of none)) (λ has. inr (subst (λ (ks : List Place). Contains ks p) (sym keys) has)) (key_or_none c.args.slots.now p)
