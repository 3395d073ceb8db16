use Rattle.std.proofs.Common.{ℕ, List, Contains, refl, sym, subst}
use Rattle.std.specs.List.Sorted.{IsStrictlySortedBy}
use Rattle.std.specs.Ordering.{nat_cmp}
use Rattle.disk_theory.specs.declared.place.Place.TheVariants.{Doomed}
use Rattle.disk_model.proofs.MemListing.{picked_rises, stands_to, stands_from, all_picked}
use Rattle.disk_theory.proofs.KindsOfPlaces.{doomed_in, only_doomed, doomed_rise}
use Rattle.disk_model.proofs.mem_listing.doomed_numbers.Goals as goal

pub returns-clause-sorted : goal.returns-clause-sorted
returns-clause-sorted c =
    let es = c.args.slots.now.entries in
    let whole = all_picked doomed_in c.loop-place.numbers c.loop-place.place-iterator es c.in-None.ensures.steps.0 c.loop-place.invariant in
    subst (IsStrictlySortedBy nat_cmp) (sym whole) (picked_rises doomed_in Doomed (λ x. refl) only_doomed nat_cmp doomed_rise es c.into_iter-place-iterator.ensures.into_iter_gives.5)

pub returns-clause-numbers : goal.returns-clause-numbers
returns-clause-numbers c = λ x.
    let es = c.args.slots.now.entries in
    let whole = all_picked doomed_in c.loop-place.numbers c.loop-place.place-iterator es c.in-None.ensures.steps.0 c.loop-place.invariant in (
      λ has. stands_to doomed_in Doomed (λ y. refl) only_doomed x es c.into_iter-place-iterator.ensures.into_iter_gives.5 (subst (λ (xs : List ℕ). Contains xs x) whole has),
      λ some. subst (λ (xs : List ℕ). Contains xs x) (sym whole) (stands_from doomed_in Doomed (λ y. refl) only_doomed x es some),
    )
