use Rattle.std.proofs.Common.{List, Contains, refl, sym, subst}
use Rattle.std.specs.List.Sorted.{IsStrictlySortedBy}
use Rattle.cache_base.specs.Names.{name_cmp}
use Rattle.cache_base.specs.declared.name.Name.{Name}
use Rattle.disk_theory.specs.declared.place.Place.TheVariants.{Entry}
use Rattle.disk_model.proofs.MemListing.{picked_rises, stands_to, stands_from, all_picked}
use Rattle.disk_theory.proofs.KindsOfPlaces.{entry_in, only_entry, entries_rise}
use Rattle.disk_model.proofs.mem_listing.entry_names.Goals as goal

pub returns-clause-sorted : goal.returns-clause-sorted
returns-clause-sorted c =
    let es = c.args.slots.now.entries in
    let whole = all_picked entry_in c.loop-place.names c.loop-place.place-iterator es c.in-None.ensures.steps.0 c.loop-place.invariant in
    subst (IsStrictlySortedBy name_cmp) (sym whole) (picked_rises entry_in Entry (λ x. refl) only_entry name_cmp entries_rise es c.into_iter-place-iterator.ensures.into_iter_gives.5)

pub returns-clause-names : goal.returns-clause-names
returns-clause-names c = λ x.
    let es = c.args.slots.now.entries in
    let whole = all_picked entry_in c.loop-place.names c.loop-place.place-iterator es c.in-None.ensures.steps.0 c.loop-place.invariant in (
      λ has. stands_to entry_in Entry (λ y. refl) only_entry x es c.into_iter-place-iterator.ensures.into_iter_gives.5 (subst (λ (xs : List Name). Contains xs x) whole has),
      λ some. subst (λ (xs : List Name). Contains xs x) (sym whole) (stands_from entry_in Entry (λ y. refl) only_entry x es some),
    )
