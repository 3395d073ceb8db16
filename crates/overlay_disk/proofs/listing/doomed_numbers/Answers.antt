use Rattle.std.proofs.Common.{ap, refl, ◌∙◌}
use Rattle.std.specs.BTreeMap.{is_at}
use Rattle.std.specs.BTreeSet.{contains}
use Rattle.std.specs.List.{list_any}
use Rattle.std.specs.Ordering.{nat_cmp}
use Rattle.overlay_disk.proofs.ListLaws.{numbers_exact, numbers_total}
use Rattle.disk_theory.specs.declared.place.Place.TheVariants.{Doomed}
use Rattle.disk_theory.proofs.KindsOfPlaces.{doomed_in, only_doomed}
use Rattle.overlay_disk.proofs.ListLaws.{all_followed, by_slot, if_ok_then}
use Rattle.overlay_disk.proofs.listing.doomed_numbers.Goals as goal

pub returns-clause-numbers : goal.returns-clause-numbers
returns-clause-numbers c = if_ok_then c.rising.result c.rising.ensures.keys (λ list is q.
    ap (list_any (is_at (nat_cmp q))) is
    ∙ all_followed (is_at (nat_cmp q)) doomed_in (contains nat_cmp c.loop-place.numbers q) (list_any (is_at (nat_cmp q)) c.args.below.now) _ c.loop-place.place-iterator c.args.slots.now.entries
    c.in-None.ensures.steps.0 (c.loop-place.invariant q)
    (by_slot doomed_in Doomed (λ x. refl) only_doomed nat_cmp (λ a b. refl) numbers_total numbers_exact q (list_any (is_at (nat_cmp q)) c.args.below.now) c.args.slots.now.entries c.into_iter-place-iterator.ensures.into_iter_gives.5))
