use Rattle.std.proofs.Common.{ap, refl, ◌∙◌}
use Rattle.std.specs.BTreeMap.{is_at}
use Rattle.std.specs.BTreeSet.{contains}
use Rattle.std.specs.List.{list_any}
use Rattle.cache_base.specs.Names.{name_cmp}
use Rattle.cache_base.proofs.NameLaws.{name_cmp_total}
use Rattle.overlay_disk.proofs.ListLaws.{names_exact}
use Rattle.disk_theory.specs.declared.place.Place.TheVariants.{Entry}
use Rattle.disk_theory.proofs.KindsOfPlaces.{entry_in, only_entry}
use Rattle.overlay_disk.proofs.ListLaws.{all_followed, by_slot, if_ok_then}
use Rattle.overlay_disk.proofs.listing.entry_names.Goals as goal

pub returns-clause-names : goal.returns-clause-names
returns-clause-names c = if_ok_then c.listed.result c.listed.ensures.names (λ list is q.
    ap (list_any (is_at (name_cmp q))) is
    ∙ all_followed (is_at (name_cmp q)) entry_in (contains name_cmp c.loop-place.names q) (list_any (is_at (name_cmp q)) c.args.below.now) _ c.loop-place.place-iterator c.args.slots.now.entries
    c.in-None.ensures.steps.0 (c.loop-place.invariant q)
    (by_slot entry_in Entry (λ x. refl) only_entry name_cmp (λ a b. refl) name_cmp_total names_exact q (list_any (is_at (name_cmp q)) c.args.below.now) c.args.slots.now.entries c.into_iter-place-iterator.ensures.into_iter_gives.5))
