use Rattle.std.proofs.Common.{◌≡◌}
use Rattle.std.specs.BTreeMap.{is_at}
use Rattle.std.specs.BTreeSet.{contains}
use Rattle.std.specs.List.{list_any}
use Rattle.cache_base.specs.Names.{name_cmp}
use Rattle.cache_base.specs.declared.name.Name.{Name}
use Rattle.disk_theory.proofs.KindsOfPlaces.{entry_in}
use Rattle.overlay_disk.proofs.ListLaws.{after_all}
use Rattle.overlay_disk.proofs.listing.entry_names.Given as goal

-- what is left completes the whole
abbrev pub invariant-loop-place : goal.invariant-loop-place
invariant-loop-place l =
    (q : Name) → after_all (is_at (name_cmp q)) entry_in (contains name_cmp l.names q) l.place-iterator
    ≡ after_all (is_at (name_cmp q)) entry_in (list_any (is_at (name_cmp q)) l.below) l.slots.entries
