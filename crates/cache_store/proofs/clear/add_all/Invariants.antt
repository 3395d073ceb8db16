use Rattle.std.proofs.Common.{◌≡◌, ◌||◌, take}
use Rattle.std.specs.BTreeSet.{contains}
use Rattle.cache_base.specs.Names.{has_name, name_cmp}
use Rattle.cache_base.specs.declared.name.Name.{Name}
use Rattle.cache_store.proofs.clear.add_all.Given as goal

abbrev pub invariant-loop-name : goal.invariant-loop-name
invariant-loop-name l = (q : Name) → contains name_cmp l.set q ≡ (contains name_cmp l.fn.set q || has_name (take l.name-index l.names) q)
