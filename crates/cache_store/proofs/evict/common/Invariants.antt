use Rattle.std.proofs.Common.{◌≡◌, filter, take}
use Rattle.cache_base.specs.Names.{has_name}
use Rattle.cache_store.proofs.evict.common.Given as goal

abbrev pub invariant-loop-name : goal.invariant-loop-name
invariant-loop-name l = l.list ≡ filter (has_name l.rising) (take l.name-index l.names)
