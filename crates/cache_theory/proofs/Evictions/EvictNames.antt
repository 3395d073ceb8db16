-- The machine's own eviction is that of the names of its victims.
use Rattle.std.proofs.Common.{refl}
use Rattle.cache_theory.specs.Checks.{checks}
use Rattle.cache_theory.specs.Command.Command.{Evict}
use Rattle.cache_theory.specs.Laws.{BegunTouchesMore, EvictIsOfNames}
use Rattle.cache_theory.specs.Step.{effect}
use Rattle.cache_theory.proofs.Begins.{begin_keeps}

pub evict_is_of_names : EvictIsOfNames
unfolding checks effect
evict_is_of_names m kb = (refl, refl)

-- an eviction of no names leaves the marks as they are
pub begun_touches_more : BegunTouchesMore
unfolding checks effect
begun_touches_more s m kb w safe = begin_keeps s m (Evict kb) w safe
