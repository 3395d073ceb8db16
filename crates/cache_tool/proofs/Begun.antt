-- Commands that may have begun.
use Rattle.std.proofs.Common.{List, [], ◌∷◌}
use Rattle.cache_theory.specs.Command.{Command}
use Rattle.cache_theory.specs.Crash.{IsSafe}
use Rattle.cache_theory.specs.Machine.{Machine}
use Rattle.cache_theory.specs.Marks.{Marks, all_begun, begun}
use Rattle.cache_theory.specs.Step.{step}
use Rattle.cache_theory.proofs.Begins.{begin_keeps}
use Rattle.disk_theory.specs.State.{State}

-- they keep the disk safe
pub all_begin_keep : (s : State) (m : Machine) (cs : List Command) (w : Marks) → IsSafe s w → IsSafe s (all_begun m cs w)
all_begin_keep s m [] w safe = safe
all_begin_keep s m (c ∷ cs) w safe = all_begin_keep s (step m c).next cs (begun m c w) (begin_keeps s m c w safe)
