-- The commands of a session come one after another.
use Rattle.std.proofs.Common.{◌≡◌, List, [], ◌∷◌, ◌++◌, refl}
use Rattle.cache_theory.specs.Command.{Command}
use Rattle.cache_theory.specs.Machine.{Machine}
use Rattle.cache_theory.specs.Step.{after, step}

pub after-append : (m : Machine) (cs ds : List Command) → after m (cs ++ ds) ≡ after (after m cs) ds
after-append m [] ds = refl
after-append m (c ∷ cs) ds = after-append (step m c).next cs ds
