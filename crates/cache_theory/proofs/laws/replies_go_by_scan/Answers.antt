use Rattle.std.proofs.Common.{refl}
use Rattle.cache_theory.specs.Checks.{checks}
use Rattle.cache_theory.specs.Step.{effect}
use Rattle.cache_theory.proofs.laws.replies_go_by_scan.Goals as goal

pub returns-clause-verify : goal.returns-clause-verify
unfolding checks effect
returns-clause-verify c = λ m. refl

pub returns-clause-list : goal.returns-clause-list
unfolding checks effect
returns-clause-list c = λ m. refl

pub returns-clause-has : goal.returns-clause-has
unfolding checks effect
returns-clause-has c = λ m key. refl
