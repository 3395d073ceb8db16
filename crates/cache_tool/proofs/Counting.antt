-- How often a count was raised.
use Rattle.std.proofs.Common.{ℕ, suc, ◌≡◌, ◌∙◌, ap, arith}
use Rattle.cache_base.specs.Causes.{CountsFailure, Rose, RoseOnce, one_more, raised_by}

pub rose_once : (before now : ℕ) → RoseOnce before now → Rose before now
rose_once before now once = omega (arith, once)

-- once more
pub raised_more : (times before mid now : ℕ) → RoseOnce mid now → mid ≡ raised_by times before → now ≡ raised_by (suc times) before
raised_more times before mid now more first = more ∙ ap one_more first

-- neither failed
pub calm_cause : {P Q : Type 0} {before now : ℕ} → ¬ P → ¬ Q → CountsFailure P before now → CountsFailure Q before now
calm_cause no_first no_second cause = record { later = cause.later; rose = λ second. absurd (no_second second); kept = λ other. cause.kept no_first }
