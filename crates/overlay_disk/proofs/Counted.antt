-- A count that tells of each failure exactly.
use Rattle.std.proofs.Common.{ℕ, arith}
use Rattle.cache_base.specs.Causes.{CountsFailure, HasCause}

pub has_cause : {fails : Type 0} {before now : ℕ} → CountsFailure fails before now → HasCause fails before now
has_cause counts = record { later = counts.later; rose = λ failed. let once = counts.rose failed in omega (arith, once); kept = counts.kept }
