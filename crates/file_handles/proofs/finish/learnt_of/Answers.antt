use Rattle.std.proofs.Common.{sym, subst}
use Rattle.index_theory.proofs.PlainLaws.{filled_is_plain}
use Rattle.file_handles.specs.Effects.{IsPlainEffect}
use Rattle.file_handles.specs.declared.fault.Effect.TheVariants.{Wrote}
use Rattle.file_handles.proofs.finish.learnt_of.Goals as goal

pub returns-in-Finished-clause-plain : goal.returns-in-Finished-clause-plain
returns-in-Finished-clause-plain c = subst (λ r. IsPlainEffect (Wrote r)) (sym c.of_meta.ensures) (filled_is_plain _ _ _)
