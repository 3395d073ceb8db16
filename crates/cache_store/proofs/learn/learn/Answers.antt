use Rattle.std.proofs.Common.{subst, sym}
use Rattle.file_handles.specs.declared.fault.Effect.{Effect}
use Rattle.cache_replies.proofs.SaidMore.{of_ok}
use Rattle.cache_store.specs.Records.{LearnsEffect}
use Rattle.cache_store.proofs.Records.OneLearnt.{learns_gone, learns_wrote}
use Rattle.cache_store.proofs.learn.learn.Goals as goal

pub returns-in-Gone : goal.returns-in-Gone
returns-in-Gone c =
    subst (λ (e : Effect). LearnsEffect e c.args.index.now c.remove.new.self) (sym c.in-Gone.is)
    (learns_gone c.in-Gone.name c.args.index.now c.remove.new.self c.remove.ensures)

pub returns-in-Wrote : goal.returns-in-Wrote
returns-in-Wrote c =
    of_ok c.set.result _ _ (λ set. subst (λ (e : Effect). LearnsEffect e c.args.index.now c.set.new.self) (sym c.in-Wrote.is)
    (learns_wrote c.in-Wrote.record c.args.index.now c.set.new.self set)) c.set.ensures
