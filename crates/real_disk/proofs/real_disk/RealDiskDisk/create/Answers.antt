use Rattle.std.proofs.Common.{subst, sym}
use Rattle.real_disk.proofs.AnswerLaws.{on_answer}
use Rattle.real_disk.specs.Changes.{KeepsMade}
use Rattle.pending_syncs.specs.Kept.{ClosesElsewhere, IsSettled}
use Rattle.real_disk.proofs.real_disk.RealDiskDisk.create.Goals as goal

pub returns-clause-made : goal.returns-clause-made
returns-clause-made g c =
    on_answer (λ folder. KeepsMade g.R.Machine c.args.self.now.folder.tree c.args.place.now folder.kept) c.answer.result c.create-outcome.result
    c.answer.new.self c.create-outcome.new.self c.answer.ensures.value c.answer.ensures.folder c.create-outcome.ensures.made

pub returns-clause-others : goal.returns-clause-others
returns-clause-others g c =
    subst (λ folder. ClosesElsewhere (IsSettled g.R.Machine c.args.self.now.folder.tree.rt.now) c.args.place.now c.args.self.now.folder.kept folder.kept)
    (sym c.answer.ensures.folder) c.create-outcome.ensures.elsewhere
