use Rattle.std.proofs.Common.{List, refl, subst}
use Rattle.cache_theory.specs.Command.Command.{FinishAs}
use Rattle.entry_parts.specs.Elements.{Element}
use Rattle.cache_store.specs.Performing.{AchievesFor}
use Rattle.cache_store.specs.Session.{session}
use Rattle.cache_store.proofs.Records.IndexAchieves.{fails_sparing, spares_same}
use Rattle.cache_store.proofs.Records.LearntAchieves.{finish_as_achieves}
use Rattle.cache_store.proofs.store.Store.finish_as.Goals as goal

pub returns-in_err-elements-clause-does : goal.returns-in_err-elements-clause-does
returns-in_err-elements-clause-does g c = λ told.
    let now = session g.D.Disk c.args.self.now c.args.disk.now in
    fails_sparing (FinishAs c.args.slot c.args.header c.args.elements.now) c.from_residual.result _ now now c.from_residual.ensures.1 (λ apart. spares_same now.disk now.disk refl)

pub returns-clause-does : goal.returns-clause-does
returns-clause-does g c = λ told.
    let before = session g.D.Disk c.args.self.now c.args.disk.now in
    let after = session g.D.Disk (record c.args.self.now { handles = c.finish_as-answer.new.self; index = c.learn_of.new.index }) c.finish_as-answer.new.disk in
    subst (λ (elements : List Element). AchievesFor (FinishAs c.args.slot c.args.header elements) c.learn_of.result before after) c.in_ok-elements.ensures
    (finish_as_achieves c.finish_as-answer.result c.learn_of.result before after refl c.learn_of.ensures.learnt (c.finish_as-answer.ensures.finishes.files.index told) c.args.slot c.args.header c.in_ok-elements.elements
    (c.finish_as-answer.ensures.finishes.carried told) c.finish_as-answer.ensures.finishes.effect)
