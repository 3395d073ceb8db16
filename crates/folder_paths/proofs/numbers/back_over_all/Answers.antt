use Rattle.folder_paths.proofs.NumberLaws.{back_end, back_step}
use Rattle.folder_paths.proofs.numbers.back_over_all.Goals as goal

pub folders-preserved : goal.folders-preserved
folders-preserved c =
    let v = c.folders.invariant in
    let step = back_step c.args.folders.now.keys c.folders.folder-iterator c.next.new.self c.in-Some.folder.now c.args.named c.folders.number c.back_over-number.result
    c.in-Some.ensures.steps c.if-folder-named.false c.back_over-number.ensures v.2 (v.3, v.4) in
    (tt, tt, step.0, step.1, step.2)

pub returns-clause-number : goal.returns-clause-number
returns-clause-number c =
    back_end c.args.folders.now.keys c.folders.folder-iterator c.args.named c.folders.number
    c.in-None.ensures.steps.0 c.folders.invariant.2 c.folders.invariant.3 c.into_iter-folder-iterator.ensures.into_iter_gives.4
