use Rattle.std.proofs.Common.{OnOk, subst, ◌∙◌}
use Rattle.real_disk.proofs.tree.Tree.rename.Goals as goal

pub returns-in_ok-make_area-in-Err-clause-moved : goal.returns-in_ok-make_area-in-Err-clause-moved
returns-in_ok-make_area-in-Err-clause-moved g c =
    subst (λ rt. OnOk c.rename_once-in-Err.result (g.R.Machine.moved rt.now c.args.from.now c.args.to.now)) (c.make_area.ensures.root.rt ∙ c.rename_once.ensures.root.rt) c.rename_once-in-Err.ensures.moved
