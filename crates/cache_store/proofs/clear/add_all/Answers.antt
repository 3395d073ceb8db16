use Rattle.std.proofs.Common.{cond, true, [], ap, get_or, refl, ◌∙◌}
use Rattle.std.specs.BTreeSet.{contains}
use Rattle.std.specs.Ordering.{is_eq}
use Rattle.cache_base.specs.Names.{name_cmp}
use Rattle.cache_base.specs.declared.name.Name.{Name}
use Rattle.cache_store.proofs.Clearing.JoinedNames.{one_more}
use Rattle.cache_store.proofs.clear.add_all.Goals as goal

pub loop-name-preserved : goal.loop-name-preserved
loop-name-preserved c = λ q.
    let names = c.args.names.now in
    let i = c.loop-name.name-index in
    let d : Name = record { 0 = [] } in
    let n : Name = get_or names i d in
    c.in_ok-insert.ensures.updates.0 q
    ∙ ap (λ b. cond (is_eq (name_cmp n q)) true b) (c.loop-name.invariant q)
    ∙ one_more names i d n q (contains name_cmp c.args.set.now q) c.loop-name-test.true refl
