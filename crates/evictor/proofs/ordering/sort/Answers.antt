use Rattle.std.proofs.Common.{◌∙◌, sym, rules}
use Rattle.std.proofs.lemmas.List.Sorted.{answers_always}
use Rattle.evictor.specs.Evict.{in_order}
use Rattle.evictor.proofs.Sorting.{before, before_orders, sorted_in_order, stable_in_order}
use Rattle.evictor.proofs.Stable.{same_from_ties}
use Rattle.evictor.proofs.ordering.sort.Goals as goal

pub returns-clause-ok : goal.returns-clause-ok
returns-clause-ok c =
    let old = c.args.records.now.items in
    let new = c.sort_by.new.self.items in
    same_from_ties before before_orders new (in_order old)
    (c.in_ok-sort_by.ensures.sorted before before_orders (answers_always _ _ _ (λ f a r f' k. search rules)))
    (sorted_in_order old)
    (λ x. c.in_ok-sort_by.ensures.stable before before_orders (answers_always _ _ _ (λ f a r f' k. search rules)) x ∙ sym (stable_in_order x old))
