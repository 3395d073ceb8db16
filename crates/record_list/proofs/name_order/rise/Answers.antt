use Rattle.std.proofs.Common.{rules}
use Rattle.std.specs.Ordering.{is_lt}
use Rattle.std.proofs.lemmas.List.Sorted.{answers_always}
use Rattle.cache_base.specs.Names.{name_cmp}
use Rattle.record_list.proofs.OrderLaws.{records_rise}
use Rattle.record_list.proofs.name_order.rise.Goals as goal

pub returns : goal.returns
returns c = records_rise c.args.records.now c.is_sorted_by.result
    (c.is_sorted_by.ensures.cases (λ a b. is_lt (name_cmp a.name b.name)) (answers_always _ _ _ (λ f a r g h. search rules)))
