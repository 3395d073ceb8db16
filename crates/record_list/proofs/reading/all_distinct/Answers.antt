use Rattle.std.proofs.Common.{subst}
use Rattle.std.specs.Prelude.{IsTrue, ◌↔◌}
use Rattle.record_list.specs.Lists.{AreSorted}
use Rattle.record_list.proofs.OrderLaws.{distinct_answer}
use Rattle.record_list.proofs.reading.all_distinct.Goals as goal

pub returns : goal.returns
returns c =
    distinct_answer c.args.list.now.items c.sort.new.records.items c.rise.result c.sort.ensures.moved c.sort.ensures.by_name
    (subst (λ rs. IsTrue c.rise.result ↔ AreSorted rs) c.as_slice.ensures.value c.rise.ensures)
