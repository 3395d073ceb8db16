use Rattle.std.proofs.Common.{subst, sym}
use Rattle.record_list.specs.Lists.{AreSorted}
use Rattle.index_map.proofs.name_order.places_for.Goals as goal

pub returns-clause-new : goal.returns-clause-new
returns-clause-new c = record {
  records = c.as_slice-3.result.now;
  rising = subst AreSorted (sym c.as_slice-3.ensures) c.in_order-sorted.ensures.rising;
  made = c.in_ok-empty_places.ensures;
}
