use Rattle.std.proofs.Common.{subst}
use Rattle.index_map.specs.Known.{Applies}
use Rattle.index_map.proofs.Sorted.{begins_after}
use Rattle.index_map.proofs.map.RecordMap.with_journal.Goals as goal

pub returns : goal.returns
returns c =
    begins_after c.args.base c.args.changes.now c.in_ok-map.map c.apply.new.self c.in_ok-map.ensures
    (subst (λ l. Applies l c.in_ok-map.map c.apply.new.self) c.as_slice.ensures c.in_ok-apply.ensures)
