use Rattle.std.proofs.Common.{arith}
use Rattle.std.proofs.lemmas.List.Elements.{All-from_recursion}
use Rattle.record_list.specs.Stored.{IsClean}
use Rattle.index_map.proofs.Steps.{applies_more, no_record}
use Rattle.index_map.proofs.map.RecordMap.apply.Goals as goal

pub apply_one-requires : goal.apply_one-requires
apply_one-requires c = All-from_recursion IsClean c.args.changes.now c.requires.clean c.loop-change.change-index no_record (omega arith)

pub loop-change-preserved : goal.loop-change-preserved
loop-change-preserved c =
    applies_more c.args.changes.now c.loop-change.change-index no_record c.args.self.now c.loop-change.self c.apply_one.new.self c.requires.names (omega arith)
    c.loop-change.invariant c.in_ok-apply_one.ensures
