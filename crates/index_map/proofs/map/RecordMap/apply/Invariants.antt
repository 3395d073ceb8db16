use Rattle.std.proofs.Common.{take}
use Rattle.index_map.specs.Known.{Applies}
use Rattle.index_map.proofs.map.RecordMap.apply.Given as goal

abbrev pub invariant-loop-change : goal.invariant-loop-change
invariant-loop-change l = Applies (take l.change-index l.changes) l.initial.self l.self
