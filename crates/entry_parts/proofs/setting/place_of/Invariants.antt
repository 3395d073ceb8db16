use Rattle.std.proofs.Common.{length}
use Rattle.entry_parts.proofs.Places.{HasComeTo}
use Rattle.entry_parts.proofs.setting.place_of.Given as goal

abbrev pub invariant-loop-name : goal.invariant-loop-name
invariant-loop-name l = HasComeTo l.name l.b l.rest

abbrev pub decreases-loop-name : goal.decreases-loop-name
decreases-loop-name l = length l.rest
