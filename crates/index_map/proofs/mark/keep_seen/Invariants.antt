use Rattle.std.proofs.Common.{◌≡◌, ◌++◌, drop, length, take}
use Rattle.std.specs.Prelude.{map}
use Rattle.index_map.specs.Slots.{seen_mark}
use Rattle.index_map.proofs.mark.keep_seen.Given as goal

abbrev pub invariant-loop-i : goal.invariant-loop-i
invariant-loop-i l = (l.marks.items ≡ map seen_mark (take l.i l.initial.marks.items) ++ drop l.i l.initial.marks.items) × (length l.marks.items ≡ length l.initial.marks.items)
