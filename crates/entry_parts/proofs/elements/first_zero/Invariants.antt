use Rattle.std.proofs.Common.{◌≡◌, ◌≤◌, ℕ, List, ◌++◌, ◌∷◌, length, ◌-◌}
use Rattle.entry_parts.specs.Elements.{HasNoZero}
use Rattle.entry_parts.proofs.elements.first_zero.Given as goal

abbrev pub invariant-loop-end : goal.invariant-loop-end
invariant-loop-end l = (field rest : List ℕ) → HasNoZero field → l.b ≡ field ++ 0 ∷ rest → l.end ≤ length field

abbrev pub decreases-loop-end : goal.decreases-loop-end
decreases-loop-end l = length l.b - l.end
