use Rattle.std.proofs.Common.{length, ◌-◌, List}
use Rattle.entry_key.specs.Key.{Tag}
use Rattle.entry_key.proofs.Said.{Tells}
use Rattle.entry_key.proofs.Seen.{Seen}
use Rattle.entry_key.proofs.tags.parse.Given as goal

abbrev pub invariant-loop-at : goal.invariant-loop-at
invariant-loop-at l = (tags : List Tag) × Seen l.key l.last l.at tags × Tells l.tags.anonymous l.tags.origin.now l.tags.extra.now tags

abbrev pub decreases-loop-at : goal.decreases-loop-at
decreases-loop-at l = length l.key - l.at
