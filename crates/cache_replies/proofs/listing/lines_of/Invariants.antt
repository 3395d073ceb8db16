use Rattle.std.proofs.Common.{◌≡◌, ◌++◌, drop}
use Rattle.cache_replies.specs.Texts.{lines}
use Rattle.cache_replies.proofs.listing.lines_of.Given as goal

-- the lines so far, and those of the other items, are all
abbrev pub invariant-loop-item : goal.invariant-loop-item
invariant-loop-item g l = record {
  whole : l.text ++ lines g.T.Listed.words (drop l.item-index l.items) ≡ lines g.T.Listed.words l.items;
}
