use Rattle.std.proofs.Common.{◌≡◌, ◌-◌, length}
use Rattle.cache_export.specs.Front.{front_at}
use Rattle.cache_io.specs.Window.{items, most_of, Grew}
use Rattle.cache_export.specs.declared.front.Front.TheVariants.{More}
use Rattle.cache_export.specs.declared.limits.TheConstants.{HELD_MAX}
use Rattle.cache_export.proofs.reading.read_next.Given as goal

-- the window has what was read so far, and nothing has failed
abbrev pub invariant-reads : goal.invariant-reads
invariant-reads g l =
    Grew (items l.fn.window) (items l.window) (g.S.Source.left l.fn.source) (g.S.Source.left l.source)
    × ((g.S.Source.faults l.source ≡ g.S.Source.faults l.fn.source)
    × ((most_of l.window ≡ most_of l.fn.window) × (¬ (front_at l.fn.due l.fn.left l.fn.used (items l.fn.window) ≡ More) → l.source ≡ l.fn.source)))

abbrev pub decreases-reads : goal.decreases-reads
decreases-reads g l = HELD_MAX - length (items l.window)
