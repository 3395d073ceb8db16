use Rattle.std.proofs.Common.{length, ◌-◌, ◌≡◌, ◌≤◌, take}
use Rattle.std.specs.Io.KnownBytes.{Consumes}
use Rattle.cache_tool.proofs.piece.fill.Given as goal

-- the beginning of the piece is what came from the source, and no read failed
abbrev pub invariant-reads : goal.invariant-reads
invariant-reads g l = record {
  within : l.count ≤ length l.piece;
  same : length l.piece ≡ length l.initial.piece;
  bytes : Consumes (g.S.Source.left l.fn.source) (g.S.Source.left l.source) (take l.count l.piece);
  calm : g.S.Source.faults l.source ≡ g.S.Source.faults l.fn.source;
}

abbrev pub decreases-reads : goal.decreases-reads
decreases-reads g l = length l.piece - l.count
