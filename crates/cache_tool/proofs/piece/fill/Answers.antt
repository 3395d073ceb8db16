use Rattle.std.proofs.Common.{rules, arith}
use Rattle.std.proofs.Math.Seq.{take-add}
use Rattle.std.proofs.KnownBytes.{Consumes-trans}
use Rattle.cache_tool.proofs.piece.fill.Goals as goal

pub reads-preserved : goal.reads-preserved
reads-preserved g c =
    let n = c.in-Ok.n in
    let count = c.reads.count in
    let piece = c.read_after.new.room in
    let front = c.read_after.ensures.front in
    record {
      within = omega (arith, c.in-Ok.ensures.bound);
      same = omega (arith, c.read_after.auto.room);
      bytes = rw (take-add count n piece, front) (Consumes-trans _ _ _ _ _ c.reads.invariant.bytes c.in-Ok.ensures.bytes);
      calm = search rules;
    }
