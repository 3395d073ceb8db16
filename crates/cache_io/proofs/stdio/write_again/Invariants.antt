use Rattle.std.specs.Io.KnownBytes.{Keeps}
use Rattle.cache_io.proofs.stdio.write_again.Given as goal

-- no write that was interrupted took anything
abbrev pub invariant-tries : goal.invariant-tries
invariant-tries g l = Keeps (g.W.Write.contents l.fn.writer) (g.W.Write.contents l.writer)
