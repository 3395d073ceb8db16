use Rattle.std.specs.Io.KnownBytes.{Keeps}
use Rattle.cache_io.proofs.stdio.read_again.Given as goal

-- no read that was interrupted took anything
abbrev pub invariant-tries : goal.invariant-tries
invariant-tries g l = Keeps (g.R.Read.remaining l.fn.reader) (g.R.Read.remaining l.reader)
