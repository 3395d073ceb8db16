use Rattle.std.proofs.Common.{length, List, ℕ, ◌≡◌, ◌≤◌}
use Rattle.entry_key.specs.Key.{doubled}
use Rattle.entry_key.proofs.Runs.{Hashing}
use Rattle.entry_key.proofs.origin.sha1_of_spelled.Given as goal

abbrev pub invariant-loop-comma : goal.invariant-loop-comma
invariant-loop-comma l = record {
  short : length l.rest ≤ length l.fn.spelled;
  hashing : (value : List ℕ) → l.fn.spelled ≡ doubled value → Hashing l.hasher l.rest value;
}

abbrev pub decreases-loop-comma : goal.decreases-loop-comma
decreases-loop-comma l = length l.rest
