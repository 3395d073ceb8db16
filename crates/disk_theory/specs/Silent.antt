-- What a disk that tells nothing has in place of a state.
use Rattle.std.specs.Prelude.{false, [], None, IsTrue}
use Rattle.std.proofs.lemmas.Bool.{false≢true}
use Rattle.disk_theory.specs.State.{State, empty_file}
use Rattle.disk_theory.specs.Sound.{IsSound}
use Rattle.disk_theory.specs.Listing.{IsFinite}

-- a state with no file at all
abbrev pub nothing : State
nothing = record { names = λ _. None; steps = []; files = λ _. empty_file; made = 0 }

-- that it is sound is asked for only where the disk tells, which it never does
pub never : IsTrue false → IsSound nothing
never told = absurd (false≢true told)

-- that it is finite, likewise
pub never_finite : IsTrue false → IsFinite nothing
never_finite told = absurd (false≢true told)
