-- The numbers of doomed entries, and what clearing their folder changes.
use Rattle.std.specs.Prelude.{◌≡◌, ◌≢◌, ◌<◌, ℕ, List, [], ◌∷◌, Contains, None}
use Rattle.disk_theory.specs.declared.place.Place.{Place}
use Rattle.disk_theory.specs.declared.place.Place.TheVariants.{Doomed}
use Rattle.disk_theory.specs.State.{State, standing, removed}

-- the number is not in the list, and every lesser one is
pub record IsLeastFree (numbers : List ℕ) (n : ℕ) : Type 0 where
  pub free : ¬ Contains numbers n
  pub lesser : (k : ℕ) → k < n → Contains numbers k

-- after the doomed files of these numbers were removed, one after the other
abbrev pub removed_each : List ℕ → State → State
removed_each [] s = s
removed_each (n ∷ ns) s = removed_each ns (removed (Doomed n) s)

-- some doomed files were removed, and nothing else was done
abbrev pub RemovesDoomed : State → State → Type 0
RemovesDoomed before now = (numbers : List ℕ) × (now ≡ removed_each numbers before)

-- no doomed file stands, and what stands elsewhere is as before
pub record IsCleared (before now : State) : Type 0 where
  pub none : (n : ℕ) → standing now (Doomed n) ≡ None
  pub others : (place : Place) → ((n : ℕ) → place ≢ Doomed n)
      → standing now place ≡ standing before place
