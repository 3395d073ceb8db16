-- How what stands now differs from what stood before.
use Rattle.std.specs.Prelude.{◌≡◌, ◌≢◌, ℕ, List, Option, None}
use Rattle.disk_theory.specs.declared.place.Place.{Place}
use Rattle.disk_theory.specs.State.{State, standing}

-- the content stands at the place, or no file where it is none, and what stands elsewhere is as before
pub record PutsContent (place : Place) (content : Option (List ℕ)) (before now : State)
    : Type 0 where
  pub here : standing now place ≡ content
  pub others : (other : Place) → other ≢ place → standing now other ≡ standing before other

-- what stands is as before
abbrev pub SameStanding : State → State → Type 0
SameStanding before now = (place : Place) → standing now place ≡ standing before place

-- the file of the first place stands at the second, and what stands elsewhere is as before
pub record Moves (from to : Place) (before now : State) : Type 0 where
  pub moved : standing now to ≡ standing before from
  pub gone : standing now from ≡ None
  pub others : (other : Place) → other ≢ from → other ≢ to
      → standing now other ≡ standing before other
