-- What a caller adds to the write steps of a file.
use Rattle.std.specs.Prelude.{◌≡◌, ◌≢◌, ℕ, ◌<◌, List, ◌++◌, length, Some}
use Rattle.disk_theory.specs.declared.place.Place.{Place}
use Rattle.disk_theory.specs.State.{Write, State, names_now}
use Rattle.disk_theory.specs.Image.{moment}

-- this file alone was written to, and each moment that it got has P
pub record WritesTo (file : ℕ) (P : List ℕ → Type 0) (before now : State) : Type 0 where
  pub names : now.names ≡ before.names
  pub steps : now.steps ≡ before.steps
  pub made : now.made ≡ before.made
  pub others : (other : ℕ) → other ≢ file → now.files other ≡ before.files other
  pub synced : (now.files file).synced ≡ (before.files file).synced
  pub added : List Write
  pub writes : (now.files file).writes ≡ added ++ (before.files file).writes
  pub moments : (left : ℕ) → left < length added → P (moment (now.files file) left)

-- the file that stands at the place alone was written to
abbrev pub WritesAt : Place → (List ℕ → Type 0) → State → State → Type 0
WritesAt place P before now = (file : ℕ) → names_now before place ≡ Some file → WritesTo file P before now
