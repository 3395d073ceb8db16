-- What holds of every disk that tells.
use Rattle.std.specs.Prelude.{◌≡◌, ℕ, ◌+◌, ◌≤◌, ◌<◌, suc, List, [], length, drop, slice_get, Some}
use Rattle.disk_theory.specs.declared.place.Place.{Place}
use Rattle.disk_theory.specs.State.{Write, State, Names, content_after, names_after}
use Rattle.disk_theory.specs.State.Write.{End, Patch}

-- the names before the newest `left` name steps
abbrev pub names_before : State → ℕ → Names
names_before s left = names_after s.names (drop left s.steps)

-- so long a file is at the least when the write comes
abbrev pub room : Write → ℕ
room (End from bytes) = from
room (Patch from bytes) = from + length bytes

-- each write lies within the file as it was then
abbrev pub AreInside : List ℕ → List Write → Type 0
AreInside synced writes = (left : ℕ) (write : Write) → slice_get writes left ≡ Some write → room write ≤ length (content_after synced (drop (suc left) writes))

-- After any prefix of the name steps no file stands at two places, and each file that stands was made. Each write
-- lies within its file.
pub record IsSound (s : State) : Type 0 where
  pub one_place : (left : ℕ) (p q : Place) (file : ℕ) → names_before s left p ≡ Some file
      → names_before s left q ≡ Some file → p ≡ q
  pub made : (left : ℕ) (p : Place) (file : ℕ) → names_before s left p ≡ Some file → file < s.made
  pub inside : (file : ℕ) → AreInside (s.files file).synced (s.files file).writes

-- nothing is pending
pub record IsQuiet (s : State) : Type 0 where
  pub steps : s.steps ≡ []
  pub writes : (file : ℕ) → (s.files file).writes ≡ []
