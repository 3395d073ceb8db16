-- Lists of the files that stand in the folders `entries` and `doomed`.
use Rattle.std.specs.Prelude.{ℕ, ◌↔◌, ◌≡◌, List, Contains, IsSome, Some}
use Rattle.std.specs.List.Sorted.{IsStrictlySortedBy}
use Rattle.std.specs.Ordering.{nat_cmp}
use Rattle.cache_base.specs.Bytes.{AreBytes}
use Rattle.cache_base.specs.Names.{AreSorted}
use Rattle.cache_base.specs.declared.name.Name.{Name}
use Rattle.disk_theory.specs.declared.place.Place.TheVariants.{Entry, Doomed}
use Rattle.disk_theory.specs.State.{State, standing}

-- these are the names of all entry files that stand
abbrev pub AreEntries : State → List Name → Type 0
AreEntries s names = (name : Name) → Contains names name ↔ IsSome (standing s (Entry name))

-- these are the numbers of all files that stand in `doomed`
abbrev pub AreDoomed : State → List ℕ → Type 0
AreDoomed s numbers = (number : ℕ) → Contains numbers number ↔ IsSome (standing s (Doomed number))

-- the numbers rise
abbrev pub AreSortedNumbers : List ℕ → Type 0
AreSortedNumbers numbers = IsStrictlySortedBy nat_cmp numbers

-- entry files stand under finitely many names, and hold bytes
pub record IsFinite (s : State) : Type 0 where
  pub names : List Name
  pub rising : AreSorted names
  pub entries : AreEntries s names
  pub bytes : (name : Name) (c : List ℕ) → standing s (Entry name) ≡ Some c → AreBytes c
