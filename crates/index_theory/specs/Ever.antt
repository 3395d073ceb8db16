-- What stood at a place after some number of the name steps since the last sync.
use Rattle.std.specs.Prelude.{List, None, Option, Some, [], ℕ, ◌≡◌}
use Rattle.disk_theory.specs.Image.{Files}
use Rattle.disk_theory.specs.Sound.{names_before}
use Rattle.disk_theory.specs.State.{State, standing}
use Rattle.disk_theory.specs.declared.place.Place.{Place}
use Rattle.disk_theory.specs.declared.place.Place.TheVariants.{Entry}

-- the place of the entry of a name
abbrev pub entry_place : List ℕ → Place
entry_place name = Entry (record { 0 = name })

-- what stands under each name
abbrev pub Entries : Type 0
Entries = List ℕ → Option (List ℕ)

-- that of a directory
abbrev pub entries : Files → Entries
entries files name = files (entry_place name)

-- that of a disk now
abbrev pub entries_on : State → Entries
entries_on s = entries (standing s)

-- the file stood there
abbrev pub EverAt : State → Place → ℕ → Type 0
EverAt s place file = (left : ℕ) × (names_before s left place ≡ Some file)

-- no file stood there
abbrev pub EverNone : State → Place → Type 0
EverNone s place = (left : ℕ) × (names_before s left place ≡ None)

-- each file that ever stood there is as it was synced and has P, and so has its absence, where there was none
pub record IsKept (s : State) (place : Place) (P : Option (List ℕ) → Type 0) : Type 0 where
  pub none : EverNone s place → P None
  pub unwritten : (file : ℕ) → EverAt s place file → (s.files file).writes ≡ []
  pub some : (file : ℕ) → EverAt s place file → P (Some (s.files file).synced)
