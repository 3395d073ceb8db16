-- What an open cache keeps of the index on its disk.
use Rattle.std.specs.Prelude.{Bool, List, None, Option, true, ℕ, ◌≡◌}
use Rattle.disk_theory.specs.State.{State, standing}
use Rattle.disk_theory.specs.declared.place.Place.TheVariants.{Index, Log, Tmp}
use Rattle.index_map.specs.Known.{Known, SameBase}
use Rattle.index_theory.specs.Base.{BaseStands}
use Rattle.index_theory.specs.Leaves.{LeavesIndex}

-- the map, after its records now were written
abbrev pub written_map : Known → Known
written_map map = record map { base = map.records; has_base = true }

-- the base of the map, if it has one, stands
abbrev pub HasBase : Option (List ℕ) → Known → Type 0
HasBase file map = map.has_base ≡ true → (dirty : Bool) × BaseStands file dirty map.base

-- neither a journal nor a half-written index stands; and where the map has a base, the index stands, dirty, and
-- spells it
pub record KeepsIndex (s : State) (map : Known) : Type 0 where
  pub no_log : standing s Log ≡ None
  pub no_tmp : standing s Tmp ≡ None
  pub base : map.has_base ≡ true → BaseStands (standing s Index) true map.base

-- changes that leave the index alone keep it
abbrev pub LeftKeepsIndex : Type 0
LeftKeepsIndex = (s t : State) (map : Known) → LeavesIndex s t → KeepsIndex s map → KeepsIndex t map

-- and so do changes of the records now
abbrev pub SameBaseKeepsIndex : Type 0
SameBaseKeepsIndex = (s : State) (old new : Known) → SameBase old new → KeepsIndex s old → KeepsIndex s new
