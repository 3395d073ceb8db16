-- A writing of the whole index where that is due.
use Rattle.std.specs.Prelude.{Bool, false, if◌then◌else◌, nat_le, not, true, ℕ, ◌||◌, ◌≡◌}
use Rattle.cache_base.specs.declared.limits.TheConstants.{CHANGED_MAX}
use Rattle.disk_theory.specs.State.{State}
use Rattle.index_map.specs.Known.{Known, changed}
use Rattle.startup_read.specs.Kept.{KeepsIndex, written_map}
use Rattle.startup_read.specs.Writing.{IsAmidWriting, WritesIndex}

-- there is no base, or so much has changed that the whole index is written
abbrev pub is_due : Known → Bool
is_due map = not map.has_base || nat_le CHANGED_MAX (changed map.base map.records)

-- the map afterwards, by whether the index was written
abbrev pub after_refresh : Known → Known
after_refresh map = if is_due map then written_map map else map

-- the whole index is written where that is due, and else nothing is done
pub record Refreshes (map : Known) (now : ℕ) (s t : State) : Type 0 where
  pub due : is_due map ≡ true → WritesIndex map.records now s t
  pub not_due : is_due map ≡ false → t ≡ s

-- what is kept of the index with the one map before is kept with the other one after
abbrev pub KeepsOver : Known → Known → State → State → Type 0
KeepsOver old new s t = KeepsIndex s old → KeepsIndex t new

-- nothing was done, or where it is due the writing has reached one of its moments
pub record IsAmidRefresh (map : Known) (now : ℕ) (s t : State) : Type 0 where
  pub due : is_due map ≡ true → IsAmidWriting map.records now s t
  pub not_due : is_due map ≡ false → t ≡ s
