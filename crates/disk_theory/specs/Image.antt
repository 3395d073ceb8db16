-- What a crash may leave.
use Rattle.std.specs.Prelude.{◌≡◌, ◌⊎◌, ℕ, ◌+◌, ◌-◌, ◌≤◌, ◌<◌, List, [], ◌∷◌, length, drop, min, max, slice_index, Option, Some, None}
use Rattle.disk_theory.specs.declared.place.Place.{Place}
use Rattle.disk_theory.specs.State.{Write, File, State, content_after}
use Rattle.disk_theory.specs.State.Write.{End, Patch}
use Rattle.disk_theory.specs.Sound.{names_before}

-- the contents at the places
abbrev pub Files : Type 0
Files = Place → Option (List ℕ)

-- a write reaches a position: its own, and, where the file then ends after it, all after
abbrev pub Reaches : ℕ → Write → Type 0
Reaches i (End from bytes) = from ≤ i
Reaches i (Patch from bytes) = (from ≤ i) × (i < from + length bytes)

-- one of these writes reaches the position
abbrev pub IsReached : ℕ → List Write → Type 0
IsReached i [] = ⊥
IsReached i (write ∷ earlier) = Reaches i write ⊎ IsReached i earlier

-- what the file held before its newest `left` writes
abbrev pub moment : File → ℕ → List ℕ
moment file left = content_after file.synced (drop left file.writes)

-- the least length of its moments
abbrev pub shortest : List ℕ → List Write → ℕ
shortest synced [] = length synced
shortest synced (write ∷ earlier) = min (length (content_after synced (write ∷ earlier))) (shortest synced earlier)

-- the greatest length of its moments
abbrev pub longest : List ℕ → List Write → ℕ
longest synced [] = length synced
longest synced (write ∷ earlier) = max (length (content_after synced (write ∷ earlier))) (longest synced earlier)

-- A crash may leave the file with this content: it is no shorter than the shortest moment and no longer than the
-- longest, and where no write reached it is as it was synced.
pub record MayHold (file : File) (c : List ℕ) : Type 0 where
  pub no_shorter : shortest file.synced file.writes ≤ length c
  pub no_longer : length c ≤ longest file.synced file.writes
  pub kept : (i : ℕ) → i < length c
      → IsReached i file.writes ⊎ (slice_index c i ≡ slice_index file.synced i)

-- a crash may leave this at a place where that file stands, or none
abbrev pub MayStand : (ℕ → File) → Option ℕ → Option (List ℕ) → Type 0
MayStand files None None = Unit {0}
MayStand files (Some file) (Some c) = MayHold (files file) c
MayStand files None (Some c) = ⊥
MayStand files (Some file) None = ⊥

-- a crash may leave these contents, with the names before the newest `left` name steps
abbrev pub IsImageAt : State → ℕ → Files → Type 0
IsImageAt s left image = (place : Place) → MayStand s.files (names_before s left place) (image place)

-- with the names after so many name steps
abbrev pub IsImageAfter : State → ℕ → Files → Type 0
IsImageAfter s names image = (names ≤ length s.steps) × IsImageAt s (length s.steps - names) image

-- a crash may leave these contents
abbrev pub IsImage : State → Files → Type 0
IsImage s image = (names : ℕ) × IsImageAfter s names image
