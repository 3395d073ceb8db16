-- While a cache is open, no crash leaves an index that is trusted.
use Rattle.std.specs.Prelude.{List, Option, Some, [], ℕ, ⊤, ◌≡◌, ◌≢◌}
use Rattle.disk_theory.specs.Image.{Files, IsImage}
use Rattle.disk_theory.specs.Sound.{IsSound}
use Rattle.disk_theory.specs.State.{State, created, names_now, removed, renamed, settled, standing}
use Rattle.disk_theory.specs.Writes.{WritesTo}
use Rattle.disk_theory.specs.declared.place.Place.{Place}
use Rattle.disk_theory.specs.declared.place.Place.TheVariants.{Index}
use Rattle.index_theory.specs.Ever.{EverAt, IsKept}
use Rattle.index_theory.specs.Honest.{Honest, LeavesHonest}
use Rattle.index_theory.specs.IndexKind.{index_kind}
use Rattle.index_theory.specs.declared.kinds.IndexKind.TheVariants.{Clean}
use Rattle.index_theory.specs.Start.{start_of}
use Rattle.index_theory.specs.declared.kinds.Start.TheVariants.{Ready}

-- what stands there is no clean index
abbrev pub IsNotClean : Option (List ℕ) → Type 0
IsNotClean c = index_kind c ≢ Clean

-- every file that ever stood at `index` since the sync is unwritten since then, and is no clean index
abbrev pub IsUnclean : State → Type 0
IsUnclean s = IsKept s Index IsNotClean

-- then the start of no image is Ready
abbrev pub UncleanIsNeverReady : Type 0
UncleanIsNeverReady = (s : State) (image : Files) → IsUnclean s → IsImage s image → start_of image ≢ Ready

-- and so each image is honest
abbrev pub UncleanLeavesHonest : Type 0
UncleanLeavesHonest = (s : State) → IsUnclean s → LeavesHonest s

-- what stands now is honest too
abbrev pub UncleanStandsHonest : Type 0
UncleanStandsHonest = (s : State) → IsUnclean s → Honest (standing s)

-- after a sync it is so where what stands at `index` is not clean
abbrev pub SyncedIsUnclean : Type 0
SyncedIsUnclean = (s : State) → IsNotClean (standing s Index) → IsUnclean (settled s)

-- It stays so at each change that the store makes.

-- a new file at another place
abbrev pub CreateKeepsUnclean : Type 0
CreateKeepsUnclean = (s : State) (place : Place) → place ≢ Index → IsSound s → IsUnclean s → IsUnclean (created place s)

-- a file is removed
abbrev pub RemoveKeepsUnclean : Type 0
RemoveKeepsUnclean = (s : State) (place : Place) → IsUnclean s → IsUnclean (removed place s)

-- writes to a file that never stood at `index`
abbrev pub WriteKeepsUnclean : Type 0
WriteKeepsUnclean = (s t : State) (file : ℕ) → WritesTo file (λ c. ⊤) s t → (EverAt s Index file → ⊥) → IsUnclean s → IsUnclean t

-- a file moves between other places
abbrev pub MoveKeepsUnclean : Type 0
MoveKeepsUnclean = (s : State) (from to : Place) → from ≢ Index → to ≢ Index → IsUnclean s → IsUnclean (renamed from to s)

-- a file takes the place `index` that is unwritten since the sync and is no clean index
abbrev pub PlaceKeepsUnclean : Type 0
PlaceKeepsUnclean = (s : State) (from : Place)
    → ((file : ℕ) → names_now s from ≡ Some file → ((s.files file).writes ≡ []) × IsNotClean (Some (s.files file).synced))
    → IsUnclean s → IsUnclean (renamed from Index s)

-- a sync
abbrev pub SyncKeepsUnclean : Type 0
SyncKeepsUnclean = (s : State) → IsUnclean s → IsUnclean (settled s)
