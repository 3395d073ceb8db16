-- A mark is stored and removed: the changes in their order, and what a crash leaves at `clear`.
use Rattle.std.specs.Prelude.{ℕ, ◌≡◌, ◌⊎◌, List, Some, None}
use Rattle.disk_theory.specs.Image.{Files, IsImage}
use Rattle.disk_theory.specs.Standing.{PutsContent}
use Rattle.disk_theory.specs.State.{State, created, removed, renamed, settled, wrote}
use Rattle.disk_theory.specs.State.Write.{End}
use Rattle.disk_theory.specs.declared.place.Place.TheVariants.{Clear, Doomed}
use Rattle.context_clear.specs.Mark.{mark_bytes}

-- how far the storing of a mark has come
pub data StoringMoment : Type 0 where
  Unstored : StoringMoment
  Begun : StoringMoment
  Filled : StoringMoment
  Synced : StoringMoment
  Placed : StoringMoment

-- a new file is made under the number, gets these bytes, is synced, and takes the place `clear`
abbrev pub storing_at : StoringMoment → ℕ → List ℕ → State → State
storing_at Unstored number bytes s = s
storing_at Begun number bytes s = created (Doomed number) s
storing_at Filled number bytes s = wrote (Doomed number) (End 0 bytes) (created (Doomed number) s)
storing_at Synced number bytes s = settled (wrote (Doomed number) (End 0 bytes) (created (Doomed number) s))
storing_at Placed number bytes s = renamed (Doomed number) Clear (settled (wrote (Doomed number) (End 0 bytes) (created (Doomed number) s)))

-- the second state is what the storing of these bytes leaves at one of these moments
abbrev pub IsAmidStoring : ℕ → List ℕ → State → State → Type 0
IsAmidStoring number bytes s t = (moment : StoringMoment) × (t ≡ storing_at moment number bytes s)

-- the second state is what it leaves at the end
abbrev pub StoresMark : ℕ → List ℕ → State → State → Type 0
StoresMark number bytes s t = t ≡ storing_at Placed number bytes s

-- the mark of the origin stands at `clear`, and what stands elsewhere is as before
abbrev pub PutsMark : ℕ → State → State → Type 0
PutsMark origin s t = PutsContent Clear (Some (mark_bytes origin)) s t

-- what a crash leaves at `clear` is the whole mark of the origin, or what a crash could leave there before
abbrev pub LeavesWholeMark : ℕ → State → State → Type 0
LeavesWholeMark origin s t = (image : Files) → IsImage t image
    → (image Clear ≡ Some (mark_bytes origin)) ⊎ ((before : Files) × (IsImage s before × (before Clear ≡ image Clear)))

-- the file at `clear` is removed, and this is synced with all changes before it
abbrev pub RemovesFile : State → State → Type 0
RemovesFile s t = t ≡ settled (removed Clear s)

-- nothing was done, the file was removed, or that was synced
abbrev pub IsAmidEnding : State → State → Type 0
IsAmidEnding s t = (t ≡ s) ⊎ ((t ≡ removed Clear s) ⊎ RemovesFile s t)

-- a crash leaves no file at `clear`
abbrev pub LeavesNoFile : State → State → Type 0
LeavesNoFile s t = (image : Files) → IsImage t image → image Clear ≡ None
