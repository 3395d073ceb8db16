-- What a crash may leave at `clear`, the place of the mark of a clearing.
use Rattle.std.specs.Prelude.{List, None, Option, Some, [], ℕ, ◌≡◌, ◌≢◌, ◌⊎◌}
use Rattle.disk_theory.specs.Image.{Files, IsImage}
use Rattle.disk_theory.specs.Sound.{IsQuiet, IsSound}
use Rattle.disk_theory.specs.State.{State, names_now, removed, renamed, settled, standing}
use Rattle.disk_theory.specs.declared.place.Place.{Place}
use Rattle.disk_theory.specs.declared.place.Place.TheVariants.{Clear}
use Rattle.index_theory.specs.Ever.{EverAt, EverNone}

-- a file that ever stood at `clear` since the sync is unwritten since then, and stands nowhere else now
pub record IsClearApart (s : State) : Type 0 where
  pub unwritten : (file : ℕ) → EverAt s Clear file → (s.files file).writes ≡ []
  pub elsewhere : (p : Place) (file : ℕ) → names_now s p ≡ Some file → EverAt s Clear file → p ≡ Clear

-- a crash may leave this there: nothing, where ever nothing stood there, or a file that ever did
abbrev pub MayBeAtClear : State → Option (List ℕ) → Type 0
MayBeAtClear s None = EverNone s Clear
MayBeAtClear s (Some c) = (file : ℕ) × (EverAt s Clear file × (c ≡ (s.files file).synced))

-- a crash may leave there what it could leave before, or what is new
pub record LeavesAtClear (IsNew : Option (List ℕ) → Type 0) (s t : State) : Type 0 where
  pub apart : IsClearApart t
  pub found : (c : Option (List ℕ)) → MayBeAtClear t c → MayBeAtClear s c ⊎ IsNew c

-- and nothing is new
abbrev pub KeepsClear : State → State → Type 0
KeepsClear s t = LeavesAtClear (λ c. ⊥) s t

-- each image has there what a crash may leave
abbrev pub ImageMayBeAtClear : Type 0
ImageMayBeAtClear = (s : State) (image : Files) → IsClearApart s → IsImage s image → MayBeAtClear s (image Clear)

-- with nothing pending it is what stands
abbrev pub QuietIsClearApart : Type 0
QuietIsClearApart = (s : State) → IsQuiet s → IsSound s → IsClearApart s

abbrev pub QuietIsAtClear : Type 0
QuietIsAtClear = (s : State) (c : Option (List ℕ)) → IsQuiet s → MayBeAtClear s c → c ≡ standing s Clear

-- What the store does to it.

-- a sync adds nothing
abbrev pub SyncKeepsClear : Type 0
SyncKeepsClear = (s : State) → IsClearApart s → KeepsClear s (settled s)

-- a removal may leave nothing there
abbrev pub RemoveAtClear : Type 0
RemoveAtClear = (s : State) → IsClearApart s → LeavesAtClear (λ c. c ≡ None) s (removed Clear s)

-- and so may a renaming of a file that is unwritten since the sync leave that file
abbrev pub RenameToClear : Type 0
RenameToClear = (s : State) (from : Place) → IsSound s → from ≢ Clear
    → ((file : ℕ) → names_now s from ≡ Some file → (s.files file).writes ≡ [])
    → IsClearApart s → LeavesAtClear (λ c. c ≡ standing s from) s (renamed from Clear s)
