-- Contents that are handed over as a list, as an image.
use Rattle.std.specs.Prelude.{◌≡◌, ℕ, ◌<◌, List, [], ◌∷◌, length, slice_index_or, Some, None, if◌then◌else◌}
use Rattle.disk_theory.specs.declared.place.Place.{Place}
use Rattle.disk_theory.specs.Place.{is_same}
use Rattle.disk_theory.specs.State.{State}
use Rattle.disk_theory.specs.Image.{Files, IsImageAfter}

-- places, and the content of each
abbrev pub Given : Type 0
Given = List (Place × List ℕ)

-- the content of the first pair with that place
abbrev pub image_of : Given → Files
image_of [] place = None
image_of (e ∷ es) place = if is_same place e.0 then Some e.1 else image_of es place

-- no place is named twice
abbrev pub ArePlacesApart : Given → Type 0
ArePlacesApart given = (j k : ℕ) (d : Place × List ℕ) → j < k → k < length given → (slice_index_or given j d).0 ≡ (slice_index_or given k d).0 → ⊥

-- a crash may leave just these contents, with the names after so many name steps
abbrev pub MayLeave : State → ℕ → Given → Type 0
MayLeave s names given = ArePlacesApart given × IsImageAfter s names (image_of given)
