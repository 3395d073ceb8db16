-- How a new file is made, and one that stood under the name is removed.
use Rattle.std.specs.Prelude.{OnErr, OnOk, None, Result, ◌≡◌, ◌⊎◌}
use Rattle.disk_theory.specs.State.{State, created, removed, standing}
use Rattle.disk_theory.specs.declared.place.Place.{Place}
use Rattle.file_handles.specs.declared.fault.HandleFault.{HandleFault}

-- after an Ok the file is made, and otherwise it may be
pub record MayHaveMade {T : Type 0} (place : Place) (answer : Result T HandleFault) (s t : State)
    : Type 0 where
  pub made : OnOk answer (t ≡ created place s)
  pub either : OnErr answer ((t ≡ created place s) ⊎ (t ≡ s))

-- the place is left without a file: after an Ok it is removed, or there was none, and otherwise it may be removed
pub record MayHaveRemoved {T : Type 0} (place : Place) (answer : Result T HandleFault) (s t : State)
    : Type 0 where
  pub done : OnOk answer ((t ≡ removed place s) ⊎ ((t ≡ s) × (standing s place ≡ None)))
  pub either : OnErr answer ((t ≡ removed place s) ⊎ (t ≡ s))
