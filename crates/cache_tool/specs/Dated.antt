-- Which moment the index has that a run leaves.
use Rattle.std.specs.Prelude.{List, Some, [], ℕ, ◌++◌, ◌∷◌, ◌≡◌, ◌⊎◌}
use Rattle.cache_base.specs.Bytes.{be32}
use Rattle.cache_store.specs.InUse.{IsSameIndex, before_flag}
use Rattle.cache_theory.specs.Command.{Command}
use Rattle.cache_theory.specs.Command.Command.{Flush, Rebuild}
use Rattle.cache_theory.specs.Machine.{Machine}
use Rattle.cache_theory.specs.Step.{after, step}
use Rattle.disk_theory.specs.State.{State, standing}
use Rattle.disk_theory.specs.declared.place.Place.TheVariants.{Index}
use Rattle.index_file.specs.declared.TheConstants.{VERSION}

-- the index has this moment
abbrev pub HasMoment : ℕ → State → Type 0
HasMoment moment t = before_flag (standing t Index) ≡ Some (be32 VERSION ++ be32 moment)

-- it is the same, or it was written at this moment, where that may be
abbrev pub MayBeWritten : (may : Type 0) → ℕ → State → State → Type 0
MayBeWritten may moment s t = IsSameIndex s t ⊎ (may × HasMoment moment t)

-- after a command at this moment: a `rebuild` writes it, a `flush` may once the update has ended, and no other does
abbrev pub IsWrittenBy : Command → (has_ended : Type 0) → ℕ → State → State → Type 0
IsWrittenBy Flush has_ended moment s t = MayBeWritten has_ended moment s t
IsWrittenBy Rebuild has_ended moment s t = HasMoment moment t
IsWrittenBy _ has_ended moment s t = IsSameIndex s t

-- after these, one by one, each at the moment of the machine before it
abbrev pub AreDatedBy : Machine → List Command → State → State → Type 0
AreDatedBy m [] s t = IsSameIndex s t
AreDatedBy m (c ∷ cs) s t = (mid : State)
    × (IsWrittenBy c (m.rest ≡ []) m.moment s mid × AreDatedBy (step m c).next cs mid t)

-- and after a closing, which may write it once the update has ended
abbrev pub IsDatedIn : Machine → List Command → State → State → Type 0
IsDatedIn m cs s t = (last : State) × (AreDatedBy m cs s last
    × MayBeWritten ((after m cs).rest ≡ []) (after m cs).moment last t)
