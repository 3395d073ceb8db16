-- How an object loses its name.
use Rattle.std.specs.List.{AllByRecursion}
use Rattle.std.specs.Prelude.{Bool, IfOk, IsSome, List, None, Ok, Option, Result, Some, [], true, ℕ, ⊤, ◌++◌, ◌<◌, ◌∷◌, ◌≡◌, ◌⊎◌}
use Rattle.cache_base.specs.Checks.{first_failing}
use Rattle.cache_base.specs.declared.limits.TheConstants.{SLOTS}
use Rattle.cache_theory.specs.Checks.{checks}
use Rattle.cache_theory.specs.Command.{Command}
use Rattle.cache_theory.specs.History.{History}
use Rattle.cache_theory.specs.Machine.{Machine}
use Rattle.cache_theory.specs.Marks.{is_touched}
use Rattle.cache_theory.specs.Step.{doomed_under}
use Rattle.cache_theory.specs.declared.refusal.Refusal.{Refusal}
use Rattle.cache_base.specs.declared.name.Name.{Name}
use Rattle.disk_theory.specs.Calls.{if_done}
use Rattle.disk_theory.specs.State.{State, renamed, standing}
use Rattle.disk_theory.specs.declared.disk.DiskFault.{DiskFault}
use Rattle.disk_theory.specs.declared.place.NameStep.{NameStep}
use Rattle.disk_theory.specs.declared.place.NameStep.TheVariants.{Remove, Rename}
use Rattle.disk_theory.specs.declared.place.Place.TheVariants.{Clear, Doomed, Entry}
use Rattle.doom_area.specs.DoomArea.{IsLeastFree}
use Rattle.entry_name.specs.EntryName.{file_name}
use Rattle.handle_table.specs.Aside.{number_in}
use Rattle.file_handles.specs.Cache.{Cache}
use Rattle.handle_table.specs.Kept.{Kept, object_at}
use Rattle.handle_table.specs.Finding.{used_place, user_place}
use Rattle.file_handles.specs.Stands.{KeepsWhere, ReachesHistory, Represents}

-- what stands under a name is doomed, whatever the history in whose marks the name is touched
pub record DoomsUnder {T E : Type 0} (name : List ℕ) (answer : Result T E) (before after : Cache)
    : Type 0 where
  pub leaves : (crash : Bool) (h : History) → is_touched h.marks name ≡ true
      → KeepsWhere crash before h
      → ReachesHistory crash (record h { machine = doomed_under h.machine name }) answer after

-- the checks of a command end so, whatever machine is represented
abbrev pub EndsOn : Cache → Command → Option Refusal → Type 0
EndsOn now c end = (m : Machine) → Represents now m → first_failing (checks m c) ≡ end

-- every lesser number has a file among the doomed
abbrev pub IsFirstFree : State → ℕ → Type 0
IsFirstFree s number = (lesser : ℕ) → lesser < number → IsSome (standing s (Doomed lesser))

-- a file that is new among the doomed has a number below which none is free, and one below 64
abbrev pub TakesFirstFree : State → State → Type 0
TakesFirstFree s t = (number : ℕ) → standing s (Doomed number) ≡ None
    → IsSome (standing t (Doomed number)) → IsFirstFree t number × (number < SLOTS)

-- a file stands aside: under the number that it has, or else it moves to the least number that is not in use
pub record SetsAside (name : Name) (aside : Option ℕ) (in_use : List ℕ)
    (answer : Result ℕ DiskFault) (s t : State)
    : Type 0 where
  pub stays : (number : ℕ) → aside ≡ Some number → (answer ≡ Ok number) × (t ≡ s)
  pub number : aside ≡ None → IfOk answer (IsLeastFree in_use)
  pub moves : aside ≡ None → (number : ℕ) → IsLeastFree in_use number
      → t ≡ if_done answer (renamed (Entry name) (Doomed number) s) s

-- the undoomed entry of a name is in use at this place, and its file stands aside under this number: it is not finished
pub record IsUnfinishedAt (k : Kept) (name : Name) (place number : ℕ) : Type 0 where
  pub user : user_place k name ≡ Some place
  pub aside : number_in (object_at k place) ≡ Some number

-- the entry of a key, likewise
pub record IsUnfinishedFor (k : Kept) (key : List ℕ) (place number : ℕ) : Type 0 where
  pub used : used_place k (record { 0 = file_name key }) key ≡ Some place
  pub aside : number_in (object_at k place) ≡ Some number

-- what stands at `clear` is unchanged
abbrev pub LeavesMark : State → State → Type 0
LeavesMark s t = standing t Clear ≡ standing s Clear

-- the step takes the file of an entry away: it is removed, or it moves among the doomed
abbrev pub IsTaking : NameStep → Type 0
IsTaking (Remove (Entry name)) = ⊤
IsTaking (Rename (Entry name) (Doomed number)) = ⊤
IsTaking _ = ⊥

-- and that of the entry of this name
abbrev pub IsTakingOf : Name → NameStep → Type 0
IsTakingOf name (Remove from) = from ≡ Entry name
IsTakingOf name (Rename from (Doomed number)) = from ≡ Entry name
IsTakingOf name _ = ⊥

-- one such step was made at most, and nothing else was done
abbrev pub TakesEntry : Name → State → State → Type 0
TakesEntry name s t =
    (t ≡ s) ⊎ ((step : NameStep) × (IsTakingOf name step × (t ≡ record s { steps = step ∷ s.steps })))

-- so for each of these names, one after the other from the first on
abbrev pub TakesInOrder : List Name → State → State → Type 0
TakesInOrder [] s t = t ≡ s
TakesInOrder (name ∷ rest) s t = (u : State) × (TakesEntry name s u × TakesInOrder rest u t)

-- such steps were made, and nothing else was done: no file was written, and nothing synced
pub record TakesEntries (s t : State) : Type 0 where
  pub taken : List NameStep
  pub taking : AllByRecursion IsTaking taken
  pub state : t ≡ record s { steps = taken ++ s.steps }
