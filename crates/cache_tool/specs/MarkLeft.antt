-- What a run may leave at `clear`, the place of the mark of a clearing.
use Rattle.std.specs.Prelude.{List, None, Option, Some, [], ℕ, ⊤, ◌∷◌, ◌≡◌, ◌⊎◌}
use Rattle.cache_store.specs.AtClear.{ChangesAtClear, IsNewAfter, IsOfClearing, KeepsAtClear}
use Rattle.cache_theory.specs.Command.{Command}
use Rattle.cache_tool.specs.Words.{Asked}
use Rattle.context_clear.specs.Mark.{mark_of}
use Rattle.disk_theory.specs.Image.{Files, IsImage}
use Rattle.disk_theory.specs.Sound.{IsQuiet}
use Rattle.disk_theory.specs.State.{State, standing}
use Rattle.disk_theory.specs.declared.place.Place.TheVariants.{Clear}
use Rattle.index_theory.specs.AtClear.{IsClearApart, LeavesAtClear}

-- one of these commands clears an origin, and this may be left of it: no file, or the mark of the origin
abbrev pub IsLeftByOne : List Command → Option (List ℕ) → Type 0
IsLeftByOne [] file = ⊥
IsLeftByOne (c ∷ cs) file = IsNewAfter c None file ⊎ IsLeftByOne cs file

-- the same of a whole run, where this stood at the call: if that was the mark of an origin, its clearing was resumed
abbrev pub IsLeftInRun : Option (List ℕ) → List Command → Option (List ℕ) → Type 0
IsLeftInRun stood cs file = IsOfClearing (mark_of stood) file ⊎ IsLeftByOne cs file

-- With nothing pending at the call, a crash leaves there what stood, no file, or the mark of an origin: one whose
-- clearing was resumed, or one that these commands clear, which have begun.
abbrev pub LeavesMark : List Command → State → State → Type 0
LeavesMark cs s t = IsQuiet s → (image : Files) → IsImage t image
    → (image Clear ≡ standing s Clear) ⊎ IsLeftInRun (standing s Clear) cs (image Clear)

-- so it is for words other than `run`; of a script the clause on its replies says it
abbrev pub LeavesMarkOf : Option Asked → State → State → Type 0
LeavesMarkOf (Some (Asked.One now c)) s t = LeavesMark (c ∷ []) s t
LeavesMarkOf (Some (Asked.Run now)) s t = ⊤
LeavesMarkOf _ s t = LeavesMark [] s t

-- ---- parts of a run

-- so much a command may change there
unfoldable pub MayMark : Command → State → State → Type 0
MayMark c s t = ChangesAtClear c s t

-- and this leaves it alone
unfoldable pub KeepsMark : State → State → Type 0
KeepsMark s t = KeepsAtClear s t

-- so much these commands may change there
unfoldable pub ChangeMark : List Command → State → State → Type 0
ChangeMark cs s t = IsClearApart s → LeavesAtClear (IsLeftByOne cs) s t

-- and so much a run until now, with nothing pending at the call
unfoldable pub ChangesMark : List Command → State → State → Type 0
ChangesMark cs s t = IsQuiet s → LeavesAtClear (IsLeftInRun (standing s Clear) cs) s t
