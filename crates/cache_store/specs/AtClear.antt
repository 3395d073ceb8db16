-- What a command may newly leave at `clear`, the place of the mark of a clearing, and in which order a clearing makes
-- its changes.
use Rattle.std.specs.Prelude.{List, None, Option, Some, ℕ, ⊤, ◌≡◌}
use Rattle.cache_base.specs.Names.{AreSorted}
use Rattle.cache_base.specs.declared.limits.TheConstants.{SLOTS}
use Rattle.cache_base.specs.declared.name.Name.{Name}
use Rattle.cache_theory.specs.Command.{Command}
use Rattle.cache_theory.specs.Command.Command.{ClearOrigin, Resume}
use Rattle.context_clear.specs.Mark.{mark_bytes, mark_of}
use Rattle.context_clear.specs.MarkFile.{IsAmidEnding, IsAmidStoring, StoresMark}
use Rattle.disk_theory.specs.State.{State, standing}
use Rattle.disk_theory.specs.declared.place.Place.TheVariants.{Clear}
use Rattle.entry_key.specs.Tags.{value_hash}
use Rattle.file_handles.specs.Dooming.{TakesInOrder}
use Rattle.index_theory.specs.AtClear.{IsClearApart, KeepsClear, LeavesAtClear}

-- a crash may leave there what it could leave before
abbrev pub KeepsAtClear : State → State → Type 0
KeepsAtClear s t = IsClearApart s → KeepsClear s t

-- a clearing leaves there nothing, or the mark of the origin with this hash
abbrev pub IsOfClearing : Option ℕ → Option (List ℕ) → Type 0
IsOfClearing origin None = ⊤
IsOfClearing None (Some c) = ⊥
IsOfClearing (Some origin) (Some c) = c ≡ mark_bytes origin

-- or what it could leave before
abbrev pub ClearsAt : Option ℕ → State → State → Type 0
ClearsAt origin s t = IsClearApart s → LeavesAtClear (IsOfClearing origin) s t

-- what is new after a command: what a clearing leaves, which is resumed for the origin whose mark stood; after any
-- other command nothing
abbrev pub IsNewAfter : Command → Option (List ℕ) → Option (List ℕ) → Type 0
IsNewAfter (ClearOrigin origin) stood c = IsOfClearing (Some (value_hash origin)) c
IsNewAfter Resume stood c = IsOfClearing (mark_of stood) c
IsNewAfter _ stood c = ⊥

-- so much a command may change there, at every exit
abbrev pub ChangesAtClear : Command → State → State → Type 0
ChangesAtClear command s t = IsClearApart s → LeavesAtClear (IsNewAfter command (standing s Clear)) s t

-- ---- the order

-- so far a clearing has come: its mark is being stored; it stands, and of these entries some were taken away, in their
-- order; or all that had to go were, and the mark is being removed
pub data ClearsPart (origin : ℕ) (names : List Name) (s t : State) : Type 0 where
  Storing : IsAmidStoring SLOTS (mark_bytes origin) s t → ClearsPart origin names s t
  Taking : (u : State) → StoresMark SLOTS (mark_bytes origin) s u → TakesInOrder names u t
      → ClearsPart origin names s t
  Ending : (u v : State) → StoresMark SLOTS (mark_bytes origin) s u → TakesInOrder names u v
      → IsAmidEnding v t → ClearsPart origin names s t

-- so it is for some names in rising order
abbrev pub ClearsInOrder : ℕ → State → State → Type 0
ClearsInOrder origin s t = (names : List Name) × (AreSorted names × ClearsPart origin names s t)
