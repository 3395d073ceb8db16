-- How a file that was finished aside gets its name.
use Rattle.std.specs.Prelude.{Bool, IfOk, IsOkAnd, None, OnErr, OnOk, Option, Result, Some, false, true, ℕ, ◌≡◌, ◌⊎◌}
use Rattle.cache_base.specs.declared.name.Name.{Name}
use Rattle.cache_theory.specs.Machine.{Object as MachineObject}
use Rattle.cache_theory.specs.Stands.{object_file}
use Rattle.disk_theory.specs.Sound.{IsSound}
use Rattle.disk_theory.specs.State.{State, renamed, settled, standing}
use Rattle.disk_theory.specs.Writes.{WritesAt}
use Rattle.disk_theory.specs.declared.disk.DiskFault.{DiskFault}
use Rattle.disk_theory.specs.declared.place.Place.TheVariants.{Doomed, Entry}
use Rattle.file_handles.specs.Cache.{Cache}
use Rattle.file_handles.specs.Changes.{IsFiledAs, IsMomentOf}
use Rattle.handle_table.specs.Held.{IsHeldAs, object_place}
use Rattle.handle_table.specs.HeldChunks.{KeepsChunks}
use Rattle.handle_table.specs.Kept.{object_at, with_object}
use Rattle.file_handles.specs.declared.fault.HandleFault.{HandleFault}
use Rattle.handle_table.specs.declared.object.Object.{Object}

-- all is synced, and then the file of the number is moved to the name
abbrev pub published : ℕ → Name → State → State
published number name s = renamed (Doomed number) (Entry name) (settled s)

-- after publication a file of an undoomed entry stands under its name, and that of a doomed one stays aside
abbrev pub published_by : Name → Bool → Option ℕ → State → State
published_by name true aside s = s
published_by name false None s = s
published_by name false (Some number) s = published number name s

-- the number where it stands aside then, if it does
abbrev pub aside_by : Bool → Option ℕ → Option ℕ
aside_by true aside = aside
aside_by false aside = None

-- the states that a publication comes through
pub data IsAmidPublishing (name : Name) (doomed : Bool) (aside : Option ℕ) (s t : State) : Type 0 where
  Unsynced : t ≡ s → IsAmidPublishing name doomed aside s t
  Synced : doomed ≡ false → t ≡ settled s → IsAmidPublishing name doomed aside s t
  Published : t ≡ published_by name doomed aside s → IsAmidPublishing name doomed aside s t

-- after an Ok it is published, and gives the number where the file stands aside from then on
pub record MayPublish (name : Name) (doomed : Bool) (aside : Option ℕ)
    (answer : Result (Option ℕ) DiskFault) (s t : State)
    : Type 0 where
  pub done : IfOk answer
      (λ after. (after ≡ aside_by doomed aside) × (t ≡ published_by name doomed aside s))
  pub amid : OnErr answer (IsAmidPublishing name doomed aside s t)

-- the object that x becomes is the machine's object, finished by this change; its file was written whole before it was
-- published
pub record BecomesWhole (change : MachineObject → MachineObject) (x y : Object) (o : MachineObject)
    (u : State) : Type 0 where
  pub same_object : y.number ≡ x.number
  pub keeps_chunks : KeepsChunks o (change o)
  pub same_name : y.name ≡ x.name
  pub aside : y.aside ≡ aside_by x.doomed x.aside
  pub as_held : IsHeldAs y (change o)
  pub file : standing u (object_place x) ≡ Some (object_file (change o))

-- a call finishes every machine's object that x is by this change: its file alone is written to, and then published
pub record Completes (x : Object) (change : MachineObject → MachineObject)
    (changed : Result Object HandleFault) (s t : State) : Type 0 where
  pub written : State
  pub writes : (o : MachineObject) → IsFiledAs x o s
      → WritesAt (object_place x) (IsMomentOf (change o)) s written
  pub sound : IsSound written
  -- it was written whole, or nothing came after
  pub amid : (t ≡ written) ⊎ (IsAmidPublishing x.name x.doomed x.aside written t
      × ((o : MachineObject) → IsFiledAs x o s
      → standing written (object_place x) ≡ Some (object_file (change o))))
  pub becomes : IfOk changed (λ y. (t ≡ published_by x.name x.doomed x.aside written)
      × ((o : MachineObject) → IsFiledAs x o s → BecomesWhole change x y o written))

-- it does so to the object at a place, and changes nothing else of the handles
pub record CompletesAt {T : Type 0} (p : ℕ) (change : MachineObject → MachineObject)
    (answer : Result T HandleFault)
    (before after : Cache) (x : Object) : Type 0 where
  pub changed : Result Object HandleFault
  pub completes : Completes x change changed before.disk after.disk
  pub put_back : OnOk answer
      (IsOkAnd changed (λ y. after.handles ≡ with_object before.handles p (Some y)))

-- the object at a place, if there is one
abbrev pub CompletesThere : {T : Type 0} → ℕ → (MachineObject → MachineObject) → Result T HandleFault → Cache → Cache → Type 0
CompletesThere p change answer before after =
    (x : Object) → object_at before.handles p ≡ Some x → CompletesAt p change answer before after x
