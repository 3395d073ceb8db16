-- What a call does that changes one object, and writes to its file alone.
use Rattle.std.specs.Prelude.{IfOk, IsOkAnd, List, OnOk, Result, Some, false, true, ℕ, ◌++◌, ◌≡◌, ◌⊎◌}
use Rattle.cache_theory.specs.Machine.{Object as MachineObject}
use Rattle.cache_theory.specs.Proper.{IsObject}
use Rattle.cache_theory.specs.Stands.{HasObjectFile, object_file}
use Rattle.chunk_cache.specs.Cached.{CachedChunk}
use Rattle.disk_theory.specs.State.{State, standing}
use Rattle.disk_theory.specs.Writes.{WritesAt}
use Rattle.entry_file.specs.EntryFile.{fits}
use Rattle.entry_file.specs.Version.{Version, file_of}
use Rattle.file_handles.specs.Cache.{Cache}
use Rattle.handle_table.specs.Held.{IsHeldAs, object_place}
use Rattle.handle_table.specs.HeldChunks.{HasNoneOf, KeepsChunks}
use Rattle.handle_table.specs.Kept.{object_at, with_object}
use Rattle.file_handles.specs.declared.fault.HandleFault.{HandleFault}
use Rattle.handle_table.specs.declared.object.Object.{Object}

-- a new moment of the file of an object that becomes `o`: it fits under no name, or is the file of
-- the version of `o`
abbrev pub IsMomentOf : MachineObject → List ℕ → Type 0
IsMomentOf o c =
    ((name : List ℕ) → fits name c ≡ false) ⊎ ((o.finished ≡ true) × (c ≡ file_of o.version))

-- the object is the machine's, and its file stands where it should
pub record IsFiledAs (x : Object) (o : MachineObject) (s : State) : Type 0 where
  pub as_held : IsHeldAs x o
  pub object : IsObject o
  pub file : HasObjectFile o (standing s (object_place x))

-- the object that x becomes is that of a change of the machine's object from `o` to `next`. Its chunks that are on
-- the disk stay as they are, unless none of them is held
pub record Becomes (held : List CachedChunk) (x y : Object) (o next : MachineObject) (t : State)
    : Type 0 where
  pub same_object : y.number ≡ x.number
  pub keeps_chunks : HasNoneOf x.number held ⊎ KeepsChunks o next
  pub same_place : object_place y ≡ object_place x
  pub same_name : y.name ≡ x.name
  pub same_number : y.aside ≡ x.aside
  pub as_held : IsHeldAs y next
  pub file : standing t (object_place x) ≡ Some (object_file next)

-- a call makes this change of every machine's object that x is, where these chunks are held: at
-- every exit its file alone was written to, and after an Ok it is changed
pub record Changes (held : List CachedChunk) (x : Object) (change : MachineObject → MachineObject)
    (changed : Result Object HandleFault) (s t : State) : Type 0 where
  pub writes : (o : MachineObject) → IsFiledAs x o s
      → WritesAt (object_place x) (IsMomentOf (change o)) s t
  pub becomes : IfOk changed (λ y. (o : MachineObject) → IsFiledAs x o s
      → Becomes held x y o (change o) t)

-- it makes it of the object at a place, and changes nothing else of the handles
pub record ChangesAt {T : Type 0} (p : ℕ) (change : MachineObject → MachineObject)
    (answer : Result T HandleFault) (before after : Cache) (x : Object) : Type 0 where
  pub changed : Result Object HandleFault
  pub changes : Changes before.handles.chunks x change changed before.disk after.disk
  pub put_back : OnOk answer
      (IsOkAnd changed (λ y. after.handles ≡ with_object before.handles p (Some y)))

-- the object at a place, if there is one
abbrev pub ChangesThere : {T : Type 0} → ℕ → (MachineObject → MachineObject) → Result T HandleFault
    → Cache → Cache → Type 0
ChangesThere p change answer before after =
    (x : Object) → object_at before.handles p ≡ Some x → ChangesAt p change answer before after x

-- the object at a place is that of a machine's, with its file
abbrev pub IsFiledAt : Cache → ℕ → Type 0
IsFiledAt now p =
    (x : Object) → object_at now.handles p ≡ Some x → (o : MachineObject) × IsFiledAs x o now.disk

-- the changes of an object: bytes more in the body
abbrev pub appended : List ℕ → MachineObject → MachineObject
appended bytes o = record o { version = record (o.version) { body = o.version.body ++ bytes } }

-- the entry finished
abbrev pub completed : MachineObject → MachineObject
completed o = record o { finished = true }

-- its version changed
abbrev pub with_version : (Version → Version) → MachineObject → MachineObject
with_version f o = record o { version = f o.version }
