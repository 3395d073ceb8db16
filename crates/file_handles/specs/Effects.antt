-- What an index must learn of a command.
use Rattle.std.specs.Prelude.{Bool, IfSome, List, None, Option, Some, false, if◌then◌else◌, length, not, true, ℕ, ⊤, ◌&&◌, ◌+◌, ◌≡◌}
use Rattle.cache_base.specs.Checks.{first_failing}
use Rattle.cache_base.specs.declared.name.Name.{Name}
use Rattle.cache_theory.specs.Checks.{checks}
use Rattle.cache_theory.specs.Command.{Command}
use Rattle.cache_theory.specs.Command.Command.{Create, Doom}
use Rattle.cache_theory.specs.Machine.{Machine, Object as MachineObject, object}
use Rattle.cache_theory.specs.Marks.{rewritten}
use Rattle.cache_theory.specs.Proper.{IsObject, IsProper}
use Rattle.cache_theory.specs.Refiled.{IsOfEntries}
use Rattle.cache_theory.specs.Step.{step, without}
use Rattle.cache_theory.specs.Table.{get}
use Rattle.entry_file.specs.Version.{file_of}
use Rattle.entry_metadata.specs.Meta.{meta_of}
use Rattle.entry_metadata.specs.Metadata.{Meta, block_bytes}
use Rattle.entry_name.specs.EntryName.{file_name}
use Rattle.index_record.specs.Filling.{record_of_meta}
use Rattle.index_record.specs.Record.{is_removed}
use Rattle.index_record.specs.declared.record.IndexRecord.{IndexRecord}
use Rattle.index_theory.specs.Scan.{record_of, scanned}
use Rattle.record_list.specs.Lists.{same_name}
use Rattle.record_list.specs.Stored.{IsClean}
use Rattle.handle_table.specs.Held.{IsHeldAs}
use Rattle.handle_table.specs.Kept.{Kept}
use Rattle.handle_table.specs.Standing.{HandlesStand}
use Rattle.file_handles.specs.declared.fault.Effect.{Effect}
use Rattle.file_handles.specs.declared.fault.Effect.TheVariants as effect
use Rattle.handle_table.specs.declared.object.Entry.{Entry}
use Rattle.handle_table.specs.declared.object.Entry.TheVariants as entry
use Rattle.handle_table.specs.declared.object.Object.{Object}

-- the name of a key
abbrev pub name_of : List ℕ → Name
name_of key = record { 0 = file_name key }

-- the name of an object
abbrev pub object_name : MachineObject → Name
object_name o = name_of o.version.key

-- what is learnt of a name, by the record that a scan finds there, if there is one
abbrev pub learnt_under : Name → Option IndexRecord → Effect
learnt_under name None = effect.Gone name
learnt_under name (Some r) = effect.Wrote r

-- what is learnt of an object that was written: the record of its file, where it is finished and
-- not doomed
abbrev pub learnt_of : MachineObject → Effect
learnt_of o =
    if o.finished && not o.doomed
    then learnt_under (object_name o) (record_of (object_name o) (file_of o.version))
    else effect.Same

-- the same of the object of a number, if there is one
abbrev pub learnt_at : Machine → Option ℕ → Effect
learnt_at m None = effect.Same
learnt_at m (Some i) = learnt_of (object m i)

-- what an index must learn of a command whose checks hold: that under a name no finished entry
-- stands any more, or the record of the file that was finished or had its metadata rewritten
abbrev pub learnt : Machine → Command → Effect
learnt m (Create s key) = effect.Gone (name_of key)
learnt m (Doom key) = effect.Gone (name_of key)
learnt m c = learnt_at (step m c).next (rewritten m c)

-- so it is for every machine that the handles stand for
abbrev pub HasEffect : Kept → Command → Effect → Type 0
HasEffect k c e =
    (m : Machine) (number : ℕ → ℕ) → IsProper m → HandlesStand k m number → e ≡ learnt m c

-- so it is for every machine of this moment that they stand for
abbrev pub HasEffectAt : ℕ → Kept → Command → Effect → Type 0
HasEffectAt now k c e = (m : Machine) (number : ℕ → ℕ)
    → m.moment ≡ now → IsProper m → HandlesStand k m number → e ≡ learnt m c

-- it is what is learnt of an object that is held, whichever of the machine's that is, once it is
-- changed so
abbrev pub IsLearntOf : (MachineObject → MachineObject) → Option Object → Effect → Type 0
IsLearntOf change held e = IfSome held (λ x.
    (o : MachineObject) → IsHeldAs x o → IsObject (change o) → e ≡ learnt_of (change o))

-- the length of the file with these metadata
abbrev pub file_len : Meta → ℕ
file_len m = m.offset + length (block_bytes m) + 4

-- what is learnt of an object that was written, by what is held of it
abbrev pub learnt_of_held : Name → Bool → Entry → Effect
learnt_of_held name true e = effect.Same
learnt_of_held name false (entry.Draft d) = effect.Same
learnt_of_held name false (entry.Finished meta) =
    effect.Wrote (record_of_meta name (meta_of meta) (file_len (meta_of meta)))

-- what is said of a name once this is learnt
abbrev pub once : Effect → (Name → Option IndexRecord) → Name → Option IndexRecord
once effect.Same said name = said name
once (effect.Gone gone) said name = if same_name gone name then None else said name
once (effect.Wrote r) said name = if same_name r.name name then Some r else said name

-- a command on entries whose checks hold changes the scan of the shelf by what is learnt of it
abbrev pub LearntIsScanned : Type 0
LearntIsScanned = (m : Machine) (c : Command)
    → IsOfEntries c → IsProper m → first_failing (checks m c) ≡ None → (name : Name)
    → scanned (get (step m c).next.shelf) name ≡ once (learnt m c) (scanned (get m.shelf)) name

-- the record that is learnt, if there is one, says neither that its name is gone nor that it is
-- dirty or fresh
abbrev pub IsPlainEffect : Effect → Type 0
IsPlainEffect effect.Same = ⊤
IsPlainEffect (effect.Gone name) = ⊤
IsPlainEffect (effect.Wrote r) = (is_removed r ≡ false) × IsClean r

-- the rest of the update once this is learnt
abbrev pub rest_once : Effect → List (List ℕ) → List (List ℕ)
rest_once effect.Same rest = rest
rest_once (effect.Gone gone) rest = without gone.0 rest
rest_once (effect.Wrote r) rest = without r.name.0 rest

-- a command on entries whose checks hold takes that name off the rest of the update
abbrev pub LearntLeavesRest : Type 0
LearntLeavesRest = (m : Machine) (c : Command)
    → IsOfEntries c → IsProper m → first_failing (checks m c) ≡ None
    → (step m c).next.rest ≡ rest_once (learnt m c) m.rest
