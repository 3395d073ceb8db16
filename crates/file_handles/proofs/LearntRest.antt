-- How the rest of the update changes by a command.
use Rattle.std.proofs.Common.{◌≡◌, ℕ, ◌<◌, List, length, Bool, true, false, not, ◌&&◌, Option, Some, None, is_some, refl, sym, ap, ◌∙◌}
use Rattle.std.specs.Prelude.{IfSome, if◌then◌else◌, is_none, option_and_then}
use Rattle.std.proofs.lemmas.Bool.{and_parts}
use Rattle.cache_base.specs.Checks.{first_failing}
use Rattle.cache_base.specs.declared.name.Name.{Name}
use Rattle.cache_base.proofs.CheckLaws.{AllHold, all_hold}
use Rattle.cache_theory.specs.Checks.{checks, with_alt_data, with_value}
use Rattle.cache_theory.specs.Command.{Command}
use Rattle.cache_theory.specs.Command.Command.{Create, Doom, Finish, FinishAs, SetElement, UnsetElement, UseEntry, Pin, Unpin, PutAlt, Close}
use Rattle.cache_theory.specs.Command.Reply.{Done, NoneThere}
use Rattle.cache_theory.specs.Machine.{Machine, Object as MachineObject, is_writer, number_of, object, object_of}
use Rattle.cache_theory.specs.Marks.{rewritten}
use Rattle.cache_theory.specs.Proper.{IsProper}
use Rattle.cache_theory.specs.Refiled.{IsRefiled, Refiled, refiled, refiled_by}
use Rattle.cache_theory.specs.Step.{Answer, answer, changed, effect, finished_as, finished_by, released, step, stepped, stored, used, with_pin, without}
use Rattle.cache_theory.proofs.ObjectLaws.Objects.{nth, nth-set_same}
use Rattle.cache_theory.proofs.Refiling.{entries_are_refiled}
use Rattle.cache_theory.proofs.ObjectLaws.Users.{slot_in_use}
use Rattle.entry_file.specs.EntryFile.{file_meta, fits}
use Rattle.entry_file.specs.Version.{Version, file_of}
use Rattle.entry_metadata.specs.Metadata.{Meta as Said}
use Rattle.entry_name.specs.EntryName.{file_name}
use Rattle.entry_parts.specs.Elements.{element}
use Rattle.entry_parts.specs.Setting.{without_element}
use Rattle.index_record.specs.Filling.{record_of_meta}
use Rattle.file_handles.specs.Changes.{completed, with_version}
use Rattle.file_handles.specs.Effects.{LearntLeavesRest, learnt, learnt_at, learnt_of, learnt_under, object_name, rest_once}
use Rattle.file_handles.specs.declared.fault.Effect.TheVariants as effects
use Rattle.handle_table.proofs.Released.{released_objects}

-- The object that a command writes is finished afterwards.

abbrev IsDone : Machine → ℕ → Type 0
IsDone n i = (object n i).finished ≡ true

-- where the test holds, if it is enough for that
where_done : (n : Machine) (i : ℕ) (b : Bool) → (b ≡ true → IsDone n i) → IfSome (if b then Some i else None) (IsDone n)
where_done n i true done = done refl
where_done n i false done = tt

module _ (m : Machine) (s : ℕ) (within : number_of m s < length m.objects) where
  changed_done : (f : Version → Version) → (object_of m s).finished ≡ true → IsDone (changed m s f) (number_of m s)
  changed_done f done = ap (λ (o : MachineObject). o.finished) (nth-set_same m.objects (number_of m s) (number_of m s) (with_version f (object_of m s)) within refl) ∙ done

  completed_done : (is_writer m s && not (object_of m s).finished) ≡ true → IsDone (finished_by m s) (number_of m s)
  completed_done writes =
      ap (λ (b : Bool). (object (if b then done else m) (number_of m s)).finished) writes
      ∙ ap (λ (o : MachineObject). o.finished) (nth-set_same m.objects (number_of m s) (number_of m s) (completed (object_of m s)) within refl)
    where
      done : Machine
      done = stored m (number_of m s) (completed (object_of m s))

  unset_done : (f : Version → Version) (value : Option (List ℕ)) → ((object_of m s).finished && is_some value) ≡ true
      → IsDone (if is_none value then answer m NoneThere else answer (changed m s f) Done).next (number_of m s)
  unset_done f None both = absurd (let never = (and_parts (object_of m s).finished false both).1 in cc)
  unset_done f (Some value) both = changed_done f (and_parts (object_of m s).finished true both).0

written_done : (m : Machine) (c : Command) → IsProper m → AllHold (checks m c) → IfSome (rewritten m c) (IsDone (effect m c).next)
unfolding checks effect
written_done m (Finish s) proper hold =
    completed_done m s (slot_in_use m proper s hold.0).number (λ i. hold.1.0 i && hold.1.1.0 i)
written_done m (FinishAs s header elements) proper hold =
    ap (λ (o : MachineObject). o.finished) (nth-set_same m.objects (number_of m s) (number_of m s) (finished_as header elements (object_of m s)) (slot_in_use m proper s hold.0).number refl)
written_done m (SetElement s name value) proper hold =
    where_done (changed m s (with_value name value)) (number_of m s) (object_of m s).finished (changed_done m s (slot_in_use m proper s hold.0).number (with_value name value))
written_done m (UnsetElement s name) proper hold =
    where_done (effect m (UnsetElement s name)).next (number_of m s) ((object_of m s).finished && is_some (element name (object_of m s).version.elements))
    (unset_done m s (slot_in_use m proper s hold.0).number (λ v. record v { elements = without_element name v.elements }) (element name (object_of m s).version.elements))
written_done m (UseEntry s) proper hold =
    where_done (changed m s (used m.moment)) (number_of m s) (object_of m s).finished (changed_done m s (slot_in_use m proper s hold.0).number (used m.moment))
written_done m (Pin s) proper hold =
    where_done (changed m s (with_pin true)) (number_of m s) (object_of m s).finished (changed_done m s (slot_in_use m proper s hold.0).number (with_pin true))
written_done m (Unpin s) proper hold =
    where_done (changed m s (with_pin false)) (number_of m s) (object_of m s).finished (changed_done m s (slot_in_use m proper s hold.0).number (with_pin false))
written_done m (PutAlt s kind bytes) proper hold =
    where_done (changed m s (with_alt_data kind bytes)) (number_of m s) (object_of m s).finished (changed_done m s (slot_in_use m proper s hold.0).number (with_alt_data kind bytes))
written_done m (Close s) proper hold =
    where_done (released (finished_by m s) s) (number_of m s) (is_writer m s && not (object_of m s).finished) (λ writes.
    ap (λ objects. (nth objects (number_of m s)).finished) (released_objects (finished_by m s) s) ∙ completed_done m s (slot_in_use m proper s hold.0).number writes)
written_done m c proper hold = tt

-- What is refiled is what is learnt.

-- a name that is refiled leaves the rest
rest_by : Option Refiled → List (List ℕ) → List (List ℕ)
rest_by None rest = rest
rest_by (Some r) rest = without r.name rest

refiled_rest : (m n : Machine) (r : Option Refiled) → IsRefiled m n r → n.rest ≡ rest_by r m.rest
unfolding rest_by
refiled_rest m n None is = is.1
refiled_rest m n (Some r) is = is.1

module _ (rest : List (List ℕ)) where
  -- it leaves the rest whether or not its file has a record
  under : (name : Name) (m : Said) (size : ℕ) (b : Bool) → without name.0 rest ≡ rest_once (learnt_under name (if b then Some (record_of_meta name m size) else None)) rest
  unfolding record_of_meta
  under name m size true = refl
  under name m size false = refl

  of_done : (o : MachineObject) → o.finished ≡ true → rest_by (refiled_by o) rest ≡ rest_once (learnt_of o) rest
  unfolding rest_by
  of_done o done = go o.finished o.doomed done
    where
      go : (finished doomed : Bool) → finished ≡ true
          → rest_by (if doomed then None else Some (record { name = file_name o.version.key; content = Some (file_of o.version) })) rest
          ≡ rest_once (if finished && not doomed then learnt_under (object_name o) (if fits (file_name o.version.key) (file_of o.version) then Some (record_of_meta (object_name o) (file_meta (file_of o.version)) (length (file_of o.version))) else None) else effects.Same) rest
      go true true is = refl
      go true false is = under (object_name o) (file_meta (file_of o.version)) (length (file_of o.version)) (fits (file_name o.version.key) (file_of o.version))
      go false doomed is = absurd (cc)

  by_object : (n : Machine) (o : Option ℕ) → IfSome o (IsDone n) → rest_by (option_and_then (λ i. refiled_by (object n i)) o) rest ≡ rest_once (learnt_at n o) rest
  unfolding rest_by
  by_object n None done = refl
  by_object n (Some i) done = of_done (object n i) done

module _ (m : Machine) where
  by_writing : (c : Command) → IsProper m → first_failing (checks m c) ≡ None
      → rest_by (option_and_then (λ i. refiled_by (object (effect m c).next i)) (rewritten m c)) m.rest ≡ rest_once (learnt_at (step m c).next (rewritten m c)) m.rest
  by_writing c proper passes =
      by_object m.rest (effect m c).next (rewritten m c) (written_done m c proper (all_hold (checks m c) passes))
      ∙ ap (λ (a : Answer). rest_once (learnt_at a.next (rewritten m c)) m.rest) (sym (ap (stepped m c) passes))

  refiled_learnt : (c : Command) → IsProper m → first_failing (checks m c) ≡ None → rest_by (refiled m c) m.rest ≡ rest_once (learnt m c) m.rest
  unfolding rest_by
  refiled_learnt (Create s key) proper passes = refl
  refiled_learnt (Doom key) proper passes = refl
  refiled_learnt c proper passes = by_writing c proper passes

pub learnt_rest : LearntLeavesRest
learnt_rest m c of proper passes =
    refiled_rest m (step m c).next (refiled m c) (entries_are_refiled m c of proper passes)
    ∙ refiled_learnt m c proper passes
