-- An object whose file a command writes is finished then.
use Rattle.std.proofs.Common.{◌≡◌, ℕ, ◌<◌, List, length, Bool, true, false, cond, not, ◌&&◌, Option, Some, None, refl, sym, ap, ◌∙◌}
use Rattle.std.specs.Prelude.{is_none, is_some}
use Rattle.std.proofs.lemmas.Bool.{and_from}
use Rattle.cache_base.specs.Checks.{first_failing}
use Rattle.cache_base.proofs.CheckLaws.{AllHold, all_hold}
use Rattle.cache_theory.specs.Checks.{checks, with_alt_data, with_value}
use Rattle.cache_theory.specs.Command.{Command}
use Rattle.cache_theory.specs.Command.Command.{Finish, SetElement, UnsetElement, UseEntry, Pin, Unpin, PutAlt, Close, FinishAs}
use Rattle.cache_theory.specs.Command.Reply.{Done, NoneThere}
use Rattle.cache_theory.specs.Machine.{Machine, Object, is_writer, number_of, object, object_of}
use Rattle.cache_theory.specs.Marks.{rewritten}
use Rattle.cache_theory.specs.Proper.{IsProper}
use Rattle.cache_theory.specs.Step.{answer, changed, effect, finished_by, stored, used, with_pin, finished_as}
use Rattle.cache_theory.proofs.Refiling.{is_released}
use Rattle.cache_theory.proofs.ObjectLaws.Objects.{nth, nth-set_same}
use Rattle.cache_theory.proofs.ObjectLaws.Users.{same_number, slot_in_use}
use Rattle.entry_file.specs.Version.{Version}
use Rattle.entry_parts.specs.Elements.{element}
use Rattle.entry_parts.specs.Setting.{without_element}

-- the object of this number is finished
abbrev IsFinishedIn : Machine → ℕ → Type 0
IsFinishedIn m i = (object m i).finished ≡ true

finished_stored : (m : Machine) (n i : ℕ) (o : Object) → n < length m.objects → o.finished ≡ true → Some n ≡ Some i → IsFinishedIn (stored m n o) i
finished_stored m n i o within done same =
    ap (λ (p : Object). p.finished) (nth-set_same m.objects n i o within (sym (same_number n i same))) ∙ done

finished_changed : (m : Machine) (s i : ℕ) (f : Version → Version) → number_of m s < length m.objects
    → cond (object_of m s).finished (Some (number_of m s)) None ≡ Some i → IsFinishedIn (changed m s f) i
finished_changed m s i f within = go (object_of m s).finished refl
  where
    new : Object
    new = record (object_of m s) { version = f (object_of m s).version }

    go : (b : Bool) → (object_of m s).finished ≡ b → cond b (Some (number_of m s)) None ≡ Some i → IsFinishedIn (stored m (number_of m s) new) i
    go true done same = finished_stored m (number_of m s) i new within done same
    go false un same = absurd (cc)

finished_unset : (m : Machine) (s i : ℕ) (f : Version → Version) (value : Option (List ℕ)) → number_of m s < length m.objects
    → cond ((object_of m s).finished && is_some value) (Some (number_of m s)) None ≡ Some i
    → IsFinishedIn (cond (is_none value) (answer m NoneThere) (answer (changed m s f) Done)).next i
finished_unset m s i f value within = go value (object_of m s).finished refl
  where
    go : (value : Option (List ℕ)) (b : Bool) → (object_of m s).finished ≡ b → cond (b && is_some value) (Some (number_of m s)) None ≡ Some i
        → IsFinishedIn (cond (is_none value) (answer m NoneThere) (answer (changed m s f) Done)).next i
    go None true done same = absurd (cc)
    go None false un same = absurd (cc)
    go (Some x) false un same = absurd (cc)
    go (Some x) true done same =
        finished_changed m s i f within (ap (λ b. cond b (Some (number_of m s)) None) done ∙ same)

finished_by_writer : (m : Machine) (s i : ℕ) → number_of m s < length m.objects
    → cond (is_writer m s && not (object_of m s).finished) (Some (number_of m s)) None ≡ Some i → IsFinishedIn (finished_by m s) i
finished_by_writer m s i within = go (is_writer m s && not (object_of m s).finished)
  where
    new : Object
    new = record (object_of m s) { finished = true }

    go : (b : Bool) → cond b (Some (number_of m s)) None ≡ Some i → IsFinishedIn (cond b (stored m (number_of m s) new) m) i
    go true same = finished_stored m (number_of m s) i new within refl same
    go false same = absurd (cc)

effect_done : (m : Machine) (c : Command) (i : ℕ) → IsProper m → AllHold (checks m c) → rewritten m c ≡ Some i → IsFinishedIn (effect m c).next i
unfolding checks effect
effect_done m (Finish s) i proper hold writes =
    finished_by_writer m s i (slot_in_use m proper s hold.0).number
    (ap (λ b. cond b (Some (number_of m s)) None) (and_from (is_writer m s) (not (object_of m s).finished) hold.1.0 hold.1.1.0) ∙ writes)
effect_done m (FinishAs s header elements) i proper hold writes =
    finished_stored m (number_of m s) i (finished_as header elements (object_of m s)) (slot_in_use m proper s hold.0).number refl writes
effect_done m (SetElement s key value) i proper hold writes =
    finished_changed m s i (with_value key value) (slot_in_use m proper s hold.0).number writes
effect_done m (UnsetElement s key) i proper hold writes =
    finished_unset m s i (λ v. record v { elements = without_element key v.elements }) (element key (object_of m s).version.elements)
    (slot_in_use m proper s hold.0).number writes
effect_done m (UseEntry s) i proper hold writes =
    finished_changed m s i (used m.moment) (slot_in_use m proper s hold.0).number writes
effect_done m (Pin s) i proper hold writes =
    finished_changed m s i (with_pin true) (slot_in_use m proper s hold.0).number writes
effect_done m (Unpin s) i proper hold writes =
    finished_changed m s i (with_pin false) (slot_in_use m proper s hold.0).number writes
effect_done m (PutAlt s kind bytes) i proper hold writes =
    finished_changed m s i (with_alt_data kind bytes) (slot_in_use m proper s hold.0).number writes
effect_done m (Close s) i proper hold writes =
    ap (λ (os : List Object). (nth os i).finished) (is_released (finished_by m s) s).objects
    ∙ finished_by_writer m s i (slot_in_use m proper s hold.0).number writes
effect_done m c i proper hold writes = absurd (cc)

pub rewritten_finished : (m : Machine) (c : Command) (i : ℕ) → IsProper m → first_failing (checks m c) ≡ None → rewritten m c ≡ Some i
    → (object (effect m c).next i).finished ≡ true
rewritten_finished m c i proper passes writes = effect_done m c i proper (all_hold (checks m c) passes) writes
