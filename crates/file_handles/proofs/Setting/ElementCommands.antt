-- The commands that set and remove an element.
use Rattle.std.proofs.Common.{◌≡◌, ◌⊎◌, inl, inr, true, ℕ, ◌<◌, List, Bool, cond, not, ◌&&◌, Option, Some, None, Result, Ok, Err, IfSome, IsErrAnd, is_some, refl, ap, ◌∙◌}
use Rattle.std.specs.Prelude.{if◌then◌else◌, is_none}
use Rattle.std.proofs.lemmas.Bool.{cases_Bool}
use Rattle.cache_base.specs.Bytes.{AreBytes}
use Rattle.cache_base.specs.declared.limits.TheConstants.{SLOTS}
use Rattle.cache_base.proofs.CheckLaws.{all_hold}
use Rattle.cache_theory.specs.Checks.{checks}
use Rattle.cache_theory.specs.Command.Command.{SetElement, UnsetElement}
use Rattle.cache_theory.specs.Command.Reply.{Done, NoneThere}
use Rattle.cache_theory.specs.Machine.{Machine, Object as MachineObject, number_of, object_of}
use Rattle.cache_theory.specs.Step.{answer, changed, effect}
use Rattle.cache_theory.proofs.Changes.{object_is}
use Rattle.cache_theory.proofs.Versions.{object_with, object_without}
use Rattle.disk_theory.specs.Sound.{IsSound}
use Rattle.disk_theory.specs.State.{State}
use Rattle.entry_parts.specs.Elements.{element}
use Rattle.entry_parts.specs.Setting.{with_element, without_element}
use Rattle.file_handles.specs.Answers.{OnRefused, done_or, done_or_none, reply_in}
use Rattle.file_handles.specs.Cache.{cache_at}
use Rattle.file_handles.specs.Carries.{CarriesOut}
use Rattle.file_handles.specs.Changes.{ChangesThere}
use Rattle.handle_table.specs.Held.{IsHeldAs, elements_in, is_draft}
use Rattle.handle_table.specs.Kept.{Kept, object_at}
use Rattle.handle_table.specs.Refuses.{HasAt, Passes}
use Rattle.handle_table.specs.Standing.{HandlesStand}
use Rattle.file_handles.specs.declared.fault.HandleFault.{HandleFault}
use Rattle.handle_table.specs.declared.object.Object.{Object}
use Rattle.file_handles.proofs.Carried.{MakesChange, change_carried}
use Rattle.file_handles.proofs.Setting.EntryChanged.{with_elements}
use Rattle.file_handles.proofs.Setting.ElementChecks.{if_object}
use Rattle.file_handles.proofs.Setting.ElementEntries.{finished_is}
use Rattle.file_handles.proofs.Setting.ElementMarks.{goes_out}
use Rattle.file_handles.proofs.Setting.ElementReads.{there_elements}

-- the file of an unfinished object stays as it is
abbrev pub IsFinished : MachineObject → Type 0
IsFinished o = o.finished ≡ true

pub writes_finished : (s t : State) (x : Object) → (is_draft x.entry ≡ true → t ≡ s) → (o : MachineObject) → IsHeldAs x o → IsFinished o ⊎ (t ≡ s)
writes_finished s t x quiet o held = elim (cases_Bool (is_draft x.entry)) [
  | inl draft ↦ inr (quiet draft)
  | inr finished ↦ inl (finished_is x.entry o held.held_entry ∙ ap not finished)
]

pub set_makes : (k : Kept) (slot : ℕ) (name value : List ℕ) → AreBytes name → AreBytes value → Passes k (SetElement slot name value)
    → MakesChange k (SetElement slot name value) slot (with_elements (with_element name value)) IsFinished
unfolding checks effect
set_makes k slot name value name_bytes value_bytes passes = record {
  passes = λ m number proper stand at. passes m number proper stand;
  acks = λ m w. refl;
  effects = λ m number stand at fine. refl;
  objects = λ m proper fine.
      let all = all_hold (checks m (SetElement slot name value)) fine in
      object_with (object_of m slot) name value name_bytes value_bytes all.1.1.0 all.1.1.1.0 (object_is m slot proper all.0);
  key = λ o. refl;
  doomed = λ o. refl;
  unfinished = λ o un. un;
  out = λ m w number stand fine done becomes.
      goes_out m (SetElement slot name value) w fine (number_of m slot) (with_elements (with_element name value) (object_of m slot))
      (ap (λ (b : Bool). if b then Some (number_of m slot) else None) done) refl refl becomes refl refl;
}

module _ (k : Kept) (slot : ℕ) (small : slot < SLOTS) (p : ℕ) (x : Object) (has : HasAt k slot p x) (name value : List ℕ) (some : element name (elements_in x.entry) ≡ Some value) (passes : Passes k (UnsetElement slot name)) where
  element_there : (m : Machine) (number : ℕ → ℕ) → HandlesStand k m number → element name (object_of m slot).version.elements ≡ Some value
  element_there m number stand = ap (element name) (there_elements k slot small p x has m number stand) ∙ some

  pub unset_makes : MakesChange k (UnsetElement slot name) slot (with_elements (without_element name)) IsFinished
  unfolding checks effect
  unset_makes = record {
    passes = λ m number proper stand at. passes m number proper stand;
    acks = λ m w. refl;
    effects = λ m number stand at fine.
        ap (λ (o : Option (List ℕ)). cond (is_none o) (answer m NoneThere) (answer (changed m slot (λ v. record v { elements = without_element name v.elements })) Done)) (element_there m number stand);
    objects = λ m proper fine.
        let all = all_hold (checks m (UnsetElement slot name)) fine in
        object_without (object_of m slot) name (object_is m slot proper all.0);
    key = λ o. refl;
    doomed = λ o. refl;
    unfinished = λ o un. un;
    out = λ m w number stand fine done becomes.
        goes_out m (UnsetElement slot name) w fine (number_of m slot) (with_elements (without_element name) (object_of m slot))
        (λ i. if done i && is_some (element_there m number stand i) then Some (number_of m slot) else None) refl refl becomes refl refl;
  }

module _ (s t : State) (sound : IsSound s) (k after : Kept) (slot : ℕ) (small : slot < SLOTS) (p : ℕ) (x : Object) (has : HasAt k slot p x) (name : List ℕ) {T : Type 0} (r : Result T HandleFault)
    (quiet : IfSome (object_at k p) (λ z. is_draft z.entry ≡ true → t ≡ s)) (none : OnRefused r (λ _. ⊥)) where
  writes : (o : MachineObject) → IsHeldAs x o → IsFinished o ⊎ (t ≡ s)
  writes = writes_finished s t x (if_object (object_at k p) x (λ z. is_draft z.entry ≡ true → t ≡ s) has.found quiet)

  -- what a call answers that sets an element
  pub set_leaves : (value : List ℕ) → AreBytes name → AreBytes value → Passes k (SetElement slot name value) → ChangesThere p (with_elements (with_element name value)) r (cache_at k s) (cache_at after t)
      → CarriesOut (SetElement slot name value) (done_or r) (cache_at k s) (cache_at after t)
  set_leaves value name_bytes value_bytes passes there =
      change_carried s t sound k after (SetElement slot name value) slot small p x has (with_elements (with_element name value)) IsFinished (set_makes k slot name value name_bytes value_bytes passes) r (there x has.found) writes none

  -- and one that removes an element
  pub unset_leaves : (value : List ℕ) → element name (elements_in x.entry) ≡ Some value → Passes k (UnsetElement slot name) → ChangesThere p (with_elements (without_element name)) r (cache_at k s) (cache_at after t) → CarriesOut (UnsetElement slot name) (done_or r) (cache_at k s) (cache_at after t)
  unset_leaves value some passes there = change_carried s t sound k after (UnsetElement slot name) slot small p x has (with_elements (without_element name)) IsFinished (unset_makes k slot small p x has name value some passes) r (there x has.found) writes none

-- a fault that is handed on
pub fault_reply : {T : Type 0} (r : Result (Option T) HandleFault) (f : HandleFault) → IsErrAnd r (λ e. e ≡ f) → done_or_none r ≡ reply_in f
fault_reply (Ok value) f is = absurd is
fault_reply (Err e) f is = ap reply_in is
