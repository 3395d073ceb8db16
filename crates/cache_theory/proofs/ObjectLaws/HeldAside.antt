-- Which objects that slots hold have their files aside after each change of the machine.
use Rattle.std.proofs.Common.{◌≡◌, ◌≢◌, ◌⊎◌, inl, inr, ℕ, ◌<◌, List, length, Bool, true, false, not, ◌||◌, Option, Some, None, refl, sym, ap, subst, ◌∙◌}
use Rattle.std.proofs.lemmas.Bool.{cases_Bool, cases_eq, cond_both, not-true, or_right}
use Rattle.cache_theory.specs.Machine.{Machine, Object, has_slots, is_slot, is_writer, number_of, object, object_of}
use Rattle.cache_theory.specs.Proper.{IsProper}
use Rattle.cache_theory.specs.Stands.{IsHeldAside, is_aside}
use Rattle.cache_theory.specs.Step.{doomed_under, entered, released, stored, with_slot}
use Rattle.cache_theory.specs.Table.{get}
use Rattle.cache_theory.proofs.ObjectLaws.Dooming.{doomed_here, doomed_there}
use Rattle.cache_theory.proofs.ObjectLaws.Entering.{MayEnter, entered_here, entered_there, with_reader}
use Rattle.cache_theory.proofs.ObjectLaws.Objects.{nth}
use Rattle.cache_theory.proofs.ObjectLaws.Releasing.{without_slot, without_use}
use Rattle.cache_theory.proofs.ObjectLaws.Slots.{HasSlot, free_is_none, has_slots_of, none_is_none, same_use, slot_at, slot_kept, slot_of, slot_was, use_of, with_slot_same}
use Rattle.cache_theory.proofs.ObjectLaws.Storing.{MayStand, stored_here, stored_like, stored_there}
use Rattle.entry_name.specs.EntryName.{file_name}

pub held_along : (m t : Machine) (j : ℕ) → (HasSlot m.slots j → HasSlot t.slots j) → is_aside (object t j) ≡ is_aside (object m j) → IsHeldAside m j → IsHeldAside t j
held_along m t j slots same h = record { slots = has_slots_of t j (slots (slot_of m j h.slots)); aside = same ∙ h.aside }

-- Where the file of an object stands.

pub unfinished_aside : (o : Object) → o.finished ≡ false → is_aside o ≡ true
unfinished_aside o un = or_right o.doomed (not o.finished) (ap not un)

pub doomed_aside : (o : Object) → o.doomed ≡ true → is_aside o ≡ true
doomed_aside o doomed = ap (λ b. b || not o.finished) doomed

pub undoomed_unfinished : (o : Object) → o.doomed ≡ false → is_aside o ≡ true → o.finished ≡ false
undoomed_unfinished o undoomed aside = not-true o.finished (sym (ap (λ b. b || not o.finished) undoomed) ∙ aside)

pub finished_undoomed : (o : Object) → o.finished ≡ true → is_aside o ≡ false → o.doomed ≡ false
finished_undoomed o done out = elim (cases_Bool o.doomed) [
  | inl doomed ↦ absurd (let both : true ≡ false = sym (doomed_aside o doomed) ∙ out in cc)
  | inr undoomed ↦ undoomed
]

pub published_is : (o : Object) → is_aside o ≡ false → (o.finished ≡ true) × (o.doomed ≡ false)
published_is o out = elim (cases_Bool o.finished) [
  | inl done ↦ (done, finished_undoomed o done out)
  | inr un ↦ absurd (let both : true ≡ false = sym (unfinished_aside o un) ∙ out in cc)
]

-- the slot of an object in a proper machine is that of one of its objects
pub held_number : (m : Machine) (j : ℕ) → IsProper m → HasSlot m.slots j → j < length m.objects
held_number m j proper h = (proper.slots h.slot (record { object = j; writes = h.writes }) h.at).1

-- An object in use is changed: they are the same, where its file stays aside, or stays elsewhere.

module _ (m : Machine) (i : ℕ) (o : Object) (proper : IsProper m) (may : MayStand m i o) where
  pub held_stored : is_aside o ≡ is_aside (object m i) → (j : ℕ) → IsHeldAside m j → IsHeldAside (stored m i o) j
  held_stored same j h = held_along m (stored m i o) j (λ x. x) (stored_like m i o proper may is_aside same j) h

  pub held_before_stored : is_aside o ≡ is_aside (object m i) → (j : ℕ) → IsHeldAside (stored m i o) j → IsHeldAside m j
  held_before_stored same j h = held_along (stored m i o) m j (λ x. x) (sym (stored_like m i o proper may is_aside same j)) h

  -- and the others are the same in any case
  pub held_stored_other : (j : ℕ) → j ≢ i → IsHeldAside m j → IsHeldAside (stored m i o) j
  held_stored_other j apart h = held_along m (stored m i o) j (λ x. x) (ap is_aside (stored_there m i o proper may j apart)) h

  pub held_before_stored_other : (j : ℕ) → j ≢ i → IsHeldAside (stored m i o) j → IsHeldAside m j
  held_before_stored_other j apart h = held_along (stored m i o) m j (λ x. x) (sym (ap is_aside (stored_there m i o proper may j apart))) h

  -- one that is finished and undoomed has its file under its name
  pub not_held_published : o.finished ≡ true → o.doomed ≡ false → IsHeldAside (stored m i o) i → ⊥
  not_held_published done undoomed h =
      let here : is_aside (object (stored m i o) i) ≡ is_aside o = ap is_aside (stored_here m i o proper may i refl) in
      let out : is_aside o ≡ false = λ k. undoomed k || not (done k) in
      let both : true ≡ false = sym h.aside ∙ here ∙ out in
      cc

-- What stands under a name is doomed: an object that is in use there is one more.

pub held_new : (m : Machine) (name : List ℕ) (i : ℕ) → IsProper m → get m.in_use name ≡ Some i → IsHeldAside (doomed_under m name) i
held_new m name i proper at = record {
  slots = has_slots_of (doomed_under m name) i (slot_of m i (proper.user name i at).in_use.slots);
  aside = ap is_aside (doomed_here m name i proper at);
}

pub used_or_not : (o : Option ℕ) (j : ℕ) → (o ≡ Some j) ⊎ (o ≢ Some j)
used_or_not None j = inr (λ e. cc)
used_or_not (Some i) j = elim (cases_eq i j) [
  | inl e ↦ inl (ap (λ k. Some k) e)
  | inr apart ↦ inr (λ e. apart (let same : i ≡ j = cc in same))
]

pub held_doomed : (m : Machine) (name : List ℕ) → IsProper m → (j : ℕ) → IsHeldAside m j → IsHeldAside (doomed_under m name) j
held_doomed m name proper j h = elim (used_or_not (get m.in_use name) j) [
  | inl at ↦ held_new m name j proper at
  | inr apart ↦ held_along m (doomed_under m name) j (λ x. x) (ap is_aside (doomed_there m name j apart)) h
]

pub held_before_doomed : (m : Machine) (name : List ℕ) (j : ℕ) → IsHeldAside (doomed_under m name) j → (get m.in_use name ≡ Some j) ⊎ IsHeldAside m j
held_before_doomed m name j h = elim (used_or_not (get m.in_use name) j) [
  | inl at ↦ inl at
  | inr apart ↦ inr (held_along (doomed_under m name) m j (λ x. x) (sym (ap is_aside (doomed_there m name j apart))) h)
]

-- An object enters: one that is not finished is one more.

pub held_entered : (m : Machine) (s : ℕ) (writes : Bool) (o : Object) → IsProper m → MayEnter m s writes o → (j : ℕ) → IsHeldAside m j → IsHeldAside (entered m s writes o) j
held_entered m s writes o proper may j h =
    let number = held_number m j proper (slot_of m j h.slots) in
    held_along m (entered m s writes o) j (slot_kept m.slots s (use_of (length m.objects) writes) j (free_is_none m.slots s j may.free))
    (ap is_aside (entered_there m s writes o proper may j number)) h

pub held_fresh : (m : Machine) (s : ℕ) (writes : Bool) (o : Object) → IsProper m → MayEnter m s writes o → o.finished ≡ false → IsHeldAside (entered m s writes o) (length m.objects)
held_fresh m s writes o proper may un = record {
  slots = has_slots_of (entered m s writes o) (length m.objects)
      (record { slot = s; small = may.small; writes = writes; at = with_slot_same m.slots s s (use_of (length m.objects) writes) refl });
  aside = ap is_aside (entered_here m s writes o proper may (length m.objects) refl) ∙ unfinished_aside o un;
}

pub held_before_entered : (m : Machine) (s : ℕ) (writes : Bool) (o : Object) → IsProper m → MayEnter m s writes o → (j : ℕ) → IsHeldAside (entered m s writes o) j
    → ((j ≡ length m.objects) × (o.finished ≡ false)) ⊎ IsHeldAside m j
held_before_entered m s writes o proper may j h = elim (cases_eq j (length m.objects)) [
  | inl e ↦
      let aside : is_aside o ≡ true = sym (ap is_aside (entered_here m s writes o proper may j e)) ∙ h.aside in
      inl (e, undoomed_unfinished o may.undoomed aside)
  | inr apart ↦
      let was : HasSlot m.slots j = slot_was m.slots s (use_of (length m.objects) writes) j (λ w e. apart (sym (same_use (length m.objects) j writes w e).0)) (slot_of (entered m s writes o) j h.slots) in
      let same = ap is_aside (entered_there m s writes o proper may j (held_number m j proper was)) in
      inr (record { slots = has_slots_of m j was; aside = sym same ∙ h.aside })
]

-- one that is finished changes nothing
pub held_before_entered_finished : (m : Machine) (s : ℕ) (writes : Bool) (o : Object) → IsProper m → MayEnter m s writes o → o.finished ≡ true
    → (j : ℕ) → IsHeldAside (entered m s writes o) j → IsHeldAside m j
held_before_entered_finished m s writes o proper may done j h = elim (held_before_entered m s writes o proper may j h) [
  | inl new ↦ let un = new.1 in absurd (let both : true ≡ false = sym done ∙ un in cc)
  | inr old ↦ old
]

-- A reader more of an object in use: they are the same.

pub held_reader : (m : Machine) (s i : ℕ) → m.slots s ≡ None → (j : ℕ) → IsHeldAside m j → IsHeldAside (with_reader m s i) j
held_reader m s i free j h = held_along m (with_reader m s i) j (slot_kept m.slots s (use_of i false) j (free_is_none m.slots s j free)) refl h

pub held_before_reader : (m : Machine) (s i : ℕ) → has_slots m i ≡ true → (j : ℕ) → IsHeldAside (with_reader m s i) j → IsHeldAside m j
held_before_reader m s i used j h = elim (cases_eq j i) [
  | inl e ↦ record { slots = ap (has_slots m) e ∙ used; aside = h.aside }
  | inr apart ↦ held_along (with_reader m s i) m j (slot_was m.slots s (use_of i false) j (λ w e. apart (sym (same_use i j false w e).0))) refl h
]

-- A slot is given up: the object of the slot goes where it keeps no other, and the others stay.

held_as_without_slot : (m : Machine) (s : ℕ) (P : Machine → Type 0) → ((t : Machine) → t.slots ≡ with_slot s None m.slots → t.objects ≡ m.objects → P t) → P (released m s)
held_as_without_slot m s P each =
    cond_both (has_slots (without_slot m s) (number_of m s) || (object_of m s).doomed) (without_slot m s) (without_use m s (file_name (object_of m s).version.key)) P
    (λ held. each (without_slot m s) refl refl) (λ free. each (without_use m s (file_name (object_of m s).version.key)) refl refl)

object_along : (m t : Machine) (j : ℕ) → t.objects ≡ m.objects → object t j ≡ object m j
object_along m t j same = ap (λ objects. nth objects j) same

pub held_kept : (m : Machine) (s j : ℕ) → HasSlot (with_slot s None m.slots) j → IsHeldAside m j → IsHeldAside (released m s) j
held_kept m s j left h =
    held_as_without_slot m s (λ t. IsHeldAside t j)
    (λ t slots objects. held_along m t j (λ x. subst (λ f. HasSlot f j) (sym slots) left) (ap is_aside (object_along m t j objects)) h)

pub held_other : (m : Machine) (s j : ℕ) → is_slot m s ≡ true → j ≢ number_of m s → IsHeldAside m j → IsHeldAside (released m s) j
held_other m s j is apart h =
    held_kept m s j (slot_kept m.slots s None j (λ w at. apart (sym (same_use (number_of m s) j (is_writer m s) w (sym (slot_at m s is) ∙ at)).0)) (slot_of m j h.slots)) h

pub held_before_released : (m : Machine) (s j : ℕ) → IsHeldAside (released m s) j → IsHeldAside m j × HasSlot (with_slot s None m.slots) j
held_before_released m s j =
    held_as_without_slot m s (λ t. IsHeldAside t j → IsHeldAside m j × HasSlot (with_slot s None m.slots) j)
    (λ t slots objects h.
    let left = subst (λ f. HasSlot f j) slots (slot_of t j h.slots) in
    (held_along t m j (λ x. slot_was m.slots s None j (none_is_none j) left) (sym (ap is_aside (object_along m t j objects))) h, left))
