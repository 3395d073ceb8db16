-- A new object, and a reader more of one in use.
use Rattle.std.proofs.Common.{◌≡◌, ◌≢◌, ◌⊎◌, inl, inr, ℕ, ◌<◌, List, [], ◌∷◌, ◌++◌, length, Bool, true, false, Some, None, refl, sym, ap, subst, ◌∙◌, arith}
use Rattle.std.specs.Prelude.{IsSomeAnd}
use Rattle.std.proofs.lemmas.Bool.{cases_eq}
use Rattle.cache_base.specs.declared.limits.TheConstants.{SLOTS}
use Rattle.cache_theory.specs.Machine.{Machine, Object, Slot, number_of, object, object_of}
use Rattle.cache_theory.specs.Proper.{IsInUse, IsObject, IsProper, IsUser}
use Rattle.cache_theory.specs.Step.{entered, with_slot}
use Rattle.cache_theory.specs.Table.{get, insert}
use Rattle.cache_theory.proofs.Names.{get-insert_other, get-insert_same, one_name}
use Rattle.cache_theory.proofs.ObjectLaws.Objects.{length_more, nth-append_new, nth-append_old, objects_more}
use Rattle.cache_theory.proofs.ObjectLaws.Slots.{HasSlot, free_is_none, has_slots_of, number_is, same_use, slot_kept, slot_of, slot_was, use_of, with_slot_other, with_slot_same}
use Rattle.cache_theory.proofs.ObjectLaws.Slotted.{proper_slotted}
use Rattle.cache_theory.proofs.TableLaws.{insert_is_table}
use Rattle.cache_theory.proofs.ObjectLaws.Users.{has_along, in_use_along, same_number, user_along}
use Rattle.entry_file.specs.Version.{IsFileOf}
use Rattle.entry_name.specs.EntryName.{file_name}

-- the object o may enter by the slot, as its writer or as a reader
pub record MayEnter (m : Machine) (s : ℕ) (writes : Bool) (o : Object) : Type 0 where
  pub small : s < SLOTS
  pub free : m.slots s ≡ None
  pub is : IsObject o
  pub undoomed : o.doomed ≡ false
  pub unused : get m.in_use (file_name o.version.key) ≡ None
  pub stored : o.finished ≡ true → IsSomeAnd (get m.shelf (file_name o.version.key)) (IsFileOf o.version)
  pub unstored : o.finished ≡ false → get m.shelf (file_name o.version.key) ≡ None
  pub writer : o.finished ≡ false → writes ≡ true

module _ (m : Machine) (s : ℕ) (writes : Bool) (o : Object) (proper : IsProper m) (may : MayEnter m s writes o) where
  pub entered_here : (j : ℕ) → j ≡ length m.objects → object (entered m s writes o) j ≡ o
  entered_here j e = nth-append_new m.objects o j e

  pub entered_there : (j : ℕ) → j < length m.objects → object (entered m s writes o) j ≡ object m j
  entered_there j lt = nth-append_old m.objects o j lt

  use_on : (j : ℕ) → IsInUse m j → IsInUse (entered m s writes o) j
  use_on j u = in_use_along m (entered m s writes o) j (let l = length_more m.objects o in omega (arith, l)) (slot_kept m.slots s (use_of (length m.objects) writes) j (free_is_none m.slots s j may.free)) u

  use_off : (j : ℕ) → j ≢ length m.objects → IsInUse (entered m s writes o) j → IsInUse m j
  use_off j apart u =
      let lt = u.number in
      let l = length_more m.objects o in
      let was : HasSlot m.slots j = slot_was m.slots s (use_of (length m.objects) writes) j (λ w e. apart (sym (same_use (length m.objects) j writes w e).0)) (slot_of (entered m s writes o) j u.slots) in
      record { number = omega (arith, lt, l, apart); slots = has_slots_of m j was }

  new_in_use : IsInUse (entered m s writes o) (length m.objects)
  new_in_use = record {
    number = (let l = length_more m.objects o in omega (arith, l));
    slots = has_slots_of (entered m s writes o) (length m.objects) (record { slot = s; small = may.small; writes = writes; at = with_slot_same m.slots s s (use_of (length m.objects) writes) refl });
  }

  -- who is in use afterwards
  who : (q : List ℕ) (j : ℕ) → get (insert m.in_use (file_name o.version.key) (length m.objects)) q ≡ Some j → ((q ≡ file_name o.version.key) × (j ≡ length m.objects)) ⊎ ((q ≢ file_name o.version.key) × (get m.in_use q ≡ Some j))
  who q j at = elim (one_name q (file_name o.version.key)) [
    | inl e ↦ inl (e, same_number j (length m.objects) (sym at ∙ get-insert_same m.in_use (file_name o.version.key) (length m.objects) q e))
    | inr apart ↦ inr (apart, sym (get-insert_other m.in_use (file_name o.version.key) (length m.objects) q apart) ∙ at)
  ]

  old_object : (q : List ℕ) (j : ℕ) → get m.in_use q ≡ Some j → object (entered m s writes o) j ≡ object m j
  old_object q j at = entered_there j (proper.user q j at).in_use.number

  user_after : (q : List ℕ) (j : ℕ) → get (insert m.in_use (file_name o.version.key) (length m.objects)) q ≡ Some j → IsUser (entered m s writes o) q j
  user_after q j at = elim (who q j at) [
    | inl new ↦
        let same = entered_here j new.1 in
        record {
          in_use = subst (IsInUse (entered m s writes o)) (sym new.1) new_in_use;
          undoomed = ap (λ (x : Object). x.doomed) same ∙ may.undoomed;
          named = ap (λ (x : Object). file_name x.version.key) same ∙ sym new.0;
        }
    | inr old ↦
        let same = old_object q j old.1 in
        user_along m (entered m s writes o) q j (use_on j) (ap (λ (x : Object). x.doomed) same) (ap (λ (x : Object). x.version.key) same) (proper.user q j old.1)
  ]

  only_after : (q : List ℕ) (j : ℕ) → IsUser (entered m s writes o) q j → get (insert m.in_use (file_name o.version.key) (length m.objects)) q ≡ Some j
  only_after q j u = elim (cases_eq j (length m.objects)) [
    | inl e ↦
        let named : q ≡ file_name o.version.key = sym u.named ∙ ap (λ (x : Object). file_name x.version.key) (entered_here j e) in
        get-insert_same m.in_use (file_name o.version.key) (length m.objects) q named ∙ ap (λ k. Some k) (sym e)
    | inr apart ↦
        let used = use_off j apart u.in_use in
        let same = entered_there j used.number in
        let old = proper.only_user q j (user_along (entered m s writes o) m q j (use_off j apart) (sym (ap (λ (x : Object). x.doomed) same)) (sym (ap (λ (x : Object). x.version.key) same)) u) in
        get-insert_other m.in_use (file_name o.version.key) (length m.objects) q (λ e. let never = sym old ∙ ap (λ k. get m.in_use k) e ∙ may.unused in absurd (cc)) ∙ old
  ]

  stored_after : (q : List ℕ) (j : ℕ) → get (insert m.in_use (file_name o.version.key) (length m.objects)) q ≡ Some j → (object (entered m s writes o) j).finished ≡ true
      → IsSomeAnd (get m.shelf q) (IsFileOf (object (entered m s writes o) j).version)
  stored_after q j at done = elim (who q j at) [
    | inl new ↦
        let same = entered_here j new.1 in
        has_along (ap (λ k. get m.shelf k) (sym new.0)) (sym same) (may.stored (sym (ap (λ (x : Object). x.finished) same) ∙ done))
    | inr old ↦
        let same = old_object q j old.1 in
        has_along refl (sym same) (proper.stored q j old.1 (sym (ap (λ (x : Object). x.finished) same) ∙ done))
  ]

  unstored_after : (q : List ℕ) (j : ℕ) → get (insert m.in_use (file_name o.version.key) (length m.objects)) q ≡ Some j → (object (entered m s writes o) j).finished ≡ false → get m.shelf q ≡ None
  unstored_after q j at un = elim (who q j at) [
    | inl new ↦ ap (λ k. get m.shelf k) new.0 ∙ may.unstored (sym (ap (λ (x : Object). x.finished) (entered_here j new.1)) ∙ un)
    | inr old ↦ proper.unstored q j old.1 (sym (ap (λ (x : Object). x.finished) (old_object q j old.1)) ∙ un)
  ]

  writer_after : (j : ℕ) → IsInUse (entered m s writes o) j → (object (entered m s writes o) j).finished ≡ false → (k : ℕ) × ((entered m s writes o).slots k ≡ use_of j true)
  writer_after j u un = elim (cases_eq j (length m.objects)) [
    | inl e ↦
        let w = may.writer (sym (ap (λ (x : Object). x.finished) (entered_here j e)) ∙ un) in
        (s, with_slot_same m.slots s s (use_of (length m.objects) writes) refl ∙ (λ k. use_of (sym e k) (w k)))
    | inr apart ↦
        let used = use_off j apart u in
        let old = proper.writer j used (sym (ap (λ (x : Object). x.finished) (entered_there j used.number)) ∙ un) in
        (old.0, with_slot_other m.slots s old.0 (use_of (length m.objects) writes) (λ e. free_is_none m.slots s j may.free true (ap m.slots (sym e) ∙ old.1)) ∙ old.1)
  ]

  slots_after : (k : ℕ) (slot : Slot) → (entered m s writes o).slots k ≡ Some slot → (k < SLOTS) × (slot.object < length (m.objects ++ o ∷ []))
  slots_after k slot at =
      let l = length_more m.objects o in
      elim (cases_eq k s) [
        | inl e ↦
            let is : use_of (length m.objects) writes ≡ Some slot = sym (with_slot_same m.slots s k (use_of (length m.objects) writes) e) ∙ at in
            let same : ◌≡◌ {A = Slot} (record { object = length m.objects; writes = writes }) slot = cc in
            let number = ap (λ (x : Slot). x.object) same in
            (subst (λ k. k < SLOTS) (sym e) may.small, omega (arith, l, number))
        | inr apart ↦
            let limits = proper.slots k slot (sym (with_slot_other m.slots s k (use_of (length m.objects) writes) apart) ∙ at) in
            (limits.0, (let lt = limits.1 in omega (arith, lt, l)))
      ]

  pub proper_entered : IsProper (entered m s writes o)
  proper_entered = record {
    moment = proper.moment;
    shelf = proper.shelf;
    users = insert_is_table m.in_use (file_name o.version.key) (length m.objects) proper.users;
    contents = proper.contents;
    objects = objects_more m.objects o proper.objects may.is;
    slots = slots_after;
    user = user_after;
    only_user = only_after;
    stored = stored_after;
    unstored = unstored_after;
    writer = writer_after;
  }

-- the slot has the new object
pub number_entered : (m : Machine) (s : ℕ) (writes : Bool) (o : Object) → number_of (entered m s writes o) s ≡ length m.objects
number_entered m s writes o = number_is (entered m s writes o) s (length m.objects) writes (with_slot_same m.slots s s (use_of (length m.objects) writes) refl)

pub object_of_entered : (m : Machine) (s : ℕ) (writes : Bool) (o : Object) → object_of (entered m s writes o) s ≡ o
object_of_entered m s writes o = nth-append_new m.objects o (number_of (entered m s writes o) s) (number_entered m s writes o)

-- A reader more.

abbrev pub with_reader : Machine → ℕ → ℕ → Machine
with_reader m s i = record m { slots = with_slot s (use_of i false) m.slots }

module _ (m : Machine) (s i : ℕ) (proper : IsProper m) (small : s < SLOTS) (free : m.slots s ≡ None) (used : IsInUse m i) where
  reader_limits : (k : ℕ) (slot : Slot) → with_slot s (use_of i false) m.slots k ≡ Some slot → (k < SLOTS) × (slot.object < length m.objects)
  reader_limits k slot at = elim (cases_eq k s) [
    | inl e ↦
        let is : use_of i false ≡ Some slot = sym (with_slot_same m.slots s k (use_of i false) e) ∙ at in
        let same : ◌≡◌ {A = Slot} (record { object = i; writes = false }) slot = cc in
        (subst (λ k. k < SLOTS) (sym e) small, subst (λ n. n < length m.objects) (ap (λ (x : Slot). x.object) same) used.number)
    | inr apart ↦ proper.slots k slot (sym (with_slot_other m.slots s k (use_of i false) apart) ∙ at)
  ]

  reader_had : (j : ℕ) → HasSlot (with_slot s (use_of i false) m.slots) j → HasSlot m.slots j
  reader_had j h = elim (cases_eq j i) [
    | inl e ↦ subst (HasSlot m.slots) (sym e) (slot_of m i used.slots)
    | inr apart ↦ slot_was m.slots s (use_of i false) j (λ w e. apart (sym (same_use i j false w e).0)) h
  ]

  reader_writer : (j : ℕ) → IsInUse m j → (object m j).finished ≡ false → (k : ℕ) × (with_slot s (use_of i false) m.slots k ≡ use_of j true)
  reader_writer j u un =
      let old = proper.writer j u un in
      (old.0, with_slot_other m.slots s old.0 (use_of i false) (λ e. free_is_none m.slots s j free true (ap m.slots (sym e) ∙ old.1)) ∙ old.1)

  pub proper_reader : IsProper (with_reader m s i)
  proper_reader = proper_slotted m m.moment (with_slot s (use_of i false) m.slots) proper proper.moment (record {
    limits = reader_limits;
    kept = λ name j u. slot_kept m.slots s (use_of i false) j (free_is_none m.slots s j free) (slot_of m j u.in_use.slots);
    had = reader_had;
    writer = reader_writer;
  })
