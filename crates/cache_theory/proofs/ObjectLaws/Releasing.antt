-- A slot is given up.
use Rattle.std.proofs.Common.{◌≡◌, ◌≢◌, ◌⊎◌, inl, inr, ℕ, ◌<◌, List, length, Bool, true, false, ◌||◌, Some, None, refl, sym, ap, subst, ◌∙◌, arith}
use Rattle.std.specs.Prelude.{if◌then◌else◌}
use Rattle.std.proofs.lemmas.Bool.{cases_Bool, cases_eq, or_cases, or_parts}
use Rattle.cache_base.specs.declared.limits.TheConstants.{SLOTS}
use Rattle.cache_theory.specs.Machine.{Machine, Slot, has_slots, is_slot, is_writer, number_of, object, object_of}
use Rattle.cache_theory.specs.Proper.{IsInUse, IsProper, IsUser}
use Rattle.cache_theory.specs.Step.{released, with_slot}
use Rattle.cache_theory.specs.Table.{get, remove}
use Rattle.cache_theory.proofs.Names.{get-remove_other, get_removed}
use Rattle.cache_theory.proofs.ObjectLaws.Slots.{HasSlot, has_slots_of, none_is_none, same_use, slot_at, slot_kept, slot_of, slot_was, use_of, with_slot_other, with_slot_same}
use Rattle.cache_theory.proofs.ObjectLaws.Slotted.{proper_slotted}
use Rattle.cache_theory.proofs.TableLaws.{remove_is_table}
use Rattle.cache_theory.proofs.ObjectLaws.Users.{undoomed_user, in_use_along, one_name_of, same_number, use_in_use, user_along}
use Rattle.entry_name.specs.EntryName.{file_name}

-- the machine without the slot, and also without the use under a name
abbrev pub without_slot : Machine → ℕ → Machine
without_slot m s = record m { slots = with_slot s None m.slots }

abbrev pub without_use : Machine → ℕ → List ℕ → Machine
without_use m s name = record m { slots = with_slot s None m.slots; in_use = remove m.in_use name }

module _ (m : Machine) (s i : ℕ) (w : Bool) (proper : IsProper m) (at_s : m.slots s ≡ use_of i w) (read_only : (object m i).finished ≡ false → w ≡ false) where
  slot_on : (j : ℕ) → j ≢ i → HasSlot m.slots j → HasSlot (with_slot s None m.slots) j
  slot_on j apart h = slot_kept m.slots s None j (λ v at. apart (sym (same_use i j w v (sym at_s ∙ at)).0)) h

  slot_off : (j : ℕ) → HasSlot (with_slot s None m.slots) j → HasSlot m.slots j
  slot_off j h = slot_was m.slots s None j (none_is_none j) h

  slots_left : (k : ℕ) (slot : Slot) → with_slot s None m.slots k ≡ Some slot → (k < SLOTS) × (slot.object < length m.objects)
  slots_left k slot at = elim (cases_eq k s) [
    | inl e ↦ absurd (let none : None ≡ Some slot = sym (with_slot_same m.slots s k None e) ∙ at in cc)
    | inr apart ↦ proper.slots k slot (sym (with_slot_other m.slots s k None apart) ∙ at)
  ]

  -- the writer of an object that is being written stays
  writer_left : (j : ℕ) → IsInUse m j → (object m j).finished ≡ false → (k : ℕ) × (with_slot s None m.slots k ≡ use_of j true)
  writer_left j u un =
      let old = proper.writer j u un in
      let apart : old.0 ≢ s = λ e.
      let same = same_use j i true w (sym old.1 ∙ ap m.slots e ∙ at_s) in
      let reads : w ≡ false = read_only (ap (λ k. (object m k).finished) (sym same.0) ∙ un) in
      let writes = same.1 in cc
      in
      (old.0, with_slot_other m.slots s old.0 None apart ∙ old.1)

  -- and so an object that keeps no slot is finished
  pub last_is_finished : has_slots (without_slot m s) i ≡ false → (object m i).finished ≡ true
  last_is_finished no_slot = elim (cases_Bool (object m i).finished) [
    | inl done ↦ done
    | inr un ↦
        let left = writer_left i (use_in_use m proper s i w at_s) un in
        let limits = slots_left left.0 (record { object = i; writes = true }) left.1 in
        let some = has_slots_of (without_slot m s) i (record { slot = left.0; small = limits.0; writes = true; at = left.1 }) in
        absurd (cc)
  ]

  -- The object is doomed, or has another slot.
  module _ (kept : ((object m i).doomed ≡ true) ⊎ HasSlot (with_slot s None m.slots) i) where
    still : (q : List ℕ) (j : ℕ) → IsUser m q j → HasSlot (with_slot s None m.slots) j
    still q j u = elim (cases_eq j i) [
      | inl e ↦ elim kept [
        | inl doomed ↦ absurd (let never = sym doomed ∙ ap (λ k. (object m k).doomed) (sym e) ∙ u.undoomed in cc)
        | inr h ↦ subst (HasSlot (with_slot s None m.slots)) (sym e) h
      ]
      | inr apart ↦ slot_on j apart (slot_of m j u.in_use.slots)
    ]

    proper_kept : IsProper (without_slot m s)
    proper_kept = proper_slotted m m.moment (with_slot s None m.slots) proper proper.moment (record { limits = slots_left; kept = still; had = slot_off; writer = writer_left })

  -- The object is undoomed, and has no other slot.
  module _ (undoomed : (object m i).doomed ≡ false) (no_slot : has_slots (without_slot m s) i ≡ false) where
    abbrev name : List ℕ
    name = file_name (object m i).version.key

    at_name : get m.in_use name ≡ Some i
    at_name = undoomed_user m proper i (use_in_use m proper s i w at_s) undoomed

    last_use_off : (j : ℕ) → IsInUse (without_use m s name) j → IsInUse m j
    last_use_off j u = in_use_along (without_use m s name) m j (omega arith) (slot_off j) u

    unused : (j : ℕ) → IsInUse (without_use m s name) j → j ≢ i
    unused j u e =
        let some = has_slots_of (without_slot m s) i (subst (HasSlot (with_slot s None m.slots)) e (slot_of (without_use m s name) j u.slots)) in
        cc

    proper_unused : IsProper (without_use m s name)
    proper_unused = record {
      moment = proper.moment;
      shelf = proper.shelf;
      users = remove_is_table m.in_use name proper.users;
      contents = proper.contents;
      objects = proper.objects;
      slots = slots_left;
      user = λ q j at.
          let old = get_removed m.in_use name q j at in
          let apart : j ≢ i = λ e. old.0 (one_name_of m proper name q i at_name (old.1 ∙ ap (λ k. Some k) e)) in
          user_along m (without_use m s name) q j (λ v. in_use_along m (without_use m s name) j (omega arith) (slot_on j apart) v) refl refl (proper.user q j old.1);
      only_user = λ q j u.
          let old = proper.only_user q j (user_along (without_use m s name) m q j (last_use_off j) refl refl u) in
          get-remove_other m.in_use name q (λ e. unused j u.in_use (same_number j i (sym old ∙ ap (λ n. get m.in_use n) (sym e) ∙ at_name))) ∙ old;
      stored = λ q j at done. proper.stored q j (get_removed m.in_use name q j at).1 done;
      unstored = λ q j at un. proper.unstored q j (get_removed m.in_use name q j at).1 un;
      writer = λ j u un. writer_left j (last_use_off j u) un;
    }

pub proper_released : (m : Machine) (s : ℕ) → IsProper m → is_slot m s ≡ true → ((object_of m s).finished ≡ false → is_writer m s ≡ false) → IsProper (released m s)
proper_released m s proper is read_only = elim (cases_Bool (has_slots (without_slot m s) (number_of m s) || (object_of m s).doomed)) [
  | inl held ↦ subst IsProper (sym (ap goes held)) (proper_kept m s (number_of m s) (is_writer m s) proper (slot_at m s is) read_only (elim (or_cases (has_slots (without_slot m s) (number_of m s)) (object_of m s).doomed held) [
    | inl some ↦ inr (slot_of (without_slot m s) (number_of m s) some)
    | inr doomed ↦ inl doomed
  ]))
  | inr free ↦
      let parts = or_parts (has_slots (without_slot m s) (number_of m s)) (object_of m s).doomed free in
      subst IsProper (sym (ap goes free)) (proper_unused m s (number_of m s) (is_writer m s) proper (slot_at m s is) read_only parts.1 parts.0)
]
  where
    goes : Bool → Machine
    goes b = if b then without_slot m s else without_use m s (file_name (object_of m s).version.key)
