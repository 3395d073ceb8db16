-- What the handles and the disk stand for, where a slot is given up.
use Rattle.std.proofs.Common.{◌≡◌, ◌≢◌, ℕ, ◌<◌, List, length, true, false, Option, Some, None, IsSome, refl, sym, ap, subst, ◌∙◌, arith, Bool, IsTrue}
use Rattle.std.specs.List.{All}
use Rattle.std.specs.Prelude.{slice_get, slice_set}
use Rattle.cache_base.specs.declared.limits.TheConstants.{SLOTS}
use Rattle.cache_theory.specs.Crash.{IsCrashKept, IsSafe, WasUnder}
use Rattle.cache_theory.specs.Ever.{EverAt, IsFiledOnce, entries, entry_place}
use Rattle.cache_theory.specs.Machine.{Machine, Object as MachineObject, Slot, is_slot, is_writer, object, object_of}
use Rattle.cache_theory.specs.Marks.{Marks}
use Rattle.cache_theory.specs.Proper.{IsInUse}
use Rattle.cache_theory.specs.Stands.{AsideStand, HasObjectFile, IsHeldAside}
use Rattle.cache_theory.specs.Step.{released, with_slot}
use Rattle.cache_theory.proofs.EntryFiles.{entry_released}
use Rattle.cache_theory.proofs.ObjectLaws.HeldAside.{held_before_released, held_kept}
use Rattle.cache_theory.proofs.ObjectLaws.Objects.{nth}
use Rattle.cache_theory.proofs.ObjectLaws.Releasing.{proper_released}
use Rattle.cache_theory.proofs.ObjectLaws.Slots.{HasSlot}
use Rattle.cache_theory.proofs.ObjectLaws.Users.{in_use_along}
use Rattle.chunk_cache.specs.Cached.{CachedChunk}
use Rattle.disk_theory.specs.State.{State, names_now, standing}
use Rattle.disk_theory.specs.declared.place.Place.TheVariants.{Doomed}
use Rattle.file_handles.specs.Cache.{cache_at}
use Rattle.handle_table.specs.Held.{IsHeldAs}
use Rattle.handle_table.specs.HeldChunks.{IsChunkInUse}
use Rattle.handle_table.specs.Kept.{Kept, object_at, use_at}
use Rattle.handle_table.specs.Standing.{HandlesStand}
use Rattle.file_handles.specs.Stands.{IsAt, KeepsWhere}
use Rattle.handle_table.specs.declared.object.Object.{Object}
use Rattle.handle_table.specs.declared.object.Use.{Use}
use Rattle.file_handles.proofs.Setting.ElementSlots.{slot_is}
use Rattle.file_handles.proofs.Reading.HeldChunkLaws.{all_on}
use Rattle.file_handles.proofs.Histories.{history_of}
use Rattle.handle_table.proofs.Released.{left_at, left_has, released_objects, released_slots, some_object, use_was}

-- the handles with these objects, without the slot
abbrev pub left_with : Kept → ℕ → List (Option Object) → List CachedChunk → Kept
left_with k s objects chunks = record { objects = objects; slots = slice_set k.slots s None; made = k.made; chunks = chunks }

-- which objects and files are left, by the slots that are left
pub record LeavesFor (m : Machine) (number : ℕ → ℕ) (k : Kept) (slots : ℕ → Option Slot) (after : Kept) (before now : State) : Type 0 where
  pub was : (q : ℕ) (x : Object) → object_at after q ≡ Some x → object_at k q ≡ Some x
  pub stays : (q : ℕ) (x : Object) → object_at k q ≡ Some x → HasSlot slots (number q) → object_at after q ≡ Some x
  pub has : (q : ℕ) (x : Object) → object_at after q ≡ Some x → HasSlot slots (number q)
  -- and each chunk that is held is of one of these objects
  pub same_made : after.made ≡ k.made
  pub chunks : All (IsChunkInUse k m) k.chunks → All (IsChunkInUse after m) after.chunks
  -- the files of the entries, and those that stand aside of objects that keep a slot, are as before, and no other
  -- file stands aside
  pub same_entries : (name : List ℕ) → entries (standing now) name ≡ entries (standing before) name
  pub same_doomed : (d i : ℕ) → IsAt k number d i → HasSlot slots i → standing now (Doomed d) ≡ standing before (Doomed d)
  pub was_doomed : (d : ℕ) → standing now (Doomed d) ≢ None → standing before (Doomed d) ≢ None
  pub held : (d i : ℕ) → IsAt k number d i → IsHeldAside m i → standing now (Doomed d) ≢ None → HasSlot slots i
  -- and no name was given
  pub safe : (w : Marks) → IsSafe before w → IsSafe now w
  pub once : IsFiledOnce before → IsFiledOnce now
  pub named : (d file : ℕ) → names_now now (Doomed d) ≡ Some file → names_now before (Doomed d) ≡ Some file
  pub ever : (name : List ℕ) (file : ℕ) → EverAt now (entry_place name) file → EverAt before (entry_place name) file

module _
    {b : Bool}
    (s t : State)
    (k : Kept)
    (m : Machine)
    (w : Marks)
    (is : KeepsWhere b (cache_at k s) (history_of m w))
    (slot : ℕ)
    (u : Use)
    (at_slot : use_at k slot ≡ Some u)
    (small : slot < SLOTS)
    (room : length k.slots ≡ SLOTS)
    (reads : (object_of m slot).finished ≡ false → is_writer m slot ≡ false)
    (objects : List (Option Object))
    (chunks : List CachedChunk)
    (leaves : LeavesFor m is.number k (with_slot slot None m.slots) (left_with k slot objects chunks) s t) where
  stand : HandlesStand k m is.number
  stand = is.stands.handles

  has_slot : is_slot m slot ≡ true
  has_slot = slot_is k m is.number stand slot small u at_slot

  same_object : (i : ℕ) → object (released m slot) i ≡ object m i
  same_object i = ap (λ (objects : List MachineObject). nth objects i) (released_objects m slot)

  in_use : (i : ℕ) → HasSlot (with_slot slot None m.slots) i → IsInUse m i → IsInUse (released m slot) i
  in_use i has used = in_use_along m (released m slot) i (let same = ap (λ (objects : List MachineObject). length objects) (released_objects m slot) in omega (arith, same))
      (λ h. subst (λ slots. HasSlot slots i) (sym (released_slots m slot)) has) used

  handles : HandlesStand (left_with k slot objects chunks) (released m slot) is.number
  handles = record {
    slots = λ r lt. ap (λ slots. slots r) (released_slots m slot) ∙ left_at m is.number k stand slot u at_slot room r lt;
    used = λ r v at.
        let there = some_object (object_at k v.place) (stand.used r v (use_was m is.number k stand slot u at_slot room r v at)) in
        subst IsSome (sym (leaves.stays v.place there.0 there.1 (left_has m is.number k stand slot u at_slot room r v at))) refl;
    objects = λ q x at.
        let old = stand.objects q x (leaves.was q x at) in
        record { in_use = in_use (is.number q) (leaves.has q x at) old.in_use; as_held = subst (IsHeldAs x) (sym (same_object (is.number q))) old.as_held };
    apart = λ p q x y at_p at_q same. stand.apart p q x y (leaves.was p x at_p) (leaves.was q y at_q) same;
    chunks = record {
      numbered = λ q x at. stand.chunks.numbered q x (leaves.was q x at);
      made = leaves.same_made ∙ stand.chunks.made ∙ ap (λ (objects : List MachineObject). length objects) (sym (released_objects m slot));
      held = all_on (left_with k slot objects chunks) (left_with k slot objects chunks) m (released m slot) chunks (λ q y at. at) same_object (leaves.chunks stand.chunks.held);
    };
  }

  was_at : (d i : ℕ) → IsAt (left_with k slot objects chunks) is.number d i → IsAt k is.number d i
  was_at d i a = record { place = a.place; object = a.object; at_place = leaves.was a.place a.object a.at_place; set_aside = a.set_aside; numbered = a.numbered }

  still_at : (d i : ℕ) → HasSlot (with_slot slot None m.slots) i → IsAt k is.number d i → IsAt (left_with k slot objects chunks) is.number d i
  still_at d i has a = record {
    place = a.place;
    object = a.object;
    at_place = leaves.stays a.place a.object a.at_place (subst (HasSlot (with_slot slot None m.slots)) (sym a.numbered) has);
    set_aside = a.set_aside;
    numbered = a.numbered;
  }

  aside_stand : AsideStand (standing t) (released m slot) (IsAt (left_with k slot objects chunks) is.number)
  aside_stand = record {
    held = λ i h.
        let before = held_before_released m slot i h in
        let old = is.stands.aside.held i before.0 in (
          old.0,
          (
            still_at old.0 i before.1 old.1.0,
            subst (HasObjectFile (object (released m slot) i)) (sym (leaves.same_doomed old.0 i old.1.0 before.1))
                (subst (λ o. HasObjectFile o (standing s (Doomed old.0))) (sym (same_object i)) old.1.1),
          ),
        );
    only = λ d some.
        let old = is.stands.aside.only d (leaves.was_doomed d some) in
        let has = leaves.held d old.0 old.1.0 old.1.1 some in
        (old.0, (still_at d old.0 has old.1.0, held_kept m slot old.0 has old.1.1));
    one_object = λ d i j a b. is.stands.aside.one_object d i j (was_at d i a) (was_at d j b);
    one_number = λ d e i a b. is.stands.aside.one_number d e i (was_at d i a) (was_at e i b);
  }

  crash_kept : IsTrue b → IsCrashKept t (released m slot) w (IsAt (left_with k slot objects chunks) is.number)
  crash_kept on = record {
    safe = leaves.safe w (is.crash_kept on).safe;
    once = leaves.once (is.crash_kept on).once;
    aside = λ d i file name a held now ever.
        subst (λ o. WasUnder w i o name) (sym (same_object i))
        ((is.crash_kept on).aside d i file name (was_at d i a) (held_before_released m slot i held).0 (leaves.named d file now) (leaves.ever name file ever));
    unburied = λ i o at un. (is.crash_kept on).unburied i o (ap (λ (objects : List MachineObject). slice_get objects i) (sym (released_objects m slot)) ∙ at) un;
    young = let same = ap (λ (objects : List MachineObject). length objects) (released_objects m slot) in let young = (is.crash_kept on).young in omega (arith, same, young);
  }

  pub left_in : KeepsWhere b (cache_at (left_with k slot objects chunks) t) (history_of (released m slot) w)
  left_in = record {
    number = is.number;
    stands = record {
      proper = proper_released m slot is.stands.proper has_slot reads;
      handles = handles;
      entries = λ name. leaves.same_entries name ∙ is.stands.entries name ∙ sym (entry_released m slot name);
      aside = aside_stand;
    };
    crash_kept = crash_kept;
  }
