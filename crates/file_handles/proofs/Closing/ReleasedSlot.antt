-- A slot of the handles is given up, and its object where no other slot has it.
use Rattle.std.proofs.Common.{◌≡◌, ◌≢◌, inl, inr, ℕ, ◌<◌, List, length, true, false, Option, Some, None, Result, Ok, Err, refl, sym, ap, subst, ◌∙◌, Bool}
use Rattle.std.specs.Prelude.{Contains, OnOk, option_map, slice_set}
use Rattle.std.specs.List.{All, list_any}
use Rattle.std.proofs.lemmas.Bool.{cases_eq}
use Rattle.std.proofs.lemmas.List.Elements.{All-contains, All-contains_itself, All-weaker}
use Rattle.cache_base.specs.declared.limits.TheConstants.{SLOTS}
use Rattle.cache_theory.specs.Crash.{IsSafe}
use Rattle.cache_theory.specs.Ever.{EverAt, IsFiledOnce, entries, entry_place}
use Rattle.cache_theory.specs.Machine.{Machine, is_writer, object_of}
use Rattle.cache_theory.specs.Marks.{Marks}
use Rattle.cache_theory.specs.Stands.{IsHeldAside}
use Rattle.cache_theory.specs.Step.{released, with_slot}
use Rattle.cache_theory.proofs.CrashImages.DiskChanges.{remove_keeps}
use Rattle.cache_theory.proofs.CrashImages.EverSteps.{ever_removed}
use Rattle.cache_theory.proofs.CrashImages.FiledOnce.{remove_files_once}
use Rattle.cache_theory.proofs.ObjectLaws.Slots.{HasSlot, slot_of}
use Rattle.chunk_cache.specs.Cached.{CachedChunk, without_entry}
use Rattle.chunk_cache.proofs.Properties.{forget_adds_none}
use Rattle.disk_theory.specs.Calls.{if_done}
use Rattle.disk_theory.specs.State.{State, names_now, removed, standing}
use Rattle.disk_theory.specs.declared.disk.DiskFault.{DiskFault}
use Rattle.disk_theory.specs.declared.disk.DiskFault.TheVariants.{Failed, Memory}
use Rattle.disk_theory.specs.declared.place.Place.TheVariants.{Doomed}
use Rattle.disk_theory.proofs.Sound.{found}
use Rattle.disk_theory.proofs.Standing.{removed_puts}
use Rattle.file_handles.specs.Cache.{cache_at}
use Rattle.file_handles.specs.Closing.{let_go_by, without_doomed}
use Rattle.handle_table.specs.Seats.{is_use_of}
use Rattle.handle_table.specs.HeldChunks.{IsChunkInUse}
use Rattle.handle_table.specs.Kept.{Kept, object_at, use_at, with_object, with_use, without_chunks}
use Rattle.handle_table.specs.Standing.{HandlesStand}
use Rattle.file_handles.specs.Stands.{IsAt, KeepsWhere}
use Rattle.handle_table.specs.declared.object.Object.{Object}
use Rattle.handle_table.specs.declared.object.Use.{Use}
use Rattle.file_handles.proofs.Reading.HeldChunkLaws.{all_on, chunk_on, keeps_own}
use Rattle.file_handles.proofs.Histories.{history_of}
use Rattle.handle_table.proofs.KeptLaws.{object_set_here, object_set_other, place_within}
use Rattle.file_handles.proofs.Places.{aside_at}
use Rattle.handle_table.proofs.Released.{no_other, other_left, other_use, use_placed}
use Rattle.file_handles.proofs.Closing.ReleasedFiles.{LeavesFor, left_in}

-- the file of this number among the doomed is removed
pub safe_without : (s : State) (w : Marks) (d : ℕ) → IsSafe s w → IsSafe (removed (Doomed d) s) w
safe_without s w d safe = remove_keeps s w (Doomed d) (λ name same. absurd (cc)) safe

pub safe_let_go : (s : State) (w : Marks) (n : Option ℕ) → IsSafe s w → IsSafe (without_doomed n s) w
safe_let_go s w None safe = safe
safe_let_go s w (Some d) safe = safe_without s w d safe

-- and the same after a call that may have failed
pub safe_may_go : {T : Type 0} (r : Result T DiskFault) (s t : State) (w : Marks) (x : Object) → t ≡ if_done r (let_go_by x s) s → IsSafe s w → IsSafe t w
safe_may_go (Ok value) s t w x is safe = subst (λ (u : State). IsSafe u w) (sym is) (safe_let_go s w x.aside safe)
safe_may_go (Err Failed) s t w x is safe = subst (λ (u : State). IsSafe u w) (sym is) (safe_let_go s w x.aside safe)
safe_may_go (Err Memory) s t w x is safe = subst (λ (u : State). IsSafe u w) (sym is) safe

other_doomed : (d e : ℕ) → d ≢ e → Doomed d ≢ Doomed e
other_doomed d e apart same = apart cc

module _
    {b : Bool}
    (s : State)
    (k : Kept)
    (m : Machine)
    (w : Marks)
    (is : KeepsWhere b (cache_at k s) (history_of m w))
    (slot : ℕ)
    (u : Use)
    (at_slot : use_at k slot ≡ Some u)
    (small : slot < SLOTS)
    (room : length k.slots ≡ SLOTS)
    (reads : (object_of m slot).finished ≡ false → is_writer m slot ≡ false) where
  stand : HandlesStand k m is.number
  stand = is.stands.handles

  -- Another slot has the object.
  pub shared_in : list_any (is_use_of u.place) (with_use k slot None).slots ≡ true → KeepsWhere b (cache_at (with_use k slot None) s) (history_of (released m slot) w)
  shared_in any = left_in s s k m w is slot u at_slot small room reads k.objects k.chunks (record {
    was = λ q x at. at;
    stays = λ q x at has. at;
    has = λ q x at. kept (is.number q) (slot_of m (is.number q) (stand.objects q x at).in_use.slots);
    same_made = refl;
    chunks = all_on k (with_use k slot None) m m k.chunks (λ q y at. at) (λ i. refl);
    same_entries = λ name. refl;
    same_doomed = λ d i a has. refl;
    was_doomed = λ d some. some;
    held = λ d i a h some. kept i (slot_of m i h.slots);
    safe = λ w safe. safe;
    once = λ once. once;
    named = λ d file now. now;
    ever = λ name file ever. ever;
  })
    where
      kept : (i : ℕ) → HasSlot m.slots i → HasSlot (with_slot slot None m.slots) i
      kept i has = elim (cases_eq i (is.number u.place)) [
        | inl same ↦ subst (HasSlot (with_slot slot None m.slots)) (sym same) (other_use m is.number k stand slot u at_slot room any)
        | inr apart ↦ other_left m is.number k stand slot u at_slot room i apart has
      ]

  -- No other slot has it.
  module _ (none : list_any (is_use_of u.place) (with_use k slot None).slots ≡ false) (x : Object) (at : object_at k u.place ≡ Some x) where
    gone : HasSlot (with_slot slot None m.slots) (is.number u.place) → ⊥
    gone = no_other m is.number k stand slot u at_slot room none

    was : (q : ℕ) (y : Object) → object_at (with_object (with_use k slot None) u.place None) q ≡ Some y → (q ≢ u.place) × (object_at k q ≡ Some y)
    was q y at_q = elim (cases_eq q u.place) [
      | inl same ↦ absurd (let never : None ≡ Some y = sym (object_set_here k u.place q None (place_within k u.place x at) same) ∙ at_q in cc)
      | inr apart ↦ (apart, sym (object_set_other k u.place q None apart) ∙ at_q)
    ]

    other : (i : ℕ) → i ≢ is.number u.place → HasSlot m.slots i → HasSlot (with_slot slot None m.slots) i
    other i apart has = other_left m is.number k stand slot u at_slot room i apart has

    -- the number of its file, if that stands aside
    own_number : (d : ℕ) → IsAt k is.number d (is.number u.place) → x.aside ≡ Some d
    own_number d a =
        let same : a.place ≡ u.place = stand.apart a.place u.place a.object x a.at_place at a.numbered in
        let both : Some a.object ≡ Some x = sym a.at_place ∙ ap (object_at k) same ∙ at in
        let one : a.object ≡ x = cc in
        sym (ap (λ (y : Object). y.aside) one) ∙ a.set_aside

    other_number : (d n i : ℕ) → x.aside ≡ Some n → IsAt k is.number d i → HasSlot (with_slot slot None m.slots) i → Doomed d ≢ Doomed n
    other_number d n i e a has = other_doomed d n (λ same. gone (subst (HasSlot (with_slot slot None m.slots))
        (is.stands.aside.one_object d i (is.number u.place) a (aside_at s k m is.number is.stands u.place x at d (e ∙ ap Some (sym same)))) has))

    abbrev left : Kept
    left = without_chunks (with_object (with_use k slot None) u.place None) x.number

    -- a chunk of another object stays
    chunk_left : (c : CachedChunk) → c.entry ≢ x.number → IsChunkInUse k m c → IsChunkInUse left m c
    chunk_left c other own =
        let apart : own.place ≢ u.place =
        λ same.
        let both : Some own.object ≡ Some x = sym own.at_place ∙ ap (object_at k) same ∙ at in
        let one : own.object ≡ x = cc in
        other (sym own.numbered ∙ ap (λ (y : Object). y.number) one) in
        chunk_on k left m m c own.place own.object (object_set_other k u.place own.place None apart ∙ own.at_place) own.numbered (keeps_own _ _ refl) own

    chunks_left : All (IsChunkInUse k m) k.chunks → All (IsChunkInUse left m) left.chunks
    chunks_left held =
        All-weaker (Contains left.chunks) (IsChunkInUse left m)
        (λ c in_left. let was = forget_adds_none x.number k.chunks c in_left in chunk_left c was.0 (All-contains (IsChunkInUse k m) k.chunks c held was.1))
        left.chunks (All-contains_itself left.chunks)

    leaves : (n : Option ℕ) → x.aside ≡ n → LeavesFor m is.number k (with_slot slot None m.slots) left s (without_doomed n s)
    leaves n e = record {
      was = λ q y at_q. (was q y at_q).1;
      stays = λ q y at_q has. object_set_other k u.place q None (λ same. gone (subst (λ p. HasSlot (with_slot slot None m.slots) (is.number p)) same has)) ∙ at_q;
      has = λ q y at_q.
          let before = was q y at_q in
          other (is.number q) (λ same. before.0 (stand.apart q u.place y x before.1 at same)) (slot_of m (is.number q) (stand.objects q y before.1).in_use.slots);
      same_made = refl;
      chunks = chunks_left;
      same_entries = entries_same n;
      same_doomed = doomed_same n e;
      was_doomed = doomed_was n;
      held = held n e;
      safe = λ w safe. safe_let_go s w n safe;
      once = once n;
      named = named n;
      ever = ever n;
    }
      where
        entries_same : (n : Option ℕ) (name : List ℕ) → entries (standing (without_doomed n s)) name ≡ entries (standing s) name
        entries_same None name = refl
        entries_same (Some d) name = (removed_puts (Doomed d) s).others (entry_place name) (λ same. cc)

        doomed_same : (n : Option ℕ) → x.aside ≡ n → (d i : ℕ) → IsAt k is.number d i → HasSlot (with_slot slot None m.slots) i → standing (without_doomed n s) (Doomed d) ≡ standing s (Doomed d)
        doomed_same None e d i a has = refl
        doomed_same (Some c) e d i a has = (removed_puts (Doomed c) s).others (Doomed d) (other_number d c i e a has)

        doomed_was : (n : Option ℕ) (d : ℕ) → standing (without_doomed n s) (Doomed d) ≢ None → standing s (Doomed d) ≢ None
        doomed_was None d some none = some none
        doomed_was (Some c) d some none = elim (cases_eq d c) [
          | inl same ↦ some (ap (λ n. standing (removed (Doomed c) s) (Doomed n)) same ∙ (removed_puts (Doomed c) s).here)
          | inr apart ↦ some ((removed_puts (Doomed c) s).others (Doomed d) (other_doomed d c apart) ∙ none)
        ]

        held : (n : Option ℕ) → x.aside ≡ n → (d i : ℕ) → IsAt k is.number d i → IsHeldAside m i → standing (without_doomed n s) (Doomed d) ≢ None → HasSlot (with_slot slot None m.slots) i
        held n e d i a h some = elim (cases_eq i (is.number u.place)) [
          | inl same ↦
              let own : n ≡ Some d = sym e ∙ own_number d (subst (IsAt k is.number d) same a) in
              absurd (some (ap (λ o. standing (without_doomed o s) (Doomed d)) own ∙ (removed_puts (Doomed d) s).here))
          | inr apart ↦ other i apart (slot_of m i h.slots)
        ]

        once : (n : Option ℕ) → IsFiledOnce s → IsFiledOnce (without_doomed n s)
        once None h = h
        once (Some d) h = remove_files_once s (Doomed d) h

        named : (n : Option ℕ) (d file : ℕ) → names_now (without_doomed n s) (Doomed d) ≡ Some file → names_now s (Doomed d) ≡ Some file
        named None d file now = now
        named (Some c) d file now = elim (found (Doomed c) (Doomed d) None (Some file) (names_now s) now) [
          | inl new ↦ absurd (cc new.1)
          | inr old ↦ old.0
        ]

        ever : (n : Option ℕ) (name : List ℕ) (file : ℕ) → EverAt (without_doomed n s) (entry_place name) file → EverAt s (entry_place name) file
        ever None name file at_e = at_e
        ever (Some d) name file at_e = ever_removed s (Doomed d) (entry_place name) file at_e

    pub last_in : KeepsWhere b (cache_at left (let_go_by x s)) (history_of (released m slot) w)
    last_in = left_in s (let_go_by x s) k m w is slot u at_slot small room reads (slice_set k.objects u.place None) (without_entry x.number k.chunks) (leaves x.aside refl)

-- The same by the place of the slot's use.
module _
    {b : Bool}
    (s : State)
    (k : Kept)
    (slot p r : ℕ)
    (small : slot < SLOTS)
    (room : length k.slots ≡ SLOTS)
    (placed : option_map (λ u. u.place) (use_at k slot) ≡ Some p)
    (same : r ≡ slot)
    (m : Machine)
    (w : Marks)
    (reads : (object_of m slot).finished ≡ false → is_writer m slot ≡ false)
    (is : KeepsWhere b (cache_at k s) (history_of m w)) where
  pub shared_given : list_any (is_use_of p) (with_use k r None).slots ≡ true → KeepsWhere b (cache_at (with_use k r None) s) (history_of (released m slot) w)
  shared_given any =
      let own = use_placed (use_at k slot) p placed in
      subst (λ r. KeepsWhere b (cache_at (with_use k r None) s) (history_of (released m slot) w)) (sym same)
      (shared_in s k m w is slot own.0 own.1.0 small room reads (ap (λ p. list_any (is_use_of p) (with_use k slot None).slots) own.1.1 ∙ ap (λ r. list_any (is_use_of p) (with_use k r None).slots) (sym same) ∙ any))

  pub last_given : (x : Object) (t : State) (after : Kept) → list_any (is_use_of p) (with_use k r None).slots ≡ false → object_at k p ≡ Some x → t ≡ let_go_by x s
      → after ≡ without_chunks (with_object (with_use k r None) p None) x.number → KeepsWhere b (cache_at after t) (history_of (released m slot) w)
  last_given x t after none at gone gone_from =
      let own = use_placed (use_at k slot) p placed in
      let last = last_in s k m w is slot own.0 own.1.0 small room reads
      (ap (λ p. list_any (is_use_of p) (with_use k slot None).slots) own.1.1 ∙ ap (λ r. list_any (is_use_of p) (with_use k r None).slots) (sym same) ∙ none) x (ap (object_at k) own.1.1 ∙ at) in
      let here : without_chunks (with_object (with_use k slot None) own.0.place None) x.number ≡ after = (λ i. without_chunks (with_object (with_use k (sym same i) None) (own.1.1 i) None) x.number) ∙ sym gone_from in
      subst (λ (u : State). KeepsWhere b (cache_at after u) (history_of (released m slot) w)) (sym gone) (subst (λ (k : Kept). KeepsWhere b (cache_at k (let_go_by x s)) (history_of (released m slot) w)) here last)

  pub last_given_or : (x : Object) (t : State) (after : Kept) (d : Result (Unit {0}) DiskFault) → list_any (is_use_of p) (with_use k r None).slots ≡ false → object_at k p ≡ Some x → t ≡ if_done d (let_go_by x s) s
      → after ≡ without_chunks (with_object (with_use k r None) p None) x.number → OnOk d (KeepsWhere b (cache_at after t) (history_of (released m slot) w))
  last_given_or x t after (Ok v) none at gone gone_from = last_given x t after none at gone gone_from
  last_given_or x t after (Err f) none at gone gone_from = tt
