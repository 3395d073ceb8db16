-- A slot becomes a reader of the entry of a key.
use Rattle.std.proofs.Common.{◌≡◌, ◌∙◌, ℕ, ◌<◌, List, [], ◌∷◌, length, Bool, true, false, not, Option, Some, None, Result, Ok, Err, is_ok, is_some, refl, sym, ap, subst}
use Rattle.std.specs.Prelude.{IsErrAnd, option_map, ◌||◌}
use Rattle.cache_base.specs.Checks.{first_failing}
use Rattle.cache_base.specs.declared.limits.TheConstants.{SLOTS}
use Rattle.cache_base.specs.declared.name.Name.{Name}
use Rattle.cache_theory.specs.Checks.{checks, undamaged, unless_used}
use Rattle.cache_theory.specs.Command.Command.{OpenKey}
use Rattle.cache_theory.specs.Command.Reply.{Done, Refused}
use Rattle.cache_theory.specs.Ever.{entries}
use Rattle.cache_theory.specs.Machine.{Machine, is_entry, is_slot, on_shelf, used_by}
use Rattle.cache_theory.specs.Marks.{Marks, begun, begun_by}
use Rattle.cache_theory.specs.Proper.{IsProper}
use Rattle.cache_theory.specs.Step.{effect, joined, step, stepped}
use Rattle.cache_theory.specs.declared.refusal.Refusal.{Refusal}
use Rattle.cache_theory.specs.declared.refusal.Refusal.TheVariants as refused
use Rattle.cache_theory.proofs.Changes.{may_join, read_object}
use Rattle.cache_theory.proofs.ObjectLaws.Entering.{proper_entered}
use Rattle.cache_theory.proofs.CrashImages.Reading.{whole_is_shelved}
use Rattle.cache_theory.proofs.ObjectLaws.Slots.{slot_free}
use Rattle.disk_theory.specs.State.{State, standing}
use Rattle.disk_theory.specs.declared.place.Place.TheVariants.{Entry}
use Rattle.entry_file.specs.EntryFile.{Reading, read_for}
use Rattle.entry_file.specs.EntryFile.Reading.{Whole, Damaged, Nothing}
use Rattle.entry_file.specs.Version.{Version, version_meta}
use Rattle.entry_key.specs.Writing.{may_write}
use Rattle.entry_metadata.specs.Meta.{meta_of}
use Rattle.entry_metadata.specs.declared.meta.Meta.{Meta}
use Rattle.entry_name.specs.EntryName.{file_name}
use Rattle.file_handles.specs.Answers.{done_or, reply_in}
use Rattle.file_handles.specs.Cache.{cache_at}
use Rattle.file_handles.specs.Carries.{CarriesOut}
use Rattle.handle_table.specs.Held.{IsHeldAs}
use Rattle.handle_table.specs.Joining.{AddsObject, JoinsAt}
use Rattle.file_handles.specs.Joining.{AddsTo}
use Rattle.handle_table.specs.Kept.{Kept, use_at, used, with_new, with_use}
use Rattle.handle_table.specs.Finding.{used_place}
use Rattle.file_handles.specs.Loading.{LoadsAs}
use Rattle.handle_table.specs.Standing.{HandlesStand}
use Rattle.file_handles.specs.Stands.{KeepsWhere, Stands}
use Rattle.file_handles.specs.declared.fault.HandleFault.{HandleFault}
use Rattle.file_handles.specs.declared.fault.HandleFault.TheVariants as fault
use Rattle.handle_table.specs.declared.object.Entry.TheVariants as entry
use Rattle.handle_table.specs.declared.object.Object.{Object}
use Rattle.handle_table.specs.declared.object.Use.{Use}
use Rattle.file_handles.proofs.Begun.{begun_in}
use Rattle.file_handles.proofs.Setting.ElementSlots.{no_slot, slot_is}
use Rattle.file_handles.proofs.Finding.FoundShelf.{shelf_read}
use Rattle.file_handles.proofs.Finding.FoundUser.{used_at, used_same}
use Rattle.file_handles.proofs.Histories.{history_of}
use Rattle.file_handles.proofs.Joining.JoinedObject.{MayAdd, aside_added, crash_added, handles_added, numbers}
use Rattle.file_handles.proofs.Joining.JoinedReader.{MayRead, reader_in}
use Rattle.file_handles.proofs.Refused.{refused_leaves}
use Rattle.file_handles.proofs.Where.{CarriesOutWhere, LeavesWhere, carries_out}

-- the checks of an opening, with what they test
checked : Bool → Bool → Bool → Option ℕ → Reading → Option Refusal
checked free good some used r = first_failing ((free, refused.SlotTaken) ∷ (good, refused.BadKey) ∷ (some, refused.Absent) ∷ unless_used used (undamaged r) ∷ [])

open_checks : (m : Machine) (s : ℕ) (key : List ℕ) → first_failing (checks m (OpenKey s key))
    ≡ checked (not (is_slot m s)) (may_write key) (is_some (used_by m key) || is_entry (on_shelf m key)) (used_by m key) (on_shelf m key)
unfolding checks checked
open_checks m s key = refl

-- a call that answers no reply, and changes nothing
pub fails_leaves : (s : State) (k : Kept) (slot : ℕ) (key : List ℕ) → CarriesOut (OpenKey slot key) None (cache_at k s) (cache_at k s)
fails_leaves s k slot key = carries_out (λ b m w is. record { safe = λ on. ((begun_in s k m (OpenKey slot key) w is).crash_kept on).safe; replies = tt; next = tt })

-- and one that is refused
refused_here : {b : Bool} (s : State) (k : Kept) (slot : ℕ) (key : List ℕ) (r : Refusal) (m : Machine) (w : Marks) → KeepsWhere b (cache_at k s) (history_of m w) → first_failing (checks m (OpenKey slot key)) ≡ Some r → LeavesWhere b (OpenKey slot key) (history_of m w) (Some (Refused r)) (cache_at k s)
refused_here {b} s k slot key r m w is fails = record {
  safe = λ on. ((begun_in s k m (OpenKey slot key) w is).crash_kept on).safe;
  replies = ap (λ o. (stepped m (OpenKey slot key) o).reply) (sym fails);
  next =
      subst (λ (v : Marks). KeepsWhere b (cache_at k s) (history_of (step m (OpenKey slot key)).next v)) (sym (ap (λ o. begun_by o m (OpenKey slot key) w) fails))
      (subst (λ (n : Machine). KeepsWhere b (cache_at k s) (history_of n w)) (ap (λ o. (stepped m (OpenKey slot key) o).next) (sym fails)) is);
}

-- and one that is done, where the machine's checks hold
done_here : {b : Bool} (s : State) (k after : Kept) (slot : ℕ) (key : List ℕ) (m : Machine) (w : Marks) → KeepsWhere b (cache_at k s) (history_of m w) → first_failing (checks m (OpenKey slot key)) ≡ None
    → KeepsWhere b (cache_at after s) (history_of (joined m slot (used_by m key) (on_shelf m key)) (begun m (OpenKey slot key) w)) → LeavesWhere b (OpenKey slot key) (history_of m w) (Some Done) (cache_at after s)
unfolding effect
done_here {b} s k after slot key m w is passes next = record {
  safe = λ on. ((begun_in s k m (OpenKey slot key) w is).crash_kept on).safe;
  replies = ap (λ o. (stepped m (OpenKey slot key) o).reply) (sym passes);
  next = subst (λ (n : Machine). KeepsWhere b (cache_at after s) (history_of n (begun m (OpenKey slot key) w))) (ap (λ o. (stepped m (OpenKey slot key) o).next) (sym passes)) next;
}

-- the slot is in use
used_some : (o : Option Use) → is_ok (used o) ≡ true → (u : Use) × (o ≡ Some u)
used_some None ok = absurd (let never : false ≡ true = ok in cc)
used_some (Some u) ok = (u, refl)

none_used : (o : Option Use) → is_ok (used o) ≡ false → o ≡ None
none_used None ok = refl
none_used (Some u) ok = absurd (let never : true ≡ false = ok in cc)

pub used_none : (o : Option Use) (r : Result Use Refusal) → r ≡ used o → is_ok r ≡ false → o ≡ None
used_none o r is ok = none_used o (ap (λ o. is_ok o) (sym is) ∙ ok)

module _ (s : State) (k : Kept) (slot : ℕ) (key : List ℕ) (small : slot < SLOTS) where
  pub taken_leaves : (r : Result Use Refusal) → r ≡ used (use_at k slot) → is_ok r ≡ true → CarriesOut (OpenKey slot key) (Some (Refused refused.SlotTaken)) (cache_at k s) (cache_at k s)
  unfolding checked
  taken_leaves r is ok =
      let at = used_some (use_at k slot) (ap (λ o. is_ok o) (sym is) ∙ ok) in
      refused_leaves s k (OpenKey slot key) refused.SlotTaken
      (λ m number proper stand.
      open_checks m slot key
      ∙ ap (λ b. checked b (may_write key) (is_some (used_by m key) || is_entry (on_shelf m key)) (used_by m key) (on_shelf m key)) (ap not (slot_is k m number stand slot small at.0 at.1)))

  module _ (free : use_at k slot ≡ None) where
    slot_is_free : (m : Machine) (number : ℕ → ℕ) → HandlesStand k m number → not (is_slot m slot) ≡ true
    slot_is_free m number stand = ap not (no_slot k m number stand slot small free)

    pub bad_key_leaves : may_write key ≡ false → CarriesOut (OpenKey slot key) (Some (Refused refused.BadKey)) (cache_at k s) (cache_at k s)
    unfolding checked
    bad_key_leaves bad =
        refused_leaves s k (OpenKey slot key) refused.BadKey
        (λ m number proper stand.
        open_checks m slot key
        ∙ (λ i. checked (slot_is_free m number stand i) (bad i) (is_some (used_by m key) || is_entry (on_shelf m key)) (used_by m key) (on_shelf m key)))

    module _ (good : may_write key ≡ true) (name : Name) (named : name.0 ≡ file_name key) (within : slot < length k.slots) where
      -- the checks by who uses the entry and what is read
      checks_at : (m : Machine) (number : ℕ → ℕ) → HandlesStand k m number → (o : Option ℕ) (r : Reading) → used_by m key ≡ o → on_shelf m key ≡ r → first_failing (checks m (OpenKey slot key)) ≡ checked true true (is_some o || is_entry r) o r
      checks_at m number stand o r at is = open_checks m slot key ∙ (λ i. checked (slot_is_free m number stand i) (good i) (is_some (at i) || is_entry (is i)) (at i) (is i))

      -- an entry that is in use
      pub joins_leaves : (after : Kept) (p : ℕ) → used_place k name key ≡ Some p → JoinsAt slot p false k after → CarriesOut (OpenKey slot key) (Some Done) (cache_at k s) (cache_at after s)
      unfolding checked
      joins_leaves after p at joins = carries_out (λ b m w is.
          let here = begun_in s k m (OpenKey slot key) w is in
          let stand = here.stands.handles in
          let there = used_at k name key p at in
          let uses : used_by m key ≡ Some (here.number p) = used_same k name key m here.number here.stands.proper stand named ∙ ap (option_map here.number) at in
          let may : MayRead k m here.number slot p joins.use_ = record {
            small = small;
            within = within;
            free = slot_free m slot (slot_is_free m here.number stand);
            reader = there.user.object;
            at_place = there.user.at_place;
            placed = joins.placed;
            reads = joins.writing;
          } in
          let reads : KeepsWhere b (cache_at (with_use k slot (Some joins.use_)) s) (history_of (joined m slot (Some (here.number p)) (on_shelf m key)) (begun m (OpenKey slot key) w)) =
          reader_in s k m (begun m (OpenKey slot key) w) here slot p joins.use_ may in
          done_here s k after slot key m w is (checks_at m here.number stand (Some (here.number p)) (on_shelf m key) uses refl)
          (subst (λ o. KeepsWhere b (cache_at after s) (history_of (joined m slot o (on_shelf m key)) (begun m (OpenKey slot key) w))) (sym uses)
          (subst (λ (l : Kept). KeepsWhere b (cache_at l s) (history_of (joined m slot (Some (here.number p)) (on_shelf m key)) (begun m (OpenKey slot key) w))) (sym joins.same) reads)))

      module _ (unused : used_place k name key ≡ None) where
        no_use : (m : Machine) (number : ℕ → ℕ) → IsProper m → HandlesStand k m number → used_by m key ≡ None
        no_use m number proper stand = used_same k name key m number proper stand named ∙ ap (option_map number) unused

        shelf_is : (m : Machine) (number : ℕ → ℕ) → Stands (standing s) k m number → (answer : Result Meta HandleFault) → LoadsAs (read_for key (standing s (Entry name))) answer → LoadsAs (on_shelf m key) answer
        shelf_is m number stands answer loads =
            let same : read_for key (standing s (Entry name)) ≡ on_shelf m key =
            ap (λ n. read_for key (entries (standing s) n)) named ∙ shelf_read (standing s) m stands.entries key in
            let P : Reading → Type 0 = λ r. LoadsAs r answer in
            subst P same loads

        -- what is not read
        refused_so : (r : Refusal) → LoadsAs (read_for key (standing s (Entry name))) (Err (fault.Refused r)) → CarriesOutWhere (OpenKey slot key) (Some (Refused r)) (cache_at k s) (cache_at k s)
        unfolding checked
        refused_so r loads b m w is = go (on_shelf m key) refl (shelf_is m is.number is.stands (Err (fault.Refused r)) loads)
          where
            none : used_by m key ≡ None
            none = no_use m is.number is.stands.proper is.stands.handles

            go : (x : Reading) → on_shelf m key ≡ x → LoadsAs x (Err (fault.Refused r)) → LeavesWhere b (OpenKey slot key) (history_of m w) (Some (Refused r)) (cache_at k s)
            go (Whole v) at loaded = absurd loaded
            go (Damaged d) at loaded = refused_here s k slot key r m w is (checks_at m is.number is.stands.handles None (Damaged d) none at ∙ ap Some (sym loaded))
            go Nothing at loaded = refused_here s k slot key r m w is (checks_at m is.number is.stands.handles None Nothing none at ∙ ap Some (sym loaded))

        pub unread_leaves : (e : HandleFault) → LoadsAs (read_for key (standing s (Entry name))) (Err e) → CarriesOut (OpenKey slot key) (reply_in e) (cache_at k s) (cache_at k s)
        unread_leaves fault.Read loads = fails_leaves s k slot key
        unread_leaves fault.Disk loads = fails_leaves s k slot key
        unread_leaves fault.Memory loads = fails_leaves s k slot key
        unread_leaves (fault.Refused r) loads = carries_out (refused_so r loads)

        -- handed on as the answer
        pub unread_answer : (answer : Result (Unit {0}) HandleFault) (e : HandleFault) → IsErrAnd answer (λ f. f ≡ e) → LoadsAs (read_for key (standing s (Entry name))) (Err e) → CarriesOut (OpenKey slot key) (done_or answer) (cache_at k s) (cache_at k s)
        unread_answer (Ok done) e is loads = absurd is
        unread_answer (Err f) e is loads = subst (λ (a : HandleFault). CarriesOut (OpenKey slot key) (reply_in a) (cache_at k s) (cache_at k s)) (sym is) (unread_leaves e loads)

        -- an entry that is read
        module _ (meta : Meta) (x : Object) (is_object : x ≡ record { number = x.number; name = name; doomed = false; aside = None; entry = entry.Finished meta }) (loads : LoadsAs (read_for key (standing s (Entry name))) (Ok meta)) where
          enters_in : {b : Bool} (after : Kept) (m : Machine) (w : Marks) (is : KeepsWhere b (cache_at k s) (history_of m w)) → AddsObject slot x false k after → (p_within : (p : ℕ) → p < SLOTS → p < length k.objects)
              → (v : Version) → on_shelf m key ≡ Whole v → meta_of meta ≡ version_meta v → KeepsWhere b (cache_at after s) (history_of (joined m slot None (Whole v)) w)
          enters_in {b} after m w is adds p_within v at same =
              let stand = is.stands.handles in
              let proper = is.stands.proper in
              let none = no_use m is.number proper stand in
              let enters = may_join m slot key v proper small (slot_is_free m is.number stand) none at in
              let shelved = whole_is_shelved m key v proper at in
              let may : MayAdd k m slot false (read_object v) x adds.place adds.joins.use_ = record {
                enters = enters;
                as_held = subst (λ y. IsHeldAs y (read_object v)) (sym is_object) (record { named = named ∙ sym shelved.named; doomed = refl; aside = refl; held_entry = (refl, same) });
                numbered = adds.numbered;
                free = adds.free;
                ranged = p_within adds.place adds.ranged;
                within = within;
                placed = adds.joins.placed;
                writing = adds.joins.writing;
              } in
              let next : Machine = joined m slot None (Whole v) in
              let l : Kept = with_use (with_new k adds.place x) slot (Some adds.joins.use_) in
              let result : KeepsWhere b (cache_at l s) (history_of next w) = record {
                number = numbers k m is.number proper stand slot false (read_object v) x adds.place adds.joins.use_ may;
                stands = record {
                  proper = proper_entered m slot false (read_object v) proper enters;
                  handles = handles_added k m is.number proper stand slot false (read_object v) x adds.place adds.joins.use_ may;
                  entries = is.stands.entries;
                  aside = aside_added k m is.number proper stand slot false (read_object v) x adds.place adds.joins.use_ may refl (standing s) is.stands.aside;
                };
                crash_kept = λ on. crash_added k m is.number proper stand slot false (read_object v) x adds.place adds.joins.use_ may refl w s (is.crash_kept on);
              } in
              subst (λ (a : Kept). KeepsWhere b (cache_at a s) (history_of next w)) (sym adds.joins.same) result

          enters_leaves : (after : Kept) → AddsObject slot x false k after → ((p : ℕ) → p < SLOTS → p < length k.objects) → CarriesOutWhere (OpenKey slot key) (Some Done) (cache_at k s) (cache_at after s)
          unfolding checked
          enters_leaves after adds p_within b m w is = go (on_shelf m key) refl (shelf_is m here.number here.stands (Ok meta) loads)
            where
              here : KeepsWhere b (cache_at k s) (history_of m (begun m (OpenKey slot key) w))
              here = begun_in s k m (OpenKey slot key) w is

              none : used_by m key ≡ None
              none = no_use m here.number here.stands.proper here.stands.handles

              go : (r : Reading) → on_shelf m key ≡ r → LoadsAs r (Ok meta) → LeavesWhere b (OpenKey slot key) (history_of m w) (Some Done) (cache_at after s)
              go (Whole v) at loaded =
                  done_here s k after slot key m w is (checks_at m here.number here.stands.handles None (Whole v) none at)
                  (subst (λ (r : Reading). KeepsWhere b (cache_at after s) (history_of (joined m slot (used_by m key) r) (begun m (OpenKey slot key) w))) (sym at)
                  (subst (λ (o : Option ℕ). KeepsWhere b (cache_at after s) (history_of (joined m slot o (Whole v)) (begun m (OpenKey slot key) w))) (sym none)
                  (enters_in after m (begun m (OpenKey slot key) w) here adds p_within v at loaded)))
              go (Damaged d) at loaded = absurd loaded
              go Nothing at loaded = absurd loaded

          -- or not, since no place is free
          no_place : (after : Kept) → CarriesOut (OpenKey slot key) None (cache_at k s) (cache_at after s)
          no_place after = carries_out (λ b m w is. record { safe = λ on. ((begun_in s k m (OpenKey slot key) w is).crash_kept on).safe; replies = tt; next = tt })

          pub added_leaves : (answer : Result (Unit {0}) HandleFault) (after : Kept) → AddsTo slot x false answer k after → ((p : ℕ) → p < SLOTS → p < length k.objects)
              → CarriesOut (OpenKey slot key) (done_or answer) (cache_at k s) (cache_at after s)
          added_leaves (Ok done) after adds p_within = carries_out (enters_leaves after adds.added p_within)
          added_leaves (Err (fault.Refused r)) after adds p_within = absurd (adds.refused r refl)
          added_leaves (Err fault.Read) after adds p_within = absurd (let never : fault.Read ≡ fault.Memory = adds.memory in cc)
          added_leaves (Err fault.Disk) after adds p_within = absurd (let never : fault.Disk ≡ fault.Memory = adds.memory in cc)
          added_leaves (Err fault.Memory) after adds p_within = no_place after
