-- A slot is closed: its writer finishes its object first.
use Rattle.std.proofs.Common.{◌≡◌, ℕ, ◌<◌, Bool, true, false, not, ◌&&◌, Option, Some, None, IsSome, Result, Ok, Err, refl, sym, ap, subst, ◌∙◌, IsTrue}
use Rattle.std.specs.Prelude.{IsErrAnd, IsOkAnd, IsSomeAnd, OnOk, if◌then◌else◌, option_map}
use Rattle.std.proofs.lemmas.Bool.{and_parts, cond-false, cond-true, not-true}
use Rattle.cache_base.specs.Checks.{first_failing}
use Rattle.cache_base.specs.declared.limits.TheConstants.{SLOTS}
use Rattle.cache_theory.specs.Checks.{checks}
use Rattle.cache_theory.specs.Command.Command.{Close}
use Rattle.cache_theory.specs.Command.Reply.{Done}
use Rattle.cache_theory.specs.Crash.{IsSafe}
use Rattle.cache_theory.proofs.EntryFiles.{file_there}
use Rattle.cache_theory.specs.Machine.{Machine, Object as MachineObject, is_slot, is_writer, number_of, object, object_of}
use Rattle.cache_theory.specs.Marks.{Marks, begun, marks_of, rewritten}
use Rattle.cache_theory.specs.Step.{Answer, answer, effect, finished_by, released, step, stepped, stored}
use Rattle.cache_theory.specs.declared.refusal.Refusal.{Refusal}
use Rattle.cache_theory.specs.declared.refusal.Refusal.TheVariants.{NoSlot}
use Rattle.cache_theory.proofs.Changes.{finished_reads, may_finish}
use Rattle.cache_theory.proofs.ObjectLaws.Objects.{nth}
use Rattle.cache_theory.proofs.ObjectLaws.Storing.{MayStand, stored_here}
use Rattle.disk_theory.specs.Sound.{IsSound}
use Rattle.disk_theory.specs.State.{State, standing}
use Rattle.disk_theory.specs.declared.disk.DiskFault.{DiskFault}
use Rattle.file_handles.specs.Answers.{done_or, reply_in}
use Rattle.file_handles.specs.Cache.{cache_at}
use Rattle.file_handles.specs.Changes.{completed}
use Rattle.file_handles.specs.Closing.{GivesUp, MayGiveUp, is_some_draft}
use Rattle.handle_table.specs.Held.{IsEntryOf, is_draft, object_place}
use Rattle.handle_table.specs.Kept.{Kept, object_at, use_at, used, with_object}
use Rattle.file_handles.specs.Publishing.{CompletesAt, CompletesThere}
use Rattle.handle_table.specs.Refuses.{Refuses}
use Rattle.handle_table.specs.Standing.{HandlesStand}
use Rattle.file_handles.specs.Stands.{KeepsWhere, RepresentsSome, Stands}
use Rattle.file_handles.specs.declared.fault.HandleFault.{HandleFault}
use Rattle.file_handles.specs.declared.fault.HandleFault.TheVariants as fault
use Rattle.handle_table.specs.declared.object.Entry.{Entry}
use Rattle.handle_table.specs.declared.object.Entry.TheVariants as entry
use Rattle.handle_table.specs.declared.object.Object.{Object}
use Rattle.handle_table.specs.declared.object.Use.{Use}
use Rattle.file_handles.proofs.Begun.{begun_in}
use Rattle.file_handles.proofs.Finishing.Completions.{completion}
use Rattle.file_handles.proofs.Setting.ElementMarks.{finishes_out}
use Rattle.file_handles.proofs.Setting.ElementSlots.{no_slot, no_use_found, slot_is, slot_number, slot_writes}
use Rattle.file_handles.proofs.Finishing.FinishCarried.{completed_in, completed_safe}
use Rattle.file_handles.proofs.Histories.{history_of}
use Rattle.file_handles.proofs.Places.{file_stands}
use Rattle.file_handles.proofs.Finishing.Published.{MayFinish}
use Rattle.file_handles.proofs.Refused.{refused_where}
use Rattle.handle_table.proofs.Released.{released_objects, some_object}
use Rattle.file_handles.proofs.Where.{LeavesWhere, bare_in}

-- A slot that is not in use.

close_no_slot : (k : Kept) (slot : ℕ) → slot < SLOTS → (r : Refusal) → used (use_at k slot) ≡ Err r → Refuses k (Close slot) r
unfolding checks
close_no_slot k slot small r is m number proper stand =
    let parts = no_use_found (use_at k slot) r is in
    cond-false (is_slot m slot) None (Some NoSlot) (no_slot k m number stand slot small parts.0) ∙ ap Some (sym parts.1)

-- the reply of an answer that is this fault
reply_is : {T : Type 0} (r : Result T HandleFault) (f : HandleFault) → IsErrAnd r (λ e. e ≡ f) → done_or r ≡ reply_in f
reply_is (Ok value) f is = absurd is
reply_is (Err e) f is = ap reply_in is

pub unused_leaves : {T : Type 0} {b : Bool} (s : State) (k : Kept) (slot : ℕ) → slot < SLOTS → (refusal : Refusal) → used (use_at k slot) ≡ Err refusal → (r : Result T HandleFault) → IsErrAnd r (λ e. e ≡ fault.Refused refusal)
    → (m : Machine) (w : Marks) → KeepsWhere b (cache_at k s) (history_of m w) → LeavesWhere b (Close slot) (history_of m w) (done_or r) (cache_at k s)
unused_leaves {b = b} s k slot small refusal is r same m w stands =
    subst (λ o. LeavesWhere b (Close slot) (history_of m w) o (cache_at k s)) (sym (reply_is r (fault.Refused refusal) same)) (refused_where s k (Close slot) refusal (close_no_slot k slot small refusal is) b m w stands)

-- A fault that is no refusal has no reply.

no_reply : {T : Type 0} (r : Result T HandleFault) (f : HandleFault) → IsErrAnd r (λ e. e ≡ f) → ((refusal : Refusal) → f ≡ fault.Refused refusal → ⊥) → done_or r ≡ None
no_reply r f is none = reply_is r f is ∙ go f none
  where
    go : (f : HandleFault) → ((refusal : Refusal) → f ≡ fault.Refused refusal → ⊥) → reply_in f ≡ None
    go fault.Read none = refl
    go fault.Disk none = refl
    go fault.Memory none = refl
    go (fault.Refused refusal) none = absurd (none refusal refl)

pub faulted_leaves : {T : Type 0} {b : Bool} (slot : ℕ) (r : Result T HandleFault) (f : HandleFault) (t : State) (after : Kept) (m : Machine) (w : Marks) → IsErrAnd r (λ e. e ≡ f) → ((refusal : Refusal) → f ≡ fault.Refused refusal → ⊥)
    → (IsTrue b → IsSafe t (begun m (Close slot) w)) → LeavesWhere b (Close slot) (history_of m w) (done_or r) (cache_at after t)
faulted_leaves {b = b} slot r f t after m w is none safe = subst (λ o. LeavesWhere b (Close slot) (history_of m w) o (cache_at after t)) (sym (no_reply r f is none)) (record { safe = safe; replies = tt; next = tt })

-- a draft is there
pub draft_there : (w : Bool) (o : Option Object) → (w && is_some_draft o) ≡ true → IsSomeAnd o (λ x. is_draft x.entry ≡ true)
draft_there w None is = absurd (let never : is_some_draft None ≡ true = (and_parts w (is_some_draft None) is).1 in cc)
draft_there w (Some x) is = (and_parts w (is_draft x.entry) is).1

-- an entry is a draft where the object is not finished
draft_is : (x : Entry) (o : MachineObject) → IsEntryOf x o → not o.finished ≡ is_draft x
draft_is (entry.Draft d) o is = ap not is.0
draft_is (entry.Finished meta) o is = ap not is.0

-- What the machine has in a slot that is in use, and whether closing it finishes its object.

module _ (k : Kept) (slot : ℕ) (small : slot < SLOTS) (u : Use) (at : use_at k slot ≡ Some u) (m : Machine) (number : ℕ → ℕ) (stand : HandlesStand k m number) where
  pub object_there : (x : Object) × (object_at k u.place ≡ Some x)
  object_there = some_object (object_at k u.place) (stand.used slot u at)

  pub has_slot : is_slot m slot ≡ true
  has_slot = slot_is k m number stand slot small u at

  pub numbered : number_of m slot ≡ number u.place
  numbered = slot_number k m number stand slot small u at

  pub finishes : (is_writer m slot && not (object_of m slot).finished) ≡ (u.writes && is_some_draft (object_at k u.place))
  finishes =
      let x = object_there in
      let held = (stand.objects u.place x.0 x.1).as_held.held_entry in
      (λ i. slot_writes k m number stand slot small u at i && not (object m (numbered i)).finished)
      ∙ ap (λ b. u.writes && b) (draft_is x.0.entry (object m (number u.place)) held ∙ ap is_some_draft (sym x.1))

  pub close_passes : first_failing (checks m (Close slot)) ≡ None
  unfolding checks
  close_passes = cond-true (is_slot m slot) None (Some NoSlot) has_slot

  pub close_step : step m (Close slot) ≡ answer (released (finished_by m slot) slot) Done
  unfolding effect
  close_step = ap (stepped m (Close slot)) close_passes

-- the object of a slot has its file
pub may_give_up : (s : State) (k : Kept) (slot : ℕ) → slot < SLOTS → (u : Use) → use_at k slot ≡ Some u → (m : Machine) (number : ℕ → ℕ) → Stands (standing s) k m number → MayGiveUp slot u.place (cache_at k s)
may_give_up s k slot small u at m number stands =
    let x = object_there k slot small u at m number stands.handles in
    record {
      placed = ap (option_map (λ (v : Use). v.place)) at;
      there = subst (λ o. IsSomeAnd o (λ x. IsSome (standing s (object_place x)))) (sym x.1) (file_there (object m (number u.place)) _ (file_stands s k m number stands u.place x.0 x.1));
    }

module _ (s : State) (k : Kept) (slot : ℕ) (small : slot < SLOTS) (u : Use) (at : use_at k slot ≡ Some u) where
  -- Nothing is to be finished.
  module _ (not_finishes : (u.writes && is_some_draft (object_at k u.place)) ≡ false) {b : Bool} (m : Machine) (w : Marks) (is : KeepsWhere b (cache_at k s) (history_of m w)) where
    pub unchanged_in : KeepsWhere b (cache_at k s) (history_of (finished_by m slot) (begun m (Close slot) w))
    unchanged_in =
        let same : finished_by m slot ≡ m = ap (λ (b : Bool). if b then stored m (number_of m slot) (completed (object_of m slot)) else m) (finishes k slot small u at m is.number is.stands.handles ∙ not_finishes) in
        subst (λ (n : Machine). KeepsWhere b (cache_at k s) (history_of n (begun m (Close slot) w))) (sym same) (begun_in s k m (Close slot) w is)

  -- The object is finished.
  module _ (to_finish : (u.writes && is_some_draft (object_at k u.place)) ≡ true) {T : Type 0} (r : Result T HandleFault) (t : State) (after : Kept) (completes : CompletesThere u.place completed r (cache_at k s) (cache_at after t)) where
    module _ {b : Bool} (m : Machine) (w : Marks) (is : KeepsWhere b (cache_at k s) (history_of m (begun m (Close slot) w))) where
      writes : (is_writer m slot && not (object_of m slot).finished) ≡ true
      writes = finishes k slot small u at m is.number is.stands.handles ∙ to_finish

      unfinished : (object_of m slot).finished ≡ false
      unfinished = not-true (object_of m slot).finished (and_parts (is_writer m slot) (not (object_of m slot).finished) writes).1

      may_here : MayStand m (number_of m slot) (completed (object_of m slot))
      may_here = may_finish m slot is.stands.proper (has_slot k slot small u at m is.number is.stands.handles) unfinished

      may : MayStand m (is.number u.place) (completed (object m (is.number u.place)))
      may = subst (λ j. MayStand m j (completed (object m j))) (numbered k slot small u at m is.number is.stands.handles) may_here

      finished_is : finished_by m slot ≡ stored m (number_of m slot) (completed (object_of m slot))
      finished_is = ap (λ (b : Bool). if b then stored m (number_of m slot) (completed (object_of m slot)) else m) writes

      becomes : object (effect m (Close slot)).next (number_of m slot) ≡ completed (object_of m slot)
      unfolding effect
      becomes =
          ap (λ objects. nth objects (number_of m slot)) (released_objects (finished_by m slot) slot)
          ∙ ap (λ (n : Machine). object n (number_of m slot)) finished_is
          ∙ stored_here m (number_of m slot) (completed (object_of m slot)) is.stands.proper may_here (number_of m slot) refl

      un : (object m (is.number u.place)).finished ≡ false
      un = ap (λ j. (object m j).finished) (sym (numbered k slot small u at m is.number is.stands.handles)) ∙ unfinished

      out : MayFinish (begun m (Close slot) w) (is.number u.place) (completed (object m (is.number u.place)))
      out =
          let writes_it : rewritten m (Close slot) ≡ Some (number_of m slot) = ap (λ (b : Bool). if b then Some (number_of m slot) else None) writes in
          subst (λ j. MayFinish (begun m (Close slot) w) j (completed (object m j))) (numbered k slot small u at m is.number is.stands.handles)
          (finishes_out m (Close slot) w (close_passes k slot small u at m is.number is.stands.handles) (number_of m slot) (completed (object_of m slot)) writes_it refl becomes refl refl)

      there : CompletesAt u.place completed r (cache_at k s) (cache_at after t) (object_there k slot small u at m is.number is.stands.handles).0
      there = let x = object_there k slot small u at m is.number is.stands.handles in completes x.0 x.1

      pub finished_safe : IsTrue b → IsSafe t (begun m (Close slot) w)
      finished_safe =
          let x = object_there k slot small u at m is.number is.stands.handles in
          completed_safe completed (completion None) s t k m (begun m (Close slot) w) is u.place x.0 there.changed x.1 there.completes un may out

      finished_when : IsSound s → IsOkAnd there.changed (λ y. after ≡ with_object k u.place (Some y)) → KeepsWhere b (cache_at after t) (history_of (finished_by m slot) (begun m (Close slot) w))
      finished_when sound put = go there.changed refl put
        where
          go : (changed : Result Object HandleFault) → there.changed ≡ changed → IsOkAnd changed (λ y. after ≡ with_object k u.place (Some y)) → KeepsWhere b (cache_at after t) (history_of (finished_by m slot) (begun m (Close slot) w))
          go (Err f) e put = absurd put
          go (Ok y) e put =
              let x = object_there k slot small u at m is.number is.stands.handles in
              let stands : KeepsWhere b (cache_at (with_object k u.place (Some y)) t) (history_of (stored m (is.number u.place) (completed (object m (is.number u.place)))) (begun m (Close slot) w)) =
              completed_in completed (completion None) s t k m (begun m (Close slot) w) is u.place x.0 y there.changed sound x.1 there.completes e un may out in
              let same : stored m (is.number u.place) (completed (object m (is.number u.place))) ≡ finished_by m slot = ap (λ j. stored m j (completed (object m j))) (sym (numbered k slot small u at m is.number is.stands.handles)) ∙ sym finished_is in
              subst (λ (l : Kept). KeepsWhere b (cache_at l t) (history_of (finished_by m slot) (begun m (Close slot) w))) (sym put)
              (subst (λ (n : Machine). KeepsWhere b (cache_at (with_object k u.place (Some y)) t) (history_of n (begun m (Close slot) w))) same stands)

      pub finished_in : IsSound s → OnOk r (KeepsWhere b (cache_at after t) (history_of (finished_by m slot) (begun m (Close slot) w)))
      finished_in sound = go r there.put_back
        where
          go : (r : Result T HandleFault) → OnOk r (IsOkAnd there.changed (λ y. after ≡ with_object k u.place (Some y))) → OnOk r (KeepsWhere b (cache_at after t) (history_of (finished_by m slot) (begun m (Close slot) w)))
          go (Ok value) put = finished_when sound put
          go (Err f) put = tt

    -- and its file stands where it should
    same_use : (changed : Result Object HandleFault) → IsOkAnd changed (λ y. after ≡ with_object k u.place (Some y)) → use_at after slot ≡ Some u
    same_use (Err f) put = absurd put
    same_use (Ok y) put = ap (λ (l : Kept). use_at l slot) put ∙ at

    still_there : (r' : Result T HandleFault) (m : Machine) (w : Marks) (changed : Result Object HandleFault) → OnOk r' (IsOkAnd changed (λ y. after ≡ with_object k u.place (Some y)))
        → OnOk r' (KeepsWhere false (cache_at after t) (history_of m w)) → OnOk r' (MayGiveUp slot u.place (cache_at after t))
    still_there (Err f) m w changed put keeps = tt
    still_there (Ok value) m w changed put keeps = may_give_up t after slot small u (same_use changed put) m keeps.number keeps.stands

    pub finished_may : IsSound s → RepresentsSome (cache_at k s) → OnOk r (MayGiveUp slot u.place (cache_at after t))
    finished_may sound (m, stands) =
        let w : Marks = marks_of m in
        let is : KeepsWhere false (cache_at k s) (history_of m (begun m (Close slot) w)) = bare_in {h = history_of m (begun m (Close slot) w)} stands in
        still_there r (finished_by m slot) (begun m (Close slot) w) (there m w is).changed (there m w is).put_back (finished_in m w is sound)

  -- The slot is given up then.
  module _ (t : State) (mid after : Kept) {b : Bool} (m : Machine) (w : Marks) (is : KeepsWhere b (cache_at k s) (history_of m w)) (stands : KeepsWhere b (cache_at mid t) (history_of (finished_by m slot) (begun m (Close slot) w))) (v : State) where
    reads : (object_of (finished_by m slot) slot).finished ≡ false → is_writer (finished_by m slot) slot ≡ false
    reads = finished_reads m slot is.stands.proper (has_slot k slot small u at m is.number is.stands.handles)

    pub closed_safe : (r : Result (Unit {0}) DiskFault) → GivesUp slot r (cache_at mid t) (cache_at after v) → IsTrue b → IsSafe v (begun m (Close slot) w)
    closed_safe r gives = (gives.leaves b (history_of (finished_by m slot) (begun m (Close slot) w)) reads stands).safe

    pub closed_leaves : GivesUp slot (Ok tt) (cache_at mid t) (cache_at after v) → LeavesWhere b (Close slot) (history_of m w) (Some Done) (cache_at after v)
    closed_leaves gives =
        let given = gives.leaves b (history_of (finished_by m slot) (begun m (Close slot) w)) reads stands in
        record {
          safe = given.safe;
          replies = ap (λ (a : Answer). a.reply) (sym (close_step k slot small u at m is.number is.stands.handles));
          next = subst (λ (n : Machine). KeepsWhere b (cache_at after v) (history_of n (begun m (Close slot) w))) (ap (λ (a : Answer). a.next) (sym (close_step k slot small u at m is.number is.stands.handles))) given.next;
        }

-- what holds of an Ok where the disk tells
pub told_then : {T : Type 0} (r : Result T HandleFault) (Told P : Type 0) → (Told → OnOk r P) → OnOk r (Told → P)
told_then (Ok value) Told P each = each
told_then (Err f) Told P each = tt
