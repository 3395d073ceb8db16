-- An object is finished by a command, or the disk failed on the way.
use Rattle.std.proofs.Common.{◌≡◌, inl, inr, ℕ, ◌<◌, Bool, true, false, Some, None, Result, Ok, Err, IsTrue, refl, sym, subst}
use Rattle.std.specs.Prelude.{IfOk, IsOkAnd}
use Rattle.cache_base.specs.declared.limits.TheConstants.{SLOTS}
use Rattle.cache_theory.specs.Command.{Command}
use Rattle.cache_theory.specs.Command.Reply.{Done}
use Rattle.cache_theory.specs.Crash.{IsSafe}
use Rattle.cache_theory.specs.Machine.{Machine, Object as MachineObject, object}
use Rattle.cache_theory.specs.Marks.{Marks, begun}
use Rattle.cache_theory.specs.Step.{stored}
use Rattle.cache_theory.proofs.ObjectLaws.Storing.{MayStand}
use Rattle.disk_theory.specs.Sound.{IsSound}
use Rattle.disk_theory.specs.State.{State}
use Rattle.file_handles.specs.Answers.{OnRefused, done_or}
use Rattle.file_handles.specs.Cache.{cache_at}
use Rattle.file_handles.specs.Carries.{CarriesOut}
use Rattle.file_handles.specs.Changes.{IsFiledAs}
use Rattle.handle_table.specs.Held.{IsEntryOf, is_draft}
use Rattle.handle_table.specs.Kept.{Kept, object_at, with_object}
use Rattle.file_handles.specs.Publishing.{BecomesWhole, Completes, CompletesAt, published_by}
use Rattle.handle_table.specs.Refuses.{HasAt}
use Rattle.file_handles.specs.Stands.{KeepsWhere}
use Rattle.file_handles.specs.declared.fault.HandleFault.{HandleFault}
use Rattle.file_handles.specs.declared.fault.HandleFault.TheVariants as fault
use Rattle.handle_table.specs.declared.object.Entry.{Entry}
use Rattle.handle_table.specs.declared.object.Entry.TheVariants as entry
use Rattle.handle_table.specs.declared.object.Object.{Object}
use Rattle.file_handles.proofs.Begun.{begun_in}
use Rattle.file_handles.proofs.Carried.{MakesChangeAt, change_made, change_may, change_out}
use Rattle.file_handles.proofs.Finishing.Completions.{IsCompletion}
use Rattle.file_handles.proofs.Histories.{history_of}
use Rattle.file_handles.proofs.Places.{is_filed}
use Rattle.file_handles.proofs.Finishing.Published.{MayFinish, amid_safe, whole_in, written_safe}
use Rattle.file_handles.proofs.Where.{LeavesWhere, carries_out}

-- a draft is not finished
draft_unfinished : (e : Entry) (o : MachineObject) → IsEntryOf e o → is_draft e ≡ true → o.finished ≡ false
draft_unfinished (entry.Draft d) o is draft = is.0
draft_unfinished (entry.Finished meta) o is draft = absurd (cc)

pub not_finished : {b : Bool} (s : State) (k : Kept) (m : Machine) (w : Marks) (is : KeepsWhere b (cache_at k s) (history_of m w)) (p : ℕ) (x : Object) → object_at k p ≡ Some x → is_draft x.entry ≡ true → (object m (is.number p)).finished ≡ false
not_finished s k m w is p x at draft = draft_unfinished x.entry (object m (is.number p)) (is.stands.handles.objects p x at).as_held.held_entry draft

-- at every exit a crash may lose no more than the marks allow
pub completed_safe : {b : Bool} (change : MachineObject → MachineObject) → IsCompletion change → (s t : State) (k : Kept) (m : Machine) (w : Marks) (is : KeepsWhere b (cache_at k s) (history_of m w)) (p : ℕ) (x : Object) (changed : Result Object HandleFault)
    → object_at k p ≡ Some x → Completes x change changed s t → (object m (is.number p)).finished ≡ false → MayStand m (is.number p) (change (object m (is.number p)))
    → MayFinish w (is.number p) (change (object m (is.number p))) → IsTrue b → IsSafe t w
completed_safe change finishes s t k m w is p x changed at completes un may out on =
    let o : MachineObject = change (object m (is.number p)) in
    let done = finishes.done (object m (is.number p)) in
    let filed = is_filed s k m is.number is.stands p x at in
    elim completes.amid [
      | inl same ↦ subst (λ z. IsSafe z w) (sym same) (written_safe s k m w is p x at un o done may completes.written (completes.writes (object m (is.number p)) filed) on)
      | inr amid ↦ amid_safe s k m w is p x at un o done may completes.written (completes.writes (object m (is.number p)) filed) t (amid.1 (object m (is.number p)) filed) out amid.0 on
    ]

-- and after an Ok all stands for the machine with the object finished
pub completed_in : {b : Bool} (change : MachineObject → MachineObject) → IsCompletion change → (s t : State) (k : Kept) (m : Machine) (w : Marks) (is : KeepsWhere b (cache_at k s) (history_of m w)) (p : ℕ) (x y : Object) (changed : Result Object HandleFault)
    → IsSound s → object_at k p ≡ Some x → Completes x change changed s t → changed ≡ Ok y → (object m (is.number p)).finished ≡ false → MayStand m (is.number p) (change (object m (is.number p)))
    → MayFinish w (is.number p) (change (object m (is.number p))) → KeepsWhere b (cache_at (with_object k p (Some y)) t) (history_of (stored m (is.number p) (change (object m (is.number p)))) w)
completed_in {b} change finishes s t k m w is p x y changed sound at completes ok un may out =
    let o : MachineObject = change (object m (is.number p)) in
    let done = finishes.done (object m (is.number p)) in
    let filed = is_filed s k m is.number is.stands p x at in
    let at_ok : IfOk {E = HandleFault} (Ok y) (λ y. (t ≡ published_by x.name x.doomed x.aside completes.written) × ((o : MachineObject) → IsFiledAs x o s → BecomesWhole change x y o completes.written)) =
    subst (λ (r : Result Object HandleFault). IfOk r (λ y. (t ≡ published_by x.name x.doomed x.aside completes.written) × ((o : MachineObject) → IsFiledAs x o s → BecomesWhole change x y o completes.written))) ok completes.becomes in
    subst (λ z. KeepsWhere b (cache_at (with_object k p (Some y)) z) (history_of (stored m (is.number p) o) w)) (sym at_ok.0)
    (whole_in s k m w is p x at un o done may completes.written (completes.writes (object m (is.number p)) filed) change y sound completes.sound (at_ok.1 (object m (is.number p)) filed) refl (λ on. out))

module _ (change : MachineObject → MachineObject) (finishes : IsCompletion change) (s t : State) (k after : Kept) (c : Command) (slot : ℕ) (small : slot < SLOTS) (p : ℕ) (x : Object) (has : HasAt k slot p x) (draft : is_draft x.entry ≡ true)
    (makes : MakesChangeAt (λ m. Unit {0}) MayFinish k c slot change (λ o. o.finished ≡ false)) {T : Type 0} (r : Result T HandleFault) (there : CompletesAt p change r (cache_at k s) (cache_at after t) x) where
  module _ {b : Bool} (m : Machine) (w : Marks) (is : KeepsWhere b (cache_at k s) (history_of m (begun m c w))) where
    un : (object m (is.number p)).finished ≡ false
    un = not_finished s k m (begun m c w) is p x has.found draft

    may : MayStand m (is.number p) (change (object m (is.number p)))
    may = change_may (λ m. Unit {0}) MayFinish s k c slot small p x has change (λ o. o.finished ≡ false) makes m w tt is

    out : MayFinish (begun m c w) (is.number p) (change (object m (is.number p)))
    out = change_out (λ m. Unit {0}) MayFinish s k c slot small p x has change (λ o. o.finished ≡ false) makes m w tt is un

    safe : IsTrue b → IsSafe t (begun m c w)
    safe = completed_safe change finishes s t k m (begun m c w) is p x there.changed has.found there.completes un may out

    failed : LeavesWhere b c (history_of m w) None (cache_at after t)
    failed = record { safe = safe; replies = tt; next = tt }

    made : IsSound s → IsOkAnd there.changed (λ y. after ≡ with_object k p (Some y)) → LeavesWhere b c (history_of m w) (Some Done) (cache_at after t)
    made sound put = go there.changed refl put
      where
        go : (changed : Result Object HandleFault) → there.changed ≡ changed → IsOkAnd changed (λ y. after ≡ with_object k p (Some y)) → LeavesWhere b c (history_of m w) (Some Done) (cache_at after t)
        go (Err f) e put = absurd put
        go (Ok y) e put =
            let stands : KeepsWhere b (cache_at (with_object k p (Some y)) t) (history_of (stored m (is.number p) (change (object m (is.number p)))) (begun m c w)) =
            completed_in change finishes s t k m (begun m c w) is p x y there.changed sound has.found there.completes e un may out in
            change_made (λ m. Unit {0}) MayFinish s k c slot small p x has change (λ o. o.finished ≡ false) makes m w tt is t after safe
            (subst (λ (l : Kept). KeepsWhere b (cache_at l t) (history_of (stored m (is.number p) (change (object m (is.number p)))) (begun m c w))) (sym put) stands)

-- such a command is carried out: a fault is no refusal
finish_where : (change : MachineObject → MachineObject) → IsCompletion change → (s t : State) → IsSound s → (k after : Kept) (c : Command) (slot : ℕ) → slot < SLOTS → (p : ℕ) (x : Object) → HasAt k slot p x → is_draft x.entry ≡ true
    → MakesChangeAt (λ m. Unit {0}) MayFinish k c slot change (λ o. o.finished ≡ false) → {T : Type 0} (r : Result T HandleFault)
    → CompletesAt p change r (cache_at k s) (cache_at after t) x → OnRefused r (λ _. ⊥)
    → (b : Bool) (m : Machine) (w : Marks) → KeepsWhere b (cache_at k s) (history_of m w) → LeavesWhere b c (history_of m w) (done_or r) (cache_at after t)
finish_where change finishes s t sound k after c slot small p x has draft makes (Ok value) there none b m w is = made change finishes s t k after c slot small p x has draft makes (Ok value) there m w (begun_in s k m c w is) sound there.put_back
finish_where change finishes s t sound k after c slot small p x has draft makes (Err fault.Read) there none b m w is = failed change finishes s t k after c slot small p x has draft makes (Err fault.Read) there m w (begun_in s k m c w is)
finish_where change finishes s t sound k after c slot small p x has draft makes (Err fault.Disk) there none b m w is = failed change finishes s t k after c slot small p x has draft makes (Err fault.Disk) there m w (begun_in s k m c w is)
finish_where change finishes s t sound k after c slot small p x has draft makes (Err fault.Memory) there none b m w is = failed change finishes s t k after c slot small p x has draft makes (Err fault.Memory) there m w (begun_in s k m c w is)
finish_where change finishes s t sound k after c slot small p x has draft makes (Err (fault.Refused refusal)) there none b m w is = absurd (none refusal refl)

pub finish_carried : (change : MachineObject → MachineObject) → IsCompletion change → (s t : State) → IsSound s → (k after : Kept) (c : Command) (slot : ℕ) → slot < SLOTS → (p : ℕ) (x : Object) → HasAt k slot p x → is_draft x.entry ≡ true
    → MakesChangeAt (λ m. Unit {0}) MayFinish k c slot change (λ o. o.finished ≡ false) → {T : Type 0} (r : Result T HandleFault)
    → CompletesAt p change r (cache_at k s) (cache_at after t) x → OnRefused r (λ _. ⊥) → CarriesOut c (done_or r) (cache_at k s) (cache_at after t)
finish_carried change finishes s t sound k after c slot small p x has draft makes r there none = carries_out (finish_where change finishes s t sound k after c slot small p x has draft makes r there none)
