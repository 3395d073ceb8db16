-- A command that changes the object of a slot and writes to its file alone.
use Rattle.std.proofs.Common.{◌≡◌, ◌⊎◌, inl, inr, ℕ, ◌<◌, false, Some, None, Result, Ok, Err, refl, sym, ap, subst, ◌∙◌, Bool, IsTrue}
use Rattle.std.specs.Prelude.{IsOkAnd}
use Rattle.cache_base.specs.Checks.{first_failing}
use Rattle.cache_base.specs.declared.limits.TheConstants.{SLOTS}
use Rattle.cache_theory.specs.Checks.{checks}
use Rattle.cache_theory.specs.Command.{Command}
use Rattle.cache_theory.specs.Command.Reply.{Done}
use Rattle.cache_theory.specs.Crash.{IsSafe}
use Rattle.cache_theory.specs.Machine.{Machine, Object as MachineObject, number_of, object, object_of}
use Rattle.cache_theory.specs.Marks.{Marks, acked, begun}
use Rattle.cache_theory.specs.Proper.{IsObject, IsProper}
use Rattle.cache_theory.specs.Step.{Answer, answer, effect, step, stepped, stored}
use Rattle.cache_theory.proofs.ObjectLaws.Storing.{MayStand, stored_here}
use Rattle.disk_theory.specs.Sound.{IsSound}
use Rattle.disk_theory.specs.State.{State}
use Rattle.file_handles.specs.Answers.{OnRefused, done_or}
use Rattle.file_handles.specs.Cache.{cache_at}
use Rattle.file_handles.specs.Carries.{CarriesOut, CarriesOutAt}
use Rattle.file_handles.specs.Changes.{ChangesAt}
use Rattle.handle_table.specs.Held.{IsHeldAs}
use Rattle.handle_table.specs.Kept.{Kept, with_object}
use Rattle.handle_table.specs.Refuses.{HasAt}
use Rattle.handle_table.specs.Standing.{HandlesStand}
use Rattle.file_handles.specs.Stands.{KeepsWhere}
use Rattle.file_handles.specs.declared.fault.HandleFault.{HandleFault}
use Rattle.file_handles.specs.declared.fault.HandleFault.TheVariants as fault
use Rattle.handle_table.specs.declared.object.Object.{Object}
use Rattle.file_handles.proofs.Begun.{begun_in}
use Rattle.file_handles.proofs.Changed.{MayGoOut, changed_in_safe, changed_safe}
use Rattle.file_handles.proofs.Setting.ElementSlots.{there_number}
use Rattle.file_handles.proofs.Histories.{history_of}
use Rattle.file_handles.proofs.Where.{LeavesWhere, carries_out, carries_out_at}

-- a command that passes its checks and makes this change of the slot's object in the machines that are `At`, and
-- writes to its file only where `Writes` holds of the object, which may then go `Out`
pub record MakesChangeAt (At : Machine → Type 0) (Out : Marks → ℕ → MachineObject → Type 0) (k : Kept) (c : Command) (slot : ℕ) (change : MachineObject → MachineObject) (Writes : MachineObject → Type 0) : Type 0 where
  pub passes : (m : Machine) (number : ℕ → ℕ) → IsProper m → HandlesStand k m number → At m → first_failing (checks m c) ≡ None
  pub acks : (m : Machine) (w : Marks) → acked m c w ≡ begun m c w
  pub effects : (m : Machine) (number : ℕ → ℕ) → HandlesStand k m number → At m → first_failing (checks m c) ≡ None
      → effect m c ≡ answer (stored m (number_of m slot) (change (object_of m slot))) Done
  pub objects : (m : Machine) → IsProper m → first_failing (checks m c) ≡ None → IsObject (change (object_of m slot))
  pub key : (o : MachineObject) → (change o).version.key ≡ o.version.key
  pub doomed : (o : MachineObject) → (change o).doomed ≡ o.doomed
  pub unfinished : (o : MachineObject) → (change o).finished ≡ false → o.finished ≡ false
  -- where that is what becomes of the object, and its file is written to, it may go out
  pub out : (m : Machine) (w : Marks) (number : ℕ → ℕ) → HandlesStand k m number → first_failing (checks m c) ≡ None → Writes (object_of m slot)
      → object (effect m c).next (number_of m slot) ≡ change (object_of m slot) → Out (begun m c w) (number_of m slot) (change (object_of m slot))

-- and one that makes it in every machine
abbrev pub MakesChange : Kept → Command → ℕ → (MachineObject → MachineObject) → (MachineObject → Type 0) → Type 0
MakesChange k c slot change Writes = MakesChangeAt (λ m. Unit {0}) MayGoOut k c slot change Writes

module _ (At : Machine → Type 0) (Out : Marks → ℕ → MachineObject → Type 0) (s : State) (k : Kept) (c : Command) (slot : ℕ) (small : slot < SLOTS) (p : ℕ) (x : Object) (has : HasAt k slot p x) (change : MachineObject → MachineObject) (Writes : MachineObject → Type 0)
    (makes : MakesChangeAt At Out k c slot change Writes) {b : Bool} (m : Machine) (w : Marks) (at : At m) (is : KeepsWhere b (cache_at k s) (history_of m (begun m c w))) where
  pub slot_number : number_of m slot ≡ is.number p
  slot_number = there_number k m is.number is.stands.handles slot small p x has

  pub change_passes : first_failing (checks m c) ≡ None
  change_passes = makes.passes m is.number is.stands.proper is.stands.handles at

  pub change_may : MayStand m (is.number p) (change (object m (is.number p)))
  change_may = record {
    in_use = (is.stands.handles.objects p x has.found).in_use;
    is = subst (λ j. IsObject (change (object m j))) slot_number (makes.objects m is.stands.proper change_passes);
    key = makes.key (object m (is.number p));
    doomed = makes.doomed (object m (is.number p));
    unfinished = makes.unfinished (object m (is.number p));
  }

  effect_is : effect m c ≡ answer (stored m (is.number p) (change (object m (is.number p)))) Done
  effect_is = makes.effects m is.number is.stands.handles at change_passes ∙ ap (λ j. answer (stored m j (change (object m j))) Done) slot_number

  step_is : step m c ≡ answer (stored m (is.number p) (change (object m (is.number p)))) Done
  step_is = ap (stepped m c) change_passes ∙ effect_is

  pub change_out : Writes (object m (is.number p)) → Out (begun m c w) (is.number p) (change (object m (is.number p)))
  change_out some =
      let becomes : object (effect m c).next (number_of m slot) ≡ change (object_of m slot) =
      ap (λ (a : Answer). object a.next (number_of m slot)) effect_is
      ∙ stored_here m (is.number p) (change (object m (is.number p))) is.stands.proper change_may (number_of m slot) slot_number
      ∙ ap (λ j. change (object m j)) (sym slot_number) in
      subst (λ j. Out (begun m c w) j (change (object m j))) slot_number
      (makes.out m w is.number is.stands.handles change_passes (subst (λ j. Writes (object m j)) (sym slot_number) some) becomes)

  -- after an Ok all stands for the next machine
  pub change_made : (t : State) (after : Kept) → (IsTrue b → IsSafe t (begun m c w)) → KeepsWhere b (cache_at after t) (history_of (stored m (is.number p) (change (object m (is.number p)))) (begun m c w))
      → LeavesWhere b c (history_of m w) (Some Done) (cache_at after t)
  change_made t after safe stands = record {
    safe = safe;
    replies = ap (λ (a : Answer). a.reply) (sym step_is);
    next =
        subst (λ (v : Marks). KeepsWhere b (cache_at after t) (history_of (step m c).next v)) (sym (makes.acks m w))
        (subst (λ (n : Machine). KeepsWhere b (cache_at after t) (history_of n (begun m c w))) (ap (λ (a : Answer). a.next) (sym step_is)) stands);
  }

module _ (At : Machine → Type 0) (s t : State) (k after : Kept) (c : Command) (slot : ℕ) (small : slot < SLOTS) (p : ℕ) (x : Object) (has : HasAt k slot p x) (change : MachineObject → MachineObject) (Writes : MachineObject → Type 0)
    (makes : MakesChangeAt At MayGoOut k c slot change Writes) {T : Type 0} (r : Result T HandleFault) (there : ChangesAt p change r (cache_at k s) (cache_at after t) x) (writes : (o : MachineObject) → IsHeldAs x o → Writes o ⊎ (t ≡ s)) where
  module _ {b : Bool} (m : Machine) (w : Marks) (at : At m) (is : KeepsWhere b (cache_at k s) (history_of m (begun m c w))) where
    may_it : MayStand m (is.number p) (change (object m (is.number p)))
    may_it = change_may At MayGoOut s k c slot small p x has change Writes makes m w at is

    out_it : Writes (object m (is.number p)) → MayGoOut (begun m c w) (is.number p) (change (object m (is.number p)))
    out_it = change_out At MayGoOut s k c slot small p x has change Writes makes m w at is

    -- at every exit that is safe
    safe : IsTrue b → IsSafe t (begun m c w)
    safe on = elim (writes (object m (is.number p)) (is.stands.handles.objects p x has.found).as_held) [
      | inl some ↦ changed_safe s t k m (begun m c w) is p x change there.changed has.found there.changes may_it (out_it some) on
      | inr same ↦ subst (λ (u : State). IsSafe u (begun m c w)) (sym same) (is.crash_kept on).safe
    ]

    failed : LeavesWhere b c (history_of m w) None (cache_at after t)
    failed = record { safe = safe; replies = tt; next = tt }

    -- and after an Ok all stands for the next machine
    made : IsSound s → IsOkAnd there.changed (λ y. after ≡ with_object k p (Some y)) → LeavesWhere b c (history_of m w) (Some Done) (cache_at after t)
    made sound put = go there.changed refl put
      where
        go : (changed : Result Object HandleFault) → there.changed ≡ changed → IsOkAnd changed (λ y. after ≡ with_object k p (Some y)) → LeavesWhere b c (history_of m w) (Some Done) (cache_at after t)
        go (Err f) e put = absurd put
        go (Ok y) e put =
            let stands : KeepsWhere b (cache_at (with_object k p (Some y)) t) (history_of (stored m (is.number p) (change (object m (is.number p)))) (begun m c w)) =
            changed_in_safe s t k m (begun m c w) is p x y change there.changed sound has.found there.changes e may_it safe in
            change_made At MayGoOut s k c slot small p x has change Writes makes m w at is t after safe
            (subst (λ (l : Kept). KeepsWhere b (cache_at l t) (history_of (stored m (is.number p) (change (object m (is.number p)))) (begun m c w))) (sym put) stands)

-- such a command is carried out: a fault is no refusal
pub change_where : (At : Machine → Type 0) (s t : State) → IsSound s → (k after : Kept) (c : Command) (slot : ℕ) → slot < SLOTS → (p : ℕ) (x : Object) → HasAt k slot p x
    → (change : MachineObject → MachineObject) (Writes : MachineObject → Type 0) → MakesChangeAt At MayGoOut k c slot change Writes → {T : Type 0} (r : Result T HandleFault)
    → ChangesAt p change r (cache_at k s) (cache_at after t) x → ((o : MachineObject) → IsHeldAs x o → Writes o ⊎ (t ≡ s)) → OnRefused r (λ _. ⊥)
    → (b : Bool) (m : Machine) (w : Marks) → At m → KeepsWhere b (cache_at k s) (history_of m w) → LeavesWhere b c (history_of m w) (done_or r) (cache_at after t)
change_where At s t sound k after c slot small p x has change Writes makes (Ok value) there writes none b m w at is =
    made At s t k after c slot small p x has change Writes makes (Ok value) there writes m w at (begun_in s k m c w is) sound there.put_back
change_where At s t sound k after c slot small p x has change Writes makes (Err fault.Read) there writes none b m w at is =
    failed At s t k after c slot small p x has change Writes makes (Err fault.Read) there writes m w at (begun_in s k m c w is)
change_where At s t sound k after c slot small p x has change Writes makes (Err fault.Disk) there writes none b m w at is =
    failed At s t k after c slot small p x has change Writes makes (Err fault.Disk) there writes m w at (begun_in s k m c w is)
change_where At s t sound k after c slot small p x has change Writes makes (Err fault.Memory) there writes none b m w at is =
    failed At s t k after c slot small p x has change Writes makes (Err fault.Memory) there writes m w at (begun_in s k m c w is)
change_where At s t sound k after c slot small p x has change Writes makes (Err (fault.Refused refusal)) there writes none b m w at is =
    absurd (none refusal refl)

pub change_carried : (s t : State) → IsSound s → (k after : Kept) (c : Command) (slot : ℕ) → slot < SLOTS → (p : ℕ) (x : Object) → HasAt k slot p x → (change : MachineObject → MachineObject)
    (Writes : MachineObject → Type 0) → MakesChange k c slot change Writes → {T : Type 0} (r : Result T HandleFault) → ChangesAt p change r (cache_at k s) (cache_at after t) x
    → ((o : MachineObject) → IsHeldAs x o → Writes o ⊎ (t ≡ s)) → OnRefused r (λ _. ⊥) → CarriesOut c (done_or r) (cache_at k s) (cache_at after t)
change_carried s t sound k after c slot small p x has change Writes makes r there writes none =
    carries_out (λ b m w is. change_where (λ m. Unit {0}) s t sound k after c slot small p x has change Writes makes r there writes none b m w tt is)

-- and the same at a moment
pub change_carried_at : (now : ℕ) (s t : State) → IsSound s → (k after : Kept) (c : Command) (slot : ℕ) → slot < SLOTS → (p : ℕ) (x : Object) → HasAt k slot p x
    → (change : MachineObject → MachineObject) (Writes : MachineObject → Type 0) → MakesChangeAt (λ m. m.moment ≡ now) MayGoOut k c slot change Writes → {T : Type 0} (r : Result T HandleFault)
    → ChangesAt p change r (cache_at k s) (cache_at after t) x → ((o : MachineObject) → IsHeldAs x o → Writes o ⊎ (t ≡ s)) → OnRefused r (λ _. ⊥)
    → CarriesOutAt now c (done_or r) (cache_at k s) (cache_at after t)
change_carried_at now s t sound k after c slot small p x has change Writes makes r there writes none =
    carries_out_at (change_where (λ m. m.moment ≡ now) s t sound k after c slot small p x has change Writes makes r there writes none)
