-- Whose body a slot reads.
use Rattle.std.proofs.Common.{◌≡◌, ◌≢◌, ◌∙◌, ℕ, ◌<◌, length, cond, Some, None, Result, Ok, Err, IfErr, IsErrAnd, sym, ap, subst, OnOk}
use Rattle.std.specs.Prelude.{IfOk, OnErr, is_some, option_map}
use Rattle.cache_base.specs.declared.limits.TheConstants.{SLOTS}
use Rattle.cache_theory.specs.Checks.{checks}
use Rattle.cache_theory.specs.Command.Command.{ReadPart}
use Rattle.cache_theory.specs.Machine.{Machine, object, object_of}
use Rattle.cache_theory.specs.declared.refusal.Refusal.{Refusal}
use Rattle.cache_theory.specs.declared.refusal.Refusal.TheVariants.{NoSlot}
use Rattle.file_handles.specs.Answers.{OnRead, OnRefused}
use Rattle.handle_table.specs.Held.{body_len_in}
use Rattle.handle_table.specs.Kept.{Kept, object_at, use_at, used}
use Rattle.handle_table.specs.Refuses.{Passes, Refuses}
use Rattle.handle_table.specs.Standing.{HandlesStand, slot_of}
use Rattle.file_handles.specs.declared.fault.HandleFault.{HandleFault}
use Rattle.file_handles.specs.declared.fault.HandleFault.TheVariants as fault
use Rattle.handle_table.specs.declared.object.Object.{Object}
use Rattle.handle_table.specs.declared.object.Use.{Use}
use Rattle.file_handles.proofs.Setting.ElementSlots.{no_slot, no_use_found, slot_number, use_found}
use Rattle.file_handles.proofs.Setting.ElementEntries.{body_len_is}

-- a refusal that is handed on
pub refused_on : {T : Type 0} (r : Result T Refusal) (f : Refusal) (P : Refusal → Type 0) → IsErrAnd r (λ e. e ≡ f) → P f → IfErr r P
refused_on (Ok x) f P is p = tt
refused_on (Err e) f P is p = subst P (sym is) p

module _ (k : Kept) (s : ℕ) (small : s < SLOTS) where
  -- a slot that is not in use
  pub part_no_slot : (r : Refusal) → used (use_at k s) ≡ Err r → (from len : ℕ) → Refuses k (ReadPart s from len) r
  unfolding checks
  part_no_slot r is from len m number proper stand =
      let parts = no_use_found (use_at k s) r is in
      ap (λ b. cond b None (Some NoSlot)) (no_slot k m number stand s small parts.0) ∙ ap Some (sym parts.1)

  -- one that is may be read
  pub part_passes : (u : Use) → use_at k s ≡ Some u → (from len : ℕ) → Passes k (ReadPart s from len)
  unfolding checks
  part_passes u found from len m number proper stand =
      ap (λ b. cond b None (Some NoSlot)) (ap is_some (stand.slots s small ∙ ap (option_map (slot_of number)) found))

  -- its object is the machine's
  pub part_object : (m : Machine) (number : ℕ → ℕ) → HandlesStand k m number → (u : Use) → used (use_at k s) ≡ Ok u → object_of m s ≡ object m (number u.place)
  part_object m number stand u is = ap (object m) (slot_number k m number stand s small u (use_found (use_at k s) u is))

  pub part_len : (m : Machine) (number : ℕ → ℕ) → HandlesStand k m number → (u : Use) (x : Object) → used (use_at k s) ≡ Ok u → object_at k u.place ≡ Some x → body_len_in x.entry ≡ length (object_of m s).version.body
  part_len m number stand u x is at =
      body_len_is x.entry (object m (number u.place)) (stand.objects u.place x at).as_held.held_entry ∙ ap (λ o. length o.version.body) (sym (part_object m number stand u is))

-- an error that is handed on
pub err_is : {T E : Type 0} (r : Result T E) (e : E) → IsErrAnd r (λ f. f ≡ e) → r ≡ Err e
err_is (Ok x) e is = absurd is
err_is (Err f) e is = ap (λ e. Err e) is

-- what an error says
pub error_says : {T : Type 0} (r : Result T HandleFault) (e : HandleFault) (Q : T → Type 0) (P : Refusal → Type 0) → r ≡ Err e → ((f : Refusal) → e ≡ fault.Refused f → P f) → IfOk r Q × OnRefused r P
error_says {T = T} (Ok x) e Q P is refuses = absurd (cc)
error_says {T = T} (Err d) e Q P is refuses =
    (tt, λ f same. refuses f (let both : ◌≡◌ {A = Result T HandleFault} (Err d) (Err e) = is in let one : d ≡ e = cc in sym one ∙ same))

-- an error that is no failed look, and one that is no failed change
pub error_reads : {T : Type 0} (r : Result T HandleFault) (e : HandleFault) (P : Type 0) → r ≡ Err e → (e ≡ fault.Read → P) → OnRead r P
error_reads {T = T} r e P is reads = subst (λ (a : Result T HandleFault). OnRead a P) (sym is) reads

pub error_changes : {T : Type 0} (r : Result T HandleFault) (e : HandleFault) → r ≡ Err e → e ≢ fault.Disk → r ≢ Err fault.Disk
error_changes {T = T} r e is other failed = other (let both : ◌≡◌ {A = Result T HandleFault} (Err e) (Err fault.Disk) = sym is ∙ failed in cc)

pub error_unread : {T : Type 0} (r : Result T HandleFault) (e : HandleFault) → r ≡ Err e → e ≢ fault.Read → r ≢ Err fault.Read
error_unread {T = T} r e is other failed = other (let both : ◌≡◌ {A = Result T HandleFault} (Err e) (Err fault.Read) = sym is ∙ failed in cc)

-- an answer is not both
pub never_both : {T E : Type 0} (r : Result T E) (x : T) (e : E) → r ≡ Ok x → r ≡ Err e → ⊥
never_both {T = T} {E = E} r x e good bad = let never : ◌≡◌ {A = Result T E} (Ok x) (Err e) = sym good ∙ bad in cc

-- nothing that is said of an answer is said of an error
pub on_err : {T E : Type 0} (P : Type 0) (r : Result T E) (e : E) → r ≡ Err e → OnOk r P
on_err {T = T} {E = E} P (Ok x) e is = absurd (let never : ◌≡◌ {A = Result T E} (Ok x) (Err e) = is in cc)
on_err P (Err f) e is = tt

-- and what holds anyway is said of an error
pub on_error : {T E : Type 0} (P : Type 0) (r : Result T E) (e : E) → r ≡ Err e → P → OnErr r P
on_error {T = T} {E = E} P (Ok x) e is p = absurd (let never : ◌≡◌ {A = Result T E} (Ok x) (Err e) = is in cc)
on_error P (Err f) e is p = p
