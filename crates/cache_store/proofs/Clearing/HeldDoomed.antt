-- Names that are in use or have a file are doomed one after the other.
use Rattle.std.proofs.Common.{◌≡◌, ◌∙◌, false, ℕ, List, [], ◌∷◌, None, Option, Some, Ok, Err, refl, sym, subst}
use Rattle.std.specs.List.{AllByRecursion, position}
use Rattle.std.specs.Prelude.{IsSome}
use Rattle.std.proofs.lemmas.Map.Keys.{IsDistinct-head, IsDistinct-tail}
use Rattle.cache_base.specs.declared.name.Name.{Name}
use Rattle.cache_store.specs.Clearing.{HoldsNames, IsHeld}
use Rattle.cache_store.specs.Faulting.{of_handles}
use Rattle.cache_store.specs.Faults.{of_disk}
use Rattle.cache_store.proofs.Performing.CalmAccounts.{accounts_after}
use Rattle.cache_store.proofs.Clearing.NamesDoomed.{alone, apart, not_in_use, own}
use Rattle.cache_theory.specs.Machine.{Machine}
use Rattle.cache_theory.specs.Proper.{IsProper}
use Rattle.cache_theory.specs.Step.{doomed_under}
use Rattle.cache_theory.specs.Table.{get}
use Rattle.cache_theory.proofs.Names.{get-remove_other}
use Rattle.disk_theory.specs.Account.{Accounts, FailsInChange, IsCalm, no_sync, fault_ending as disk_fault_ending}
use Rattle.disk_theory.specs.declared.disk.Disk.{Ghosts}
use Rattle.disk_theory.specs.declared.disk.DiskFault.{DiskFault}
use Rattle.disk_theory.specs.declared.disk.DiskFault.TheVariants as disk
use Rattle.file_handles.specs.Cache.{Cache}
use Rattle.file_handles.specs.Dooming.{DoomsUnder}
use Rattle.handle_table.specs.Finding.{is_user}
use Rattle.handle_table.specs.Kept.{Kept}
use Rattle.handle_table.specs.Standing.{HandlesStand}
use Rattle.file_handles.specs.Stands.{Represents}
use Rattle.handle_table.specs.Users.{users_at, users_of}
use Rattle.file_handles.specs.declared.fault.Effect.{Effect}
use Rattle.cache_theory.specs.declared.refusal.Refusal.{Refusal}
use Rattle.file_handles.specs.Answers.{fault_ending as handle_fault_ending}
use Rattle.file_handles.specs.declared.fault.HandleFault.{HandleFault}
use Rattle.file_handles.specs.declared.fault.HandleFault.TheVariants as handle
use Rattle.handle_table.proofs.User.{user_is_used}
use Rattle.file_handles.proofs.Where.{bare_in, stand_for}
use Rattle.record_list.specs.Lists.{same_name}

-- the answer of a dooming, as that of the disk
pub dooms_done : {name : List ℕ} {now next : Cache} (e : Effect) → DoomsUnder {E = HandleFault} name (Ok e) now next → DoomsUnder {T = Unit {0}} {E = DiskFault} name (Ok tt) now next
dooms_done e dooms = record { leaves = λ crash h touched keeps. let left = dooms.leaves crash h touched keeps in record { safe = left.safe; next = left.next } }

pub dooms_failed : {name : List ℕ} {now next : Cache} (f : HandleFault) (d : DiskFault) → DoomsUnder {T = Effect} name (Err f) now next → DoomsUnder {T = Unit {0}} name (Err d) now next
dooms_failed f d dooms = record { leaves = λ crash h touched keeps. record { safe = (dooms.leaves crash h touched keeps).safe; next = tt } }

-- a name with no object in use has no slot
user_free : (k : Kept) (m : Machine) (number : ℕ → ℕ) → IsProper m → HandlesStand k m number → (q : Name) → get m.in_use q.0 ≡ None → users_of k q ≡ 0
user_free k m number proper stand q free = go (position (is_user q) k.objects) refl
  where
    go : (o : Option ℕ) → position (is_user q) k.objects ≡ o → users_at k o ≡ 0
    go None at = refl
    go (Some p) at = let used = user_is_used k m number proper stand q p at in absurd (let never = sym free ∙ used in cc)

module _ (name : Name) (now next : Cache) (dooms : DoomsUnder {T = Unit {0}} {E = DiskFault} name.0 (Ok tt) now next) where
  reached : (m : Machine) → Represents now m → Represents next (doomed_under m name.0)
  reached m is =
      stand_for {h = record (alone name m) { machine = doomed_under m name.0 }} (dooms.leaves false (alone name m) (own name m) (bare_in {h = alone name m} is)).next

  -- a name that is in use or has a file is so after another was doomed
  still_held : (m : Machine) → Represents now m → (q : Name) → same_name name q ≡ false → IsHeld now q → IsHeld next q
  still_held m is q differs held unused =
      let gone : get (doomed_under m name.0).in_use q.0 ≡ None = not_in_use next (doomed_under m name.0) (reached m is) q unused in
      let free : get m.in_use q.0 ≡ None = sym (get-remove_other m.in_use name.0 q.0 (apart name q differs)) ∙ gone in
      let stands = held (user_free now.handles m is.0 is.1.proper is.1.handles q free) in
      subst IsSome (sym ((reached m is).1.entries q.0 ∙ get-remove_other m.shelf name.0 q.0 (apart name q differs) ∙ sym (is.1.entries q.0))) stands

  all_still : (m : Machine) → Represents now m → (qs : List Name) → AllByRecursion (λ q. same_name name q ≡ false) qs → AllByRecursion (IsHeld now) qs → AllByRecursion (IsHeld next) qs
  all_still m is [] differ held = tt
  all_still m is (q ∷ qs) differ held = (still_held m is q differ.0 held.0, all_still m is qs differ.1 held.1)

  pub rest_held : (left : List Name) → HoldsNames now (name ∷ left) → HoldsNames next left
  rest_held left holds = record {
    stands = (doomed_under holds.stands.0 name.0, reached holds.stands.0 holds.stands.1);
    distinct = IsDistinct-tail same_name name left holds.distinct;
    held = all_still holds.stands.0 holds.stands.1 left (IsDistinct-head same_name name left holds.distinct) holds.held.1;
  }

-- ---- a fault that is handed on as one of the disk

handed_ending : (f : HandleFault) (d : DiskFault) → of_disk d ≡ of_handles f → ((r : Refusal) → f ≡ handle.Refused r → ⊥) → handle_fault_ending f ≡ disk_fault_ending d
handed_ending (handle.Refused r) d is never = absurd (never r refl)
handed_ending handle.Read disk.Failed is never = refl
handed_ending handle.Disk disk.Failed is never = refl
handed_ending handle.Memory disk.Memory is never = refl
handed_ending handle.Read disk.Memory is never = absurd (cc)
handed_ending handle.Disk disk.Memory is never = absurd (cc)
handed_ending handle.Memory disk.Failed is never = absurd (cc)

pub handed_account : {Self : _} (D : Ghosts Self) {n : ℕ} (f : HandleFault) (d : DiskFault) → of_disk d ≡ of_handles f → ((r : Refusal) → f ≡ handle.Refused r → ⊥)
    → (a b c : Self) → IsCalm D no_sync a b → Accounts D (handle_fault_ending f) n b c → Accounts D (disk_fault_ending d) n a c
handed_account D {n} f d is never a b c calm account = subst (λ e. Accounts D e n a c) (handed_ending f d is never) (accounts_after D (handle_fault_ending f) a b c calm account)

pub handed_change : {Self : _} (D : Ghosts Self) (f : HandleFault) (d : DiskFault) → of_disk d ≡ of_handles f → ((r : Refusal) → f ≡ handle.Refused r → ⊥)
    → (c : Self) → FailsInChange D (handle_fault_ending f) c → FailsInChange D (disk_fault_ending d) c
handed_change D f d is never c change = subst (λ e. FailsInChange D e c) (handed_ending f d is never) change
