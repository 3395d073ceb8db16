-- What a `doom` leaves at each exit.
use Rattle.std.proofs.Common.{◌≡◌, ◌≢◌, inl, ℕ, List, [], ◌∷◌, Bool, true, false, Option, Some, None, IsSome, is_some, Result, Ok, Err, IsErrAnd, refl, sym, ap, subst, ◌∙◌, IsTrue}
use Rattle.std.specs.List.{position}
use Rattle.std.specs.Prelude.{if◌then◌else◌, option_and_then, ◌||◌}
use Rattle.std.specs.Str.{bytes_eq}
use Rattle.cache_base.specs.Checks.{first_failing}
use Rattle.cache_base.specs.declared.name.Name.{Name}
use Rattle.cache_theory.specs.Checks.{checks}
use Rattle.cache_theory.specs.Command.{Command}
use Rattle.cache_theory.specs.Command.Command.{Doom}
use Rattle.cache_theory.specs.Command.Reply.{Done, Refused}
use Rattle.cache_theory.specs.Crash.{IsSafe}
use Rattle.cache_theory.specs.Ever.{entries}
use Rattle.cache_theory.specs.Machine.{Machine, is_entry, object, on_shelf, used_by}
use Rattle.cache_theory.specs.Marks.{Marks, begun, is_touched}
use Rattle.cache_theory.specs.Step.{doomed_under, effect}
use Rattle.cache_theory.specs.Table.{get}
use Rattle.cache_theory.proofs.CrashImages.DiskChanges.{remove_keeps}
use Rattle.cache_theory.proofs.CrashImages.FiledOnce.{one_name as one_place}
use Rattle.cache_theory.specs.declared.refusal.Refusal.{Refusal}
use Rattle.disk_theory.specs.Calls.{if_done}
use Rattle.disk_theory.specs.declared.disk.DiskFault.{DiskFault}
use Rattle.disk_theory.specs.declared.disk.DiskFault.TheVariants.{Failed, Memory}
use Rattle.disk_theory.specs.declared.place.Place.TheVariants.{Entry}
use Rattle.disk_theory.specs.State.{State, removed, standing}
use Rattle.entry_file.specs.EntryFile.{read_for}
use Rattle.entry_key.specs.Writing.{may_write}
use Rattle.entry_name.specs.EntryName.{file_name}
use Rattle.file_handles.specs.Answers.{OnRefused, done_or, fault_of}
use Rattle.file_handles.specs.Cache.{cache_at}
use Rattle.file_handles.specs.Dooming.{DoomsUnder, EndsOn}
use Rattle.handle_table.specs.Finding.{is_user}
use Rattle.handle_table.specs.Kept.{Kept}
use Rattle.file_handles.specs.Stands.{KeepsWhere, ReachesHistory, RepresentsSome}
use Rattle.handle_table.specs.Users.{users_of}
use Rattle.file_handles.specs.declared.fault.HandleFault.{HandleFault}
use Rattle.file_handles.specs.declared.fault.HandleFault.TheVariants as fault
use Rattle.file_handles.proofs.Begun.{begun_in}
use Rattle.file_handles.proofs.Dooming.DoomedCarried.{done_in, failed_in, refused_in, touches_name}
use Rattle.file_handles.proofs.Dooming.DoomedChecks.{doom_checks, ended}
use Rattle.file_handles.proofs.Finding.FoundShelf.{shelf_read}
use Rattle.file_handles.proofs.Histories.{history_of}
use Rattle.handle_table.proofs.SlotUsers.{unused_none}
use Rattle.handle_table.proofs.User.{no_one, no_user_there}
use Rattle.file_handles.proofs.Where.{LeavesWhere}

-- Answers that were handed on.

-- a refusal, or a fault, before anything changed
pub refused_on_leaves : {T : Type 0} {b : Bool} (r : Result T HandleFault) (f : HandleFault) (s t : State) (k : Kept) (c : Command) → IsErrAnd r (λ e. e ≡ f)
    → ((refusal : Refusal) → f ≡ fault.Refused refusal → EndsOn (cache_at k s) c (Some refusal)) → t ≡ s → (m : Machine) (w : Marks) → KeepsWhere b (cache_at k s) (history_of m w) → LeavesWhere b c (history_of m w) (done_or r) (cache_at k t)
refused_on_leaves (Ok value) f s t k c is ends same m w stand = absurd is
refused_on_leaves {b = b} (Err (fault.Refused q)) f s t k c is ends same m w stand =
    subst (λ u. LeavesWhere b c (history_of m w) (Some (Refused q)) (cache_at k u)) (sym same) (refused_in s k c q m w stand (ends q (sym is) m (stand.number, stand.stands)))
refused_on_leaves (Err fault.Read) f s t k c is ends same m w stand = failed_in t k c m w (λ on. subst (λ u. IsSafe u (begun m c w)) (sym same) ((begun_in s k m c w stand).crash_kept on).safe)
refused_on_leaves (Err fault.Disk) f s t k c is ends same m w stand = failed_in t k c m w (λ on. subst (λ u. IsSafe u (begun m c w)) (sym same) ((begun_in s k m c w stand).crash_kept on).safe)
refused_on_leaves (Err fault.Memory) f s t k c is ends same m w stand = failed_in t k c m w (λ on. subst (λ u. IsSafe u (begun m c w)) (sym same) ((begun_in s k m c w stand).crash_kept on).safe)

-- a fault that is no refusal
pub failed_on_leaves : {T : Type 0} {b : Bool} (r : Result T HandleFault) (f : HandleFault) (t : State) (after : Kept) (c : Command) → IsErrAnd r (λ e. e ≡ f)
    → ((refusal : Refusal) → f ≡ fault.Refused refusal → ⊥) → (m : Machine) (w : Marks) → (IsTrue b → IsSafe t (begun m c w)) → LeavesWhere b c (history_of m w) (done_or r) (cache_at after t)
failed_on_leaves (Ok value) f t after c is never m w safe = absurd is
failed_on_leaves (Err (fault.Refused q)) f t after c is never m w safe = absurd (never q (sym is))
failed_on_leaves (Err fault.Read) f t after c is never m w safe = failed_in t after c m w safe
failed_on_leaves (Err fault.Disk) f t after c is never m w safe = failed_in t after c m w safe
failed_on_leaves (Err fault.Memory) f t after c is never m w safe = failed_in t after c m w safe

pub no_refusal : (f : DiskFault) (refusal : Refusal) → fault_of f ≡ fault.Refused refusal → ⊥
no_refusal Failed refusal e = cc
no_refusal Memory refusal e = cc

-- The object in use is doomed.

pub doom_touches : (key : List ℕ) (name : List ℕ) (m : Machine) (w : Marks) → name ≡ file_name key → first_failing (checks m (Doom key)) ≡ None → is_touched (begun m (Doom key) w) name ≡ true
doom_touches key name m w named passes = touches_name m (Doom key) w name passes (ap (λ n. n ∷ []) (sym named))

pub doomed_leaves : {b : Bool} (t : State) (after : Kept) (key : List ℕ) (name : List ℕ) (m : Machine) (w : Marks) → name ≡ file_name key → first_failing (checks m (Doom key)) ≡ None
    → KeepsWhere b (cache_at after t) (history_of (doomed_under m name) (begun m (Doom key) w)) → LeavesWhere b (Doom key) (history_of m w) (Some Done) (cache_at after t)
unfolding effect
doomed_leaves {b} t after key name m w named passes is = done_in t after (Doom key) m w passes refl refl (subst (λ n. KeepsWhere b (cache_at after t) (history_of (doomed_under m n) (begun m (Doom key) w))) named is)

-- No object is in use.

ended_there : (good some : Bool) → ended good some ≡ None → some ≡ true
unfolding ended
ended_there true true is = refl
ended_there true false is = absurd (cc)
ended_there false some is = absurd (cc)

some_file : (key : List ℕ) (o : Option (List ℕ)) → is_entry (read_for key o) ≡ true → IsSome o
some_file key None is = absurd (cc)
some_file key (Some c) is = refl

-- there is a file, since the command is not refused
pub bare_stands : (s : State) (k : Kept) (key : List ℕ) (name : Name) → name.0 ≡ file_name key → position (is_user name) k.objects ≡ None → EndsOn (cache_at k s) (Doom key) None → RepresentsSome (cache_at k s) → IsSome (standing s (Entry name))
bare_stands s k key name named bare passes (m, (number, stands)) =
    let unused : used_by m key ≡ None =
    ap (λ o. option_and_then (λ i. if bytes_eq (object m i).version.key key then Some i else None) o)
    (ap (get m.in_use) (sym named) ∙ no_user_there k m number stands.proper stands.handles name bare)
    in
    let there = ended_there (may_write key) (is_some (used_by m key) || is_entry (on_shelf m key)) (sym (doom_checks m key) ∙ passes m (number, stands)) in
    let shelved : is_entry (on_shelf m key) ≡ true = ap (λ o. is_some o || is_entry (on_shelf m key)) (sym unused) ∙ there in
    let read : is_entry (read_for key (standing s (Entry name))) ≡ true =
    ap (λ n. is_entry (read_for key (entries (standing s) n))) named ∙ ap is_entry (shelf_read (standing s) m stands.entries key) ∙ shelved
    in
    some_file key (standing s (Entry name)) read

pub removed_or_not : (s t : State) (w : Marks) (name : Name) (f : DiskFault) → t ≡ if_done {T = Unit {0}} (Err f) (removed (Entry name) s) s → is_touched w name.0 ≡ true → IsSafe s w → IsSafe t w
removed_or_not s t w name Failed is touched safe =
    subst (λ u. IsSafe u w) (sym is) (remove_keeps s w (Entry name) (λ q e. inl (ap (is_touched w) (sym (one_place name.0 q e)) ∙ touched)) safe)
removed_or_not s t w name Memory is touched safe = subst (λ u. IsSafe u w) (sym is) safe

pub none_if : {X : Type 0} (o : Option X) (b : Bool) → b ≡ is_some o → b ≡ false → o ≡ None
none_if o b is none = no_one o (sym is ∙ none)

pub some_if : {X : Type 0} (o : Option X) (b : Bool) → b ≡ is_some o → b ≡ true → o ≢ None
some_if o b is one none = let never : true ≡ false = sym one ∙ is ∙ ap is_some none in cc

-- What stands under the name of the key is doomed, after looks at the disk.
module _ (s u : State) (k : Kept) (key : List ℕ) (name : Name) (named : name.0 ≡ file_name key) (passes : EndsOn (cache_at k s) (Doom key) None) (same : u ≡ s) where
  -- where no slot uses the entry its file is there
  pub unused_stands : RepresentsSome (cache_at k s) → users_of k name ≡ 0 → IsSome (standing u (Entry name))
  unused_stands (m, (number, stands)) unused =
      let bare = unused_none k m number stands.proper stands.handles name unused in
      subst (λ v. IsSome (standing v (Entry name))) (sym same) (bare_stands s k key name named bare passes (m, (number, stands)))

  pub still_represents : RepresentsSome (cache_at k s) → RepresentsSome (cache_at k u)
  still_represents somehow = subst (λ v. RepresentsSome (cache_at k v)) (sym same) somehow

  module _ (t : State) (after : Kept) {b : Bool} (m : Machine) (w : Marks) (stand : KeepsWhere b (cache_at k s) (history_of m w)) where
    doomed : {T : Type 0} (r : Result T HandleFault) → DoomsUnder name.0 r (cache_at k u) (cache_at after t) → ReachesHistory b (history_of (doomed_under m name.0) (begun m (Doom key) w)) r (cache_at after t)
    doomed r dooms =
        let fine = passes m (stand.number, stand.stands) in
        dooms.leaves b (history_of m (begun m (Doom key) w)) (doom_touches key name.0 m w named fine)
        (subst (λ v. KeepsWhere b (cache_at k v) (history_of m (begun m (Doom key) w))) (sym same) (begun_in s k m (Doom key) w stand))

    pub dooming_leaves : {T : Type 0} (r : Result T HandleFault) → OnRefused r (λ _. ⊥) → DoomsUnder name.0 r (cache_at k u) (cache_at after t) → LeavesWhere b (Doom key) (history_of m w) (done_or r) (cache_at after t)
    dooming_leaves (Ok value) never dooms =
        doomed_leaves t after key name.0 m w named (passes m (stand.number, stand.stands)) (doomed (Ok value) dooms).next
    dooming_leaves {T} (Err f) never dooms =
        failed_on_leaves {T = T} (Err f) f t after (Doom key) refl never m w (doomed (Err f) dooms).safe
