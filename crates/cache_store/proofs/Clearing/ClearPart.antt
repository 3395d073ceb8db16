-- What a crash may leave at `clear` amid a clearing, and after a change that leaves it alone.
use Rattle.std.proofs.Common.{◌≡◌, ◌≢◌, ◌<◌, ◌+◌, drop, get_or, length, take, inl, inr, ℕ, List, [], ◌∷◌, Option, Some, None, refl, sym, subst, ◌∙◌, ⊎_elim, arith}
use Rattle.std.proofs.lemmas.List.{take-append-drop, take_more}
use Rattle.std.proofs.lemmas.List.Kept.{IsStrictlySortedBy-filter}
use Rattle.std.specs.Prelude.{Bool, IfSome, filter, zero, suc}
use Rattle.cache_base.specs.Names.{AreSorted, name_cmp}
use Rattle.cache_base.specs.declared.limits.TheConstants.{SLOTS}
use Rattle.cache_base.specs.declared.name.Name.{Name}
use Rattle.cache_theory.specs.Command.{Command}
use Rattle.context_clear.specs.Mark.{mark_bytes}
use Rattle.context_clear.specs.MarkFile.{IsAmidEnding, IsAmidStoring, StoresMark, StoringMoment, storing_at}
use Rattle.context_clear.specs.MarkFile.StoringMoment.{Begun, Filled, Placed, Synced, Unstored}
use Rattle.disk_theory.specs.Sound.{IsSound}
use Rattle.disk_theory.specs.State.{State, created, empty_file, removed, renamed, settled, standing, wrote}
use Rattle.disk_theory.specs.State.Write.{End}
use Rattle.disk_theory.specs.declared.place.NameStep.{NameStep}
use Rattle.disk_theory.specs.declared.place.NameStep.TheVariants.{Create, Remove, Rename}
use Rattle.disk_theory.specs.declared.place.Place.{Place}
use Rattle.disk_theory.specs.declared.place.Place.TheVariants.{Clear, Doomed, Entry, Index, Log, Tmp}
use Rattle.disk_theory.proofs.Sound.{no_writes, sound_added, sound_settled}
use Rattle.disk_theory.proofs.Standing.{added_puts, settled_same, wrote_puts}
use Rattle.file_handles.specs.Dooming.{TakesEntries, TakesEntry, TakesInOrder}
use Rattle.file_handles.proofs.TakingSteps.{in_order_left, in_order_then, one_takes, takes_same, takes_then}
use Rattle.index_theory.specs.Apart.{IsApart}
use Rattle.index_theory.specs.Leaves.{LeavesBeside}
use Rattle.index_theory.specs.AtClear.{IsClearApart, KeepsClear, LeavesAtClear}
use Rattle.index_theory.proofs.AtClearLaws.{both_keep_clear, create_keeps_clear, nothing_keeps_clear, remove_at_clear, remove_keeps_clear, rename_keeps_clear, rename_to_clear, sync_keeps_clear, write_keeps_clear}
use Rattle.startup_read.proofs.OpeningLaws.{sound_wrote}
use Rattle.startup_read.specs.Spares.{LeavesOverSyncs, SparesEntries}
use Rattle.cache_store.proofs.Sessions.RestIsOne.{no_names}
use Rattle.cache_store.specs.AtClear.{ChangesAtClear, ClearsAt, ClearsInOrder, ClearsPart, IsOfClearing, KeepsAtClear}
use Rattle.cache_store.specs.AtClear.ClearsPart.{Ending, Storing, Taking}

-- ---- what is new may be said of more

pub new_in : {P Q : Option (List ℕ) → Type 0} (s t : State) → ((c : Option (List ℕ)) → P c → Q c) → LeavesAtClear P s t → LeavesAtClear Q s t
new_in s t more leaves = record { apart = leaves.apart; found = λ c may. ⊎_elim (λ old. inl old) (λ new. inr (more c new)) (leaves.found c may) }

-- nothing new is of every kind
pub kept_new : {P : Option (List ℕ) → Type 0} (s t : State) → KeepsClear s t → LeavesAtClear P s t
kept_new {P} s t keeps = new_in s t (λ c never. absurd never) keeps

-- two changes, one after the other
pub both_new : {P : Option (List ℕ) → Type 0} (s t u : State) → LeavesAtClear P s t → LeavesAtClear P t u → LeavesAtClear P s u
both_new {P} s t u one two = record {
  apart = two.apart;
  found = λ c may. ⊎_elim (λ old. one.found c old) (λ new. inr new) (two.found c may);
}

-- ---- a change that leaves it alone

pub kept_at : (c : Command) (s t : State) → KeepsAtClear s t → ChangesAtClear c s t
kept_at c s t keeps apart = kept_new s t (keeps apart)

pub same_keeps : {s t : State} → t ≡ s → KeepsAtClear s t
same_keeps {s} {t} same apart = subst (KeepsClear s) (sym same) (nothing_keeps_clear s apart)

pub then_keeps : (s t u : State) → KeepsAtClear s t → KeepsAtClear t u → KeepsAtClear s u
then_keeps s t u one two apart = let first = one apart in both_keep_clear s t u first (two first.apart)

pub sync_keeps : (s : State) → KeepsAtClear s (settled s)
sync_keeps s apart = sync_keeps_clear s apart

-- a call that may have changed the files of the index alone, with syncs between
over_keeps : (n : ℕ) (s t : State) → LeavesOverSyncs n s t → KeepsAtClear s t
over_keeps zero s t leaves apart = leaves.clear apart
over_keeps (suc n) s t (u, (leaves, rest)) apart =
    let first = leaves.clear apart in
    let synced = sync_keeps_clear u first.apart in
    both_keep_clear s u t first (both_keep_clear u (settled u) t synced (over_keeps n (settled u) t rest synced.apart))

pub spared_keeps : (s t : State) → SparesEntries s t → KeepsAtClear s t
spared_keeps s t (n, over) = over_keeps n s t over

-- ---- entries that are taken away

taken_keeps : (s : State) (name : Name) (step : NameStep) (t : State) → (from : Place) → from ≡ Entry name → Clear ≢ from
taken_keeps s name step t from is e = let same : Clear ≡ Entry name = e ∙ is in cc

one_keeps : (name : Name) (s t : State) → TakesEntry name s t → KeepsAtClear s t
one_keeps name s t (inl same) apart = same_keeps same apart
one_keeps name s t (inr (Remove from, (is, state))) apart =
    subst (KeepsClear s) (sym state) (remove_keeps_clear s from (taken_keeps s name (Remove from) t from is) apart)
one_keeps name s t (inr (Rename from (Doomed number), (is, state))) apart =
    subst (KeepsClear s) (sym state) (rename_keeps_clear s from (Doomed number) (taken_keeps s name (Remove from) t from is) (λ e. cc) apart)
one_keeps name s t (inr (Rename from (Entry other), (is, state))) apart = absurd is
one_keeps name s t (inr (Rename from Index, (is, state))) apart = absurd is
one_keeps name s t (inr (Rename from Log, (is, state))) apart = absurd is
one_keeps name s t (inr (Rename from Tmp, (is, state))) apart = absurd is
one_keeps name s t (inr (Rename from Clear, (is, state))) apart = absurd is
one_keeps name s t (inr (Create place file, (is, state))) apart = absurd is

in_order_keeps : (names : List Name) (s t : State) → TakesInOrder names s t → KeepsAtClear s t
in_order_keeps [] s t same apart = same_keeps same apart
in_order_keeps (name ∷ rest) s t (u, (takes, more)) apart =
    let first = one_keeps name s u takes apart in
    both_keep_clear s u t first (in_order_keeps rest u t more first.apart)

-- ---- the mark is stored

module _ (s : State) (number : ℕ) (bytes : List ℕ) (sound : IsSound s) where
  abbrev begun : State
  begun = created (Doomed number) s

  abbrev filled : State
  filled = wrote (Doomed number) (End 0 bytes) begun

  sound_begun : IsSound begun
  sound_begun = sound_added (Doomed number) empty_file s (no_writes []) sound

  sound_filled : IsSound filled
  sound_filled = sound_wrote (Doomed number) (End 0 bytes) begun [] (added_puts (Doomed number) empty_file s sound).here (omega arith) sound_begun

  stands : standing (settled filled) (Doomed number) ≡ Some bytes
  stands =
      settled_same filled (Doomed number)
      ∙ (wrote_puts (Doomed number) (End 0 bytes) begun [] sound_begun (added_puts (Doomed number) empty_file s sound).here).here

  to_filled : IsClearApart s → KeepsClear s filled
  to_filled apart =
      let first = create_keeps_clear s (Doomed number) (λ e. cc) sound apart in
      both_keep_clear s begun filled first (write_keeps_clear begun (Doomed number) (End 0 bytes) (λ e. cc) first.apart)

  to_synced : IsClearApart s → KeepsClear s (settled filled)
  to_synced apart = let first = to_filled apart in both_keep_clear s filled (settled filled) first (sync_keeps_clear filled first.apart)

  storing_at_clear : (m : StoringMoment) → IsClearApart s → LeavesAtClear (λ c. c ≡ Some bytes) s (storing_at m number bytes s)
  storing_at_clear Unstored apart = kept_new s s (nothing_keeps_clear s apart)
  storing_at_clear Begun apart = kept_new s begun (create_keeps_clear s (Doomed number) (λ e. cc) sound apart)
  storing_at_clear Filled apart = kept_new s filled (to_filled apart)
  storing_at_clear Synced apart = kept_new s (settled filled) (to_synced apart)
  storing_at_clear Placed apart =
      let first = to_synced apart in
      both_new s (settled filled) (renamed (Doomed number) Clear (settled filled)) (kept_new s (settled filled) first)
      (new_in (settled filled) (renamed (Doomed number) Clear (settled filled)) (λ c is. is ∙ stands)
      (rename_to_clear (settled filled) (Doomed number) (sound_settled filled sound_filled) (λ e. cc) (λ file at. refl) first.apart))

-- ---- the file there is removed

ending_at_clear : (s t : State) → IsAmidEnding s t → IsClearApart s → LeavesAtClear (λ c. c ≡ None) s t
ending_at_clear s t (inl same) apart = kept_new s t (same_keeps same apart)
ending_at_clear s t (inr (inl gone)) apart = subst (LeavesAtClear (λ c. c ≡ None) s) (sym gone) (remove_at_clear s apart)
ending_at_clear s t (inr (inr synced)) apart =
    let first = remove_at_clear s apart in
    subst (LeavesAtClear (λ c. c ≡ None) s) (sym synced)
    (both_new s (removed Clear s) (settled (removed Clear s)) first (kept_new (removed Clear s) (settled (removed Clear s)) (sync_keeps_clear (removed Clear s) first.apart)))

-- ---- a clearing

none_of : (origin : Option ℕ) (c : Option (List ℕ)) → c ≡ None → IsOfClearing origin c
none_of origin c is = subst (IsOfClearing origin) (sym is) tt

mark_of_it : (origin : ℕ) (c : Option (List ℕ)) → c ≡ Some (mark_bytes origin) → IsOfClearing (Some origin) c
mark_of_it origin c is = subst (IsOfClearing (Some origin)) (sym is) refl

stored_at : (origin : ℕ) (s t : State) → IsSound s → IsAmidStoring SLOTS (mark_bytes origin) s t → ClearsAt (Some origin) s t
stored_at origin s t sound (moment, is) apart =
    subst (LeavesAtClear (IsOfClearing (Some origin)) s) (sym is)
    (new_in s (storing_at moment SLOTS (mark_bytes origin) s) (mark_of_it origin) (storing_at_clear s SLOTS (mark_bytes origin) sound moment apart))

taken_at : (origin : ℕ) (names : List Name) (s u t : State) → IsSound s → StoresMark SLOTS (mark_bytes origin) s u → TakesInOrder names u t → ClearsAt (Some origin) s t
taken_at origin names s u t sound stores takes apart =
    let first = stored_at origin s u sound (Placed, stores) apart in
    both_new s u t first (kept_new u t (in_order_keeps names u t takes first.apart))

part_at : (origin : ℕ) (names : List Name) (s t : State) → IsSound s → ClearsPart origin names s t → ClearsAt (Some origin) s t
part_at origin names s t sound (Storing amid) apart = stored_at origin s t sound amid apart
part_at origin names s t sound (Taking u stores takes) apart = taken_at origin names s u t sound stores takes apart
part_at origin names s t sound (Ending u v stores takes amid) apart =
    let first = taken_at origin names s u v sound stores takes apart in
    both_new s v t first (new_in v t (none_of (Some origin)) (ending_at_clear v t amid first.apart))

pub ordered_at : (origin : ℕ) (s t : State) → IsSound s → ClearsInOrder origin s t → ClearsAt (Some origin) s t
ordered_at origin s t sound (names, (rising, part)) = part_at origin names s t sound part

-- what is not begun
pub none_in_order : (origin : ℕ) (s t : State) → t ≡ s → ClearsInOrder origin s t
none_in_order origin s t same = ([], (no_names, Storing (Unstored, same)))

-- where another file is removed than a mark
pub removed_at : (origin : Option ℕ) (s v t : State) → v ≡ s → IsAmidEnding v t → ClearsAt origin s t
removed_at origin s v t same amid apart =
    let first : KeepsClear s v = same_keeps same apart in
    both_new s v t (kept_new s v first) (new_in v t (none_of origin) (ending_at_clear v t amid first.apart))

-- and where nothing is done
pub none_at : (origin : Option ℕ) (s t : State) → t ≡ s → ClearsAt origin s t
none_at origin s t same apart = kept_new s t (same_keeps same apart)

-- ---- the parts of a clearing in their order, as the store makes them after it has looked

pub storing_in_order : (origin : ℕ) (s v u : State) → v ≡ s → IsAmidStoring SLOTS (mark_bytes origin) v u → ClearsInOrder origin s u
storing_in_order origin s v u same amid = ([], (no_names, Storing (subst (λ (x : State). IsAmidStoring SLOTS (mark_bytes origin) x u) same amid)))

-- the names that are kept of rising ones rise
kept_rising : (p : Name → Bool) (names files : List Name) → files ≡ filter p names → AreSorted names → AreSorted files
kept_rising p names files are rising = subst AreSorted (sym are) (IsStrictlySortedBy-filter name_cmp p names rising)

stored_before : (origin : ℕ) (s v u : State) → v ≡ s → StoresMark SLOTS (mark_bytes origin) v u → StoresMark SLOTS (mark_bytes origin) s u
stored_before origin s v u same stores = subst (λ (x : State). StoresMark SLOTS (mark_bytes origin) x u) same stores

pub taking_in_order : (origin : ℕ) (p : Name → Bool) (names files : List Name) → files ≡ filter p names → AreSorted names → (s v u t : State) → v ≡ s
    → StoresMark SLOTS (mark_bytes origin) v u → TakesInOrder files u t → ClearsInOrder origin s t
taking_in_order origin p names files are rising s v u t same stores takes =
    (files, (kept_rising p names files are rising, Taking u (stored_before origin s v u same stores) takes))

pub ending_in_order : (origin : ℕ) (p : Name → Bool) (names files : List Name) → files ≡ filter p names → AreSorted names → (s v u w t : State) → v ≡ s
    → StoresMark SLOTS (mark_bytes origin) v u → TakesInOrder files u w → IsAmidEnding w t → ClearsInOrder origin s t
ending_in_order origin p names files are rising s v u w t same stores takes amid =
    (files, (kept_rising p names files are rising, Ending u w (stored_before origin s v u same stores) takes amid))

-- what is taken in order is taken
pub order_takes : (names : List Name) (s t : State) → TakesInOrder names s t → TakesEntries s t
order_takes [] s t same = takes_same same
order_takes (name ∷ rest) s t (u, (takes, more)) = takes_then s u t (one_takes name s u takes) (order_takes rest u t more)

-- ---- a loop over the names

pub in_order_next : (names : List Name) (i : ℕ) (d : Name) → i < length names → (s t u : State) → TakesInOrder (take i names) s t → TakesEntry (get_or names i d) t u → TakesInOrder (take (i + 1) names) s u
in_order_next names i d lt s t u before one =
    subst (λ (ns : List Name). TakesInOrder ns s u) (sym (take_more names i d lt)) (in_order_then (take i names) (get_or names i d) s t u before one)

pub in_order_stops : (names : List Name) (i : ℕ) (s t : State) → TakesInOrder (take i names) s t → TakesInOrder names s t
in_order_stops names i s t takes =
    subst (λ (ns : List Name). TakesInOrder ns s t) (take-append-drop i names) (in_order_left (take i names) (drop i names) s t takes)

-- ---- after a look

pub ordered_from : (origin : ℕ) (s v t : State) → v ≡ s → ClearsInOrder origin v t → ClearsInOrder origin s t
ordered_from origin s v t same ordered = subst (λ (x : State). ClearsInOrder origin x t) same ordered

pub clears_from : (origin : ℕ) (s v t : State) → v ≡ s → ClearsAt (Some origin) v t → ClearsAt (Some origin) s t
clears_from origin s v t same clears = subst (λ (x : State). ClearsAt (Some origin) x t) same clears

-- nothing is said of the origin of a mark where none stands
pub of_unmarked : (mark : Option ℕ) (T : Type 0) (P : ℕ → Type 0) → (T → mark ≡ None) → IfSome mark (λ o. T → P o)
of_unmarked None T P none = tt
of_unmarked (Some o) T P none = λ t. let never : Some o ≡ None = none t in cc

-- ---- a sync after a change

pub then_same : (s t u : State) → KeepsAtClear s t → u ≡ t → KeepsAtClear s u
then_same s t u keeps same = subst (KeepsAtClear s) (sym same) keeps

pub then_synced : (s t u : State) → KeepsAtClear s t → u ≡ settled t → KeepsAtClear s u
then_synced s t u keeps synced = subst (KeepsAtClear s) (sym synced) (then_keeps s t (settled t) keeps (sync_keeps t))

-- a change of doomed files, and then one of the files of the index
pub opened_keeps : (s t u : State) → LeavesBeside s t → IsApart s → (IsApart t → SparesEntries t u) → KeepsAtClear s u
opened_keeps s t u left apart spares = then_keeps s t u left.clear (spared_keeps t u (spares (left.index.apart apart)))
