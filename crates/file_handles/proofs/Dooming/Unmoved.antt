-- The file of an entry that is not finished stands aside already: what is known of it by the entry's key, by its name.
use Rattle.std.proofs.Common.{◌⊎◌, inl, inr, ⊎_elim, Result, Ok, Err, ◌≡◌, ℕ, List, Some, true, false, is_some, subst, sym, ◌∙◌, ap}
use Rattle.cache_base.specs.declared.name.Name.{Name}
use Rattle.disk_theory.specs.State.{State, removed, standing}
use Rattle.disk_theory.specs.declared.place.Place.TheVariants.{Doomed, Entry}
use Rattle.disk_theory.proofs.Standing.{removed_puts}
use Rattle.entry_name.specs.EntryName.{file_name}
use Rattle.file_handles.specs.Creating.{MayHaveRemoved}
use Rattle.file_handles.specs.Dooming.{IsUnfinishedAt, IsUnfinishedFor, TakesEntry, TakesFirstFree}
use Rattle.file_handles.proofs.Dooming.FirstFree.{takes_none}
use Rattle.handle_table.specs.Kept.{Kept}
use Rattle.file_handles.specs.declared.fault.HandleFault.{HandleFault}
use Rattle.handle_table.specs.Finding.{used_place, user_place}
use Rattle.file_handles.proofs.Finding.FoundUser.{used_at}

-- the name of a key, by its bytes
name_is : (key : List ℕ) (name : Name) → name.0 ≡ file_name key → record { 0 = file_name key } ≡ name
name_is key name named = ap (λ (n : List ℕ). record { 0 = n }) (sym named)

pub takes_of : (key : List ℕ) (name : Name) → name.0 ≡ file_name key → (s t : State) → TakesEntry name s t → TakesEntry (record { 0 = file_name key }) s t
takes_of key name named s t takes = subst (λ (n : Name). TakesEntry n s t) (sym (name_is key name named)) takes

-- an entry that is in use by its key is so by its name
pub unfinished_at : (k : Kept) (key : List ℕ) (name : Name) → name.0 ≡ file_name key → (place number : ℕ) → IsUnfinishedFor k key place number → IsUnfinishedAt k name place number
unfinished_at k key name named place number is =
    let found = (used_at k (record { 0 = file_name key }) key place is.used).found in
    record { user = subst (λ (n : Name). user_place k n ≡ Some place) (name_is key name named) found; aside = is.aside }

-- the place at which it is found, where the name is given
pub used_under : (k : Kept) (key : List ℕ) (name : Name) → name.0 ≡ file_name key → (place : ℕ) → used_place k (record { 0 = file_name key }) key ≡ Some place → used_place k name key ≡ Some place
used_under k key name named place is = subst (λ (n : Name). used_place k n key ≡ Some place) (name_is key name named) is

-- and then it is found
pub is_used : (k : Kept) (key : List ℕ) (name : Name) → name.0 ≡ file_name key → (place : ℕ) → used_place k (record { 0 = file_name key }) key ≡ Some place → false ≡ is_some (used_place k name key) → ⊥
is_used k key name named place is none =
    let found : is_some (used_place k name key) ≡ true = ap is_some (used_under k key name named place is) in
    let never : false ≡ true = none ∙ found in cc

-- ---- a file that is removed, or not, leaves the numbers among the doomed

same_doomed : (s t : State) (name : Name) → (t ≡ removed (Entry name) s) ⊎ (t ≡ s) → (number : ℕ) → standing t (Doomed number) ≡ standing s (Doomed number)
same_doomed s t name (inl gone) number = ap (λ (x : State). standing x (Doomed number)) gone ∙ (removed_puts (Entry name) s).others (Doomed number) (λ e. cc)
same_doomed s t name (inr same) number = ap (λ (x : State). standing x (Doomed number)) same

removed_or_not : {T : Type 0} (r : Result T HandleFault) (s t : State) (name : Name) → MayHaveRemoved (Entry name) r s t → (t ≡ removed (Entry name) s) ⊎ (t ≡ s)
removed_or_not (Ok value) s t name may = ⊎_elim (λ gone. inl gone) (λ same. inr same.0) may.done
removed_or_not (Err fault) s t name may = may.either

pub gone_numbered : {T : Type 0} (r : Result T HandleFault) (s u t : State) (name : Name) → u ≡ s → MayHaveRemoved (Entry name) r u t → TakesFirstFree s t
gone_numbered r s u t name same may =
    takes_none s t (λ number. same_doomed u t name (removed_or_not r u t name may) number ∙ ap (λ (x : State). standing x (Doomed number)) same)
