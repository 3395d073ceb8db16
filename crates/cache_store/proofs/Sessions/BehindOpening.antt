-- How many calls follow the sync of an opening.
use Rattle.std.proofs.Common.{◌≡◌, ◌⊎◌, ◌≤◌, inl, inr, ℕ, ◌+◌, Result, Ok, Err, IsErrAnd, ap, arith, refl, subst, sym, ◌∙◌}
use Rattle.cache_store.specs.Faults.{ending, fault_ending as store_fault_ending, of_disk}
use Rattle.cache_store.specs.Open.{FailsInOpening, IsBehindOpening, listings, opening_behind}
use Rattle.cache_store.specs.declared.fault.StoreFault.{StoreFault}
use Rattle.cache_store.proofs.Sessions.OpenedIndex.{amid_stands}
use Rattle.cache_store.proofs.Sessions.StartAlong.{behind_along}
use Rattle.disk_theory.specs.Account.{Ending, fault_ending}
use Rattle.disk_theory.specs.Calls.{Counts, IsBehindSync, LastFails, counted_look}
use Rattle.disk_theory.specs.Sound.{IsSound}
use Rattle.disk_theory.specs.State.{State, standing}
use Rattle.disk_theory.specs.declared.disk.DiskFault.{DiskFault}
use Rattle.disk_theory.specs.declared.disk.DiskFault.TheVariants.{Failed, Memory}
use Rattle.disk_theory.specs.declared.place.Place.TheVariants.{Clear}
use Rattle.doom_area.specs.DoomArea.{IsCleared, RemovesDoomed}
use Rattle.file_handles.proofs.IndexLeft.{cleared_left}
use Rattle.index_theory.specs.Start.{start_of}
use Rattle.index_theory.specs.declared.kinds.Start.{Start}
use Rattle.startup_read.specs.Opening.{IsAmidOpening, calls_behind}

-- one look more
pub look_behind : {T : Type 0} (r : Result T DiskFault) (before now : Counts) → now ≡ counted_look r before → (most : ℕ) → IsBehindSync most before → IsBehindSync (most + 1) now
look_behind r before now is most behind =
    subst (IsBehindSync (most + 1)) (sym is) (omega (arith, behind))

-- with the listing, where it is due
pub behind_start : (s : State) (start : Start) (n : ℕ) (now : Counts) → start ≡ start_of (standing s) → listings start ≡ n → IsBehindSync (calls_behind s + n) now → IsBehindSync (opening_behind s) now
behind_start s start n now is as_many behind = subst (λ k. IsBehindSync (calls_behind s + k) now) (sym as_many ∙ ap listings is) behind

-- what the disk said of a fault that is handed on
pub disk_failed : {T : Type 0} (f : DiskFault) (out : Result T StoreFault) → IsErrAnd out (λ e. e ≡ of_disk f) → ending out ≡ Ending.OneFailed → fault_ending f ≡ Ending.OneFailed
disk_failed Failed out is failed = refl
disk_failed Memory (Ok x) is failed = absurd is
disk_failed Memory (Err e) is failed = absurd (let none : Ending.OutOfMemory ≡ Ending.OneFailed = sym (ap store_fault_ending is) ∙ failed in cc)

-- the doomed that were removed are not counted, and nothing happens at `clear`
pub behind_opening : (s d t : State) (now : Counts) → IsSound d → RemovesDoomed s d → IsCleared s d → IsAmidOpening d t → IsBehindSync (opening_behind d) now → IsBehindOpening s t now
behind_opening s d t now sound removes cleared amid few = record {
  calls = subst (λ n. IsBehindSync n now) (behind_along s d (cleared_left s d removes).index.stands) few;
  mark = amid_stands d t Clear sound (λ of. of) amid ∙ cleared.others Clear (λ n is. cc);
}

-- where it failed
pub fails_in_opening : (s d t : State) (before mid now : Counts) → IsSound d → RemovesDoomed s d → IsCleared s d → IsAmidOpening d t → mid.syncs ≤ before.syncs
    → LastFails now ⊎ ((now.syncs ≤ mid.syncs) ⊎ IsBehindSync (opening_behind d) now) → FailsInOpening s t before now
fails_in_opening s d t before mid now sound removes cleared amid none fails = elim fails [
  | inl stops ↦ inl stops
  | inr (inl no_more) ↦ inr (inl (omega (arith, none, no_more)))
  | inr (inr few) ↦ inr (inr (behind_opening s d t now sound removes cleared amid few))
]
