-- What a `?` hands on.
use Rattle.std.proofs.Common.{arith, ℕ, ◌+◌, ◌≤◌, ◌≡◌, inl, sym, ap, subst, ◌∙◌}
use Rattle.std.specs.Prelude.{Err, IsErrAnd, Result}
use Rattle.std.proofs.lemmas.Result.{err_from_is_err_and}
use Rattle.cache_store.specs.Faults.{ending, fault_ending}
use Rattle.cache_store.specs.Open.{IsOpen, LeavesOpen}
use Rattle.cache_store.specs.Session.{Session, session}
use Rattle.cache_store.specs.declared.fault.StoreFault.TheVariants as fault
use Rattle.cache_store.specs.declared.store.Store.{Store}
use Rattle.cache_tool.specs.KeepsOpen.{KeepsOpen}
use Rattle.cache_store.specs.declared.fault.StoreFault.{StoreFault}
use Rattle.disk_theory.specs.Account.{Accounts, Ending, Looks, no_sync}
use Rattle.disk_theory.specs.declared.disk.Disk.{Ghosts}
use Rattle.file_handles.proofs.Accounting.{accounts_sum}

-- the error
pub handed_on : {T : Type 0} (r : Result T StoreFault) (f : StoreFault) → IsErrAnd r (λ e. e ≡ f) → r ≡ Err f
handed_on r f h = let e = err_from_is_err_and r h in e.1 ∙ ap (λ x. Err x) e.2

-- and what it says of the store
pub handed_open : {T : Type 0} (r : Result T StoreFault) (f : StoreFault) (now : Session) → IsErrAnd r (λ e. e ≡ f) → (fault_ending f ≡ Ending.NoneFailed → IsOpen now) → LeavesOpen r now
handed_open r f now h still none = still (sym (ap ending (handed_on r f h)) ∙ none)

-- and of the calls, where no call before it failed
pub handed_account : {T : Type 0} {Self : _} (D : Ghosts Self) {n m : ℕ} (all : ℕ) (r : Result T StoreFault) (f : StoreFault) (a b c : Self) → n + m ≤ all → IsErrAnd r (λ e. e ≡ f) → Accounts D Ending.NoneFailed n a b → Accounts D (fault_ending f) m b c → Accounts D (ending r) all a c
handed_account D all r f a b c few h first last = subst (λ e. Accounts D e all a c) (sym (ap ending (handed_on r f h))) (accounts_sum D (fault_ending f) all a b c few first last)

-- a call that only looked and did not fail
pub looks_account : {Self : _} (D : Ghosts Self) (a b : Self) → Looks D Ending.NoneFailed a b → Accounts D Ending.NoneFailed no_sync a b
looks_account D a b looks = record { cause = looks.cause; went_on = λ none. looks.no_change; stops = λ told. inl (looks.no_change told); last = λ failed. absurd (cc); syncs = λ told. let same = looks.unsynced told in omega (arith, same) }

-- all of it, where no call before it failed
pub keeps_handed : {T X : Type 0} {Self : _} (D : Ghosts Self) {n m : ℕ} (all : ℕ) (r : Result T StoreFault) (f : StoreFault) (store : Store) (a b c : Self) → n + m ≤ all → IsErrAnd r (λ e. e ≡ f) → Accounts D Ending.NoneFailed n a b
    → KeepsOpen {T = X} D m (Err f) store b c → KeepsOpen D all r store a c
keeps_handed D all r f store a b c few h first keeps = record {
  stays = λ told. handed_open r f (session D store c) h (keeps.stays told);
  honest = keeps.honest;
  no_sink = λ is.
      let same : f ≡ fault.Sink = let one : Err f ≡ Err fault.Sink = sym (handed_on r f h) ∙ is in cc in
      keeps.no_sink (ap (λ x. Err x) same);
  account = handed_account D all r f a b c few h first keeps.account;
}
