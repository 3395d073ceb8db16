-- The account of calls in sequence, and of one whose answer is handed on.
use Rattle.std.proofs.Common.{ℕ, ◌+◌, ◌≤◌, ◌≡◌, ◌⊎◌, ◌∙◌, inl, IsTrue, Result, Ok, Err, IsErrAnd, ap, refl, sym, subst, arith}
use Rattle.cache_base.specs.Causes.{CountsFailure}
use Rattle.disk_theory.specs.Account.{Accounts, Ending, FailsInChange, IsCalm, Looks, OnlyChanges, SyncsAtMost, no_sync, ending as disk_ending, fault_ending as disk_fault_ending}
use Rattle.disk_theory.specs.Calls.{FailsLast}
use Rattle.disk_theory.specs.declared.disk.Disk.{Ghosts}
use Rattle.disk_theory.specs.declared.disk.DiskFault.{DiskFault}
use Rattle.disk_theory.specs.declared.disk.DiskFault.TheVariants as disk
use Rattle.cache_theory.specs.declared.refusal.Refusal.{Refusal}
use Rattle.file_handles.specs.Promises.{ChangesFiles}
use Rattle.file_handles.proofs.IndexLeft.{same_left}
use Rattle.file_handles.specs.Answers.{ending, fault_ending, fault_of}
use Rattle.file_handles.specs.declared.fault.HandleFault.{HandleFault}
use Rattle.file_handles.specs.declared.fault.HandleFault.TheVariants as fault

-- some syncs more
pub syncs_then : {Self : _} (D : Ghosts Self) (n m all : ℕ) (a b c : Self) → n + m ≤ all → SyncsAtMost D n a b → SyncsAtMost D m b c → SyncsAtMost D all a c
syncs_then D n m all a b c few first last told = let one = first told in let two = last told in omega (arith, few, one, two)

-- a look behind
pub syncs_same : {Self : _} (D : Ghosts Self) (n : ℕ) (a b c : Self) → SyncsAtMost D n a b → (IsTrue D.tells → (D.counts c).syncs ≡ (D.counts b).syncs) → SyncsAtMost D n a c
syncs_same D n a b c first same told = let one = first told in let two = same told in omega (arith, one, two)

-- one call more, after calls none of which failed
pub calm_sum : {Self : _} (D : Ghosts Self) {n m : ℕ} (all : ℕ) (a b c : Self) → n + m ≤ all → IsCalm D n a b → Accounts D Ending.NoneFailed m b c → IsCalm D all a c
calm_sum D {n} {m} all a b c few calm last = record {
  faults = last.cause.kept (λ failed. cc) ∙ calm.faults;
  no_change = λ told. last.went_on refl told ∙ calm.no_change told;
  syncs = syncs_then D n m all a b c few calm.syncs last.syncs;
}

-- that syncs nothing
pub calm_then : {Self : _} (D : Ghosts Self) {n : ℕ} (a b c : Self) → IsCalm D n a b → Accounts D Ending.NoneFailed no_sync b c → IsCalm D n a c
calm_then D {n} a b c = calm_sum D n a b c (omega arith)

pub accounts_sum : {Self : _} (D : Ghosts Self) (e : Ending) {n m : ℕ} (all : ℕ) (a b c : Self) → n + m ≤ all → Accounts D Ending.NoneFailed n a b → Accounts D e m b c → Accounts D e all a c
accounts_sum D e {n} {m} all a b c few first last = record {
  cause = subst (λ k. CountsFailure (e ≡ Ending.OneFailed) k (D.faults c)) (first.cause.kept (λ failed. cc)) last.cause;
  went_on = λ none told. last.went_on none told ∙ first.went_on refl told;
  stops = λ told. subst (λ failed. ((D.counts c).failed ≡ failed) ⊎ FailsLast failed (D.counts c)) (first.went_on refl told) (last.stops told);
  last = last.last;
  syncs = syncs_then D n m all a b c few first.syncs last.syncs;
}

-- the calls before synced nothing
pub accounts_then : {Self : _} (D : Ghosts Self) (e : Ending) {n : ℕ} (a b c : Self) → Accounts D Ending.NoneFailed no_sync a b → Accounts D e n b c → Accounts D e n a c
accounts_then D e {n} a b c = accounts_sum D e n a b c (omega arith)

-- a call that makes none of the disk
pub looks_nowhere : {Self : _} (D : Ghosts Self) (answer : Ending) (disk : Self) → answer ≡ Ending.NoneFailed → Looks D answer disk disk
looks_nowhere D answer disk none = record {
  cause = record { later = omega arith; rose = λ failed. absurd (let both : Ending.NoneFailed ≡ Ending.OneFailed = sym none ∙ failed in cc); kept = λ not. refl };
  state = λ told. refl;
  no_change = λ told. refl;
  last = λ failed. absurd (let both : Ending.NoneFailed ≡ Ending.OneFailed = sym none ∙ failed in cc);
  unsynced = λ told. refl;
}

-- a fault of the disk that is handed on
pub account_handed_on : {T X : Type 0} {Self : _} (D : Ghosts Self) {n : ℕ} (r : Result X DiskFault) (f : DiskFault) (out : Result T HandleFault) (before now : Self) → r ≡ Err f → IsErrAnd out (λ e. e ≡ fault_of f)
    → Accounts D (disk_ending r) n before now → Accounts D (ending out) n before now
account_handed_on D r f (Ok value) before now at is account = absurd is
account_handed_on D {n} r f (Err e) before now at is account = subst (λ e. Accounts D (fault_ending e) n before now) (sym is) (go f (subst (λ r. Accounts D (disk_ending r) n before now) at account))
  where
    go : (f : DiskFault) → Accounts D (disk_fault_ending f) n before now → Accounts D (fault_ending (fault_of f)) n before now
    go disk.Failed account = account
    go disk.Memory account = account

-- and where the last call was the change that failed
pub change_handed_on : {T : Type 0} {Self : _} (D : Ghosts Self) (f : HandleFault) (out : Result T HandleFault) (now : Self) → IsErrAnd out (λ e. e ≡ f) → FailsInChange D (fault_ending f) now → FailsInChange D (ending out) now
change_handed_on D f (Ok value) now is fails = absurd is
change_handed_on D f (Err e) now is fails = subst (λ e. FailsInChange D (fault_ending e) now) (sym is) fails

-- the same after calls none of which failed, where the last one syncs nothing
pub account_then_handed_on : {T X : Type 0} {Self : _} (D : Ghosts Self) {n : ℕ} (r : Result X DiskFault) (f : DiskFault) (out : Result T HandleFault) (a b c : Self) → r ≡ Err f → IsErrAnd out (λ e. e ≡ fault_of f)
    → Accounts D Ending.NoneFailed n a b → Accounts D (disk_ending r) no_sync b c → Accounts D (ending out) n a c
account_then_handed_on D {n} r f out a b c at is first last = account_handed_on D r f out a c at is (accounts_sum D (disk_ending r) n a b c (omega arith) first last)

-- a fault of the disk that is handed on as it is, after calls none of which failed
pub calm_accounts : {Self : _} (D : Ghosts Self) {n : ℕ} (a b : Self) → IsCalm D n a b → Accounts D Ending.NoneFailed n a b
calm_accounts D a b calm = record {
  cause = record { later = let same = calm.faults in omega (arith, same); rose = λ failed. absurd (cc); kept = λ not. calm.faults };
  went_on = λ none told. calm.no_change told;
  stops = λ told. inl (calm.no_change told);
  last = λ failed. absurd (cc);
  syncs = calm.syncs;
}

pub fault_handed_on : {T X : Type 0} (r : Result X DiskFault) (f : DiskFault) (out : Result T DiskFault) → r ≡ Err f → IsErrAnd out (λ e. e ≡ f) → disk_ending out ≡ disk_ending r
fault_handed_on r f (Ok value) at is = absurd is
fault_handed_on r f (Err e) at is = ap disk_fault_ending is ∙ sym (ap disk_ending at)

pub calm_then_handed_on : {T X : Type 0} {Self : _} (D : Ghosts Self) {n : ℕ} (r : Result X DiskFault) (f : DiskFault) (out : Result T DiskFault) (a b c : Self) → r ≡ Err f → IsErrAnd out (λ e. e ≡ f)
    → IsCalm D no_sync a b → Accounts D (disk_ending r) n b c → Accounts D (disk_ending out) n a c
calm_then_handed_on D {n} r f out a b c at is calm last =
    subst (λ e. Accounts D e n a c) (sym (fault_handed_on r f out at is)) (accounts_then D (disk_ending r) a b c (calm_accounts D a b calm) last)

-- a change of the disk whose fault is handed on
pub changes_handed_on : {T X : Type 0} {Self : _} (D : Ghosts Self) {n : ℕ} (r : Result X DiskFault) (f : DiskFault) (out : Result T HandleFault) (before now : Self) → r ≡ Err f → IsErrAnd out (λ e. e ≡ fault_of f)
    → OnlyChanges D (disk_ending r) n before now → OnlyChanges D (ending out) n before now
changes_handed_on D r f (Ok value) before now at is changes = absurd is
changes_handed_on D {n} r f (Err e) before now at is changes = subst (λ e. OnlyChanges D (fault_ending e) n before now) (sym is) (go f (subst (λ r. OnlyChanges D (disk_ending r) n before now) at changes))
  where
    go : (f : DiskFault) → OnlyChanges D (disk_fault_ending f) n before now → OnlyChanges D (fault_ending (fault_of f)) n before now
    go disk.Failed changes = changes
    go disk.Memory changes = changes

-- where memory ran out after calls none of which failed
pub out_of_memory : {T : Type 0} {Self : _} (D : Ghosts Self) {n : ℕ} (out : Result T HandleFault) (a b : Self) → IsErrAnd out (λ e. e ≡ fault.Memory) → Accounts D Ending.NoneFailed n a b → Accounts D (ending out) n a b
out_of_memory D (Ok value) a b is account = absurd is
out_of_memory D {n} (Err e) a b is account = subst (λ e. Accounts D (fault_ending e) n a b) (sym is) (record {
  cause = record { later = account.cause.later; rose = λ failed. absurd (cc); kept = λ not. account.cause.kept (λ failed. cc) };
  went_on = λ none told. absurd (cc);
  stops = account.stops;
  last = λ failed. absurd (cc);
  syncs = account.syncs;
})

-- a refusal, before any call
pub refused_files : {T : Type 0} {Self : _} (D : Ghosts Self) {n : ℕ} (r : Refusal) (out : Result T HandleFault) (disk : Self) → IsErrAnd out (λ e. e ≡ fault.Refused r) → ChangesFiles D n out disk disk
refused_files D r (Ok value) disk is = absurd is
refused_files D {n} r (Err e) disk is = record {
  unchanged = λ refusal same. refl;
  index = λ told. same_left refl;
  disk = subst (λ e. OnlyChanges D (fault_ending e) n disk disk) (sym is) (record {
    account = record {
      cause = record { later = omega arith; rose = λ failed. absurd (cc); kept = λ not. refl };
      went_on = λ none told. refl;
      stops = λ told. inl refl;
      last = λ failed. absurd (cc);
      syncs = λ told. omega arith;
    };
    change = λ failed. absurd (cc);
    no_entry = λ told. refl;
  });
}
