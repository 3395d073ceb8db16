-- The account of a call that failed after calls none of which did, where its fault is handed on.
use Rattle.std.proofs.Common.{arith, ℕ, ◌≡◌, ◌≢◌, ◌⊎◌, inl, inr, ◌∙◌, Result, Ok, Err, IsErrAnd, ap, sym, subst}
use Rattle.cache_base.specs.Causes.{CountsFailure}
use Rattle.cache_io.specs.declared.sink.SinkFault.{SinkFault}
use Rattle.cache_io.specs.declared.sink.SinkFault.TheVariants as sink
use Rattle.cache_store.specs.Faults.{ending as store_ending, fault_ending as store_fault_ending, of_sink}
use Rattle.cache_store.specs.declared.fault.StoreFault.{StoreFault}
use Rattle.cache_store.specs.declared.fault.StoreFault.TheVariants as fault
use Rattle.disk_theory.specs.Account.{Accounts, Ending, IsCalm, Looks, ending, fault_ending, no_sync}
use Rattle.disk_theory.specs.Calls.{Counts, FailsLast, StopsAtFault, counted_sync}
use Rattle.disk_theory.specs.declared.disk.Disk.{Ghosts}
use Rattle.disk_theory.specs.declared.disk.DiskFault.{DiskFault}
use Rattle.disk_theory.specs.declared.disk.DiskFault.TheVariants.{Failed, Memory}
use Rattle.file_handles.proofs.Accounting.{syncs_then}

-- the calls before synced nothing
pub accounts_after : {Self : _} (D : Ghosts Self) (e : Ending) {n : ℕ} (a b c : Self) → IsCalm D no_sync a b → Accounts D e n b c → Accounts D e n a c
accounts_after D e {n} a b c calm last = record {
  cause = subst (λ n. CountsFailure (e ≡ Ending.OneFailed) n (D.faults c)) calm.faults last.cause;
  went_on = λ none told. last.went_on none told ∙ calm.no_change told;
  stops = λ told. subst (λ failed. ((D.counts c).failed ≡ failed) ⊎ FailsLast failed (D.counts c)) (calm.no_change told) (last.stops told);
  last = last.last;
  syncs = syncs_then D no_sync n n a b c (omega arith) calm.syncs last.syncs;
}

pub fault_handed_on : {T : Type 0} {Self : _} (D : Ghosts Self) {n : ℕ} (f : DiskFault) (out : Result T DiskFault) (a b c : Self) → IsErrAnd out (λ e. e ≡ f)
    → IsCalm D no_sync a b → Accounts D (fault_ending f) n b c → Accounts D (ending out) n a c
fault_handed_on D f (Ok value) a b c is calm last = absurd is
fault_handed_on D {n} f (Err e) a b c is calm last = subst (λ e. Accounts D (fault_ending e) n a c) (sym is) (accounts_after D (fault_ending f) a b c calm last)

-- a sync after calls none of which failed
pub sync_stops : {T : Type 0} (before mid now : Counts) (r : Result T DiskFault) → now ≡ counted_sync r mid → mid.failed ≡ before.failed → StopsAtFault before now
sync_stops before mid now (Ok x) is calm = inl (ap (λ (c : Counts). c.failed) is ∙ calm)
sync_stops before mid now (Err Failed) is calm =
    inr (inr (ap (λ (c : Counts). c.failed) is ∙ (λ i. record (calm i) { sync = sym (ap (λ (c : Counts). c.calls) is) i })))
sync_stops before mid now (Err Memory) is calm = inl (ap (λ (c : Counts). c.failed) is ∙ calm)

-- a sync after calls that looked at no entry
pub sync_reads : {T : Type 0} (before mid now : Counts) (r : Result T DiskFault) → now ≡ counted_sync r mid → mid.entry_reads ≡ before.entry_reads → now.entry_reads ≡ before.entry_reads
sync_reads before mid now (Ok x) is same = ap (λ (c : Counts). c.entry_reads) is ∙ same
sync_reads before mid now (Err Failed) is same = ap (λ (c : Counts). c.entry_reads) is ∙ same
sync_reads before mid now (Err Memory) is same = ap (λ (c : Counts). c.entry_reads) is ∙ same

-- a fault of the sink that is handed on, after a call that only looked and did not fail
pub sink_fault_looks : {T : Type 0} {Self : _} (D : Ghosts Self) (f : SinkFault) (out : Result T StoreFault) (a b : Self) → IsErrAnd out (λ e. e ≡ of_sink f) → Looks D Ending.NoneFailed a b → Looks D (store_ending out) a b
sink_fault_looks D f (Ok value) a b is looks = absurd is
sink_fault_looks D f (Err e) a b is looks = subst (λ e. Looks D (store_fault_ending e) a b) (sym is) (go f)
  where
    go : (f : SinkFault) → Looks D (store_fault_ending (of_sink f)) a b
    go sink.Failed = looks
    go sink.Memory = record {
      cause = record { later = looks.cause.later; rose = λ failed. absurd (cc); kept = λ none. looks.cause.kept (λ failed. cc) };
      state = looks.state;
      no_change = looks.no_change;
      last = λ failed. absurd (cc);
      unsynced = looks.unsynced;
    }

-- where the sink alone may fail after calls that are accounted for
pub sink_alone_accounts : {T : Type 0} {Self : _} (D : Ghosts Self) {n : ℕ} (out : Result T StoreFault) (a b : Self) → out ≢ Err fault.Disk → Accounts D Ending.NoneFailed n a b → Accounts D (store_ending out) n a b
sink_alone_accounts D (Ok value) a b no_disk account = account
sink_alone_accounts D (Err fault.Sink) a b no_disk account = account
sink_alone_accounts D (Err fault.Disk) a b no_disk account = absurd (no_disk (λ i. Err fault.Disk))
sink_alone_accounts D (Err fault.Memory) a b no_disk account = record {
  cause = record { later = account.cause.later; rose = λ failed. absurd (cc); kept = λ none. account.cause.kept (λ failed. cc) };
  went_on = λ none. absurd (cc);
  stops = account.stops;
  last = λ failed. absurd (cc);
  syncs = account.syncs;
}
