-- Looks at a disk, one after another.
use Rattle.std.proofs.Common.{ℕ, ◌+◌, ◌≡◌, ◌≤◌, ◌∙◌, Err, IsErrAnd, Ok, Result, arith, refl, subst, sym}
use Rattle.cache_base.specs.Causes.{CountsFailure}
use Rattle.disk_theory.specs.Account.{Ending, Looks, ending, fault_ending}
use Rattle.disk_theory.specs.Calls.{Counts, counted_read}
use Rattle.disk_theory.specs.declared.disk.Disk.{Ghosts}
use Rattle.disk_theory.specs.declared.disk.DiskFault.{DiskFault}
use Rattle.disk_theory.specs.declared.place.Place.{Place}
use Rattle.disk_theory.specs.declared.place.Place.TheVariants.{Clear, Doomed, Entry, Index, Log, Tmp}
use Rattle.entry_file.specs.Looks.{LooksAtMost}

-- after some looks, some more
pub looks_then : (n more all : ℕ) (before mid now : Counts) → n + more ≤ all → LooksAtMost n before mid → LooksAtMost more mid now → LooksAtMost all before now
looks_then n more all before mid now enough one two =
    let c = one.calls in
    let d = two.calls in
    let e = one.entry_reads in
    let f = two.entry_reads in
    record { calls = omega (arith, enough, c, d); entry_reads = omega (arith, enough, e, f); no_change = two.no_change ∙ one.no_change; unsynced = two.unsynced ∙ one.unsynced }

-- one look at a place
pub one_look : {T : Type 0} (answer : Result T DiskFault) (place : Place) (before now : Counts) → now ≡ counted_read answer place before → LooksAtMost 1 before now
one_look answer place before now is = subst (λ (c : Counts). LooksAtMost 1 before c) (sym is) (go place)
  where
    go : (p : Place) → LooksAtMost 1 before (counted_read answer p before)
    go (Entry name) = record { calls = omega arith; entry_reads = omega arith; no_change = refl; unsynced = refl }
    go (Doomed n) = record { calls = omega arith; entry_reads = omega arith; no_change = refl; unsynced = refl }
    go Index = record { calls = omega arith; entry_reads = omega arith; no_change = refl; unsynced = refl }
    go Log = record { calls = omega arith; entry_reads = omega arith; no_change = refl; unsynced = refl }
    go Tmp = record { calls = omega arith; entry_reads = omega arith; no_change = refl; unsynced = refl }
    go Clear = record { calls = omega arith; entry_reads = omega arith; no_change = refl; unsynced = refl }

-- after a call that only looked and did not fail, another one
pub looks_on : {Self : _} (D : Ghosts Self) (e : Ending) (a b c : Self) → Looks D Ending.NoneFailed a b → Looks D e b c → Looks D e a c
looks_on D e a b c first more = record {
  cause = subst (λ n. CountsFailure (e ≡ Ending.OneFailed) n (D.faults c)) (first.cause.kept (λ failed. cc)) more.cause;
  state = λ told. more.state told ∙ first.state told;
  no_change = λ told. more.no_change told ∙ first.no_change told;
  last = more.last;
  unsynced = λ told. more.unsynced told ∙ first.unsynced told;
}

-- and one whose fault is handed on
pub looks_handed : {T : Type 0} {Self : _} (D : Ghosts Self) (r : Result T DiskFault) (f : DiskFault) (a b c : Self) → IsErrAnd r (λ e. e ≡ f) → Looks D Ending.NoneFailed a b → Looks D (fault_ending f) b c
    → Looks D (ending r) a c
looks_handed D (Ok x) f a b c is first more = absurd is
looks_handed D (Err e) f a b c is first more = subst (λ e. Looks D (fault_ending e) a c) (sym is) (looks_on D (fault_ending f) a b c first more)
