-- Looks at the disk, and changes after which none follows.
use Rattle.std.proofs.Common.{◌≡◌, ◌∙◌, Bool, true, false, Err, IsErrAnd, Ok, Result, ap, inl, inr, refl, sym}
use Rattle.std.specs.Prelude.{IsTrue}
use Rattle.cache_store.specs.Faulting.{LooksFirst}
use Rattle.cache_store.specs.Faults.{ending, fault_ending}
use Rattle.cache_store.specs.declared.fault.StoreFault.{StoreFault}
use Rattle.disk_theory.specs.Account.{Ending, FailsInChange, Looks}
use Rattle.disk_theory.specs.declared.disk.Disk.{Ghosts}

-- looks alone
pub only_looked : {Self : _} (D : Ghosts Self) (e : Ending) (before now : Self) → (IsTrue D.tells → D.state now ≡ D.state before) → LooksFirst D e before now
only_looked D e before now same = λ failed told. inl (same told)

-- a change that failed
pub changed_last : {Self : _} (D : Ghosts Self) (e : Ending) (before now : Self) → FailsInChange D e now → LooksFirst D e before now
changed_last D e before now change = λ failed told. inr (change failed told)

-- looks, and then a call that looks first, whose fault is handed on
pub looked_then : {T : Type 0} {Self : _} (D : Ghosts Self) (r : Result T StoreFault) (f : StoreFault) (faulting : Bool) (before mid now : Self) → IsErrAnd r (λ e. e ≡ f)
    → (IsTrue D.tells → D.state mid ≡ D.state before) → (faulting ≡ true → Looks D Ending.OneFailed mid now) → (faulting ≡ false → FailsInChange D (fault_ending f) now) → LooksFirst D (ending r) before now
looked_then D (Ok value) f faulting before mid now is same looked change = absurd is
looked_then D (Err e) f true before mid now is same looked change = λ failed told. inl ((looked refl).state told ∙ same told)
looked_then D (Err e) f false before mid now is same looked change = λ failed told. inr (change refl (ap fault_ending (sym is) ∙ failed) told)
