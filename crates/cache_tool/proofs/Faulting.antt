-- A command that ended in a failed look at the disk.
use Rattle.std.proofs.Common.{◌≡◌, ◌≢◌, ◌⊎◌, inl, inr, Bool, true, false, refl, Result, Ok, subst, sym, ap, ◌∙◌}
use Rattle.std.specs.Prelude.{Err, IsErrOf}
use Rattle.cache_base.specs.declared.status.Status.{Status}
use Rattle.cache_base.specs.declared.status.Status.TheVariants as status
use Rattle.cache_store.specs.Faulting.{StaysAs}
use Rattle.cache_store.specs.Faults.{ending, fault_ending}
use Rattle.cache_store.specs.Session.{Open, Session}
use Rattle.cache_store.specs.declared.fault.StoreFault.{StoreFault}
use Rattle.cache_store.specs.declared.fault.StoreFault.TheVariants as fault
use Rattle.cache_tool.specs.Ending.{EndsSession}
use Rattle.cache_tool.specs.Statuses.{IsClosing, status_in}
use Rattle.disk_theory.specs.Account.{Ending}
use Rattle.disk_theory.specs.State.{State}
use Rattle.index_map.specs.Known.{Known, SameBase}

pub is_false : (b : Bool) → ¬ (b ≡ true) → b ≡ false
is_false true other = absurd (other refl)
is_false false other = refl

-- a fault that is handed on as one of the disk is one
pub ends_failed : {T : Type 0} (r : Result T StoreFault) (f : StoreFault) → r ≡ Err f → IsErrOf r fault.Disk → fault_ending f ≡ Ending.OneFailed
ends_failed r f is disk = ap ending (sym is ∙ disk)

-- saying the line changes nothing else
module _ (old new : Open) (same : new ≡ old) where
  pub said_stays : (before : Session) (s : State) → StaysAs before (record { open_store = old; disk = s }) → StaysAs before (record { open_store = new; disk = s })
  said_stays before s stays = subst (λ x. StaysAs before (record { open_store = x; disk = s })) (sym same) stays

  pub said_base : (before : Known) → SameBase before old.index.map → SameBase before new.index.map
  said_base before base = subst (λ (x : Open). SameBase before x.index.map) (sym same) base

-- what the closing of the store left is there, whatever the status tells then
pub ends_by_disk : (ended : Status) (before : Session) (now : State) → EndsSession ended before now → EndsSession status.Disk before now
ends_by_disk ended before now ends = record {
  each = λ h keeps.
      let is = ends.each h keeps in
      record {
        safe = is.safe;
        shut = λ closing. absurd closing;
        images = is.images;
        honest = λ closing. absurd closing;
        journal = λ closing. absurd closing;
        in_use = λ records closing. absurd closing;
        unended = λ closing. absurd closing;
        untrusted = λ closing. absurd closing;
        dated = λ closing. absurd closing;
      };
  mark = ends.mark;
}

-- the store was closed or memory ran out, or the disk failed in the closing
pub closed_or : (came : Result Status StoreFault) (ended : Status) {P R : Type 0} → (came ≡ Ok status.No) ⊎ (came ≡ Err fault.Memory)
    → (ended ≡ status_in came) ⊎ ((ended ≡ status.Disk) ⊎ (ended ≡ status.Memory))
    → (IsClosing (status_in came) → (ended ≡ status.No) ⊎ (ended ≡ status.Memory) → P) → (IsClosing (status_in came) → ended ≡ status.Disk → R) → (¬ (IsClosing (status_in came)) → P) → P ⊎ R
closed_or came ended (inl is) (inl same) shut failed dropped = inl (shut (subst (λ c. IsClosing (status_in c)) (sym is) tt) (inl (same ∙ ap status_in is)))
closed_or came ended (inl is) (inr (inl disk)) shut failed dropped = inr (failed (subst (λ c. IsClosing (status_in c)) (sym is) tt) disk)
closed_or came ended (inl is) (inr (inr memory)) shut failed dropped = inl (shut (subst (λ c. IsClosing (status_in c)) (sym is) tt) (inr memory))
closed_or came ended (inr is) same shut failed dropped = inl (dropped (λ closing. subst (λ c. IsClosing (status_in c)) is closing))

-- after the line the store is not closed only where memory ran out
pub drops_by_memory : (came : Result Status StoreFault) {ended : Status} → (came ≡ Ok status.No) ⊎ (came ≡ Err fault.Memory) → ¬ (IsClosing (status_in came)) → ended ≡ status_in came → ended ≡ status.Memory
drops_by_memory came (inl is) not same = absurd (not (subst (λ c. IsClosing (status_in c)) (sym is) tt))
drops_by_memory came (inr is) not same = same ∙ ap status_in is

pub no_or_memory : (ended : Status) → (ended ≡ status.No) ⊎ (ended ≡ status.Memory) → ended ≢ status.Disk
no_or_memory ended (inl nay) disk = let both : status.No ≡ status.Disk = sym nay ∙ disk in cc
no_or_memory ended (inr memory) disk = let both : status.Memory ≡ status.Disk = sym memory ∙ disk in cc
