-- How the next command of a script is answered.
use Rattle.std.proofs.Common.{◌≡◌, ◌≢◌, ◌≤◌, ◌⊎◌, inl, inr, Bool, true, false, List, ℕ, Option, Ok, ap, refl}
use Rattle.std.specs.Io.KnownBytes.{Appends}
use Rattle.std.specs.Prelude.{Err, IsTrue, OnErr, OnOk, Result}
use Rattle.cache_base.specs.Causes.{Rose, RoseOnce}
use Rattle.cache_store.specs.Faulting.{FailsForGood, StaysAs}
use Rattle.cache_store.specs.Faults.{ending, fault_ending}
use Rattle.cache_store.specs.Outcomes.{Faults, verdict_in}
use Rattle.cache_store.specs.Performing.{PerformsFor}
use Rattle.cache_replies.specs.Said.{IsCut}
use Rattle.cache_store.specs.Session.{cache_of, session}
use Rattle.cache_store.specs.declared.outcome.Outcome.{Outcome}
use Rattle.cache_store.specs.declared.fault.StoreFault.{StoreFault}
use Rattle.cache_store.specs.declared.fault.StoreFault.TheVariants as fault
use Rattle.cache_replies.specs.declared.verdict.Verdict.{Verdict}
use Rattle.cache_store.specs.declared.store.Store.{Store}
use Rattle.cache_theory.specs.Command.{Command}
use Rattle.cache_theory.specs.Command.Command.{Resume}
use Rattle.cache_theory.specs.Faulted.{fault_line}
use Rattle.cache_tool.specs.Staying.{StaysFor}
use Rattle.cache_tool.specs.World.{Sitting}
use Rattle.cache_tool.proofs.Counting.{rose_once}
use Rattle.cache_tool.proofs.ForGood.{disk_of}
use Rattle.disk_theory.specs.Account.{Accounts, Ending}
use Rattle.disk_theory.specs.Calls.{LastCallFails, StopsAtFault}
use Rattle.disk_theory.specs.declared.disk.Disk.{Ghosts as OfDisk}
use Rattle.index_map.specs.Known.{SameBase}

-- by its reply, as the store performed it
pub record AnswersByReply (tells : Bool) (c : Command) (answer : Result Verdict StoreFault) (before now : Sitting) : Type 0 where
  pub performs : IsTrue tells → PerformsFor c answer before.session now.session before.taken now.taken
  pub stays : IsTrue tells → StaysFor {T = Verdict} c answer before.session now.session
  pub rose : answer ≡ Err fault.Disk → RoseOnce before.disk_faults now.disk_faults
  pub kept : answer ≢ Err fault.Disk → now.disk_faults ≡ before.disk_faults
  pub for_good : c ≢ Resume → answer ≡ Err fault.Disk → IsTrue tells → FailsForGood now.disk_counts c (cache_of before.session) before.taken now.taken
  pub last : answer ≡ Err fault.Disk → IsTrue tells → LastCallFails now.disk_counts

-- by the line `fault`, where a look at the disk failed and all is as it was
pub record AnswersByFault (tells : Bool) (answer : Result Verdict StoreFault) (before now : Sitting) : Type 0 where
  pub rose : RoseOnce before.disk_faults now.disk_faults
  pub no_disk : answer ≢ Err fault.Disk
  pub stays : IsTrue tells → StaysAs before.session now.session
  pub base : SameBase before.session.open_store.index.map now.session.open_store.index.map
  pub printed : OnOk answer (Appends before.taken now.taken fault_line)
  pub cut : OnErr answer (IsCut before.taken now.taken fault_line)

abbrev pub AnswersNext : Bool → Command → Result Verdict StoreFault → Sitting → Sitting → Type 0
AnswersNext tells c answer before now = AnswersByReply tells c answer before now ⊎ AnswersByFault tells answer before now

-- whether the line was said tells which
pub by_flag : {X : Type 0} (faulting : Bool) → (faulting ≡ false → X) → (faulting ≡ true → X) → X
by_flag true reply line = line refl
by_flag false reply line = reply refl

-- what is said of an outcome is said of its verdict
disk_in : (r : Result Outcome StoreFault) → verdict_in r ≡ Err fault.Disk → r ≡ Err fault.Disk
disk_in (Ok o) e = absurd (cc e)
disk_in (Err f) e = let is : f ≡ fault.Disk = cc e in ap (λ x. Err x) is

disk_ending : (r : Result Outcome StoreFault) → verdict_in r ≡ Err fault.Disk → ending r ≡ Ending.OneFailed
disk_ending r e = ap ending (disk_in r e)

no_disk_in : (r : Result Outcome StoreFault) → r ≢ Err fault.Disk → verdict_in r ≢ Err fault.Disk
no_disk_in (Ok o) other e = cc
no_disk_in (Err f) other e = let is : f ≡ fault.Disk = cc e in other (ap (λ x. Err x) is)

on_ok_in : (r : Result Outcome StoreFault) (P : Type 0) → OnOk r P → OnOk (verdict_in r) P
on_ok_in (Ok o) P holds = holds
on_ok_in (Err f) P holds = tt

on_err_in : (r : Result Outcome StoreFault) (P : Type 0) → OnErr r P → OnErr (verdict_in r) P
on_err_in (Ok o) P holds = tt
on_err_in (Err f) P holds = holds

module _ {Self : _} {most : ℕ} (D : OfDisk Self) (result : Result Outcome StoreFault) (old new : Store) (before now : Self) (taken later : Option (List ℕ))
    (faults : new.faulting ≡ true → Faults D result old new before now taken later) (account : new.faulting ≡ false → Accounts D (ending result) most before now) where
  -- so the command was answered
  pub answers_next : (c : Command) → (new.faulting ≡ false → IsTrue D.tells → PerformsFor c (verdict_in result) (session D old before) (session D new now) taken later)
      → (new.faulting ≡ false → IsTrue D.tells → StaysFor {T = Verdict} c (verdict_in result) (session D old before) (session D new now))
      → (c ≢ Resume → result ≡ Err fault.Disk → IsTrue D.tells → FailsForGood (D.counts now) c (cache_of (session D old before)) taken later)
      → AnswersNext D.tells c (verdict_in result) (record { taken = taken; session = session D old before; disk_faults = D.faults before; disk_counts = D.counts before })
      (record { taken = later; session = session D new now; disk_faults = D.faults now; disk_counts = D.counts now })
  answers_next c performs stays fails =
      by_flag new.faulting
      (λ calm.
      inl (record {
        performs = performs calm;
        stays = stays calm;
        rose = λ e. (account calm).cause.rose (disk_ending result e);
        kept = λ other. (account calm).cause.kept (λ failed. other (ap verdict_in (disk_of result failed)));
        for_good = λ no_resume e told. fails no_resume (disk_in result e) told;
        last = λ e told. (account calm).last (disk_ending result e) told;
      }))
      (λ failed.
      let is = faults failed in
      inr (record {
        rose = is.looked.cause.rose refl;
        no_disk = no_disk_in result is.no_disk;
        stays = is.stays;
        base = is.base;
        printed = on_ok_in result (Appends taken later fault_line) is.printed;
        cut = on_err_in result (IsCut taken later fault_line) is.cut;
      }))

  -- no change failed, unless that is the answer, and the disk stopped at one that did
  pub answer_went_on : ending result ≡ Ending.NoneFailed → IsTrue D.tells → (D.counts now).failed ≡ (D.counts before).failed
  answer_went_on sound told = by_flag new.faulting (λ calm. (account calm).went_on sound told) (λ failed. (faults failed).looked.no_change told)

  pub answer_stops : IsTrue D.tells → StopsAtFault (D.counts before) (D.counts now)
  answer_stops told = by_flag new.faulting (λ calm. (account calm).stops told) (λ failed. inl ((faults failed).looked.no_change told))

  pub answer_later : D.faults before ≤ D.faults now
  answer_later = by_flag new.faulting (λ calm. (account calm).cause.later) (λ failed. (faults failed).looked.cause.later)

-- and where the disk failed its count rose
pub answer_rose : {Self : _} {most : ℕ} (D : OfDisk Self) (f : StoreFault) (old new : Store) (before now : Self) (taken later : Option (List ℕ)) → (new.faulting ≡ true → Faults D (Err f) old new before now taken later)
    → (new.faulting ≡ false → Accounts D (ending {T = Outcome} (Err f)) most before now) → f ≡ fault.Disk → Rose (D.faults before) (D.faults now)
answer_rose D f old new before now taken later faults account disk =
    by_flag new.faulting (λ calm. rose_once (D.faults before) (D.faults now) ((account calm).cause.rose (ap fault_ending disk))) (λ failed. absurd ((faults failed).no_disk (ap (λ x. Err x) disk)))
