-- What stays where a look at the disk failed.
use Rattle.std.proofs.Common.{Bool, false, true, ◌≡◌, ◌≢◌, ◌∙◌, ℕ, List, [], Result, Ok, Err, IsErrAnd, refl, sym, ap, subst}
use Rattle.std.specs.Prelude.{IfErr, ◌↔◌}
use Rattle.cache_base.specs.declared.name.Name.{Name}
use Rattle.cache_store.specs.Faulting.{StaysAs, has_failed_look, is_failure}
use Rattle.cache_store.specs.Faults.{ending, fault_ending, of_disk}
use Rattle.cache_store.specs.Kept.{HoldsIndex}
use Rattle.cache_store.specs.Open.{IsOpen, KeepsWhere, Represents}
use Rattle.memory_index.specs.Records.{EndsWith, TellsAtEnd, TellsOf}
use Rattle.cache_store.specs.Session.{Open, Session}
use Rattle.cache_store.specs.declared.fault.StoreFault.{StoreFault}
use Rattle.cache_store.specs.declared.fault.StoreFault.TheVariants as fault
use Rattle.memory_index.specs.declared.memory_index.MemoryIndex.{MemoryIndex}
use Rattle.cache_store.proofs.Records.IndexAchieves.{goes_on_telling, holds_same_base, session_at, spares_same}
use Rattle.cache_store.proofs.Records.ListDoes.{Finishes}
use Rattle.memory_index.proofs.RecordsAtEnd.{ended_stays}
use Rattle.cache_store.proofs.Performing.Represented.{keeps_bare, represented}
use Rattle.cache_store.proofs.Spared.{spared_in}
use Rattle.cache_theory.specs.History.{History, settled_at}
use Rattle.disk_theory.specs.Account.{FailsInChange, fault_ending as disk_fault_ending}
use Rattle.disk_theory.specs.State.{State, standing}
use Rattle.disk_theory.specs.declared.disk.Disk.{Ghosts}
use Rattle.disk_theory.specs.declared.disk.DiskFault.{DiskFault}
use Rattle.disk_theory.specs.declared.disk.DiskFault.TheVariants as disk
use Rattle.disk_theory.specs.declared.place.Place.TheVariants.{Clear}
use Rattle.file_handles.specs.Answers.{OnRead}
use Rattle.handle_table.specs.Kept.{Kept}
use Rattle.file_handles.specs.declared.fault.HandleFault.{HandleFault}
use Rattle.file_handles.specs.declared.fault.HandleFault.TheVariants as handle
use Rattle.index_map.specs.Known.{Known, SameBase}
use Rattle.index_theory.specs.Ever.{entries_on}
use Rattle.index_update.specs.Rest.{name_bytes}

-- some records were read, over the same base, and the same names are left to read
module _ (k : Kept) (now : ℕ) (s t : State) (old new : MemoryIndex) (same : t ≡ s) (base : SameBase old.map new.map) (left : new.update ≡ old.update) where
  keeps_as : {b : Bool} (h : History) → KeepsWhere b (session_at k now old s) h → KeepsWhere b (session_at k now new t) h
  keeps_as h is = record {
    stands = spared_in k s t h (spares_same s t same) is.stands;
    matches = record {
      moment = is.matches.moment;
      rest = is.matches.rest ∙ ap name_bytes (sym left);
      mark = is.matches.mark ∙ ap (λ (u : State). standing u Clear) (sym same);
      holds = subst (λ (u : State). HoldsIndex u new.map) (sym same) (holds_same_base s old.map new.map base is.matches.holds);
    };
  }

  pub look_stays : (TellsOf (entries_on s) old → TellsOf (entries_on s) new) → StaysAs (session_at k now old s) (session_at k now new t)
  look_stays goes_on = record {
    stands = λ m is. represented (keeps_as {b = false} (settled_at m) (keeps_bare is));
    keeps = λ b h is. keeps_as {b = b} h is;
    tells = λ m is told. record {
      rest = told.rest ∙ ap name_bytes (sym left);
      tells = goes_on_telling k s m old new is.stands goes_on told.tells;
    };
    disk = same;
  }

-- nothing has changed
pub same_stays : (before after : Session) → after ≡ before → StaysAs before after
same_stays before after same = subst (StaysAs before) (sym same) (record { stands = λ m is. is; keeps = λ b h is. is; tells = λ m is told. told; disk = refl })

-- the update that was ended apart takes the place of the one that was left
pub ended_apart : (s t : State) (old : MemoryIndex) (map : Known) (update : List Name) → t ≡ s → update ≡ [] → SameBase old.map map
    → EndsWith (entries_on s) old map.records → (TellsOf (entries_on s) old → TellsAtEnd (entries_on s) map) → Finishes s t old (record { map = map; update = update })
ended_apart s t old map update same ended base records tells = record {
  same = same;
  ended = ended;
  base = base;
  records = records;
  tells = λ was. ended_stays (entries_on s) (record { map = map; update = update }) (tells was);
}

-- ---- which faults are answered so

failure_is_disk : (d : DiskFault) → is_failure d ≡ true → of_disk d ≡ fault.Disk
failure_is_disk disk.Failed is = refl
failure_is_disk disk.Memory is = absurd (cc)

disk_is_failure : (d : DiskFault) → of_disk d ≡ fault.Disk → is_failure d ≡ true
disk_is_failure disk.Failed is = refl
disk_is_failure disk.Memory is = absurd (cc)

-- the fault of a look
module _ {T : Type 0} (d : DiskFault) (f : StoreFault) (b : Bool) (is : f ≡ of_disk d) (noted : b ≡ is_failure d) where
  pub noted_disk : b ≡ true → ◌≡◌ {A = Result T StoreFault} (Err f) (Err fault.Disk)
  noted_disk so = ap (λ e. Err e) (is ∙ failure_is_disk d (sym noted ∙ so))

  pub noted_exactly : (b ≡ true) ↔ (◌≡◌ {A = Result T StoreFault} (Err f) (Err fault.Disk))
  noted_exactly = (noted_disk, λ same. noted ∙ disk_is_failure d (sym is ∙ err_same same))
    where
      err_same : ◌≡◌ {A = Result T StoreFault} (Err f) (Err fault.Disk) → f ≡ fault.Disk
      err_same same = cc

  pub noted_calm : b ≡ false → ◌≡◌ {A = Result T StoreFault} (Err f) (Err fault.Disk) → ⊥
  noted_calm calm same = let so = noted_exactly.1 same in absurd (cc)

-- where no look failed the disk did not
pub never_noted : {T : Type 0} (r : Result T StoreFault) (b : Bool) → b ≡ false → (r ≡ Err fault.Disk → ⊥) → (b ≡ true) ↔ (r ≡ Err fault.Disk)
never_noted r b calm other = ((λ so. absurd (let never = sym so ∙ calm in cc)), λ is. absurd (other is))

-- a fault of memory, or of the sink, is none of the disk
pub other_fault : {T : Type 0} (r : Result T StoreFault) (f : StoreFault) → IsErrAnd r (λ e. e ≡ f) → f ≢ fault.Disk → r ≡ Err fault.Disk → ⊥
other_fault (Ok x) f is other failed = is
other_fault {T = T} (Err e) f is other failed = other (let both : ◌≡◌ {A = Result T StoreFault} (Err e) (Err fault.Disk) = failed in let one : e ≡ fault.Disk = cc in sym is ∙ one)

-- ---- what a fault that is handed on says of the disk's last call

ending_of : (d : DiskFault) → fault_ending (of_disk d) ≡ disk_fault_ending d
ending_of disk.Failed = refl
ending_of disk.Memory = refl

pub change_handed : {T : Type 0} {Self : _} (D : Ghosts Self) (r : Result T StoreFault) (d : DiskFault) (now : Self) → IsErrAnd r (λ e. e ≡ of_disk d)
    → FailsInChange D (disk_fault_ending d) now → FailsInChange D (ending r) now
change_handed D (Ok x) d now is fails = absurd is
change_handed D (Err e) d now is fails = λ failed. fails (sym (ending_of d) ∙ ap fault_ending (sym is) ∙ failed)

-- ---- where the handles tell that a look failed

pub on_failed_look : {T : Type 0} (r : Result T HandleFault) (P : Type 0) → has_failed_look r ≡ true → OnRead r P → P
on_failed_look (Ok x) P noted is = absurd (cc)
on_failed_look (Err (handle.Refused r)) P noted is = absurd (cc)
on_failed_look (Err handle.Read) P noted is = is refl
on_failed_look (Err handle.Disk) P noted is = absurd (cc)
on_failed_look (Err handle.Memory) P noted is = absurd (cc)

pub err_failed_look : {T : Type 0} (r : Result T HandleFault) (P : Type 0) → has_failed_look r ≡ true → IfErr r (λ f. P) → P
err_failed_look (Ok x) P noted is = absurd (cc)
err_failed_look (Err f) P noted is = is

-- the parts of a session are the same
pub parts_stay : (k j : Kept) (now : ℕ) (s t : State) (old new : MemoryIndex) → j ≡ k → new ≡ old → t ≡ s → StaysAs (session_at k now old s) (session_at j now new t)
parts_stay k j now s t old new handles index disk = same_stays (session_at k now old s) (session_at j now new t) (λ i. session_at (handles i) now (index i) (disk i))

-- the fault that is handed on is the disk's
pub handed_fault : {T X : Type 0} (r : Result T StoreFault) (e : StoreFault) (call : Result X StoreFault) → IsErrAnd r (λ f. f ≡ e) → call ≡ Err e → call ≡ Err fault.Disk → r ≡ Err fault.Disk
handed_fault (Ok x) e call is was disk = absurd is
handed_fault {X = X} (Err d) e call is was disk = ap (λ f. Err f) (is ∙ (let both : ◌≡◌ {A = Result X StoreFault} (Err e) (Err fault.Disk) = sym was ∙ disk in cc))

-- a store that was open is so still, when the line that tells of the failed look is said
pub open_still : (before : Session) (old new : Open) (s : State) → new ≡ old → StaysAs before (record { open_store = old; disk = s }) → IsOpen before → IsOpen (record { open_store = new; disk = s })
open_still before old new s same stays some = (some.0, subst (λ x. Represents (record { open_store = x; disk = s }) some.0) (sym same) (stays.stands some.0 some.1))
