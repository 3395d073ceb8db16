-- What stands at `clear` is left alone where an entry is doomed.
use Rattle.std.proofs.Common.{◌≡◌, ◌∙◌, ℕ, List, Option, None, Some, Result, Ok, Err, refl, ap}
use Rattle.disk_theory.specs.declared.disk.DiskFault.{DiskFault}
use Rattle.disk_theory.specs.declared.disk.DiskFault.TheVariants.{Failed, Memory}
use Rattle.disk_theory.specs.declared.place.Place.TheVariants.{Clear, Doomed, Entry}
use Rattle.disk_theory.specs.Sound.{IsSound}
use Rattle.disk_theory.specs.State.{State, removed, renamed, standing}
use Rattle.disk_theory.specs.Calls.{if_done}
use Rattle.disk_theory.proofs.Standing.{removed_puts, renamed_moves}
use Rattle.cache_base.specs.declared.name.Name.{Name}
use Rattle.file_handles.specs.Dooming.{LeavesMark, SetsAside}
use Rattle.file_handles.proofs.Dooming.DoomedUser.{least_free}

same_mark : (s t : State) → t ≡ s → LeavesMark s t
same_mark s t same = ap (λ (u : State). standing u Clear) same

pub then_marked : (s t u : State) → LeavesMark s t → LeavesMark t u → LeavesMark s u
then_marked s t u first later = later ∙ first

done_marked : {T : Type 0} (r : Result T DiskFault) (s u t : State) → LeavesMark s u → t ≡ if_done r u s → LeavesMark s t
done_marked (Ok x) s u t leaves is = same_mark u t is ∙ leaves
done_marked (Err Failed) s u t leaves is = same_mark u t is ∙ leaves
done_marked (Err Memory) s u t leaves is = same_mark s t is

pub doomed_marked : (r : Result ℕ DiskFault) (s t : State) (name : Name) (aside : Option ℕ) (numbers : List ℕ) → IsSound s → SetsAside name aside numbers r s t → LeavesMark s t
doomed_marked r s t name None numbers sound sets =
    let l = least_free numbers in
    done_marked r s (renamed (Entry name) (Doomed l.0) s) t ((renamed_moves (Entry name) (Doomed l.0) s (λ e. cc) sound).others Clear (λ e. cc) (λ e. cc)) (sets.moves refl l.0 l.1)
doomed_marked r s t name (Some n) numbers sound sets = same_mark s t (sets.stays n refl).1

pub removed_marked : {T : Type 0} (r : Result T DiskFault) (s t : State) (name : Name) → t ≡ if_done r (removed (Entry name) s) s → LeavesMark s t
removed_marked r s t name is = done_marked r s (removed (Entry name) s) t ((removed_puts (Entry name) s).others Clear (λ e. cc)) is
