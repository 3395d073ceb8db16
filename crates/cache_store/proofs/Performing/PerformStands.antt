-- What the handles and the disk represent, where the moment is set and where the disk is synced.
use Rattle.std.proofs.Common.{◌≡◌, ◌∙◌, ℕ, List, Bool, false, Option, Some, sym, ap, subst, arith}
use Rattle.std.specs.Prelude.{option_map, slice_get, unwrap_or}
use Rattle.cache_theory.specs.Ever.{EverAt, entries, entry_place}
use Rattle.cache_theory.specs.History.{History, settled_at}
use Rattle.cache_theory.specs.Machine.{Machine, Object as MachineObject, object}
use Rattle.cache_theory.specs.Stands.{HasObjectFile}
use Rattle.cache_theory.specs.Marks.{is_buried, marks_of}
use Rattle.cache_theory.specs.Proper.{IsProper}
use Rattle.cache_theory.specs.Table.{get}
use Rattle.cache_theory.proofs.CrashImages.Crashes.{quiet_is_safe}
use Rattle.cache_theory.proofs.CrashImages.DiskChanges.{sync_keeps}
use Rattle.cache_theory.proofs.CrashImages.EverSteps.{ever_settled}
use Rattle.cache_theory.proofs.CrashImages.FiledOnce.{sync_files_once}
use Rattle.disk_theory.specs.Sound.{IsSound}
use Rattle.disk_theory.specs.State.{State, names_now, settled, standing}
use Rattle.disk_theory.specs.declared.place.Place.TheVariants.{Doomed}
use Rattle.disk_theory.proofs.Standing.{settled_same}
use Rattle.entry_file.specs.EntryFile.{found, read_for, whole_in}
use Rattle.entry_name.specs.EntryName.{file_name}
use Rattle.file_handles.specs.Cache.{Cache, cache_at}
use Rattle.handle_table.specs.Kept.{Kept}
use Rattle.file_handles.specs.Stands.{KeepsWhere, Stands}
use Rattle.cache_store.proofs.Sessions.Closed.{settled_quiet}
use Rattle.cache_store.proofs.Beside.{beside_in}

-- ---- another moment

abbrev pub at_moment : ℕ → Machine → Machine
at_moment now m = record m { moment = now }

pub moment_in : (now : ℕ) {b : Bool} (at : Cache) (h : History) → IsProper (at_moment now h.machine) → KeepsWhere b at h → KeepsWhere b at (record { machine = at_moment now h.machine; marks = h.marks })
moment_in now at h proper is = beside_in now h.machine.rest h.machine.mark at h proper is

-- ---- a sync

never_buried : (m : Machine) (i : ℕ) (o : MachineObject) → slice_get m.objects i ≡ Some o → o.doomed ≡ false → is_buried (marks_of m) i ≡ false
never_buried m i o at un = ap (λ (x : Option MachineObject). unwrap_or (option_map (λ o. o.doomed) x) false) at ∙ un

module _ (s : State) (sound : IsSound s) (k : Kept) (m : Machine) where
  settled_found : (number : ℕ → ℕ) → Stands (standing s) k m number → (key : List ℕ) → found (entries (standing (settled s))) key ≡ found (get m.shelf) key
  settled_found number stands key =
      ap (λ c. whole_in (read_for key c)) (settled_same s (entry_place (file_name key)) ∙ stands.entries (file_name key))

  settled_stands : (number : ℕ → ℕ) → Stands (standing s) k m number → Stands (standing (settled s)) k m number
  settled_stands number stands = record {
    proper = stands.proper;
    handles = stands.handles;
    entries = λ name. settled_same s (entry_place name) ∙ stands.entries name;
    aside = record {
      held = λ i h. let there = stands.aside.held i h in (there.0, (there.1.0, subst (HasObjectFile (object m i)) (sym (settled_same s (Doomed there.0))) there.1.1));
      only = λ d some. stands.aside.only d (λ none. some (settled_same s (Doomed d) ∙ none));
      one_object = stands.aside.one_object;
      one_number = stands.aside.one_number;
    };
  }

  -- no file that stands aside stands under a name
  apart_aside : (d file : ℕ) (name : List ℕ) (P : Type 0) → names_now (settled s) (Doomed d) ≡ Some file → EverAt (settled s) (entry_place name) file → P
  apart_aside d file name P at ever =
      let same = sound.one_place 0 (Doomed d) (entry_place name) file at (ever_settled s (entry_place name) file ever) in
      absurd (cc)

-- with the marks of before
pub synced_in : {b : Bool} (at : Cache) (sound : IsSound at.disk) (h : History) → KeepsWhere b at h → KeepsWhere b (cache_at at.handles (settled at.disk)) h
synced_in at sound h is =
    let s = at.disk in
    record {
      number = is.number;
      stands = settled_stands s sound at.handles h.machine is.number is.stands;
      crash_kept = λ on. let kept = is.crash_kept on in record {
        safe = sync_keeps s h.marks kept.safe;
        once = sync_files_once s kept.once;
        aside = λ d i file name placed held names ever. apart_aside s sound at.handles h.machine d file name _ names ever;
        unburied = kept.unburied;
        young = kept.young;
      };
    }

-- and with those of a mark
pub settled_in : {b : Bool} (at : Cache) (sound : IsSound at.disk) (h : History) → KeepsWhere b at h → KeepsWhere b (cache_at at.handles (settled at.disk)) (settled_at h.machine)
settled_in at sound h is =
    let s = at.disk in
    let m = h.machine in
    record {
      number = is.number;
      stands = settled_stands s sound at.handles m is.number is.stands;
      crash_kept = λ on. record {
        safe = quiet_is_safe (settled s) m (settled_quiet s) (settled_found s sound at.handles m is.number is.stands);
        once = sync_files_once s (is.crash_kept on).once;
        aside = λ d i file name placed held names ever. apart_aside s sound at.handles m d file name _ names ever;
        unburied = never_buried m;
        young = omega arith;
      };
    }
