-- The handles and the disk stand for a machine, but for the file under one name.
use Rattle.std.proofs.Common.{◌≡◌, ◌≢◌, inl, inr, ℕ, List, Some, None, true, refl, sym, ap, subst, ◌∙◌, arith, Bool, IsTrue}
use Rattle.std.specs.Prelude.{slice_get}
use Rattle.cache_base.specs.declared.name.Name.{Name}
use Rattle.cache_theory.specs.Crash.{IsCrashKept, WasUnder}
use Rattle.cache_theory.specs.Ever.{entries, entry_place}
use Rattle.cache_theory.specs.Machine.{Machine, Object as MachineObject, object}
use Rattle.cache_theory.specs.Marks.{Marks, is_touched}
use Rattle.cache_theory.specs.Proper.{IsInUse, IsProper}
use Rattle.cache_theory.specs.Stands.{AsideStand, HasObjectFile, IsHeldAside}
use Rattle.cache_theory.specs.Step.{doomed_at, doomed_under}
use Rattle.cache_theory.specs.Table.{get}
use Rattle.cache_theory.proofs.CrashImages.DiskChanges.{remove_keeps}
use Rattle.cache_theory.proofs.ObjectLaws.Dooming.{doomed_length, doomed_there, proper_doomed_under}
use Rattle.cache_theory.proofs.CrashImages.EverSteps.{ever_removed}
use Rattle.cache_theory.proofs.CrashImages.FiledOnce.{one_name as one_place, remove_files_once}
use Rattle.cache_theory.proofs.ObjectLaws.HeldAside.{held_before_doomed, held_doomed}
use Rattle.cache_theory.proofs.Names.{get-remove_other, one_name}
use Rattle.cache_theory.proofs.ObjectLaws.Users.{in_use_along}
use Rattle.disk_theory.specs.declared.place.Place.TheVariants.{Doomed, Entry}
use Rattle.disk_theory.specs.Image.{Files}
use Rattle.disk_theory.specs.Standing.{PutsContent}
use Rattle.disk_theory.specs.State.{State, removed, standing}
use Rattle.disk_theory.proofs.Standing.{removed_puts}
use Rattle.file_handles.specs.Cache.{cache_at}
use Rattle.handle_table.specs.Held.{IsHeldAs}
use Rattle.handle_table.specs.Kept.{Kept}
use Rattle.handle_table.specs.Standing.{HandlesStand}
use Rattle.file_handles.specs.Stands.{IsAt, KeepsWhere, Stands}
use Rattle.file_handles.proofs.Reading.HeldChunkLaws.{chunks_on}
use Rattle.file_handles.proofs.Histories.{history_of}

-- the files and the handles are the machine's, but for the file under the name
pub record StandsBut (name : List ℕ) (files : Files) (k : Kept) (m : Machine) (number : ℕ → ℕ) : Type 0 where
  pub proper : IsProper m
  pub handles : HandlesStand k m number
  pub entries_but : (q : List ℕ) → name ≢ q → entries files q ≡ get m.shelf q
  pub aside : AsideStand files m (IsAt k number)

pub record IsInBut (b : Bool) (name : List ℕ) (s : State) (k : Kept) (m : Machine) (w : Marks) : Type 0 where
  pub number : ℕ → ℕ
  pub stands : StandsBut name (standing s) k m number
  pub crash_kept : IsTrue b → IsCrashKept s m w (IsAt k number)

-- all stands
pub in_but : {b : Bool} (name : List ℕ) (s : State) (k : Kept) (m : Machine) (w : Marks) → KeepsWhere b (cache_at k s) (history_of m w) → IsInBut b name s k m w
in_but name s k m w is = record {
  number = is.number;
  stands = record { proper = is.stands.proper; handles = is.stands.handles; entries_but = λ q apart. is.stands.entries q; aside = is.stands.aside };
  crash_kept = is.crash_kept;
}

-- Where no object is in use under the name all stands for the machine in which it is doomed, but for its file.

module _ (name : List ℕ) (s : State) (k : Kept) (m : Machine) (w : Marks) (unused : get m.in_use name ≡ None) where
  never_used : (i : ℕ) → get m.in_use name ≢ Some i
  never_used i at = let never : None ≡ Some i = sym unused ∙ at in cc

  same_object : (i : ℕ) → object (doomed_under m name) i ≡ object m i
  same_object i = doomed_there m name i (never_used i)

  was_held : (i : ℕ) → IsHeldAside (doomed_under m name) i → IsHeldAside m i
  was_held i h = elim (held_before_doomed m name i h) [ inl at ↦ absurd (never_used i at) | inr old ↦ old ]

  in_use_next : (i : ℕ) → IsInUse m i → IsInUse (doomed_under m name) i
  in_use_next i = in_use_along m (doomed_under m name) i (let l = doomed_length m name in omega (arith, l)) (λ h. h)

  stands_but : (number : ℕ → ℕ) → Stands (standing s) k m number → StandsBut name (standing s) k (doomed_under m name) number
  stands_but number stands = record {
    proper = proper_doomed_under m name stands.proper;
    handles = record {
      slots = stands.handles.slots;
      used = stands.handles.used;
      objects = λ p x at.
          let old = stands.handles.objects p x at in
          record { in_use = in_use_next (number p) old.in_use; as_held = subst (λ o. IsHeldAs x o) (sym (same_object (number p))) old.as_held };
      apart = stands.handles.apart;
      chunks = chunks_on k k m (doomed_under m name) number (λ q y at. at) (λ q y at. at) same_object (doomed_length m name) refl refl stands.handles.chunks;
    };
    entries_but = λ q apart. stands.entries q ∙ sym (get-remove_other m.shelf name q apart);
    aside = record {
      held = λ i h. let old = stands.aside.held i (was_held i h) in (old.0, (old.1.0, subst (λ o. HasObjectFile o (standing s (Doomed old.0))) (sym (same_object i)) old.1.1));
      only = λ d some. let old = stands.aside.only d some in (old.0, (old.1.0, held_doomed m name stands.proper old.0 old.1.1));
      one_object = stands.aside.one_object;
      one_number = stands.aside.one_number;
    };
  }

  same_objects : (doomed_under m name).objects ≡ m.objects
  same_objects = ap (doomed_at m.objects) unused

  crash_but : (number : ℕ → ℕ) → IsCrashKept s m w (IsAt k number) → IsCrashKept s (doomed_under m name) w (IsAt k number)
  crash_but number kept = record {
    safe = kept.safe;
    once = kept.once;
    aside = λ d i file q at held names ever. subst (λ o. WasUnder w i o q) (sym (same_object i)) (kept.aside d i file q at (was_held i held) names ever);
    unburied = λ i o at un. kept.unburied i o (ap (λ (l : List MachineObject). slice_get l i) (sym same_objects) ∙ at) un;
    young = (let l = doomed_length m name in let y = kept.young in omega (arith, l, y));
  }

  pub undoomed_but : {b : Bool} → KeepsWhere b (cache_at k s) (history_of m w) → IsInBut b name s k (doomed_under m name) w
  undoomed_but is = record { number = is.number; stands = stands_but is.number is.stands; crash_kept = λ on. crash_but is.number (is.crash_kept on) }

-- Once its file is removed all stands.

module _ (name : Name) (s : State) (k : Kept) (m : Machine) (w : Marks) (none : get m.shelf name.0 ≡ None) (touched : is_touched w name.0 ≡ true) where
  gone : PutsContent (Entry name) None s (removed (Entry name) s)
  gone = removed_puts (Entry name) s

  stands_gone : (number : ℕ → ℕ) → StandsBut name.0 (standing s) k m number → Stands (standing (removed (Entry name) s)) k m number
  stands_gone number but = record {
    proper = but.proper;
    handles = but.handles;
    entries = λ q. elim (one_name name.0 q) [
      | inl e ↦ ap (entries (standing (removed (Entry name) s))) (sym e) ∙ gone.here ∙ sym none ∙ ap (get m.shelf) e
      | inr apart ↦ gone.others (entry_place q) (λ e. apart (sym (one_place q name.0 e))) ∙ but.entries_but q apart
    ];
    aside = record {
      held = λ i h. but.aside.held i h;
      only = λ d some. but.aside.only d some;
      one_object = but.aside.one_object;
      one_number = but.aside.one_number;
    };
  }

  crash_gone : (number : ℕ → ℕ) → IsCrashKept s m w (IsAt k number) → IsCrashKept (removed (Entry name) s) m w (IsAt k number)
  crash_gone number kept = record {
    safe = remove_keeps s w (Entry name) (λ q e. inl (ap (is_touched w) (sym (one_place name.0 q e)) ∙ touched)) kept.safe;
    once = remove_files_once s (Entry name) kept.once;
    aside = λ d i file q at held names ever. kept.aside d i file q at held names (ever_removed s (Entry name) (entry_place q) file ever);
    unburied = kept.unburied;
    young = kept.young;
  }

  pub removed_in : {b : Bool} → IsInBut b name.0 s k m w → KeepsWhere b (cache_at k (removed (Entry name) s)) (history_of m w)
  removed_in but = record { number = but.number; stands = stands_gone but.number but.stands; crash_kept = λ on. crash_gone but.number (but.crash_kept on) }

  -- and so it does where there was none
  pub none_in : {b : Bool} → standing s (Entry name) ≡ None → IsInBut b name.0 s k m w → KeepsWhere b (cache_at k s) (history_of m w)
  none_in empty but = record {
    number = but.number;
    stands = record {
      proper = but.stands.proper;
      handles = but.stands.handles;
      entries = λ q. elim (one_name name.0 q) [
        | inl e ↦ ap (entries (standing s)) (sym e) ∙ empty ∙ sym none ∙ ap (get m.shelf) e
        | inr apart ↦ but.stands.entries_but q apart
      ];
      aside = but.stands.aside;
    };
    crash_kept = but.crash_kept;
  }
