-- While the mark of a clearing is stored and removed, the entries, the handles and the index are left as they are.
use Rattle.std.proofs.Common.{◌≡◌, ◌≢◌, inl, inr, ℕ, Bool, List, None, Option, Some, [], ◌∷◌, if◌then◌else◌, refl, sym, ap, subst, ◌∙◌, arith}
use Rattle.cache_theory.specs.Crash.{IsSafe, WasUnder}
use Rattle.cache_theory.specs.Ever.{EverAt, IsFiledOnce, entry_place}
use Rattle.cache_theory.specs.History.{History, settled_at}
use Rattle.cache_theory.specs.Machine.{Machine, object}
use Rattle.cache_theory.specs.Marks.{Marks}
use Rattle.cache_theory.specs.Stands.{HasObjectFile}
use Rattle.cache_theory.proofs.CrashImages.DiskChanges.{create_keeps, move_aside_keeps, remove_keeps, sync_keeps, write_aside_keeps}
use Rattle.cache_theory.proofs.CrashImages.EverSteps.{ever_removed, ever_renamed, ever_settled}
use Rattle.cache_theory.proofs.CrashImages.FiledOnce.{create_files_once, move_aside_files_once, remove_files_once, sync_files_once, write_files_once}
use Rattle.cache_theory.proofs.CrashImages.Unpublished.{create_unpublished}
use Rattle.context_clear.specs.MarkFile.{IsAmidEnding, IsAmidStoring, RemovesFile, StoresMark, StoringMoment, storing_at}
use Rattle.context_clear.specs.MarkFile.StoringMoment.{Begun, Filled, Placed, Synced, Unstored}
use Rattle.context_clear.proofs.MarkStored.{mark_puts}
use Rattle.disk_theory.specs.Sound.{IsQuiet, IsSound}
use Rattle.disk_theory.specs.Standing.{PutsContent}
use Rattle.disk_theory.specs.State.{File, State, Write, add_write, created, empty_file, names_now, removed, renamed, settled, standing, write_to, wrote}
use Rattle.disk_theory.specs.State.Write.{End}
use Rattle.disk_theory.specs.Writes.{WritesTo}
use Rattle.disk_theory.specs.declared.place.Place.{Place}
use Rattle.disk_theory.specs.declared.place.Place.TheVariants.{Clear, Doomed}
use Rattle.disk_theory.proofs.Files.{with_file-apart, with_file-same}
use Rattle.disk_theory.proofs.Places.{is_same-refl}
use Rattle.disk_theory.proofs.Sound.{found, no_writes, sound_added, sound_removed, sound_settled}
use Rattle.disk_theory.proofs.Standing.{added_puts, removed_puts, settled_same}
use Rattle.file_handles.specs.Cache.{cache_at}
use Rattle.handle_table.specs.Kept.{Kept}
use Rattle.file_handles.specs.Stands.{KeepsWhere, Stands}
use Rattle.cache_store.proofs.Sessions.Closed.{settled_quiet}
use Rattle.cache_store.proofs.Performing.PerformStands.{settled_in, synced_in}
use Rattle.index_theory.specs.Leaves.{LeavesIndex}
use Rattle.index_theory.proofs.LeavesLaws.{both_leave_index, create_leaves_index, nothing_leaves_index, remove_leaves_index, rename_leaves_index, sync_leaves_index, write_leaves_index}
use Rattle.startup_read.proofs.OpeningLaws.{sound_wrote}

-- a write at a place is one to the file that stands there
writes_there : (s : State) (place : Place) (write : Write) (file : ℕ) → names_now s place ≡ Some file → WritesTo file (λ c. Unit {0}) s (wrote place write s)
writes_there s place write file now =
    subst (λ (at : Option ℕ). WritesTo file (λ c. Unit {0}) s (record s { files = write_to at write s.files })) (sym now) (record {
      names = refl;
      steps = refl;
      made = refl;
      others = λ other apart. with_file-apart file other (add_write write (s.files file)) s.files apart;
      synced = ap (λ (f : File). f.synced) same;
      added = write ∷ [];
      writes = ap (λ (f : File). f.writes) same;
      moments = λ left lt. tt;
    })
  where
    same : write_to (Some file) write s.files file ≡ add_write write (s.files file)
    same = with_file-same file (add_write write (s.files file)) s.files

-- what is represented is so where only the file at `clear` has changed
stands_on : (s t : State) (file : Option (List ℕ)) (k : Kept) (m : Machine) (number : ℕ → ℕ) → PutsContent Clear file s t → Stands (standing s) k m number → Stands (standing t) k m number
stands_on s t file k m number puts stands = record {
  proper = stands.proper;
  handles = stands.handles;
  entries = λ name. puts.others (entry_place name) (λ e. cc) ∙ stands.entries name;
  aside = record {
    held = λ i h. let there = stands.aside.held i h in (there.0, (there.1.0, subst (HasObjectFile (object m i)) (sym (doomed there.0)) there.1.1));
    only = λ d some. stands.aside.only d (λ none. some (doomed d ∙ none));
    one_object = stands.aside.one_object;
    one_number = stands.aside.one_number;
  };
}
  where
    doomed : (d : ℕ) → standing t (Doomed d) ≡ standing s (Doomed d)
    doomed d = puts.others (Doomed d) (λ e. cc)

-- ---- the mark is stored

module _ (s : State) (number : ℕ) (bytes : List ℕ) where
  abbrev begun : State
  begun = created (Doomed number) s

  abbrev filled : State
  filled = wrote (Doomed number) (End 0 bytes) begun

  abbrev synced : State
  synced = settled filled

  abbrev placed : State
  placed = renamed (Doomed number) Clear synced

  writes_new : WritesTo s.made (λ c. Unit {0}) begun filled
  writes_new =
      writes_there begun (Doomed number) (End 0 bytes) s.made
      (ap (λ (b : Bool). if b then Some s.made else names_now s (Doomed number)) (is_same-refl (Doomed number)))

  filed_once : IsSound s → IsFiledOnce s → IsFiledOnce placed
  filed_once sound once =
      move_aside_files_once synced (Doomed number) Clear (λ of. of)
      (sync_files_once filled (write_files_once begun filled s.made writes_new (create_files_once s (Doomed number) sound once)))

  module _ (sound : IsSound s) where
    sound_begun : IsSound begun
    sound_begun = sound_added (Doomed number) empty_file s (no_writes []) sound

    sound_filled : IsSound filled
    sound_filled = sound_wrote (Doomed number) (End 0 bytes) begun [] (added_puts (Doomed number) empty_file s sound).here (omega arith) sound_begun

    -- at each moment

    module _ (w : Marks) (safe : IsSafe s w) where
      safe_begun : IsSafe begun w
      safe_begun = create_keeps s w number sound safe

      safe_filled : IsSafe filled w
      safe_filled = write_aside_keeps begun filled w s.made writes_new (create_unpublished s number sound) safe_begun

      safe_synced : IsSafe synced w
      safe_synced = sync_keeps filled w safe_filled

      safe_at : (m : StoringMoment) → IsSafe (storing_at m number bytes s) w
      safe_at Unstored = safe
      safe_at Begun = safe_begun
      safe_at Filled = safe_filled
      safe_at Synced = safe_synced
      safe_at Placed = move_aside_keeps synced w (Doomed number) Clear (λ of. of) (λ of. of) safe_synced

    index_begun : LeavesIndex s begun
    index_begun = create_leaves_index s (Doomed number) (λ of. of) sound

    index_filled : LeavesIndex s filled
    index_filled = both_leave_index s begun filled index_begun (write_leaves_index begun (Doomed number) (End 0 bytes) (λ of. of) sound_begun)

    index_synced : LeavesIndex s synced
    index_synced = both_leave_index s filled synced index_filled (sync_leaves_index filled sound_filled)

    index_at : (m : StoringMoment) → LeavesIndex s (storing_at m number bytes s)
    index_at Unstored = nothing_leaves_index s
    index_at Begun = index_begun
    index_at Filled = index_filled
    index_at Synced = index_synced
    index_at Placed =
        both_leave_index s synced placed index_synced
        (rename_leaves_index synced (Doomed number) Clear (λ of. of) (λ of. of) (λ of. of) (sound_settled filled sound_filled))

    -- after the sync, what ever stood at another place than `clear` is what stood there then
    stood : (p : Place) (file : ℕ) → p ≢ Clear → EverAt placed p file → names_now filled p ≡ Some file
    stood p file apart at = elim (ever_renamed synced (Doomed number) Clear p file at) [ inl new ↦ absurd (apart new.0) | inr old ↦ ever_settled filled p file old ]

    -- so no file that stands among the doomed ever stood under a name
    apart_aside : (d file : ℕ) (name : List ℕ) (P : Type 0) → names_now placed (Doomed d) ≡ Some file → EverAt placed (entry_place name) file → P
    apart_aside d file name P at ever =
        let same = sound_filled.one_place 0 (Doomed d) (entry_place name) file (stood (Doomed d) file (λ e. cc) (0, at)) (stood (entry_place name) file (λ e. cc) ever) in
        absurd (cc)

    placed_keeps : (crash : Bool) (k : Kept) (h : History) → standing s (Doomed number) ≡ None → KeepsWhere crash (cache_at k s) h → KeepsWhere crash (cache_at k placed) h
    placed_keeps crash k h free keeps = record {
      number = keeps.number;
      stands = stands_on s placed (Some bytes) k h.machine keeps.number (mark_puts s number bytes sound free) keeps.stands;
      crash_kept = λ on. let kept = keeps.crash_kept on in record {
        safe = safe_at h.marks kept.safe Placed;
        once = filed_once sound kept.once;
        aside = λ d i file name at held now ever. apart_aside d file name (WasUnder h.marks i (object h.machine i) name) now ever;
        unburied = kept.unburied;
        young = kept.young;
      };
    }

-- what is safe stays so while the mark is stored
pub amid_storing_safe : (s t : State) (w : Marks) (number : ℕ) (bytes : List ℕ) → IsSound s → IsSafe s w → IsAmidStoring number bytes s t → IsSafe t w
amid_storing_safe s t w number bytes sound safe (m, is) = subst (λ u. IsSafe u w) (sym is) (safe_at s number bytes sound w safe m)

-- and once it is stored, the disk and the handles keep to the same history
pub mark_kept : (crash : Bool) (k : Kept) (s t : State) (h : History) (number : ℕ) (bytes : List ℕ) → IsSound s → standing s (Doomed number) ≡ None → KeepsWhere crash (cache_at k s) h → StoresMark number bytes s t
    → KeepsWhere crash (cache_at k t) h
mark_kept crash k s t h number bytes sound free keeps is = subst (λ u. KeepsWhere crash (cache_at k u) h) (sym is) (placed_keeps s number bytes sound crash k h free keeps)

-- the index is left alone on the way
pub mark_index : (s t : State) (number : ℕ) (bytes : List ℕ) → IsSound s → IsAmidStoring number bytes s t → LeavesIndex s t
mark_index s t number bytes sound (m, is) = subst (LeavesIndex s) (sym is) (index_at s number bytes sound m)

-- ---- the mark is removed

removed_safe : (s : State) (w : Marks) → IsSafe s w → IsSafe (removed Clear s) w
removed_safe s w safe = remove_keeps s w Clear (λ name e. absurd (cc)) safe

-- what stands among the doomed stood there before
doomed_there : (s : State) (d file : ℕ) → names_now (removed Clear s) (Doomed d) ≡ Some file → names_now s (Doomed d) ≡ Some file
doomed_there s d file is = elim (found Clear (Doomed d) None (Some file) (names_now s) is) [ inl gone ↦ absurd (cc gone.1) | inr old ↦ old.0 ]

removed_kept : (crash : Bool) (k : Kept) (s : State) (h : History) → KeepsWhere crash (cache_at k s) h → KeepsWhere crash (cache_at k (removed Clear s)) h
removed_kept crash k s h keeps = record {
  number = keeps.number;
  stands = stands_on s (removed Clear s) None k h.machine keeps.number (removed_puts Clear s) keeps.stands;
  crash_kept = λ on. let kept = keeps.crash_kept on in record {
    safe = removed_safe s h.marks kept.safe;
    once = remove_files_once s Clear kept.once;
    aside = λ d i file name at held now ever. kept.aside d i file name at held (doomed_there s d file now) (ever_removed s Clear (entry_place name) file ever);
    unburied = kept.unburied;
    young = kept.young;
  };
}

-- what is safe stays so on the way
pub amid_ending_safe : (s t : State) (w : Marks) → IsSafe s w → IsAmidEnding s t → IsSafe t w
amid_ending_safe s t w safe amid = elim amid [
  | inl same ↦ subst (λ u. IsSafe u w) (sym same) safe
  | inr done ↦ elim done [
    | inl gone ↦ subst (λ u. IsSafe u w) (sym gone) (removed_safe s w safe)
    | inr ended ↦ subst (λ u. IsSafe u w) (sym ended) (sync_keeps (removed Clear s) w (removed_safe s w safe))
  ]
]

-- and the index is left alone
pub ending_index : (s t : State) → IsSound s → IsAmidEnding s t → LeavesIndex s t
ending_index s t sound amid = elim amid [
  | inl same ↦ subst (LeavesIndex s) (sym same) (nothing_leaves_index s)
  | inr done ↦ elim done [
    | inl gone ↦ subst (LeavesIndex s) (sym gone) removed_left
    | inr ended ↦ subst (LeavesIndex s) (sym ended) synced_left
  ]
]
  where
    removed_left : LeavesIndex s (removed Clear s)
    removed_left = remove_leaves_index s Clear (λ of. of)

    synced_left : LeavesIndex s (settled (removed Clear s))
    synced_left = both_leave_index s (removed Clear s) (settled (removed Clear s)) removed_left (sync_leaves_index (removed Clear s) (sound_removed Clear s sound))

-- once it is removed and that is synced, all is on the disk, and the marks begin anew
pub ended_keeps : (crash : Bool) (k : Kept) (s t : State) (h : History) → IsSound s → KeepsWhere crash (cache_at k s) h → RemovesFile s t → KeepsWhere crash (cache_at k t) (settled_at h.machine)
ended_keeps crash k s t h sound keeps is =
    subst (λ u. KeepsWhere crash (cache_at k u) (settled_at h.machine)) (sym is)
    (settled_in {b = crash} (cache_at k (removed Clear s)) (sound_removed Clear s sound) h (removed_kept crash k s h keeps))

-- and so it is with the marks of before
pub ended_goes_on : (crash : Bool) (k : Kept) (s t : State) (h : History) → IsSound s → KeepsWhere crash (cache_at k s) h → RemovesFile s t → KeepsWhere crash (cache_at k t) h
ended_goes_on crash k s t h sound keeps is =
    subst (λ u. KeepsWhere crash (cache_at k u) h) (sym is)
    (synced_in {b = crash} (cache_at k (removed Clear s)) (sound_removed Clear s sound) h (removed_kept crash k s h keeps))

-- no file stands at `clear` then
pub ended_stands : (s t : State) → RemovesFile s t → standing t Clear ≡ None
ended_stands s t is = ap (λ (u : State). standing u Clear) is ∙ settled_same (removed Clear s) Clear ∙ (removed_puts Clear s).here

-- nothing is pending then
pub ended_quiet : (s t : State) → RemovesFile s t → IsQuiet t
ended_quiet s t is = subst IsQuiet (sym is) (settled_quiet (removed Clear s))
