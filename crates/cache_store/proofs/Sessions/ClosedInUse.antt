-- What a closing leaves of an index in use, and its journal.
use Rattle.std.proofs.Common.{◌≡◌, ◌≢◌, ◌<◌, ◌∙◌, ℕ, Bool, true, false, cond, List, [], Result, Ok, Err, Some, refl, sym, ap, subst, arith}
use Rattle.std.specs.Prelude.{IsTrue, ◌↔◌}
use Rattle.std.proofs.lemmas.List.Sorted.{length_permutation}
use Rattle.cache_base.specs.Bytes.{be32}
use Rattle.cache_base.specs.declared.limits.TheConstants.{CHANGED_MAX}
use Rattle.cache_base.specs.declared.name.Name.{Name}
use Rattle.disk_theory.specs.Calls.{HoldsPart, if_ok}
use Rattle.disk_theory.specs.Sound.{IsSound}
use Rattle.disk_theory.specs.State.{State, empty_file, settled, standing}
use Rattle.disk_theory.specs.State.Write.{End, Patch}
use Rattle.disk_theory.specs.declared.disk.DiskFault.{DiskFault}
use Rattle.disk_theory.specs.declared.place.Place.TheVariants.{Index, Log}
use Rattle.disk_theory.proofs.Sound.{no_writes, sound_added, sound_settled}
use Rattle.disk_theory.proofs.Standing.{added_puts, settled_same, wrote_puts}
use Rattle.index_map.specs.Known.{IsKnown, Known, changed}
use Rattle.index_record.specs.declared.record.IndexRecord.{IndexRecord}
use Rattle.index_theory.specs.Closing.{closed, flag_cleared, log_begun, log_filled, log_synced}
use Rattle.index_theory.specs.Leaves.{LeavesIndex}
use Rattle.index_theory.proofs.LeavesLaws.{both_leave_index, sync_leaves_index, wrote_stands}
use Rattle.record_list.specs.Change.{IsDiff}
use Rattle.record_list.specs.Lists.{IsByName, names_of}
use Rattle.record_list.proofs.NameLaws.{rising_distinct}
use Rattle.record_list.proofs.SortedLaws.{by_name_keeps}
use Rattle.startup_read.specs.Closing.{ClosesIndex, PrintsChanges}
use Rattle.startup_read.specs.Kept.{KeepsIndex, written_map}
use Rattle.startup_read.specs.Refreshing.{Refreshes, after_refresh, is_due}
use Rattle.startup_read.proofs.ClosingLaws.{base_holds}
use Rattle.startup_read.proofs.OpeningLaws.{sound_wrote}
use Rattle.startup_read.proofs.UnchangedLaws.{unchanged_itself}
use Rattle.startup_read.proofs.WritingLaws.{sound_placed}
use Rattle.cache_store.specs.IndexCalls.{IsFresh}
use Rattle.cache_store.specs.InUse.{ClosesInUse, HasJournalOf, HasShortJournal, IsSameIndex}
use Rattle.memory_index.specs.declared.memory_index.MemoryIndex.{MemoryIndex}
use Rattle.cache_store.proofs.Records.SameIndex.{flagged_same, is_same, same_then}
use Rattle.cache_store.proofs.Records.SparedIndex.{few_fresh, fresh_not_due, not_due_fresh, not_due_same}

-- ---- the journal and the flag

module _ (u : State) (bytes : List ℕ) (sound : IsSound u) where
  begun_sound : IsSound (log_begun u)
  begun_sound = sound_added Log empty_file u (no_writes []) sound

  filled_sound : IsSound (log_filled bytes u)
  filled_sound = sound_wrote Log (End 0 bytes) (log_begun u) [] (added_puts Log empty_file u sound).here (omega arith) begun_sound

  synced_sound : IsSound (log_synced bytes u)
  synced_sound = sound_settled (log_filled bytes u) filled_sound

  closed_log : standing (closed bytes u) Log ≡ Some bytes
  closed_log =
      settled_same (flag_cleared bytes u) Log
      ∙ wrote_stands (log_synced bytes u) Index Log (Patch 8 (be32 0)) (λ e. cc) synced_sound
      ∙ settled_same (log_filled bytes u) Log
      ∙ (wrote_puts Log (End 0 bytes) (log_begun u) [] begun_sound (added_puts Log empty_file u sound).here).here

  logged_index : standing (log_synced bytes u) Index ≡ standing u Index
  logged_index =
      settled_same (log_filled bytes u) Index
      ∙ wrote_stands (log_begun u) Log Index (End 0 bytes) (λ e. cc) begun_sound
      ∙ (added_puts Log empty_file u sound).others Index (λ e. cc)

  -- an index that has room for a flag is the same but for it
  pub closed_same : HoldsPart (standing u Index) 8 4 → IsSameIndex u (closed bytes u)
  closed_same holds =
      same_then u (log_synced bytes u) (closed bytes u) (is_same u (log_synced bytes u) logged_index)
      (same_then (log_synced bytes u) (flag_cleared bytes u) (closed bytes u)
      (flagged_same (log_synced bytes u) (be32 0) refl (subst (λ f. HoldsPart f 8 4) (sym logged_index) holds))
      (is_same (flag_cleared bytes u) (closed bytes u) (settled_same (flag_cleared bytes u) Index)))

-- ---- the index before

pub refreshed_sound : (map : Known) (now : ℕ) (d u : State) → IsSound d → Refreshes map now d u → IsSound u
refreshed_sound map now d u sound refreshes = go (is_due map) refl
  where
    go : (b : Bool) → is_due map ≡ b → IsSound u
    go true e = let written = refreshes.due e in subst IsSound (sym written.1.1) (sound_placed d written.0 sound)
    go false e = subst IsSound (sym (refreshes.not_due e)) sound

-- few records differ then
refreshed_few : (map : Known) → IsKnown (after_refresh map) → changed (after_refresh map).base (after_refresh map).records < CHANGED_MAX
refreshed_few map known = go (is_due map) refl known
  where
    go : (b : Bool) → is_due map ≡ b → IsKnown (cond b (written_map map) map) → changed (cond b (written_map map) map).base (cond b (written_map map) map).records < CHANGED_MAX
    go true e known = let none = unchanged_itself map.records known.names in omega (arith, none)
    go false e known = (not_due_fresh map e).few

-- ---- both

-- the records of the journal, by rising names, are what differs
printed_diff : (base now changes sorted : List IndexRecord) → IsDiff base now changes → IsByName changes sorted → IsDiff base now sorted
printed_diff base now changes sorted diff by = record {
  rising = by.rising;
  same = λ name. by_name_keeps changes sorted (rising_distinct (names_of changes) diff.rising) by name ∙ diff.same name;
}

module _ (index : MemoryIndex) (now : ℕ) (s d t : State) (sound : IsSound d) (left : LeavesIndex s d) (keeps : KeepsIndex s index.map) (closes : ClosesIndex index.map now d t) where
  abbrev u : State
  u = closes.0

  sound_u : IsSound u
  sound_u = refreshed_sound index.map now d u sound closes.1.0

  abbrev bytes : List ℕ
  bytes = closes.1.1.0

  prints : PrintsChanges (after_refresh index.map) bytes
  prints = closes.1.1.1.0

  log_stands : standing t Log ≡ Some bytes
  log_stands = ap (λ (v : State). standing v Log) closes.1.1.1.1 ∙ closed_log u bytes sound_u

  short_journal : HasShortJournal (standing t)
  short_journal =
      let few = refreshed_few index.map prints.known in
      let same = length_permutation prints.changes prints.printed.sorted prints.printed.by_name.same in
      let count = prints.count in
      record {
        bytes = bytes;
        records = prints.printed.sorted;
        stands = log_stands;
        spells = prints.printed.spelled;
        few = omega (arith, few, same, count);
      }

  stays_in_use : IsFresh index.map → IsSameIndex s t × HasJournalOf index.map.base index.map.records (standing t)
  stays_in_use fresh =
      let not_due = fresh_not_due index.map fresh in
      let unwritten : standing u Index ≡ standing s Index = ap (λ (v : State). standing v Index) (closes.1.0.not_due not_due) ∙ left.stands Index tt in
      let holds : HoldsPart (standing u Index) 8 4 = subst (λ f. HoldsPart f 8 4) (sym unwritten) (base_holds (standing s Index) true index.map.base (keeps.base fresh.has_base)) in (
        subst (IsSameIndex s) (sym closes.1.1.1.1) (same_then s u (closed bytes u) (is_same s u unwritten) (closed_same u bytes sound_u holds)),
        record {
          bytes = bytes;
          changes = prints.printed.sorted;
          stands = log_stands;
          spells = prints.printed.spelled;
          diff = subst (λ (m : Known). IsDiff m.base m.records prints.printed.sorted) (not_due_same index.map not_due)
              (printed_diff (after_refresh index.map).base (after_refresh index.map).records prints.changes prints.printed.sorted prints.diff prints.printed.by_name);
        },
      )

  pub closes_in_use : (index.map.has_base ≡ true → IsKnown index.map) → ClosesInUse index s t
  closes_in_use known = record {
    short = λ ended. short_journal;
    in_use = λ ended few. let stays = stays_in_use (few_fresh index.map few known) in record { same = stays.0; journal = stays.1 };
  }

-- so it is where the update has ended, and nothing is said before
pub closed_in_use : (index : MemoryIndex) (now : ℕ) (s d t : State) (ended : Bool) → IsTrue ended ↔ (index.update ≡ []) → IsSound d → LeavesIndex s d
    → KeepsIndex s index.map → (ended ≡ true → index.map.has_base ≡ true → IsKnown index.map) → (ended ≡ true → ClosesIndex index.map now d t) → ClosesInUse index s t
closed_in_use index now s d t ended ends sound left keeps known closes = record {
  short = λ none. (closes_in_use index now s d t sound left keeps (closes (ends.1 none)) (known (ends.1 none))).short none;
  in_use = λ none. (closes_in_use index now s d t sound left keeps (closes (ends.1 none)) (known (ends.1 none))).in_use none;
}

-- ---- before the update has ended

pub not_ended : (b : Bool) (names : List Name) → IsTrue b ↔ (names ≡ []) → names ≢ [] → b ≡ false
not_ended true names ends left = absurd (left (ends.0 refl))
not_ended false names ends left = refl

-- after an Ok all is synced
pub synced_done : {T : Type 0} {v : T} (d t : State) (r : Result T DiskFault) → r ≡ Ok v → t ≡ if_ok r (settled d) d → t ≡ settled d
synced_done d t r same is = is ∙ ap (λ q. if_ok q (settled d) d) same

-- a sync leaves the index alone, after changes that did, also where it fails
pub synced_left : {T : Type 0} (s d t : State) (r : Result T DiskFault) → IsSound d → LeavesIndex s d → t ≡ if_ok r (settled d) d → LeavesIndex s t
synced_left s d t (Ok x) sound left is = subst (LeavesIndex s) (sym is) (both_leave_index s d (settled d) left (sync_leaves_index d sound))
synced_left s d t (Err f) sound left is = subst (LeavesIndex s) (sym is) left
