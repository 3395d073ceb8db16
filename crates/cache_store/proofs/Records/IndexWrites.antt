-- What the commands do that have the index written.
use Rattle.std.proofs.Common.{Bool, true, false, cond, ◌≡◌, ◌∙◌, ℕ, List, [], length, Contains, None, Ok, refl, sym, ap, subst}
use Rattle.std.proofs.lemmas.List.Sorted.{IsPermutation-map, IsPermutation-sym, length_permutation}
use Rattle.cache_replies.specs.Answers.{outcome_in, outcome_of}
use Rattle.cache_store.specs.Kept.{HoldsIndex}
use Rattle.cache_store.specs.Performing.{AchievesFor}
use Rattle.memory_index.specs.Records.{TellsOf}
use Rattle.cache_replies.specs.declared.answered.Answered.TheVariants as answered
use Rattle.memory_index.specs.declared.memory_index.MemoryIndex.{MemoryIndex}
use Rattle.cache_store.proofs.Records.IndexAchieves.{begun_spared, comes_from, rebuild_rests, rests_achieves, session_at}
use Rattle.cache_store.proofs.Performing.PerformStands.{settled_in}
use Rattle.cache_store.proofs.Records.ScanAlike.{tells_on_shelf}
use Rattle.cache_store.proofs.Spared.{spared_in}
use Rattle.cache_theory.specs.Checks.{checks}
use Rattle.cache_theory.specs.Command.Command.{Flush, Rebuild}
use Rattle.cache_theory.specs.Command.Reply.{Rebuilt}
use Rattle.cache_theory.specs.History.{begun}
use Rattle.cache_theory.specs.Machine.{Machine}
use Rattle.cache_theory.specs.Proper.{IsProper}
use Rattle.cache_theory.specs.Step.{effect, step}
use Rattle.cache_theory.specs.Table.{get}
use Rattle.cache_theory.proofs.CrashImages.DiskChanges.{sync_keeps}
use Rattle.disk_theory.specs.Sound.{IsSound}
use Rattle.disk_theory.specs.State.{State, settled, standing}
use Rattle.disk_theory.specs.declared.place.Place.TheVariants.{Clear, Log}
use Rattle.disk_theory.proofs.Standing.{settled_same}
use Rattle.file_handles.specs.Cache.{cache_at}
use Rattle.handle_table.specs.Kept.{Kept}
use Rattle.file_handles.specs.Stands.{Represents as CacheRepresents}
use Rattle.index_file.specs.Printed.{IsPrinted}
use Rattle.index_map.specs.Known.{Known}
use Rattle.index_record.specs.declared.record.IndexRecord.{IndexRecord}
use Rattle.index_theory.specs.Apart.{IsApart}
use Rattle.index_theory.specs.Ever.{Entries, entries_on}
use Rattle.index_theory.specs.Scan.{scan}
use Rattle.index_theory.specs.Unclean.{IsUnclean}
use Rattle.index_theory.proofs.ApartLaws.{sync_is_apart}
use Rattle.index_theory.proofs.LeavesLaws.{sync_leaves_index}
use Rattle.index_theory.proofs.ScanLaws.{scan_is_one, table_is_scanned}
use Rattle.index_theory.proofs.UncleanLaws.{sync_keeps_unclean}
use Rattle.index_update.specs.Rest.{name_bytes}
use Rattle.index_update.specs.Tells.{TellsAll}
use Rattle.index_update.proofs.TellLaws.{told_is_scan}
use Rattle.record_list.specs.Lists.{HasNames, IsByName, record_at}
use Rattle.record_list.proofs.NameLaws.{rising_distinct}
use Rattle.record_list.proofs.OrderLaws.{distinct_permutation}
use Rattle.startup_read.specs.Kept.{KeepsIndex, written_map}
use Rattle.startup_read.specs.Refreshing.{after_refresh, is_due}
use Rattle.startup_read.specs.Spares.{SparesEntries}
use Rattle.startup_read.specs.Writing.{WritesIndex}
use Rattle.startup_read.proofs.KeptLaws.{left_keeps_index}
use Rattle.startup_read.proofs.SparesLaws.{spared_stands, spares_sync}

-- ---- the records as they were

-- the same records, the same of them seen
pub record SameRecords (old new : Known) : Type 0 where
  pub records : new.records ≡ old.records
  pub seen : new.seen ≡ old.seen

pub written_records : (old new : Known) → new ≡ written_map old → SameRecords old new
written_records old new is = record { records = ap (λ (m : Known). m.records) is; seen = ap (λ (m : Known). m.seen) is }

pub refreshed_records : (old new : Known) → new ≡ after_refresh old → SameRecords old new
refreshed_records old new is = subst (SameRecords old) (sym is) (go (is_due old))
  where
    go : (b : Bool) → SameRecords old (cond b (written_map old) old)
    go true = record { records = refl; seen = refl }
    go false = record { records = refl; seen = refl }

-- they tell the same
pub same_tells : (es : Entries) (old new : MemoryIndex) → SameRecords old.map new.map → new.update ≡ old.update → TellsOf es old → TellsOf es new
same_tells es old new same rest tells = record {
  seen = λ name out. ap (λ rs. record_at rs name) same.seen ∙ tells.seen name (λ has. out (subst (λ r. Contains (name_bytes r) name.0) (sym rest) has));
  all = λ ended name. ap (λ rs. record_at rs name) same.records ∙ tells.all (sym rest ∙ ended) name;
}

-- ---- what the disk holds

-- after a sync it holds the index as before
pub holds_synced : (s : State) (map : Known) → IsSound s → HoldsIndex s map → HoldsIndex (settled s) map
holds_synced s map sound holds = record {
  files = left_keeps_index s (settled s) map (sync_leaves_index s sound) holds.files;
  apart = sync_is_apart s sound;
  unclean = sync_keeps_unclean s holds.unclean;
}

-- and no crash leaves a trusted index then, where none did after the call before
pub synced_unclean : (s u t : State) → t ≡ settled u → (IsApart s → IsUnclean s → IsUnclean u) → (map : Known) → HoldsIndex s map → IsUnclean t
synced_unclean s u t synced unclean map holds = subst IsUnclean (sym synced) (sync_keeps_unclean u (unclean holds.apart holds.unclean))

-- so it is where a look came before that call
pub unclean_from : (s t u : State) → t ≡ s → (IsApart t → IsUnclean t → IsUnclean u) → IsApart s → IsUnclean s → IsUnclean u
unclean_from s t u same unclean = subst (λ (v : State). IsApart v → IsUnclean v → IsUnclean u) same unclean

-- ---- a flush

module _ (k : Kept) (now : ℕ) (s u : State) (old new : MemoryIndex) (spares : IsApart s → SparesEntries s u) (holds : HoldsIndex s old.map → HoldsIndex u new.map)
    (same : SameRecords old.map new.map) (rest : new.update ≡ old.update) (sound : IsSound u) where
  flush_synced : AchievesFor Flush (Ok answered.Done) (session_at k now old s) (session_at k now new (settled u))
  unfolding checks effect
  flush_synced b h is = record {
    safe = λ on. sync_keeps u (begun Flush h).marks ((begun_spared Flush (session_at k now old s) u h is spares).crash_kept on).safe;
    replies = refl;
    next = record {
      stands = settled_in (cache_at k u) sound h (spared_in k s u h (spares is.matches.holds.apart) is.stands);
      matches = record {
        moment = is.matches.moment;
        rest = is.matches.rest ∙ ap name_bytes (sym rest);
        mark = is.matches.mark ∙ sym (spared_stands s u (spares is.matches.holds.apart) Clear (λ of. of)) ∙ sym (settled_same u Clear);
        holds = holds_synced u new.map sound (holds is.matches.holds);
      };
    };
    tells = comes_from Flush (session_at k now old s) h.machine _ (λ e. cc) (λ told. record {
      rest = told.rest ∙ ap name_bytes (sym rest);
      tells = same_tells (get h.machine.shelf) old new same rest told.tells;
    });
  }

  pub flush_achieves : (t : State) → t ≡ settled u → AchievesFor Flush (Ok answered.Done) (session_at k now old s) (session_at k now new t)
  flush_achieves t synced = subst (λ (v : State). AchievesFor Flush (Ok answered.Done) (session_at k now old s) (session_at k now new v)) (sym synced) flush_synced

-- ---- the records of the shelf

-- sorted by name, records that tell all of the shelf are its scan
pub sorted_is_scan : (m : Machine) (map : Known) (sorted : List IndexRecord) → IsProper m → TellsAll (get m.shelf) map → HasNames map.records → IsByName map.records sorted → sorted ≡ scan m.shelf
sorted_is_scan m map sorted proper tells names by =
    scan_is_one (get m.shelf) sorted (scan m.shelf) (told_is_scan (get m.shelf) map sorted tells names by) (table_is_scanned m.shelf proper.shelf.rising)

-- no name stands twice where the records can be sorted by name
names_of_sorted : (rs sorted : List IndexRecord) → IsByName rs sorted → HasNames rs
names_of_sorted rs sorted by =
    distinct_permutation _ _ (IsPermutation-map (λ (r : IndexRecord). r.name) sorted rs (IsPermutation-sym rs sorted by.same)) (rising_distinct _ by.rising)

counted_as_scan : (m : Machine) (map : Known) (sorted : List IndexRecord) → IsProper m → TellsAll (get m.shelf) map → IsByName map.records sorted → length map.records ≡ length (scan m.shelf)
counted_as_scan m map sorted proper tells by =
    sym (length_permutation map.records sorted by.same) ∙ ap length (sorted_is_scan m map sorted proper tells (names_of_sorted map.records sorted by) by)

-- ---- a rebuild

rebuild_reply_is : (m : Machine) → (step m Rebuild).reply ≡ Rebuilt (length (scan m.shelf))
unfolding checks effect
rebuild_reply_is m = refl

-- what a rebuild does: the entries are scanned, the index with their records is written, and the disk is synced
pub record Rebuilds (s u : State) (now : ℕ) (scanned new : MemoryIndex) : Type 0 where
  pub ended : scanned.update ≡ []
  pub tells : TellsOf (entries_on s) scanned
  pub same : SameRecords scanned.map new.map
  pub rest : new.update ≡ scanned.update
  pub written : WritesIndex scanned.map.records now s u
  pub entries : IsApart s → SparesEntries s u
  pub keeps : standing s Log ≡ None → KeepsIndex u new.map
  pub apart : IsApart s → IsApart u
  pub unclean : IsApart s → IsUnclean s → IsUnclean u

-- the same where the scan did nothing to the disk
pub rebuilds : (s v u : State) (now : ℕ) (scanned new : MemoryIndex) → v ≡ s → Rebuilds v u now scanned new → Rebuilds s u now scanned new
rebuilds s v u now scanned new looked is = subst (λ (t : State). Rebuilds t u now scanned new) looked is

-- it is never refused
pub rebuild_outcome : (m : Machine) (n : ℕ) → outcome_in (answered.Rebuilt n) ≡ outcome_of (step m Rebuild).reply
rebuild_outcome m n = ap outcome_of (sym (rebuild_reply_is m))

module _ (k : Kept) (now : ℕ) (s u t : State) (old scanned new : MemoryIndex) (is : Rebuilds s u now scanned new) (synced : t ≡ settled u) (sound : IsSound u) where
  told : (m : Machine) → CacheRepresents (cache_at k s) m → TellsOf (get m.shelf) new
  told m stands = tells_on_shelf (cache_at k s) m new stands (same_tells (entries_on s) scanned new is.same is.rest is.tells)

  count_is : (m : Machine) → CacheRepresents (cache_at k s) m → length new.map.records ≡ length (scan m.shelf)
  count_is m stands =
      let printed : IsPrinted scanned.map.records now true is.written.0 = is.written.1.0 in
      counted_as_scan m new.map printed.sorted stands.1.proper ((told m stands).all (is.rest ∙ is.ended))
      (subst (λ rs. IsByName rs printed.sorted) (sym is.same.records) printed.by_name)

  holds : HoldsIndex s old.map → HoldsIndex t new.map
  holds was = subst (λ (v : State). HoldsIndex v new.map) (sym synced) (holds_synced u new.map sound (record {
    files = is.keeps was.files.no_log;
    apart = is.apart was.apart;
    unclean = is.unclean was.apart was.unclean;
  }))

  pub rebuild_achieves : (n : ℕ) → n ≡ length new.map.records → AchievesFor Rebuild (Ok (answered.Rebuilt n)) (session_at k now old s) (session_at k now new t)
  rebuild_achieves n count =
      rests_achieves Rebuild (λ m. []) rebuild_rests k now s t old new (answered.Rebuilt n)
      (λ apart. subst (SparesEntries s) (sym synced) (spares_sync s u (is.entries apart)))
      holds
      (λ m rest. ap name_bytes (sym (is.rest ∙ is.ended)))
      (λ m stands rest. let reply : Rebuilt n ≡ (step m Rebuild).reply = ap Rebuilt (count ∙ count_is m stands) ∙ sym (rebuild_reply_is m) in reply)
      (λ m stands comes. told m stands)
