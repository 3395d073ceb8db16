-- What holds at each moment of a closing.
use Rattle.std.proofs.Common.{◌≡◌, ◌≢◌, inl, inr, ◌≤◌, ◌+◌, ℕ, List, [], length, Bool, true, false, cond, Option, None, Some, OnOk, Result, Ok, Err, refl, sym, ap, subst, ◌∙◌, arith}
use Rattle.std.specs.Prelude.{not, ◌||◌}
use Rattle.cache_base.specs.Bytes.{be32}
use Rattle.disk_theory.specs.Calls.{HoldsPart, if_ok}
use Rattle.disk_theory.specs.Sound.{IsQuiet, IsSound}
use Rattle.disk_theory.specs.State.{State, empty_file, settled, standing}
use Rattle.disk_theory.specs.State.Write.{End, Patch}
use Rattle.disk_theory.specs.declared.disk.DiskFault.{DiskFault}
use Rattle.disk_theory.specs.declared.place.Place.{Place}
use Rattle.disk_theory.specs.declared.place.Place.TheVariants.{Index, Log, Tmp}
use Rattle.disk_theory.proofs.Sound.{no_writes, sound_added, sound_settled}
use Rattle.disk_theory.proofs.Standing.{added_puts, settled_same, wrote_puts}
use Rattle.index_file.proofs.IndexLaws.{index_reads_back}
use Rattle.index_map.specs.Known.{Known}
use Rattle.index_record.specs.declared.record.IndexRecord.{IndexRecord}
use Rattle.index_theory.specs.Apart.{IsApart}
use Rattle.index_theory.specs.Closing.{SaysScan, closed, flag_cleared, flagged, log_begun, log_filled, log_synced}
use Rattle.index_theory.specs.Ever.{entries_on, entry_place}
use Rattle.index_theory.specs.Honest.{LeavesHonest}
use Rattle.index_theory.specs.Scan.{TellsScan, scanned}
use Rattle.index_theory.specs.Unclean.{IsUnclean}
use Rattle.index_theory.proofs.ApartLaws.{create_keeps_apart, sync_is_apart}
use Rattle.index_theory.proofs.ClosingLaws.{closed_says_scan, closing_leaves_honest, diff_says_scan, log_keeps_unclean, scan_is_honest, scan_is_ready}
use Rattle.index_theory.proofs.FlagLaws.{long_index}
use Rattle.index_theory.proofs.LeavesLaws.{create_leaves_entries, write_leaves_entries, wrote_stands}
use Rattle.index_theory.proofs.StartLaws.{quiet_leaves_honest}
use Rattle.index_theory.proofs.UncleanLaws.{sync_keeps_unclean, unclean_leaves_honest}
use Rattle.record_list.specs.Change.{IsDiff}
use Rattle.record_list.specs.Lists.{HasNames, names_of}
use Rattle.record_list.proofs.NameLaws.{rising_distinct}
use Rattle.startup_read.specs.Closing.{ClosesIndex, ClosingMoment, IsAmidClearing, IsAmidClosing, IsAmidLogging, IsTrusted, LeavesTrusted, PrintsChanges, closing_at}
use Rattle.startup_read.specs.Closing.ClosingMoment.{Begun, Cleared, Closed, Filled, Synced, Unlogged}
use Rattle.startup_read.specs.Refreshing.{IsAmidRefresh, Refreshes, after_refresh, is_due}
use Rattle.index_theory.specs.Base.{BaseStands}
use Rattle.startup_read.specs.Kept.{KeepsIndex, written_map}
use Rattle.startup_read.specs.Spares.{SparesEntries}
use Rattle.startup_read.proofs.OpeningLaws.{sound_wrote}
use Rattle.startup_read.proofs.SparesLaws.{spared_stands, spares_both, spares_nothing, spares_sync, spares_then}
use Rattle.startup_read.specs.Writing.{IsAmidWriting, WritesIndex}
use Rattle.startup_read.specs.Writing.WritingMoment.{Placed}
use Rattle.startup_read.proofs.WritingLaws.{sound_placed, writes_keeps, writing_apart, writing_spares, writing_unclean}

pub diff_names : (base now changes : List IndexRecord) → IsDiff base now changes → HasNames changes
diff_names base now changes is = rising_distinct (names_of changes) is.rising

-- an index that stands has room for its flag
pub base_holds : (file : Option (List ℕ)) (dirty : Bool) (base : List IndexRecord) → BaseStands file dirty base → HoldsPart file 8 4
base_holds file dirty base b =
    let long = long_index b.content (index_reads_back b.content b.timestamp dirty b.spelled b.spells).0 in
    let room : 8 + 4 ≤ length b.content = omega (arith, long) in
    subst (λ f. HoldsPart f 8 4) (sym b.stands) room

-- ---- the journal and the flag

module _ (s : State) (bytes : List ℕ) (sound : IsSound s) where
  begun_sound : IsSound (log_begun s)
  begun_sound = sound_added Log empty_file s (no_writes []) sound

  filled_sound : IsSound (log_filled bytes s)
  filled_sound = sound_wrote Log (End 0 bytes) (log_begun s) [] (added_puts Log empty_file s sound).here (omega arith) begun_sound

  synced_sound : IsSound (log_synced bytes s)
  synced_sound = sound_settled (log_filled bytes s) filled_sound

  -- the journal stands, and what stands elsewhere is as before
  log_stands : standing (log_synced bytes s) Log ≡ Some bytes
  log_stands = settled_same (log_filled bytes s) Log ∙ (wrote_puts Log (End 0 bytes) (log_begun s) [] begun_sound (added_puts Log empty_file s sound).here).here

  pub elsewhere : (p : Place) → p ≢ Log → standing (log_synced bytes s) p ≡ standing s p
  elsewhere p apart =
      settled_same (log_filled bytes s) p
      ∙ wrote_stands (log_begun s) Log p (End 0 bytes) apart begun_sound
      ∙ (added_puts Log empty_file s sound).others p apart

  closed_tmp : standing (closed bytes s) Tmp ≡ standing s Tmp
  closed_tmp =
      settled_same (flag_cleared bytes s) Tmp
      ∙ wrote_stands (log_synced bytes s) Index Tmp (Patch 8 (be32 0)) (λ e. cc) synced_sound
      ∙ elsewhere Tmp (λ e. cc)

  -- ---- what the entries are left

  apart_begun : IsApart s → IsApart (log_begun s)
  apart_begun apart = create_keeps_apart s Log sound apart

  spares_filled : IsApart s → SparesEntries s (log_filled bytes s)
  spares_filled apart =
      spares_then s (log_begun s) (log_filled bytes s) (spares_then s s (log_begun s) (spares_nothing s) (create_leaves_entries s Log tt sound))
      (write_leaves_entries (log_begun s) Log (End 0 bytes) tt begun_sound (apart_begun apart))

  spares_synced : IsApart s → SparesEntries s (log_synced bytes s)
  spares_synced apart = spares_sync s (log_filled bytes s) (spares_filled apart)

  spares_cleared : IsApart s → SparesEntries s (flag_cleared bytes s)
  spares_cleared apart =
      spares_then s (log_synced bytes s) (flag_cleared bytes s) (spares_synced apart)
      (write_leaves_entries (log_synced bytes s) Index (Patch 8 (be32 0)) tt synced_sound (sync_is_apart (log_filled bytes s) filled_sound))

  spares_at : (m : ClosingMoment) → IsApart s → SparesEntries s (closing_at m bytes s)
  spares_at Unlogged apart = spares_nothing s
  spares_at Begun apart = spares_then s s (log_begun s) (spares_nothing s) (create_leaves_entries s Log tt sound)
  spares_at Filled apart = spares_filled apart
  spares_at Synced apart = spares_synced apart
  spares_at Cleared apart = spares_cleared apart
  spares_at Closed apart = spares_sync s (flag_cleared bytes s) (spares_cleared apart)

  -- ---- what a crash leaves, where the records tell what a scan would

  module _ (map : Known) (prints : PrintsChanges map bytes) (base : BaseStands (standing s Index) true map.base) (tells : TellsScan (entries_on s) map.records) where
    says : SaysScan (log_synced bytes s) true
    says =
        diff_says_scan (log_synced bytes s) base.timestamp true base.spelled prints.printed.sorted map.base prints.changes map.records
        (record {
          index = base.content;
          log = bytes;
          index_stands = elsewhere Index (λ e. cc) ∙ base.stands;
          log_stands = log_stands;
          index_spells = base.spells;
          log_spells = prints.printed.spelled;
        })
        base.same prints.diff prints.printed.by_name prints.known.present
        (λ name. tells name ∙ sym (ap (λ c. scanned (λ n. c) name) (elsewhere (entry_place name.0) (λ e. cc))))

    says_closed : SaysScan (closed bytes s) false
    says_closed = closed_says_scan (log_synced bytes s) true synced_sound says

    honest_at : (m : ClosingMoment) → IsApart s → IsUnclean s → LeavesHonest (closing_at m bytes s)
    honest_at Unlogged apart unclean = unclean_leaves_honest s unclean
    honest_at Begun apart unclean = unclean_leaves_honest (log_begun s) (log_keeps_unclean s bytes sound apart unclean).0
    honest_at Filled apart unclean = unclean_leaves_honest (log_filled bytes s) (log_keeps_unclean s bytes sound apart unclean).1
    honest_at Synced apart unclean = unclean_leaves_honest (log_synced bytes s) (sync_keeps_unclean (log_filled bytes s) (log_keeps_unclean s bytes sound apart unclean).1)
    honest_at Cleared apart unclean = closing_leaves_honest (log_synced bytes s) true (be32 0) (record { steps = refl; writes = λ file. refl }) synced_sound says refl
    honest_at Closed apart unclean = quiet_leaves_honest (closed bytes s) (record { steps = refl; writes = λ file. refl }) (scan_is_honest (closed bytes s) false says_closed)

    pub trusted : standing s Tmp ≡ None → IsTrusted (closed bytes s)
    trusted no_tmp = (scan_is_ready (closed bytes s) says_closed (closed_tmp ∙ no_tmp), scan_is_honest (closed bytes s) false says_closed)

-- ---- the index, and then the journal

or_false : (a b : Bool) → (not a || b) ≡ false → a ≡ true
or_false true b e = refl
or_false false b e = absurd (cc)

-- what holds once the index was written, where that was due
record Refreshed (after : Known) (records : List IndexRecord) (s u : State) : Type 0 where
  sound : IsSound u
  keeps : KeepsIndex u after
  based : after.has_base ≡ true
  same : after.records ≡ records
  spares : IsApart s → SparesEntries s u
  apart : IsApart s → IsApart u
  unclean : IsApart s → IsUnclean s → IsUnclean u

-- the same state, for a map with a base
stays : (map : Known) (s : State) → IsSound s → KeepsIndex s map → map.has_base ≡ true → Refreshed map map.records s s
stays map s sound keeps based = record {
  sound = sound;
  keeps = keeps;
  based = based;
  same = refl;
  spares = λ apart. spares_nothing s;
  apart = λ apart. apart;
  unclean = λ apart unclean. unclean;
}

-- a new index
is_written : (map : Known) (now : ℕ) (s u : State) → IsSound s → KeepsIndex s map → HasNames map.records → WritesIndex map.records now s u
    → Refreshed (written_map map) map.records s u
is_written map now s u sound keeps names (bytes, (printed, is)) = record {
  sound = subst IsSound (sym is) (sound_placed s bytes sound);
  keeps = writes_keeps map.records now s u (written_map map) sound names (bytes, (printed, is)) refl keeps.no_log;
  based = refl;
  same = refl;
  spares = λ apart. writing_spares map.records now s u sound amid apart;
  apart = λ apart. writing_apart map.records now s u sound amid apart;
  unclean = λ apart unclean. writing_unclean map.records now s u sound amid apart unclean;
}
  where
    amid : IsAmidWriting map.records now s u
    amid = inr (bytes, (printed, (Placed, is)))

refreshed_by : (b : Bool) (map : Known) (now : ℕ) (s u : State) → is_due map ≡ b → IsSound s → KeepsIndex s map → HasNames map.records → Refreshes map now s u
    → Refreshed (cond b (written_map map) map) map.records s u
refreshed_by true map now s u due sound keeps names refreshes = is_written map now s u sound keeps names (refreshes.due due)
refreshed_by false map now s u due sound keeps names refreshes =
    subst (Refreshed map map.records s) (sym (refreshes.not_due due)) (stays map s sound keeps (or_false map.has_base _ due))

refreshed : (map : Known) (now : ℕ) (s u : State) → IsSound s → KeepsIndex s map → HasNames map.records → Refreshes map now s u
    → Refreshed (after_refresh map) map.records s u
refreshed map now s u sound keeps names refreshes = refreshed_by (is_due map) map now s u refl sound keeps names refreshes

-- the records are the same, whether they were written or not
same_records : (b : Bool) (map : Known) → (cond b (written_map map) map).records ≡ map.records
same_records true map = refl
same_records false map = refl

known_names : (map : Known) (bytes : List ℕ) → PrintsChanges (after_refresh map) bytes → HasNames map.records
known_names map bytes prints = subst HasNames (same_records (is_due map) map) prints.known.names

tells_along : (records : List IndexRecord) (s u : State) → SparesEntries s u → TellsScan (entries_on s) records → TellsScan (entries_on u) records
tells_along records s u spares tells name = tells name ∙ sym (ap (λ c. scanned (λ n. c) name) (spared_stands s u spares (entry_place name.0) (λ of. of)))

refresh_unclean : (b : Bool) (map : Known) (now : ℕ) (s t : State) → is_due map ≡ b → IsSound s → IsAmidRefresh map now s t → IsApart s → IsUnclean s → IsUnclean t
refresh_unclean true map now s t due sound amid apart unclean = writing_unclean map.records now s t sound (amid.due due) apart unclean
refresh_unclean false map now s t due sound amid apart unclean = subst IsUnclean (sym (amid.not_due due)) unclean

refresh_spares : (b : Bool) (map : Known) (now : ℕ) (s t : State) → is_due map ≡ b → IsSound s → IsAmidRefresh map now s t → IsApart s → SparesEntries s t
refresh_spares true map now s t due sound amid apart = writing_spares map.records now s t sound (amid.due due) apart
refresh_spares false map now s t due sound amid apart = subst (SparesEntries s) (sym (amid.not_due due)) (spares_nothing s)

-- ---- at every exit

pub closing_honest : (map : Known) (now : ℕ) (s t : State) → IsSound s → KeepsIndex s map → IsAmidClosing map now s t → IsApart s → IsUnclean s
    → TellsScan (entries_on s) map.records → LeavesHonest t
closing_honest map now s t sound keeps (inl amid) apart unclean tells = unclean_leaves_honest t (refresh_unclean (is_due map) map now s t refl sound amid apart unclean)
closing_honest map now s t sound keeps (inr (u, (refreshes, (bytes, (prints, (m, is)))))) apart unclean tells =
    let r = refreshed map now s u sound keeps (known_names map bytes prints) refreshes in
    let told : TellsScan (entries_on u) (after_refresh map).records = subst (λ rs. TellsScan (entries_on u) rs) (sym r.same) (tells_along map.records s u (r.spares apart) tells) in
    subst LeavesHonest (sym is) (honest_at u bytes r.sound (after_refresh map) prints (r.keeps.base r.based) told m (r.apart apart) (r.unclean apart unclean))

pub closing_spares : (map : Known) (now : ℕ) (s t : State) → IsSound s → KeepsIndex s map → IsAmidClosing map now s t → IsApart s → SparesEntries s t
closing_spares map now s t sound keeps (inl amid) apart = refresh_spares (is_due map) map now s t refl sound amid apart
closing_spares map now s t sound keeps (inr (u, (refreshes, (bytes, (prints, (m, is)))))) apart =
    let r = refreshed map now s u sound keeps (known_names map bytes prints) refreshes in
    spares_both s u t (r.spares apart) (subst (SparesEntries u) (sym is) (spares_at u bytes r.sound m (r.apart apart)))

-- ---- in the end

pub closing_trusted : (map : Known) (now : ℕ) (s t : State) → IsSound s → KeepsIndex s map → IsApart s → ClosesIndex map now s t → TellsScan (entries_on s) map.records → IsTrusted t
closing_trusted map now s t sound keeps apart (u, (refreshes, (bytes, (prints, is)))) tells =
    let r = refreshed map now s u sound keeps (known_names map bytes prints) refreshes in
    let told : TellsScan (entries_on u) (after_refresh map).records = subst (λ rs. TellsScan (entries_on u) rs) (sym r.same) (tells_along map.records s u (r.spares apart) tells) in
    subst IsTrusted (sym is) (trusted u bytes r.sound (after_refresh map) prints (r.keeps.base r.based) told r.keeps.no_tmp)

pub closing_quiet : (map : Known) (now : ℕ) (s t : State) → ClosesIndex map now s t → IsQuiet t
closing_quiet map now s t (u, (refreshes, (bytes, (prints, is)))) = subst IsQuiet (sym is) (record { steps = refl; writes = λ file. refl })

-- ---- the last calls

-- the bytes may be given by another name
pub closes : (map after : Known) (now : ℕ) (bytes given : List ℕ) (s u t : State) → Refreshes map now s u → after ≡ after_refresh map → PrintsChanges after bytes
    → given ≡ bytes → t ≡ closed given u → ClosesIndex map now s t
closes map after now bytes given s u t refreshes same prints bs is =
    (u, (refreshes, (bytes, (subst (λ m. PrintsChanges m bytes) same prints, subst (λ b. t ≡ closed b u) bs is))))

pub amid_closes : (map after : Known) (now : ℕ) (bytes given : List ℕ) (s u t : State) → Refreshes map now s u → after ≡ after_refresh map → PrintsChanges after bytes
    → given ≡ bytes → IsAmidLogging given u t → IsAmidClosing map now s t
amid_closes map after now bytes given s u t refreshes same prints bs amid =
    inr (u, (refreshes, (bytes, (subst (λ m. PrintsChanges m bytes) same prints, subst (λ b. IsAmidLogging b u t) bs amid))))

-- nothing more was done after the index
pub amid_refreshed : (map : Known) (now : ℕ) (s u : State) → Refreshes map now s u → IsAmidClosing map now s u
amid_refreshed map now s u refreshes = inl (record {
  due = λ e. inr ((refreshes.due e).0, ((refreshes.due e).1.0, (Placed, (refreshes.due e).1.1)));
  not_due = refreshes.not_due;
})

-- after the journal the flag can be written
pub log_has_room : (s t : State) (bytes : List ℕ) → IsSound s → t ≡ log_synced bytes s → HoldsPart (standing s Index) 8 4 → HoldsPart (standing t Index) 8 4
log_has_room s t bytes sound is holds =
    subst (λ f. HoldsPart f 8 4) (sym (ap (λ (u : State). standing u Index) is ∙ elsewhere s bytes sound Index (λ e. cc))) holds

pub closed_end : {T : Type 0} (r : Result T DiskFault) (A : Type 0) (s u t : State) (bytes : List ℕ) → (A → u ≡ log_synced bytes s)
    → OnOk r (A → t ≡ settled (flagged (be32 0) u)) → OnOk r (A → t ≡ closed bytes s)
closed_end (Ok value) A s u t bytes synced is = λ a. is a ∙ ap (λ (v : State). settled (flagged (be32 0) v)) (synced a)
closed_end (Err fault) A s u t bytes synced is = tt

pub amid_end : (s u t : State) (bytes : List ℕ) → u ≡ log_synced bytes s → IsAmidClearing u t → IsAmidLogging bytes s t
amid_end s u t bytes synced (inl is) = (Synced, is ∙ synced)
amid_end s u t bytes synced (inr (inl is)) = (Cleared, is ∙ ap (flagged (be32 0)) synced)
amid_end s u t bytes synced (inr (inr is)) = (Closed, is ∙ ap (λ (v : State). settled (flagged (be32 0) v)) synced)

-- ---- a sync alone

pub sync_spares : {T : Type 0} (r : Result T DiskFault) (s t : State) → t ≡ if_ok r (settled s) s → SparesEntries s t
sync_spares (Ok value) s t is = subst (SparesEntries s) (sym is) (spares_sync s s (spares_nothing s))
sync_spares (Err fault) s t is = subst (SparesEntries s) (sym is) (spares_nothing s)

pub sync_unclean : {T : Type 0} (r : Result T DiskFault) (s t : State) → t ≡ if_ok r (settled s) s → IsUnclean s → IsUnclean t
sync_unclean (Ok value) s t is unclean = subst IsUnclean (sym is) (sync_keeps_unclean s unclean)
sync_unclean (Err fault) s t is unclean = subst IsUnclean (sym is) unclean

pub sync_honest : {T : Type 0} (r : Result T DiskFault) (s t : State) → t ≡ if_ok r (settled s) s → IsUnclean s → LeavesHonest t
sync_honest r s t is unclean = unclean_leaves_honest t (sync_unclean r s t is unclean)

pub ok_trusted : {T : Type 0} (r : Result T DiskFault) (A : Type 0) (map : Known) (now : ℕ) (s t : State) → (A → IsSound s) → (A → KeepsIndex s map)
    → OnOk r (A → ClosesIndex map now s t) → OnOk r (A → LeavesTrusted map.records s t)
ok_trusted (Ok value) A map now s t sound keeps closes_ = λ a apart tells. closing_trusted map now s t (sound a) (keeps a) apart (closes_ a) tells
ok_trusted (Err fault) A map now s t sound keeps closes_ = tt
