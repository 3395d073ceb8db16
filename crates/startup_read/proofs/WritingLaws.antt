-- What holds at each moment of the writing of a whole index.
use Rattle.std.proofs.Common.{◌≡◌, ◌≢◌, inl, inr, ℕ, List, [], false, true, None, Some, sym, ap, subst, ◌∙◌, arith}
use Rattle.std.proofs.lemmas.List.Elements.{All-from_recursion, recursion_from_All}
use Rattle.std.proofs.lemmas.List.Sorted.{All-permutation, IsPermutation-trans}
use Rattle.disk_theory.specs.Sound.{IsSound}
use Rattle.disk_theory.specs.State.{State, empty_file, standing}
use Rattle.disk_theory.specs.State.Write.{End}
use Rattle.disk_theory.specs.declared.place.Place.{Place}
use Rattle.disk_theory.specs.declared.place.Place.TheVariants.{Index, Log, Tmp}
use Rattle.disk_theory.proofs.Sound.{no_writes, sound_added, sound_renamed, sound_settled}
use Rattle.disk_theory.proofs.Standing.{added_puts, settled_same}
use Rattle.index_file.specs.Printed.{IsPrinted}
use Rattle.index_map.specs.Known.{Known}
use Rattle.index_record.specs.Record.{is_removed}
use Rattle.index_record.specs.declared.record.IndexRecord.{IndexRecord}
use Rattle.index_theory.specs.Apart.{IsApart}
use Rattle.index_theory.specs.declared.kinds.IndexKind.TheVariants.{Dirty, Clean}
use Rattle.index_theory.specs.Unclean.{IsNotClean, IsUnclean}
use Rattle.index_theory.specs.Writing.{index_begun, index_filled, index_placed, index_synced}
use Rattle.index_theory.proofs.ApartLaws.{create_keeps_apart, rename_keeps_apart, sync_is_apart}
use Rattle.index_theory.proofs.LeavesLaws.{create_leaves_entries, moved_stands, rename_leaves_entries, write_leaves_entries, wrote_stands}
use Rattle.index_theory.proofs.StartLaws.{spelled_index_is}
use Rattle.index_theory.proofs.WritingLaws.{whole_keeps_unclean, whole_stands}
use Rattle.record_list.specs.Change.{HasNoRemoved}
use Rattle.record_list.specs.Lists.{HasNames, IsByName, record_at}
use Rattle.record_list.proofs.SortedLaws.{by_name_keeps}
use Rattle.startup_read.specs.Kept.{KeepsIndex}
use Rattle.startup_read.specs.Spares.{SparesEntries}
use Rattle.startup_read.specs.Writing.{IsAmidPlacing, IsAmidWriting, WritesIndex, WritingMoment, writing_at}
use Rattle.startup_read.specs.Writing.WritingMoment.{Begun, Filled, Placed, Synced, Unwritten}
use Rattle.startup_read.proofs.OpeningLaws.{sound_wrote}
use Rattle.startup_read.proofs.SparesLaws.{spares_nothing, spares_sync, spares_then}

-- ---- the records, and the bytes

pub present_by_name : (rs sorted : List IndexRecord) → IsByName rs sorted → HasNoRemoved rs → HasNoRemoved sorted
present_by_name rs sorted by present =
    let P : IndexRecord → Type 0 = λ r. is_removed r ≡ false in
    recursion_from_All P sorted (All-permutation P rs sorted by.same (All-from_recursion P rs present))

-- an index of the records in another order
pub printed_again : (records rs : List IndexRecord) (now : ℕ) (bytes : List ℕ) → IsByName records rs → IsPrinted rs now true bytes → IsPrinted records now true bytes
printed_again records rs now bytes by printed = record {
  sorted = printed.sorted;
  by_name = record { rising = printed.by_name.rising; same = IsPermutation-trans records rs printed.sorted by.same printed.by_name.same };
  printed = printed.printed;
  spelled = printed.spelled;
}

not_clean : (records : List IndexRecord) (now : ℕ) (bytes : List ℕ) → IsPrinted records now true bytes → IsNotClean (Some bytes)
not_clean records now bytes printed clean =
    let both : Dirty ≡ Clean = sym (spelled_index_is bytes now true printed.sorted printed.spelled).0 ∙ clean in cc

-- ---- the moments

module _ (s : State) (bytes : List ℕ) (sound : IsSound s) where
  sound_begun : IsSound (index_begun s)
  sound_begun = sound_added Tmp empty_file s (no_writes []) sound

  sound_filled : IsSound (index_filled bytes s)
  sound_filled = sound_wrote Tmp (End 0 bytes) (index_begun s) [] (added_puts Tmp empty_file s sound).here (omega arith) sound_begun

  pub sound_placed : IsSound (index_placed bytes s)
  sound_placed = sound_renamed Tmp Index (index_synced bytes s) (sound_settled (index_filled bytes s) sound_filled)

  pub placed_stands : (p : Place) → p ≢ Tmp → p ≢ Index → standing (index_placed bytes s) p ≡ standing s p
  placed_stands p tmp index =
      moved_stands (index_synced bytes s) Tmp Index p tmp index
      ∙ settled_same (index_filled bytes s) p
      ∙ wrote_stands (index_begun s) Tmp p (End 0 bytes) tmp sound_begun
      ∙ (added_puts Tmp empty_file s sound).others p tmp

  unclean_at : (m : WritingMoment) → IsApart s → IsNotClean (Some bytes) → IsUnclean s → IsUnclean (writing_at m bytes s)
  unclean_at Unwritten apart dirty unclean = unclean
  unclean_at Begun apart dirty unclean = (whole_keeps_unclean s bytes sound apart dirty unclean).begun
  unclean_at Filled apart dirty unclean = (whole_keeps_unclean s bytes sound apart dirty unclean).filled
  unclean_at Synced apart dirty unclean = (whole_keeps_unclean s bytes sound apart dirty unclean).synced
  unclean_at Placed apart dirty unclean = (whole_keeps_unclean s bytes sound apart dirty unclean).placed

  apart_begun : IsApart s → IsApart (index_begun s)
  apart_begun apart = create_keeps_apart s Tmp sound apart

  apart_at : (m : WritingMoment) → IsApart s → IsApart (writing_at m bytes s)
  apart_at Unwritten apart = apart
  apart_at Begun apart = apart_begun apart
  apart_at Filled apart = let a = apart_begun apart in record { entries = a.entries; index = a.index }
  apart_at Synced apart = sync_is_apart (index_filled bytes s) sound_filled
  apart_at Placed apart =
      rename_keeps_apart (index_synced bytes s) Tmp Index (sound_settled (index_filled bytes s) sound_filled) (λ entry. entry) (λ e. cc) (λ of. tt)
      (sync_is_apart (index_filled bytes s) sound_filled)

  spares_begun : SparesEntries s (index_begun s)
  spares_begun = spares_then s s (index_begun s) (spares_nothing s) (create_leaves_entries s Tmp tt sound)

  spares_filled : IsApart s → SparesEntries s (index_filled bytes s)
  spares_filled apart =
      spares_then s (index_begun s) (index_filled bytes s) spares_begun (write_leaves_entries (index_begun s) Tmp (End 0 bytes) tt sound_begun (apart_begun apart))

  spares_synced : IsApart s → SparesEntries s (index_synced bytes s)
  spares_synced apart = spares_sync s (index_filled bytes s) (spares_filled apart)

  spares_at : (m : WritingMoment) → IsApart s → SparesEntries s (writing_at m bytes s)
  spares_at Unwritten apart = spares_nothing s
  spares_at Begun apart = spares_begun
  spares_at Filled apart = spares_filled apart
  spares_at Synced apart = spares_synced apart
  spares_at Placed apart =
      spares_then s (index_synced bytes s) (index_placed bytes s) (spares_synced apart) (rename_leaves_entries (index_synced bytes s) Tmp Index tt tt)

-- ---- at every exit

pub amid_writing : (records : List IndexRecord) (now : ℕ) (bytes given : List ℕ) (s t : State) → given ≡ bytes → IsPrinted records now true bytes → IsAmidPlacing given s t
    → IsAmidWriting records now s t
amid_writing records now bytes given s t same printed amid = inr (bytes, (printed, subst (λ b. IsAmidPlacing b s t) same amid))

pub writes_index : (records : List IndexRecord) (now : ℕ) (bytes given : List ℕ) (s t : State) → given ≡ bytes → IsPrinted records now true bytes → t ≡ index_placed given s
    → WritesIndex records now s t
writes_index records now bytes given s t same printed is = (bytes, (printed, subst (λ b. t ≡ index_placed b s) same is))

pub writing_unclean : (records : List IndexRecord) (now : ℕ) (s t : State) → IsSound s → IsAmidWriting records now s t → IsApart s → IsUnclean s → IsUnclean t
writing_unclean records now s t sound (inl same) apart unclean = subst IsUnclean (sym same) unclean
writing_unclean records now s t sound (inr (bytes, (printed, (m, is)))) apart unclean =
    subst IsUnclean (sym is) (unclean_at s bytes sound m apart (not_clean records now bytes printed) unclean)

pub writing_apart : (records : List IndexRecord) (now : ℕ) (s t : State) → IsSound s → IsAmidWriting records now s t → IsApart s → IsApart t
writing_apart records now s t sound (inl same) apart = subst IsApart (sym same) apart
writing_apart records now s t sound (inr (bytes, (printed, (m, is)))) apart = subst IsApart (sym is) (apart_at s bytes sound m apart)

pub writing_spares : (records : List IndexRecord) (now : ℕ) (s t : State) → IsSound s → IsAmidWriting records now s t → IsApart s → SparesEntries s t
writing_spares records now s t sound (inl same) apart = subst (SparesEntries s) (sym same) (spares_nothing s)
writing_spares records now s t sound (inr (bytes, (printed, (m, is)))) apart = subst (SparesEntries s) (sym is) (spares_at s bytes sound m apart)

-- ---- in the end

pub writes_keeps : (records : List IndexRecord) (now : ℕ) (s t : State) (map : Known) → IsSound s → HasNames records → WritesIndex records now s t
    → map.base ≡ records → standing s Log ≡ None → KeepsIndex t map
writes_keeps records now s t map sound names (bytes, (printed, is)) base no_log = subst (λ (u : State). KeepsIndex u map) (sym is) (record {
  no_log = placed_stands s bytes sound Log (λ e. cc) (λ e. cc) ∙ no_log;
  no_tmp = (whole_stands s bytes sound).1;
  base = λ has. record {
    content = bytes;
    timestamp = now;
    spelled = printed.sorted;
    stands = (whole_stands s bytes sound).0;
    spells = printed.spelled;
    same = λ name. by_name_keeps records printed.sorted names printed.by_name name ∙ sym (ap (λ rs. record_at rs name) base);
  };
})
