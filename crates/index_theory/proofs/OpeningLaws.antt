-- At each moment of an opening a crash leaves an honest directory.
use Rattle.std.proofs.Common.{◌≡◌, ◌≢◌, ◌⊎◌, inl, inr, ℕ, zero, suc, ◌-◌, List, length, Option, Some, None, refl, sym, ap, subst, ◌∙◌, arith}
use Rattle.std.specs.List.{AllByRecursion}
use Rattle.std.specs.Prelude.{is_some}
use Rattle.cache_base.specs.Bytes.{be32}
use Rattle.disk_theory.specs.declared.place.Place.{Place}
use Rattle.disk_theory.specs.declared.place.Place.TheVariants.{Doomed, Index, Log, Tmp}
use Rattle.disk_theory.specs.Image.{Files, MayStand}
use Rattle.disk_theory.specs.Sound.{IsQuiet, IsSound, names_before}
use Rattle.disk_theory.specs.State.{File, State, Write, add_write, content_after, content_of, names_now, removed, renamed, standing, write_to, written, wrote, content}
use Rattle.disk_theory.specs.State.Write.{Patch}
use Rattle.disk_theory.proofs.Files.{with_file-cases}
use Rattle.disk_theory.proofs.Standing.{wrote_puts}
use Rattle.index_theory.specs.Ever.{entry_place}
use Rattle.index_theory.specs.Honest.{Agrees, Honest, journal_records}
use Rattle.index_theory.specs.IndexKind.{index_kind}
use Rattle.index_theory.specs.declared.kinds.IndexKind.TheVariants.{Missing as NoIndex, Clean}
use Rattle.index_theory.specs.LogKind.{log_kind}
use Rattle.index_theory.specs.declared.kinds.LogKind.TheVariants.{Missing as NoLog, Valid}
use Rattle.index_theory.specs.Opening.{FlaggedIsNotClean, FlaggedIsUnclean, IsFlagWrite, IsFlagged, IsOpening, IsSetAside, OpeningBegins, OpeningClears, OpeningFlags, OpeningLeavesHonest, OpeningSetsAside}
use Rattle.index_theory.specs.Start.{decide, start_of}
use Rattle.index_theory.specs.declared.kinds.Start.TheVariants.{Ready}
use Rattle.index_theory.specs.Unclean.{IsNotClean}
use Rattle.index_theory.proofs.EverSteps.{quiet_names}
use Rattle.index_theory.proofs.FlagLaws.{AreFlagged, flag_marks, index_same, long_index, place_same, same_file}
use Rattle.index_theory.proofs.StartLaws.{agrees_along, clean_parts, dirty_unclean, ready_parts}
use Rattle.index_theory.proofs.UncleanLaws.{synced_is_unclean}

-- ---- what an opening does

pub opening_begins : OpeningBegins
opening_begins s quiet = record {
  entries = λ left name. quiet_names s left (entry_place name) quiet;
  index = λ left. quiet_names s left Index quiet;
  journal = λ left. inr (quiet_names s left Log quiet, quiet_names s left Tmp quiet);
  files = λ file. inl refl;
}

pub opening_clears : OpeningClears
opening_clears s t number o = record { entries = entry; index = index; journal = journal; files = o.files }
  where
    entry : (left : ℕ) (name : List ℕ) → names_before (removed (Doomed number) t) left (entry_place name) ≡ names_now s (entry_place name)
    entry zero name = o.entries 0 name
    entry (suc left) name = o.entries left name

    index : (left : ℕ) → names_before (removed (Doomed number) t) left Index ≡ names_now s Index
    index zero = o.index 0
    index (suc left) = o.index left

    journal : (left : ℕ) → IsSetAside s (removed (Doomed number) t) left
    journal zero = o.journal 0
    journal (suc left) = o.journal left

pub opening_sets_aside : OpeningSetsAside
opening_sets_aside s t o = record { entries = entry; index = index; journal = journal; files = o.files }
  where
    entry : (left : ℕ) (name : List ℕ) → names_before (renamed Log Tmp t) left (entry_place name) ≡ names_now s (entry_place name)
    entry zero name = o.entries 0 name
    entry (suc left) name = o.entries left name

    index : (left : ℕ) → names_before (renamed Log Tmp t) left Index ≡ names_now s Index
    index zero = o.index 0
    index (suc left) = o.index left

    journal : (left : ℕ) → IsSetAside s (renamed Log Tmp t) left
    journal zero = inl refl
    journal (suc left) = o.journal left

-- the file of the index, of which the flag is written once more
flag_file : (s t : State) (flag : List ℕ) (file : ℕ) → IsQuiet s → names_now s Index ≡ Some file → index_kind (standing s Index) ≡ Clean → length flag ≡ 4
    → (t.files file ≡ s.files file) ⊎ ((names_now s Index ≡ Some file) × IsFlagged (s.files file) (t.files file))
    → IsFlagged (s.files file) (add_write (Patch 8 flag) (t.files file))
flag_file s t flag file quiet at clean four was = record { clean = is_clean; synced = synced was; writes = ((refl, four), writes was) }
  where
    stands : standing s Index ≡ Some (s.files file).synced
    stands = ap (content_of s.files) at ∙ ap (λ ws. Some (content_after (s.files file).synced ws)) (quiet.writes file)

    is_clean : index_kind (Some (s.files file).synced) ≡ Clean
    is_clean = subst (λ c. index_kind c ≡ Clean) stands clean

    synced : (t.files file ≡ s.files file) ⊎ ((names_now s Index ≡ Some file) × IsFlagged (s.files file) (t.files file)) → (t.files file).synced ≡ (s.files file).synced
    synced (inl same) = ap (λ (f : File). f.synced) same
    synced (inr flagged) = flagged.1.synced

    writes : (t.files file ≡ s.files file) ⊎ ((names_now s Index ≡ Some file) × IsFlagged (s.files file) (t.files file)) → AllByRecursion IsFlagWrite (t.files file).writes
    writes (inl same) = subst (λ (ws : List Write). AllByRecursion IsFlagWrite ws) (sym (ap (λ (f : File). f.writes) same ∙ quiet.writes file)) tt
    writes (inr flagged) = flagged.1.writes

-- an index that is clean now was clean
was_clean_now : (s t : State) → IsQuiet s → IsOpening s t → index_kind (standing t Index) ≡ Clean → index_kind (standing s Index) ≡ Clean
was_clean_now s t quiet o clean = go (names_now s Index) (subst (λ at. index_kind (content_of t.files at) ≡ Clean) (o.index 0) clean)
  where
    go : (at : Option ℕ) → index_kind (content_of t.files at) ≡ Clean → index_kind (content_of s.files at) ≡ Clean
    go None now = now
    go (Some f) now = elim (o.files f) [
      | inl same ↦ subst (λ (file : File). index_kind (Some (content file)) ≡ Clean) same now
      | inr flagged ↦ subst (λ ws. index_kind (Some (content_after (s.files f).synced ws)) ≡ Clean) (sym (quiet.writes f)) flagged.1.clean
    ]

pub opening_flags : OpeningFlags
opening_flags s t flag quiet now four o =
    record { entries = o.entries; index = o.index; journal = o.journal; files = λ file. go file (names_now t Index) refl }
  where
    clean : index_kind (standing s Index) ≡ Clean
    clean = was_clean_now s t quiet o now

    go : (file : ℕ) (at : Option ℕ) → names_now t Index ≡ at
        → (write_to at (Patch 8 flag) t.files file ≡ s.files file) ⊎ ((names_now s Index ≡ Some file) × IsFlagged (s.files file) (write_to at (Patch 8 flag) t.files file))
    go file None e = o.files file
    go file (Some g) e = elim (with_file-cases g file (add_write (Patch 8 flag) (t.files g)) t.files) [
      | inl here ↦
          let at : names_now s Index ≡ Some file = sym (o.index 0) ∙ e ∙ ap Some (sym here.0) in
          inr (
            at,
            subst (IsFlagged (s.files file)) (sym (here.1 ∙ ap (λ k. add_write (Patch 8 flag) (t.files k)) (sym here.0)))
                (flag_file s t flag file quiet at clean four (o.files file)),
          )
      | inr same ↦ elim (o.files file) [
        | inl old ↦ inl (same ∙ old)
        | inr old ↦ inr (old.0, subst (IsFlagged (s.files file)) (sym same) old.1)
      ]
    ]

-- ---- what a crash leaves meanwhile

only_flag : (s t : State) → IsOpening s t → AreFlagged s t
only_flag s t o file = elim (o.files file) [
  | inl same ↦ inl same
  | inr flagged ↦
      let long = long_index (s.files file).synced (clean_parts (s.files file).synced flagged.1.clean).0 in
      inr (flagged.0, record { long = omega (arith, long); synced = flagged.1.synced; writes = flagged.1.writes })
]

-- no journal is left where none stood
no_log : (files : ℕ → File) (at : Option ℕ) (c : Option (List ℕ)) → at ≡ None → MayStand files at c → c ≡ None
no_log files None None e may = refl
no_log files None (Some c) e may = absurd may
no_log files (Some f) c e may = absurd (cc)

module _ (s t : State) (quiet : IsQuiet s) (sound : IsSound s) (o : IsOpening s t) where
  are : AreFlagged s t
  are = only_flag s t o

  -- a clean index was clean
  was_clean : (at : Option ℕ) (c : Option (List ℕ)) → MayStand t.files at c → index_kind c ≡ Clean → index_kind (content_of s.files at) ≡ Clean
  was_clean None None may clean = clean
  was_clean None (Some c) may clean = absurd may
  was_clean (Some f) None may clean = absurd may
  was_clean (Some f) (Some c) may clean = elim (o.files f) [
    | inl same ↦ subst (λ d. index_kind (Some d) ≡ Clean) (same_file s t quiet sound are f c same may) clean
    | inr flagged ↦ subst (λ ws. index_kind (Some (content_after (s.files f).synced ws)) ≡ Clean) (sym (quiet.writes f)) flagged.1.clean
  ]

  module _ (image : Files) (left : ℕ) (is : (p : Place) → MayStand t.files (names_before t left p) (image p)) where
    -- what is left at a place, by the names of now
    by_name : (p : Place) → names_before t left p ≡ names_now s p → MayStand t.files (names_now s p) (image p)
    by_name p e = subst (λ at. MayStand t.files at (image p)) e (is p)

    same_at : (p : Place) → p ≢ Index → names_before t left p ≡ names_now s p → image p ≡ standing s p
    same_at p apart e = place_same s t quiet sound are p (names_now s p) (image p) apart refl (by_name p e)

    -- where the journal is left, and the start is Ready, it was Ready before
    honest_image : Honest (standing s) → start_of image ≡ Ready → image Log ≡ standing s Log → image Tmp ≡ standing s Tmp → Agrees image
    honest_image honest ready log tmp =
        let parts = ready_parts (index_kind (image Index)) (log_kind (image Log)) (is_some (image Tmp)) ready in
        let may = by_name Index (o.index left) in
        let kind : index_kind (standing s Index) ≡ Clean = was_clean (names_now s Index) (image Index) may parts.0 in
        let valid = ap log_kind (sym log) ∙ parts.1 in
        let none = ap is_some (sym tmp) ∙ parts.2 in
        agrees_along image (standing s) (index_same s t quiet sound are (names_now s Index) (image Index) may) (ap journal_records log)
        (λ name. same_at (entry_place name) (λ e. cc) (o.entries left name)) (honest (λ i. decide (kind i) (valid i) (none i)))

    image_is_honest : Honest (standing s) → Honest image
    image_is_honest honest ready = elim (o.journal left) [
      | inl gone ↦
          let none : image Log ≡ None = no_log t.files (names_before t left Log) (image Log) gone (is Log) in
          let valid = (ready_parts (index_kind (image Index)) (log_kind (image Log)) (is_some (image Tmp)) ready).1 in
          absurd (missing (sym (ap log_kind none) ∙ valid))
      | inr both ↦ honest_image honest ready (same_at Log (λ e. cc) both.0) (same_at Tmp (λ e. cc) both.1)
    ]
      where
        missing : NoLog ≡ Valid → ⊥
        missing e = cc

pub opening_leaves_honest : OpeningLeavesHonest
opening_leaves_honest s t quiet sound honest o image is = image_is_honest s t quiet sound o image (length t.steps - is.0) is.1.1 honest

pub flagged_is_not_clean : FlaggedIsNotClean
flagged_is_not_clean t sound clean = go (standing t Index) refl
  where
    go : (o : Option (List ℕ)) → standing t Index ≡ o → IsNotClean (standing (wrote Index (Patch 8 (be32 1)) t) Index)
    go None none = absurd (let missing : NoIndex ≡ Clean = sym (ap index_kind none) ∙ clean in cc)
    go (Some c) stands =
        let kind : index_kind (Some c) ≡ Clean = sym (ap index_kind stands) ∙ clean in
        subst IsNotClean (sym (wrote_puts Index (Patch 8 (be32 1)) t c sound stands).here)
        (dirty_unclean (written (Patch 8 (be32 1)) c) (flag_marks c (long_index c (clean_parts c kind).0)))

pub flagged_is_unclean : FlaggedIsUnclean
flagged_is_unclean t sound clean = synced_is_unclean (wrote Index (Patch 8 (be32 1)) t) (flagged_is_not_clean t sound clean)
