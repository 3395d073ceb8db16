-- What holds at each moment of an opening.
use Rattle.std.proofs.Common.{◌≡◌, ◌≤◌, ℕ, List, length, Bool, true, false, cond, Option, None, Some, refl, sym, ap, subst, ◌∙◌, arith}
use Rattle.std.specs.Prelude.{is_some}
use Rattle.cache_base.specs.Bytes.{be32}
use Rattle.disk_theory.specs.Sound.{IsQuiet, IsSound, room}
use Rattle.disk_theory.specs.State.{State, Write, content, content_of, names_now, removed, renamed, settled, standing, write_to, wrote, written}
use Rattle.disk_theory.specs.State.Write.{Patch}
use Rattle.disk_theory.specs.declared.place.Place.{Place}
use Rattle.disk_theory.specs.declared.place.Place.TheVariants.{Index, Log, Tmp}
use Rattle.disk_theory.proofs.Sound.{sound_renamed, sound_written}
use Rattle.disk_theory.proofs.Standing.{removed_puts, settled_same, wrote_puts}
use Rattle.index_map.specs.Known.{Known}
use Rattle.index_record.specs.declared.record.IndexRecord.{IndexRecord}
use Rattle.index_theory.specs.Apart.{IsApart}
use Rattle.index_theory.specs.Closing.{flagged}
use Rattle.index_theory.specs.Honest.{Honest, LeavesHonest}
use Rattle.index_theory.specs.IndexKind.{index_kind}
use Rattle.index_theory.specs.declared.kinds.IndexKind.TheVariants.{Clean}
use Rattle.index_theory.specs.Opening.{IsOpening}
use Rattle.index_theory.specs.Unclean.{IsNotClean, IsUnclean}
use Rattle.index_theory.proofs.ApartLaws.{remove_keeps_apart, rename_keeps_apart, sync_is_apart}
use Rattle.index_theory.proofs.FlagLaws.{flag_spells, long_index}
use Rattle.index_theory.proofs.LeavesLaws.{moved_stands, remove_leaves_entries, rename_leaves_entries, write_leaves_entries, wrote_stands}
use Rattle.index_theory.proofs.OpeningLaws.{flagged_is_unclean, opening_flags, opening_leaves_honest, opening_sets_aside}
use Rattle.index_theory.proofs.StartLaws.{clean_parts, spelled_index_is}
use Rattle.index_theory.proofs.UncleanLaws.{remove_keeps_unclean, synced_is_unclean, unclean_leaves_honest}
use Rattle.index_theory.specs.Base.{BaseStands}
use Rattle.startup_read.specs.Kept.{KeepsIndex}
use Rattle.startup_read.specs.Opening.{IsAmidOpening, OpeningMoment, OpeningSyncIsUnclean, cleared, marked, opened, opening_at, set_aside}
use Rattle.startup_read.specs.Opening.OpeningMoment.{Aside, Begun, Cleared, Marked, Synced}
use Rattle.startup_read.specs.Spares.{SparesEntries}
use Rattle.startup_read.specs.Starts.{is_clean}
use Rattle.startup_read.proofs.OpeningSteps.{clean_is}
use Rattle.startup_read.proofs.SparesLaws.{spares_nothing, spares_sync, spares_then}

-- a property of either of two states
either : (P : State → Type 0) (b : Bool) (x y : State) → (b ≡ true → P x) → (b ≡ false → P y) → P (cond b x y)
either P true x y yes_ no_ = yes_ refl
either P false x y yes_ no_ = no_ refl

none_there : {X : Type 0} (o : Option X) → is_some o ≡ false → o ≡ None
none_there None e = refl
none_there (Some x) e = absurd (cc)

unclean_kind : (file : Option (List ℕ)) → is_clean (index_kind file) ≡ false → IsNotClean file
unclean_kind file e clean = let both : true ≡ false = sym (ap is_clean clean) ∙ e in cc

-- a write within the file that stands
pub sound_wrote : (place : Place) (w : Write) (s : State) (c : List ℕ) → standing s place ≡ Some c → room w ≤ length c → IsSound s → IsSound (wrote place w s)
sound_wrote place w s c stands fits sound = go (names_now s place) refl
  where
    go : (at : Option ℕ) → names_now s place ≡ at → IsSound (record s { files = write_to at w s.files })
    go None e = sound
    go (Some f) e =
        let same : Some (content (s.files f)) ≡ Some c = sym (ap (content_of s.files) e) ∙ stands in
        let is : content (s.files f) ≡ c = cc in
        let lengths : length (content (s.files f)) ≡ length c = ap length is in
        sound_written f w s (omega (arith, lengths, fits)) sound

four : length (be32 1) ≡ 4
four = refl

-- a clean index stands, and is long enough for its flag
clean_stands : (file : Option (List ℕ)) → is_clean (index_kind file) ≡ true → (c : List ℕ) × ((file ≡ Some c) × (20 ≤ length c))
clean_stands None e = absurd (cc)
clean_stands (Some c) e = (c, (refl, long_index c (clean_parts c (clean_is (index_kind (Some c)) e)).0))

-- ---- the changes, one by one

pub sound_aside : (s : State) → IsSound s → IsSound (set_aside s)
sound_aside s sound = either IsSound (is_some (standing s Log)) (renamed Log Tmp s) s (λ e. sound_renamed Log Tmp s sound) (λ e. sound)

pub sound_marked : (s : State) → IsSound s → IsSound (marked s)
sound_marked s sound = either IsSound (is_clean (index_kind (standing s Index))) (flagged (be32 1) s) s
    (λ e.
    let has = clean_stands (standing s Index) e in
    let long = has.1.1 in
    sound_wrote Index (Patch 8 (be32 1)) s has.0 has.1.0 (omega (arith, long, four)) sound)
    (λ e. sound)

pub aside_stands : (s : State) (p : Place) → (p ≡ Log → ⊥) → (p ≡ Tmp → ⊥) → standing (set_aside s) p ≡ standing s p
aside_stands s p log tmp = either (λ t. standing t p ≡ standing s p) (is_some (standing s Log)) (renamed Log Tmp s) s (λ e. moved_stands s Log Tmp p log tmp) (λ e. refl)

aside_log : (s : State) → standing (set_aside s) Log ≡ None
aside_log s = either (λ t. standing t Log ≡ None) (is_some (standing s Log)) (renamed Log Tmp s) s (λ e. refl) (λ e. none_there (standing s Log) e)

pub marked_stands : (s : State) (p : Place) → IsSound s → (p ≡ Index → ⊥) → standing (marked s) p ≡ standing s p
marked_stands s p sound apart = either (λ t. standing t p ≡ standing s p) (is_clean (index_kind (standing s Index))) (flagged (be32 1) s) s
    (λ e. wrote_stands s Index p (Patch 8 (be32 1)) apart sound) (λ e. refl)

cleared_stands : (s : State) (p : Place) → (p ≡ Tmp → ⊥) → standing (cleared s) p ≡ standing s p
cleared_stands s p apart = either (λ t. standing t p ≡ standing s p) (is_some (standing s Tmp)) (removed Tmp s) s (λ e. (removed_puts Tmp s).others p apart) (λ e. refl)

cleared_tmp : (s : State) → standing (cleared s) Tmp ≡ None
cleared_tmp s = either (λ t. standing t Tmp ≡ None) (is_some (standing s Tmp)) (removed Tmp s) s (λ e. (removed_puts Tmp s).here) (λ e. none_there (standing s Tmp) e)

-- the base is then dirty
marked_base : (s : State) (dirty : Bool) (base : List IndexRecord) → IsSound s → BaseStands (standing s Index) dirty base → BaseStands (standing (marked s) Index) true base
marked_base s dirty base sound b = either (λ t. BaseStands (standing t Index) true base) (is_clean (index_kind (standing s Index))) (flagged (be32 1) s) s
    (λ e. record {
      content = written (Patch 8 (be32 1)) b.content;
      timestamp = b.timestamp;
      spelled = b.spelled;
      stands = (wrote_puts Index (Patch 8 (be32 1)) s b.content sound b.stands).here;
      spells = flag_spells b.content b.timestamp 1 dirty b.spelled (omega arith) b.spells;
      same = b.same;
    })
    (λ e. was_dirty dirty b e)
  where
    was_dirty : (d : Bool) → BaseStands (standing s Index) d base → is_clean (index_kind (standing s Index)) ≡ false → BaseStands (standing s Index) true base
    was_dirty true b e = b
    was_dirty false b e =
        let clean : index_kind (standing s Index) ≡ Clean = ap index_kind b.stands ∙ (spelled_index_is b.content b.timestamp false b.spelled b.spells).0 in
        absurd (unclean_kind (standing s Index) e clean)

-- ---- what the map and the disk keep

pub opened_keeps : (s : State) (map : Known) → IsSound s → (map.has_base ≡ true → (dirty : Bool) × BaseStands (standing s Index) dirty map.base) → KeepsIndex (opened s) map
opened_keeps s map sound base = record {
  no_log = cleared_stands (settled m) Log (λ e. cc) ∙ settled_same m Log ∙ marked_stands a Log sound_a (λ e. cc) ∙ aside_log s;
  no_tmp = cleared_tmp (settled m);
  base = λ has.
      let b = base has in
      let aside : BaseStands (standing a Index) b.0 map.base = subst (λ file. BaseStands file b.0 map.base) (sym (aside_stands s Index (λ e. cc) (λ e. cc))) b.1 in
      subst (λ file. BaseStands file true map.base) (sym (cleared_stands (settled m) Index (λ e. cc) ∙ settled_same m Index)) (marked_base a b.0 map.base sound_a aside);
}
  where
    a : State
    a = set_aside s

    m : State
    m = marked a

    sound_a : IsSound a
    sound_a = sound_aside s sound

-- ---- what a crash leaves

aside_opening : (s t : State) → IsOpening s t → IsOpening s (set_aside t)
aside_opening s t o = either (IsOpening s) (is_some (standing t Log)) (renamed Log Tmp t) t (λ e. opening_sets_aside s t o) (λ e. o)

marked_opening : (s t : State) → IsQuiet s → IsOpening s t → IsOpening s (marked t)
marked_opening s t quiet o = either (IsOpening s) (is_clean (index_kind (standing t Index))) (flagged (be32 1) t) t
    (λ e. opening_flags s t (be32 1) quiet (clean_is (index_kind (standing t Index)) e) four o) (λ e. o)

unclean_synced : (s : State) → IsSound s → IsUnclean (settled (marked s))
unclean_synced s sound = either (λ t. IsUnclean (settled t)) (is_clean (index_kind (standing s Index))) (flagged (be32 1) s) s
    (λ e. flagged_is_unclean s sound (clean_is (index_kind (standing s Index)) e)) (λ e. synced_is_unclean s (unclean_kind (standing s Index) e))

unclean_cleared : (s : State) → IsUnclean s → IsUnclean (cleared s)
unclean_cleared s unclean = either IsUnclean (is_some (standing s Tmp)) (removed Tmp s) s (λ e. remove_keeps_unclean s Tmp unclean) (λ e. unclean)

pub synced_unclean : (s : State) → IsSound s → IsUnclean (opening_at Synced s)
synced_unclean s sound = unclean_synced (set_aside s) (sound_aside s sound)

pub opened_unclean : (s : State) → IsSound s → IsUnclean (opened s)
opened_unclean s sound = unclean_cleared (opening_at Synced s) (synced_unclean s sound)

pub opening_sync_is_unclean : OpeningSyncIsUnclean
opening_sync_is_unclean s Begun sound done = absurd done
opening_sync_is_unclean s Aside sound done = absurd done
opening_sync_is_unclean s Marked sound done = absurd done
opening_sync_is_unclean s Synced sound done = synced_unclean s sound
opening_sync_is_unclean s Cleared sound done = opened_unclean s sound

honest_at : (m : OpeningMoment) (s t : State) → IsQuiet s → IsSound s → Honest (standing s) → IsOpening s t → IsSound t → LeavesHonest (opening_at m t)
honest_at Begun s t quiet sound honest o sound_t = opening_leaves_honest s t quiet sound honest o
honest_at Aside s t quiet sound honest o sound_t = opening_leaves_honest s (set_aside t) quiet sound honest (aside_opening s t o)
honest_at Marked s t quiet sound honest o sound_t = opening_leaves_honest s (marked (set_aside t)) quiet sound honest (marked_opening s (set_aside t) quiet (aside_opening s t o))
honest_at Synced s t quiet sound honest o sound_t = unclean_leaves_honest (opening_at Synced t) (synced_unclean t sound_t)
honest_at Cleared s t quiet sound honest o sound_t = unclean_leaves_honest (opened t) (opened_unclean t sound_t)

pub amid_honest : (s t u : State) → IsQuiet s → IsSound s → Honest (standing s) → IsOpening s t → IsSound t → IsAmidOpening t u → LeavesHonest u
amid_honest s t u quiet sound honest o sound_t (m, is) = subst LeavesHonest (sym is) (honest_at m s t quiet sound honest o sound_t)

-- ---- the entries

aside_apart : (s : State) → IsSound s → IsApart s → IsApart (set_aside s)
aside_apart s sound apart = either IsApart (is_some (standing s Log)) (renamed Log Tmp s) s
    (λ e. rename_keeps_apart s Log Tmp sound (λ entry. entry) (λ e. cc) (λ of. tt) apart) (λ e. apart)

spares_aside : (s : State) → SparesEntries s (set_aside s)
spares_aside s = either (SparesEntries s) (is_some (standing s Log)) (renamed Log Tmp s) s
    (λ e. spares_then s s (renamed Log Tmp s) (spares_nothing s) (rename_leaves_entries s Log Tmp tt tt)) (λ e. spares_nothing s)

spares_marked : (s t : State) → IsSound t → IsApart t → SparesEntries s t → SparesEntries s (marked t)
spares_marked s t sound apart spares = either (SparesEntries s) (is_clean (index_kind (standing t Index))) (flagged (be32 1) t) t
    (λ e. spares_then s t (flagged (be32 1) t) spares (write_leaves_entries t Index (Patch 8 (be32 1)) tt sound apart)) (λ e. spares)

pub spares_cleared : (s t : State) → SparesEntries s t → SparesEntries s (cleared t)
spares_cleared s t spares = either (SparesEntries s) (is_some (standing t Tmp)) (removed Tmp t) t
    (λ e. spares_then s t (removed Tmp t) spares (remove_leaves_entries t Tmp tt)) (λ e. spares)

spares_before : (s : State) → IsSound s → IsApart s → SparesEntries s (opening_at Marked s)
spares_before s sound apart = spares_marked s (set_aside s) (sound_aside s sound) (aside_apart s sound apart) (spares_aside s)

spares_at : (m : OpeningMoment) (s : State) → IsSound s → IsApart s → SparesEntries s (opening_at m s)
spares_at Begun s sound apart = spares_nothing s
spares_at Aside s sound apart = spares_aside s
spares_at Marked s sound apart = spares_before s sound apart
spares_at Synced s sound apart = spares_sync s (opening_at Marked s) (spares_before s sound apart)
spares_at Cleared s sound apart = spares_cleared s (opening_at Synced s) (spares_sync s (opening_at Marked s) (spares_before s sound apart))

pub amid_spares : (s t : State) → IsSound s → IsApart s → IsAmidOpening s t → SparesEntries s t
amid_spares s t sound apart (m, is) = subst (SparesEntries s) (sym is) (spares_at m s sound apart)

pub opened_apart : (s : State) → IsSound s → IsApart (opened s)
opened_apart s sound =
    let synced = sync_is_apart (opening_at Marked s) (sound_marked (set_aside s) (sound_aside s sound)) in
    either IsApart (is_some (standing (opening_at Synced s) Tmp)) (removed Tmp (opening_at Synced s)) (opening_at Synced s)
    (λ e. remove_keeps_apart (opening_at Synced s) Tmp synced) (λ e. synced)
