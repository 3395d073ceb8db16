-- What a crash leaves at `clear` while a mark is stored.
use Rattle.std.proofs.Common.{◌≡◌, ◌≢◌, ◌⊎◌, if◌then◌else◌, inl, inr, ℕ, zero, suc, ◌-◌, ◌<◌, ◌≤◌, Bool, true, false, List, [], length, Option, Some, None, refl, sym, ap, subst, ◌∙◌, arith}
use Rattle.disk_theory.specs.declared.place.Place.{Place}
use Rattle.disk_theory.specs.declared.place.Place.TheVariants.{Clear, Doomed}
use Rattle.std.specs.Prelude.{Result, Ok, Err, OnOk}
use Rattle.disk_theory.specs.Calls.{if_ok}
use Rattle.disk_theory.specs.declared.disk.DiskFault.{DiskFault}
use Rattle.disk_theory.specs.Image.{Files, IsImage, MayHold, MayStand}
use Rattle.disk_theory.specs.Place.{is_same}
use Rattle.disk_theory.specs.Sound.{IsQuiet, IsSound, names_before, room}
use Rattle.disk_theory.specs.Standing.{Moves, PutsContent}
use Rattle.disk_theory.specs.State.{File, State, Write, content, content_of, created, empty_file, names_now, removed, renamed, settled, standing, write_to, wrote}
use Rattle.disk_theory.specs.State.Write.{End}
use Rattle.disk_theory.proofs.Files.{with_file-apart, with_file-below}
use Rattle.disk_theory.proofs.Images.{now_may_stand, only_now, only_stands}
use Rattle.disk_theory.proofs.Places.{is_same-refl, never, one_same}
use Rattle.disk_theory.proofs.Sound.{no_writes, sound_added, sound_settled, sound_written}
use Rattle.disk_theory.proofs.Standing.{added_puts, puts_kept, removed_puts, renamed_moves, settled_same, wrote_puts}
use Rattle.context_clear.specs.Mark.{mark_bytes}
use Rattle.context_clear.specs.MarkFile.{IsAmidStoring, LeavesNoFile, LeavesWholeMark, PutsMark, StoresMark, StoringMoment, storing_at}
use Rattle.context_clear.specs.MarkFile.StoringMoment.{Begun, Filled, Placed, Synced, Unstored}

-- a crash may leave this at `clear`
abbrev MayBe : State → Option (List ℕ) → Type 0
MayBe s c = (left : ℕ) × ((left ≤ length s.steps) × MayStand s.files (names_before s left Clear) c)

-- and then, with what may stand elsewhere, in a whole image
image_with : (s : State) (c : Option (List ℕ)) → IsSound s → MayBe s c → (before : Files) × (IsImage s before × (before Clear ≡ c))
image_with s c sound (left, (within, may)) = (before, ((length s.steps - left, (omega arith, λ place. subst (λ (n : ℕ). MayStand s.files (names_before s n place) (before place)) back (each place (is_same place Clear) refl))), refl))
  where
    before : Files
    before = λ place. if is_same place Clear then c else content_of s.files (names_before s left place)

    back : left ≡ length s.steps - (length s.steps - left)
    back = omega (arith, within)

    each : (place : Place) (same : Bool) → is_same place Clear ≡ same → MayStand s.files (names_before s left place) (if same then c else content_of s.files (names_before s left place))
    each place true e = subst (λ (p : Place). MayStand s.files (names_before s left p) c) (sym (one_same place Clear e)) may
    each place false e = now_may_stand s.files (names_before s left place) sound.inside

-- the same files, where they stand
pub may_same : (files new : ℕ → File) (at : Option ℕ) (c : Option (List ℕ)) → ((f : ℕ) → at ≡ Some f → new f ≡ files f) → MayStand new at c → MayStand files at c
may_same files new None None same may = may
may_same files new None (Some c) same may = may
may_same files new (Some f) None same may = may
may_same files new (Some f) (Some c) same may = subst (λ (file : File). MayHold file c) (same f refl) may

-- what may be there now is what is
now_may : (s : State) → IsSound s → MayBe s (standing s Clear)
now_may s sound = (0, (omega arith, now_may_stand s.files (names_now s Clear) sound.inside))

settled_quiet : (s : State) → IsQuiet (settled s)
settled_quiet s = record { steps = refl; writes = λ file. refl }

-- a write into the file that stands there
sound_wrote : (place : Place) (w : Write) (s : State) (c : List ℕ) → standing s place ≡ Some c → room w ≤ length c → IsSound s → IsSound (wrote place w s)
sound_wrote place w s c stands fits sound = go (names_now s place) stands
  where
    go : (at : Option ℕ) → content_of s.files at ≡ Some c → IsSound (record s { files = write_to at w s.files })
    go None is = cc
    go (Some f) is = let same : content (s.files f) ≡ c = cc in sound_written f w s (omega (arith, fits, ap length same)) sound

module _ (s : State) (number : ℕ) (bytes : List ℕ) (sound : IsSound s) where
  abbrev begun : State
  begun = created (Doomed number) s

  abbrev filled : State
  filled = wrote (Doomed number) (End 0 bytes) begun

  sound_begun : IsSound begun
  sound_begun = sound_added (Doomed number) empty_file s (no_writes []) sound

  -- the names at `clear` are those of before
  names_there : (left : ℕ) → left ≤ suc (length s.steps) → (k : ℕ) × ((k ≤ length s.steps) × (names_before begun left Clear ≡ names_before s k Clear))
  names_there zero within = (0, (omega arith, refl))
  names_there (suc k) within = (k, (omega (arith, within), refl))

  old_file : (left f : ℕ) → names_before s left Clear ≡ Some f → f < s.made
  old_file left f at = sound.made left Clear f at

  -- the files that stand there are untouched
  begun_file : (f : ℕ) → f < s.made → begun.files f ≡ s.files f
  begun_file f old = with_file-below s.made f empty_file s.files old

  new_file : names_now begun (Doomed number) ≡ Some s.made
  new_file = ap (λ (b : Bool). if b then Some s.made else names_now s (Doomed number)) (is_same-refl (Doomed number))

  untouched : (at : Option ℕ) (write : Write) (f : ℕ) → at ≡ Some s.made → f < s.made → write_to at write begun.files f ≡ begun.files f
  untouched None write f is old = refl
  untouched (Some g) write f is old = let same : g ≡ s.made = cc in with_file-apart g f _ begun.files (λ e. omega (arith, e, same, old))

  filled_file : (f : ℕ) → f < s.made → filled.files f ≡ s.files f
  filled_file f old = untouched (names_now begun (Doomed number)) (End 0 bytes) f new_file old ∙ begun_file f old

  amid : (files : ℕ → File) (left : ℕ) (c : Option (List ℕ)) → ((f : ℕ) → f < s.made → files f ≡ s.files f) → left ≤ suc (length s.steps) → MayStand files (names_before begun left Clear) c → MayBe s c
  amid files left c same within may =
      let there = names_there left within in
      (there.0, (there.1.0, may_same s.files files (names_before s there.0 Clear) c (λ f at. same f (old_file there.0 f at)) (subst (λ (at : Option ℕ). MayStand files at c) there.1.1 may)))

  sound_filled : IsSound filled
  sound_filled = sound_wrote (Doomed number) (End 0 bytes) begun [] (added_puts (Doomed number) empty_file s sound).here (omega arith) sound_begun

  filled_stands : standing filled (Doomed number) ≡ Some bytes
  filled_stands = (wrote_puts (Doomed number) (End 0 bytes) begun [] sound_begun (added_puts (Doomed number) empty_file s sound).here).here

  filled_clear : standing filled Clear ≡ standing s Clear
  filled_clear =
      (wrote_puts (Doomed number) (End 0 bytes) begun [] sound_begun (added_puts (Doomed number) empty_file s sound).here).others Clear (λ e. cc)
      ∙ (added_puts (Doomed number) empty_file s sound).others Clear (λ e. cc)

  -- once it is synced, what is there is what was
  synced_clear : (c : Option (List ℕ)) → MayStand (settled filled).files (names_now filled Clear) c → MayBe s c
  synced_clear c may =
      let is : c ≡ standing (settled filled) Clear = only_stands (settled filled).files (names_now filled Clear) c (λ file. refl) may in
      subst (MayBe s) (sym (is ∙ settled_same filled Clear ∙ filled_clear)) (now_may s sound)

  -- and what is in its new file is the mark
  synced_mark : (c : Option (List ℕ)) → MayStand (settled filled).files (names_now filled (Doomed number)) c → c ≡ Some bytes
  synced_mark c may =
      only_stands (settled filled).files (names_now filled (Doomed number)) c (λ file. refl) may
      ∙ settled_same filled (Doomed number)
      ∙ filled_stands

  -- at each moment
  left_at : (m : StoringMoment) (left : ℕ) (c : Option (List ℕ)) → left ≤ length (storing_at m number bytes s).steps
      → MayStand (storing_at m number bytes s).files (names_before (storing_at m number bytes s) left Clear) c → (c ≡ Some bytes) ⊎ MayBe s c
  left_at Unstored left c within may = inr (left, (within, may))
  left_at Begun left c within may = inr (amid begun.files left c begun_file within may)
  left_at Filled left c within may = inr (amid filled.files left c filled_file within may)
  left_at Synced zero c within may = inr (synced_clear c may)
  left_at Synced (suc k) c within may = absurd (omega (arith, within))
  left_at Placed zero c within may = inl (synced_mark c may)
  left_at Placed (suc zero) c within may = inr (synced_clear c may)
  left_at Placed (suc (suc k)) c within may = absurd (omega (arith, within))

-- a mark that was stored stands, where nothing stood under the number, and else all is as before
pub mark_puts : (s : State) (number : ℕ) (bytes : List ℕ) → IsSound s → standing s (Doomed number) ≡ None → PutsContent Clear (Some bytes) s (storing_at Placed number bytes s)
mark_puts s number bytes sound free = record { here = moves.moved ∙ settled_same (filled s number bytes sound) (Doomed number) ∙ filled_stands s number bytes sound; others = others }
  where
    synced : State
    synced = settled (filled s number bytes sound)

    moves : Moves (Doomed number) Clear synced (renamed (Doomed number) Clear synced)
    moves = renamed_moves (Doomed number) Clear synced (λ e. cc) (sound_settled (filled s number bytes sound) (sound_filled s number bytes sound))

    elsewhere : (other : Place) → other ≢ Doomed number → other ≢ Clear → standing (renamed (Doomed number) Clear synced) other ≡ standing s other
    elsewhere other apart not_clear =
        moves.others other apart not_clear
        ∙ settled_same (filled s number bytes sound) other
        ∙ (wrote_puts (Doomed number) (End 0 bytes) (begun s number bytes sound) [] (sound_begun s number bytes sound) (added_puts (Doomed number) empty_file s sound).here).others other apart
        ∙ (added_puts (Doomed number) empty_file s sound).others other apart

    at_number : (other : Place) (same : Bool) → is_same other (Doomed number) ≡ same → other ≢ Clear → standing (renamed (Doomed number) Clear synced) other ≡ standing s other
    at_number other true e not_clear =
        subst (λ (p : Place). standing (renamed (Doomed number) Clear synced) p ≡ standing s p) (sym (one_same other (Doomed number) e)) (moves.gone ∙ sym free)
    at_number other false e not_clear = elsewhere other (λ same. never (Doomed number) other same e) not_clear

    others : (other : Place) → other ≢ Clear → standing (renamed (Doomed number) Clear synced) other ≡ standing s other
    others other not_clear = at_number other (is_same other (Doomed number)) refl not_clear

-- a mark that was taken away is gone, and no crash brings it back
pub end_puts : (s : State) → PutsContent Clear None s (settled (removed Clear s))
end_puts s = puts_kept Clear None s (removed Clear s) (settled (removed Clear s)) (removed_puts Clear s) (settled_same (removed Clear s))

pub end_leaves_none : (s : State) (image : Files) → IsImage (settled (removed Clear s)) image → image Clear ≡ None
end_leaves_none s image is = only_now (settled (removed Clear s)) image (settled_quiet (removed Clear s)) is Clear ∙ (end_puts s).here

-- a mark that is being stored
pub leaves_whole : (s t : State) (number origin : ℕ) → IsSound s → IsAmidStoring number (mark_bytes origin) s t → LeavesWholeMark origin s t
leaves_whole s t number origin sound (m, is) image (names, (within, each)) =
    elim (left_at s number (mark_bytes origin) sound m (length (storing_at m number (mark_bytes origin) s).steps - names) (image Clear) (omega arith)
    (subst (λ (u : State). MayStand u.files (names_before u (length u.steps - names) Clear) (image Clear)) is (each Clear))) [
      | inl mark ↦ inl mark
      | inr may ↦ inr (image_with s (image Clear) sound may)
    ]

-- what is known of an answer that was done
pub on_placed : (tells : Type 0) (s t : State) (number origin : ℕ) (bytes : List ℕ) (answer : Result Unit DiskFault) → (tells → IsSound s) → bytes ≡ mark_bytes origin → (tells → standing s (Doomed number) ≡ None)
    → OnOk answer (tells → StoresMark number bytes s t) → OnOk answer (tells → PutsMark origin s t)
on_placed tells s t number origin bytes (Ok value) sound is free placed = λ told.
    subst (λ (u : State). PutsMark origin s u) (sym (placed told))
    (subst (λ (xs : List ℕ). PutsContent Clear (Some xs) s (storing_at Placed number bytes s)) is (mark_puts s number bytes (sound told) (free told)))
on_placed tells s t number origin bytes (Err fault) sound is free placed = tt

-- the same of one that ended
pub on_ended : (tells : Type 0) (s t u : State) (answer : Result Unit DiskFault) → (tells → t ≡ removed Clear s) → (tells → u ≡ if_ok answer (settled t) t)
    → OnOk answer (tells → PutsContent Clear None s u) × OnOk answer (tells → LeavesNoFile s u)
on_ended tells s t u (Ok value) gone synced = (
  (λ told. subst (λ (v : State). PutsContent Clear None s v) (sym (synced told ∙ ap settled (gone told))) (end_puts s)),
  (λ told image is. end_leaves_none s image (subst (λ (v : State). IsImage v image) (synced told ∙ ap settled (gone told)) is)),
)
on_ended tells s t u (Err fault) gone synced = (tt, tt)
