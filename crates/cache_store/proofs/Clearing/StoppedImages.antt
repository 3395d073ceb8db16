-- What a crash leaves of a clearing that was stopped.
use Rattle.std.proofs.Common.{◌≡◌, ◌≢◌, ◌⊎◌, inl, inr, ℕ, zero, suc, ◌-◌, ◌<◌, ◌≤◌, if◌then◌else◌, Bool, true, false, List, [], ◌∷◌, ◌++◌, drop, length, Option, Some, None, refl, ap, subst, ◌∙◌, arith}
use Rattle.std.specs.List.{AllByRecursion}
use Rattle.cache_base.specs.declared.name.Name.{Name}
use Rattle.cache_store.specs.StoppedClearing.{CouldBeBefore, HasNoneOf, IsLasting, IsLeftByClearing}
use Rattle.cache_store.specs.StoppedClearing.IsLeftByClearing.{Marked, Unbegun, Whole}
use Rattle.context_clear.specs.Mark.{mark_bytes}
use Rattle.context_clear.specs.MarkFile.{IsAmidEnding, IsAmidStoring, StoresMark, StoringMoment, storing_at}
use Rattle.context_clear.specs.MarkFile.StoringMoment.{Begun, Filled, Placed, Synced, Unstored}
use Rattle.context_clear.proofs.MarkStored.{mark_puts, may_same}
use Rattle.disk_theory.specs.Image.{Files, IsImage, MayStand}
use Rattle.disk_theory.specs.Place.{is_same}
use Rattle.disk_theory.specs.Sound.{IsSound, names_before}
use Rattle.disk_theory.specs.Standing.{PutsContent}
use Rattle.disk_theory.specs.State.{File, Names, State, content_of, created, empty_file, names_after, names_now, removed, renamed, settled, standing, write_to, wrote}
use Rattle.disk_theory.specs.State.Write.{End}
use Rattle.disk_theory.specs.declared.place.NameStep.{NameStep}
use Rattle.disk_theory.specs.declared.place.NameStep.TheVariants.{Remove, Rename}
use Rattle.disk_theory.specs.declared.place.Place.{Place}
use Rattle.disk_theory.specs.declared.place.Place.TheVariants.{Clear, Doomed, Entry, Index, Log, Tmp}
use Rattle.disk_theory.proofs.Files.{with_file-apart, with_file-below}
use Rattle.disk_theory.proofs.Images.{now_is_image, now_may_stand, only_now, only_stands}
use Rattle.disk_theory.proofs.Places.{is_same-refl}
use Rattle.disk_theory.proofs.Sound.{no_writes, sound_added}
use Rattle.disk_theory.proofs.Standing.{added_puts, removed_puts, settled_same, wrote_puts}
use Rattle.file_handles.specs.Dooming.{IsTaking, TakesEntries}

-- ---- an image, but for the doomed, is one of before

lasting_apart : (number : ℕ) (p : Place) → IsLasting p → p ≢ Doomed number
lasting_apart number (Doomed k) lasting e = lasting
lasting_apart number (Entry name) lasting e = cc
lasting_apart number Index lasting e = cc
lasting_apart number Log lasting e = cc
lasting_apart number Tmp lasting e = cc
lasting_apart number Clear lasting e = cc

-- none, or as it was
either_none : (b : Bool) (x : Option ℕ) → ((if b then None else x) ≡ None) ⊎ ((if b then None else x) ≡ x)
either_none true x = inl refl
either_none false x = inr refl

none_or : {x y z : Option ℕ} → (x ≡ None) ⊎ (x ≡ y) → (y ≡ None) ⊎ (y ≡ z) → (x ≡ None) ⊎ (x ≡ z)
none_or first second = elim first [ inl none ↦ inl none | inr same ↦ elim second [ inl none ↦ inl (same ∙ none) | inr there ↦ inr (same ∙ there) ] ]

module _ (s : State) (sound : IsSound s) where
  -- with what stands now under the doomed
  could_be : (left : ℕ) (image : Files) → left ≤ length s.steps → ((p : Place) → IsLasting p → MayStand s.files (names_before s left p) (image p)) → CouldBeBefore s image
  could_be left image within may = (before, ((length s.steps - left, (omega arith, λ p. subst (λ (n : ℕ). MayStand s.files (names_before s n p) (before p)) back (each p))), same))
    where
      before : Files
      before (Doomed number) = content_of s.files (names_before s left (Doomed number))
      before p = image p

      back : left ≡ length s.steps - (length s.steps - left)
      back = omega (arith, within)

      each : (p : Place) → MayStand s.files (names_before s left p) (before p)
      each (Doomed number) = now_may_stand s.files (names_before s left (Doomed number)) sound.inside
      each (Entry name) = may (Entry name) tt
      each Index = may Index tt
      each Log = may Log tt
      each Tmp = may Tmp tt
      each Clear = may Clear tt

      same : (p : Place) → IsLasting p → image p ≡ before p
      same (Doomed number) lasting = absurd lasting
      same (Entry name) lasting = refl
      same Index lasting = refl
      same Log lasting = refl
      same Tmp lasting = refl
      same Clear lasting = refl

  -- an image that is what stands
  stands_before : (image : Files) → ((p : Place) → IsLasting p → image p ≡ standing s p) → CouldBeBefore s image
  stands_before image same = (standing s, (now_is_image s sound, same))

  -- ---- while the mark is stored

  module _ (number : ℕ) (bytes : List ℕ) where
    abbrev begun : State
    begun = created (Doomed number) s

    abbrev filled : State
    filled = wrote (Doomed number) (End 0 bytes) begun

    abbrev synced : State
    synced = settled filled

    abbrev placed : State
    placed = renamed (Doomed number) Clear synced

    sound_begun : IsSound begun
    sound_begun = sound_added (Doomed number) empty_file s (no_writes []) sound

    names_there : (p : Place) → IsLasting p → names_now begun p ≡ names_now s p
    names_there (Doomed k) lasting = absurd lasting
    names_there (Entry name) lasting = refl
    names_there Index lasting = refl
    names_there Log lasting = refl
    names_there Tmp lasting = refl
    names_there Clear lasting = refl

    begun_file : (f : ℕ) → f < s.made → begun.files f ≡ s.files f
    begun_file f old = with_file-below s.made f empty_file s.files old

    new_file : names_now begun (Doomed number) ≡ Some s.made
    new_file = ap (λ (b : Bool). if b then Some s.made else names_now s (Doomed number)) (is_same-refl (Doomed number))

    untouched : (at : Option ℕ) (f : ℕ) → at ≡ Some s.made → f < s.made → write_to at (End 0 bytes) begun.files f ≡ begun.files f
    untouched None f is old = refl
    untouched (Some g) f is old = let same : g ≡ s.made = cc in with_file-apart g f _ begun.files (λ e. omega (arith, e, same, old))

    filled_file : (f : ℕ) → f < s.made → filled.files f ≡ s.files f
    filled_file f old = untouched (names_now begun (Doomed number)) f new_file old ∙ begun_file f old

    amid : (files : ℕ → File) (left : ℕ) (image : Files) → ((f : ℕ) → f < s.made → files f ≡ s.files f) → left ≤ suc (length s.steps)
        → ((p : Place) → MayStand files (names_before begun left p) (image p)) → CouldBeBefore s image
    amid files zero image same within may =
        could_be 0 image (omega arith) (λ p lasting. may_same s.files files (names_now s p) (image p) (λ f at. same f (sound.made 0 p f at))
        (subst (λ (at : Option ℕ). MayStand files at (image p)) (names_there p lasting) (may p)))
    amid files (suc k) image same within may =
        could_be k image (omega (arith, within)) (λ p lasting. may_same s.files files (names_before s k p) (image p) (λ f at. same f (sound.made k p f at)) (may p))

    filled_same : (p : Place) → IsLasting p → standing filled p ≡ standing s p
    filled_same p lasting =
        (wrote_puts (Doomed number) (End 0 bytes) begun [] sound_begun (added_puts (Doomed number) empty_file s sound).here).others p (lasting_apart number p lasting)
        ∙ (added_puts (Doomed number) empty_file s sound).others p (lasting_apart number p lasting)

    -- once it is synced what stands is what stood
    synced_before : (image : Files) → ((p : Place) → MayStand synced.files (names_now filled p) (image p)) → CouldBeBefore s image
    synced_before image may = stands_before image (λ p lasting. only_stands synced.files (names_now filled p) (image p) (λ file. refl) (may p) ∙ settled_same filled p ∙ filled_same p lasting)

    -- ---- once it stands

    module _ (free : standing s (Doomed number) ≡ None) where
      puts : PutsContent Clear (Some bytes) s placed
      puts = mark_puts s number bytes sound free

      marked : (image : Files) → MayStand synced.files (names_now placed Clear) (image Clear) → image Clear ≡ Some bytes
      marked image may = only_stands synced.files (names_now placed Clear) (image Clear) (λ file. refl) may ∙ puts.here

      -- at each moment of the storing
      left_at : (m : StoringMoment) (left : ℕ) (image : Files) → left ≤ length (storing_at m number bytes s).steps
          → ((p : Place) → MayStand (storing_at m number bytes s).files (names_before (storing_at m number bytes s) left p) (image p)) → (image Clear ≡ Some bytes) ⊎ CouldBeBefore s image
      left_at Unstored left image within may = inr (could_be left image within (λ p lasting. may p))
      left_at Begun left image within may = inr (amid begun.files left image begun_file within may)
      left_at Filled left image within may = inr (amid filled.files left image filled_file within may)
      left_at Synced zero image within may = inr (synced_before image may)
      left_at Synced (suc k) image within may = absurd (omega (arith, within))
      left_at Placed zero image within may = inl (marked image (may Clear))
      left_at Placed (suc zero) image within may = inr (synced_before image may)
      left_at Placed (suc (suc k)) image within may = absurd (omega (arith, within))

      -- ---- while entries are doomed

      -- the steps of the dooming leave the mark where it is
      clear_stays : (names : Names) (steps later : List NameStep) → AllByRecursion IsTaking steps → names_after names (steps ++ later) Clear ≡ names_after names later Clear
      clear_stays names [] later taking = refl
      clear_stays names (Remove (Entry name) ∷ steps) later taking = clear_stays names steps later taking.1
      clear_stays names (Rename (Entry name) (Doomed k) ∷ steps) later taking = clear_stays names steps later taking.1
      clear_stays names (step ∷ steps) later taking = absurd taking.0

      -- so whatever newest steps are left out
      clear_stood : (names : Names) (steps later : List NameStep) (left : ℕ) → left ≤ length steps → AllByRecursion IsTaking steps
          → names_after names (drop left (steps ++ later)) Clear ≡ names_after names later Clear
      clear_stood names steps later zero within taking = clear_stays names steps later taking
      clear_stood names [] later (suc left) within taking = absurd (omega (arith, within))
      clear_stood names (step ∷ steps) later (suc left) within taking = clear_stood names steps later left (omega (arith, within)) taking.1

      -- with one step before them left out, none is left
      none_left : (steps : List NameStep) (first : NameStep) (left : ℕ) → length steps < left → drop left (steps ++ first ∷ []) ≡ []
      none_left [] first zero past = absurd (omega (arith, past))
      none_left [] first (suc zero) past = refl
      none_left [] first (suc (suc left)) past = refl
      none_left (step ∷ steps) first zero past = absurd (omega (arith, past))
      none_left (step ∷ steps) first (suc left) past = none_left steps first left (omega (arith, past))

      module _ (steps : List NameStep) (taking : AllByRecursion IsTaking steps) where
        abbrev doomed : State
        doomed = record placed { steps = steps ++ placed.steps }

        doomed_at : (left : ℕ) (image : Files) → ((p : Place) → MayStand synced.files (names_before doomed left p) (image p)) → (image Clear ≡ Some bytes) ⊎ CouldBeBefore s image
        doomed_at left image may = elim (nat_cases left (length steps)) [
          | inl few ↦ inl (marked image (subst (λ (at : Option ℕ). MayStand synced.files at (image Clear)) (clear_stood synced.names steps placed.steps left few taking) (may Clear)))
          | inr all ↦ inr (synced_before image (λ p. subst (λ (left_steps : List NameStep). MayStand synced.files (names_after synced.names left_steps p) (image p)) (none_left steps (Rename (Doomed number) Clear) left all) (may p)))
        ]
          where
            nat_cases : (a b : ℕ) → (a ≤ b) ⊎ (b < a)
            nat_cases zero b = inl (omega arith)
            nat_cases (suc a) zero = inr (omega arith)
            nat_cases (suc a) (suc b) = elim (nat_cases a b) [ inl le ↦ inl (omega (arith, le)) | inr lt ↦ inr (omega (arith, lt)) ]

        -- an entry's place has what stood there, or nothing
        entry_stays : (names : Names) (some later : List NameStep) (name : Name) → AllByRecursion IsTaking some
            → (names_after names (some ++ later) (Entry name) ≡ None) ⊎ (names_after names (some ++ later) (Entry name) ≡ names_after names later (Entry name))
        entry_stays names [] later name takes = inr refl
        entry_stays names (Remove (Entry gone) ∷ some) later name takes =
            none_or (either_none (is_same (Entry name) (Entry gone)) (names_after names (some ++ later) (Entry name))) (entry_stays names some later name takes.1)
        entry_stays names (Rename (Entry gone) (Doomed k) ∷ some) later name takes =
            none_or (either_none (is_same (Entry name) (Entry gone)) (names_after names (some ++ later) (Entry name))) (entry_stays names some later name takes.1)
        entry_stays names (step ∷ some) later name takes = absurd takes.0

        entry_kept : (name : Name) → (standing doomed (Entry name) ≡ None) ⊎ (standing doomed (Entry name) ≡ standing s (Entry name))
        entry_kept name = elim (entry_stays synced.names steps placed.steps name taking) [
          | inl none ↦ inl (ap (content_of synced.files) none)
          | inr same ↦ inr (ap (content_of synced.files) same ∙ puts.others (Entry name) (λ e. cc))
        ]

        -- ---- while the mark is removed

        module _ (names : List Name) (gone : AllByRecursion (λ name. standing doomed (Entry name) ≡ None) names) where
          -- an image that is what stands once it is removed
          whole : (image : Files) → ((p : Place) → image p ≡ standing (removed Clear doomed) p) → HasNoneOf s names image
          whole image is = record { gone = each names gone; others = λ name. elim (entry_kept name) [ inl none ↦ inl (there name ∙ none) | inr same ↦ inr (there name ∙ same) ] }
            where
              there : (name : Name) → image (Entry name) ≡ standing doomed (Entry name)
              there name = is (Entry name) ∙ (removed_puts Clear doomed).others (Entry name) (λ e. cc)

              each : (ns : List Name) → AllByRecursion (λ name. standing doomed (Entry name) ≡ None) ns → AllByRecursion (λ name. image (Entry name) ≡ None) ns
              each [] none = tt
              each (n ∷ ns) none = (there n ∙ none.0, each ns none.1)

          removed_at : (left : ℕ) (image : Files) → ((p : Place) → MayStand synced.files (names_before (removed Clear doomed) left p) (image p))
              → HasNoneOf s names image ⊎ ((image Clear ≡ Some bytes) ⊎ CouldBeBefore s image)
          removed_at zero image may = inl (whole image (λ p. only_stands synced.files (names_now (removed Clear doomed) p) (image p) (λ file. refl) (may p)))
          removed_at (suc left) image may = inr (doomed_at left image may)

          settled_at : (image : Files) → IsImage (settled (removed Clear doomed)) image → HasNoneOf s names image
          settled_at image is = whole image (λ p. only_now (settled (removed Clear doomed)) image (record { steps = refl; writes = λ file. refl }) is p ∙ settled_same (removed Clear doomed) p)

-- ---- what is left, by how far the clearing has come

-- while its mark was being stored
pub stopped_storing : (s t : State) (number origin : ℕ) (names : List Name) → IsSound s → standing s (Doomed number) ≡ None → IsAmidStoring number (mark_bytes origin) s t
    → (image : Files) → IsImage t image → IsLeftByClearing s origin names image
stopped_storing s t number origin names sound free (m, is) image left =
    let there : IsImage (storing_at m number (mark_bytes origin) s) image = subst (λ (u : State). IsImage u image) is left in
    elim (left_at s sound number (mark_bytes origin) free m (length (storing_at m number (mark_bytes origin) s).steps - there.0) image (omega arith) there.1.1) [
      | inl mark ↦ Marked mark
      | inr before ↦ Unbegun before
    ]

-- while entries were being doomed
pub stopped_dooming : (s t u : State) (number origin : ℕ) (names : List Name) → IsSound s → standing s (Doomed number) ≡ None → StoresMark number (mark_bytes origin) s t → TakesEntries t u
    → (image : Files) → IsImage u image → IsLeftByClearing s origin names image
stopped_dooming s t u number origin names sound free stored takes image left =
    let now : State = doomed s sound number (mark_bytes origin) free takes.taken takes.taking in
    let there : IsImage now image = subst (λ (v : State). IsImage v image) (takes.state ∙ ap (λ (v : State). record v { steps = takes.taken ++ v.steps }) stored) left in
    elim (doomed_at s sound number (mark_bytes origin) free takes.taken takes.taking (length now.steps - there.0) image there.1.1) [
      | inl mark ↦ Marked mark
      | inr before ↦ Unbegun before
    ]

-- while the mark was being removed, or afterwards
pub stopped_ending : (s t u v : State) (number origin : ℕ) (names : List Name) → IsSound s → standing s (Doomed number) ≡ None → StoresMark number (mark_bytes origin) s t → TakesEntries t u
    → AllByRecursion (λ name. standing u (Entry name) ≡ None) names → IsAmidEnding u v
    → (image : Files) → IsImage v image → IsLeftByClearing s origin names image
stopped_ending s t u v number origin names sound free stored takes gone amid image left = elim amid [
  | inl same ↦ stopped_dooming s t u number origin names sound free stored takes image (subst (λ (w : State). IsImage w image) same left)
  | inr done ↦ elim done [
    | inl removing ↦
        let there : IsImage (removed Clear now) image = subst (λ (w : State). IsImage w image) (removing ∙ ap (removed Clear) is_now) left in
        elim (removed_at s sound number (mark_bytes origin) free takes.taken takes.taking names none (length (removed Clear now).steps - there.0) image there.1.1) [
          | inl whole ↦ Whole whole
          | inr less ↦ elim less [ inl mark ↦ Marked mark | inr before ↦ Unbegun before ]
        ]
    | inr ended ↦
        Whole (settled_at s sound number (mark_bytes origin) free takes.taken takes.taking names none image
        (subst (λ (w : State). IsImage w image) (ended ∙ ap (λ (x : State). settled (removed Clear x)) is_now) left))
  ]
]
  where
    now : State
    now = doomed s sound number (mark_bytes origin) free takes.taken takes.taking

    is_now : u ≡ now
    is_now = takes.state ∙ ap (λ (x : State). record x { steps = takes.taken ++ x.steps }) stored

    none : AllByRecursion (λ name. standing now (Entry name) ≡ None) names
    none = subst (λ (x : State). AllByRecursion (λ name. standing x (Entry name) ≡ None) names) is_now gone
