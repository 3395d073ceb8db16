-- What is kept of the disk makes every image safe.
use Rattle.std.proofs.Common.{◌≡◌, ◌⊎◌, inl, inr, ℕ, List, [], true, false, cond, refl, sym, ap, subst, ◌∙◌}
use Rattle.std.specs.Prelude.{None, Option, Some, length, ◌-◌}
use Rattle.std.specs.Str.{bytes_eq}
use Rattle.std.proofs.lemmas.Bool.{cases_Bool, false≢true}
use Rattle.std.proofs.lemmas.Slice.Eq.{bytes_eq-Decides}
use Rattle.cache_theory.specs.Crash.{Allowed, IsAsMarked, IsFine, IsSafe, MayBeFiled, MayRead, NoChance, NoChanceOf, SameChunks, SameTail}
use Rattle.cache_theory.specs.Crash.MayBeFiled.{Moments, Synced}
use Rattle.cache_theory.specs.Ever.{IsKept, entries, entry_place}
use Rattle.cache_theory.specs.Keeps.{QuietIsSafe, SafeIsCrashSafe}
use Rattle.cache_theory.specs.Marks.{Marks, is_in_place, is_touched, marks_of}
use Rattle.cache_theory.specs.Table.{get}
use Rattle.cache_theory.proofs.CrashImages.DiskChanges.{synced_reads}
use Rattle.cache_theory.proofs.CrashImages.EverSteps.{quiet_names}
use Rattle.cache_theory.proofs.CrashImages.Readings.{unfit_reads, whole_key}
use Rattle.cache_theory.proofs.CrashImages.Torn.{moment_fits, torn_reads}
use Rattle.disk_theory.specs.Image.{Files, IsImage, IsImageAt, MayHold, MayStand, moment}
use Rattle.disk_theory.specs.Sound.{IsQuiet, names_before}
use Rattle.disk_theory.specs.State.{File, State, content_after, content_of, standing}
use Rattle.disk_theory.specs.declared.place.Place.{Place}
use Rattle.disk_theory.proofs.Images.{holds_synced}
use Rattle.index_theory.proofs.UncleanLaws.{kept_image}
use Rattle.entry_file.specs.EntryFile.{Reading, file_meta, fits, found, read, read_for, whole_in}
use Rattle.entry_file.specs.EntryFile.Reading.{Whole, Damaged, Nothing}
use Rattle.entry_name.specs.EntryName.{file_name}

-- ---- a touched name

-- no version may be read from anything
none_read : (w : Marks) (name : List ℕ) (r : Reading) → whole_in r ≡ None → MayRead w name r
none_read w name (Whole v) none = absurd (cc)
none_read w name (Damaged d) none = tt
none_read w name Nothing none = tt

-- a content that fits, with the tail and the good chunks of a fine moment
moment_read : (w : Marks) (name c old : List ℕ) → IsFine w name old → fits name c ≡ true → SameTail (file_meta c) c old → SameChunks (file_meta c) c old → MayRead w name (read name c)
moment_read w name c old fine fit tail same = elim fine [
  | inl unfit ↦ absurd (false≢true (sym unfit ∙ moment_fits name c old fit tail))
  | inr v ↦
      elim (torn_reads name c old v.0 fit v.1.1 tail same) [
        | inl is ↦ subst (MayRead w name) (sym is) v.1.0
        | inr none ↦ none_read w name (read name c) none
      ]
]

-- a content of a file that may have stood there
filed_read : (w : Marks) (name c : List ℕ) (file : File) → fits name c ≡ true → NoChanceOf file c → MayHold file c → MayBeFiled w name file → MayRead w name (read name c)
filed_read w name c file fit chance held may = elim may [
  | Moments all ↦
      let left : ℕ = chance.some.0 in
      let tail : SameTail (file_meta c) c (moment file left) = chance.some.1 in
      moment_read w name c (moment file left) (all left) fit tail (chance.every left tail)
  | Synced unwritten may ↦ subst (λ d. MayRead w name (read name d)) (sym (holds_synced file c unwritten held)) may
]

-- a content of a file that was not written since the sync is what was synced
unwritten_read : (w : Marks) (name c : List ℕ) (file : File) → file.writes ≡ [] → MayHold file c → MayBeFiled w name file → MayRead w name (read name c)
unwritten_read w name c file none held may = subst (λ d. MayRead w name (read name d)) (sym (holds_synced file c none held)) (synced_reads w name file none may)

-- an image has there what its file may hold
held_there : (s : State) (image : Files) (name c : List ℕ) (left file : ℕ) → IsImageAt s left image → names_before s left (entry_place name) ≡ Some file
    → entries image name ≡ Some c → MayHold (s.files file) c
held_there s image name c left file is stood there =
    subst (λ o. MayStand s.files (Some file) o) there (subst (λ at. MayStand s.files at (image (entry_place name))) stood (is (entry_place name)))

-- what an image has at the name reads as what may be found
torn_read : (s : State) (w : Marks) (image : Files) (name c : List ℕ) → IsSafe s w → is_touched w name ≡ true → NoChance s image name → entries image name ≡ Some c
    → MayRead w name (read name c)
torn_read s w image name c safe t chance there = elim (cases_Bool (fits name c)) [
  | inl fit ↦
      let chosen = chance c there fit in
      let file : ℕ = chosen.1.1.0 in
      let stood : names_before s chosen.0 (entry_place name) ≡ Some file = chosen.1.1.1.0 in
      let held : MayHold (s.files file) c = held_there s image name c chosen.0 file chosen.1.0 stood there in
      let filed : MayBeFiled w name (s.files file) = safe.touched name t file (chosen.0, stood) in
      elim chosen.1.1.1.1 [
        | inl none ↦ unwritten_read w name c (s.files file) none held filed
        | inr of_file ↦ filed_read w name c (s.files file) fit of_file held filed
      ]
  | inr unfit ↦ subst (MayRead w name) (sym (unfit_reads name c unfit)) tt
]

-- and so it does by no chance, where no metadata were rewritten in place
published_read : (s : State) (w : Marks) (image : Files) (name c : List ℕ) → IsSafe s w → is_touched w name ≡ true → is_in_place w name ≡ false → IsImage s image
    → entries image name ≡ Some c → MayRead w name (read name c)
published_read s w image name c safe t not_in_place is there = go (names_before s left (entry_place name)) refl
  where
    left : ℕ
    left = length s.steps - is.0

    go : (at : Option ℕ) → names_before s left (entry_place name) ≡ at → MayRead w name (read name c)
    go None stood =
        absurd (subst (λ o. MayStand s.files None o) there (subst (λ at. MayStand s.files at (image (entry_place name))) stood (is.1.1 (entry_place name))))
    go (Some file) stood =
        unwritten_read w name c (s.files file) (safe.published name t not_in_place file (left, stood))
        (held_there s image name c left file is.1.1 stood there) (safe.touched name t file (left, stood))

touched_read : (s : State) (w : Marks) (image : Files) (name c : List ℕ) → IsSafe s w → is_touched w name ≡ true → IsImage s image
    → (is_in_place w name ≡ false) ⊎ NoChance s image name → entries image name ≡ Some c → MayRead w name (read name c)
touched_read s w image name c safe t is may there = elim may [
  | inl not_in_place ↦ published_read s w image name c safe t not_in_place is there
  | inr chance ↦ torn_read s w image name c safe t chance there
]

-- and so is what is found under a key of the name
allowed_whole : (w : Marks) (image : Files) (key c : List ℕ) (r : Reading) → read (file_name key) c ≡ r → (file_meta c).key ≡ key → found (entries image) key ≡ whole_in r
    → MayRead w (file_name key) r → Allowed w image key
allowed_whole w image key c (Damaged d) is key_is e may = inl e
allowed_whole w image key c Nothing is key_is e may = inl e
allowed_whole w image key c (Whole v) is key_is e may =
    let same : v.key ≡ key = sym (whole_key (file_name key) c v is) ∙ key_is in
    elim may [
      | inl was ↦ inr (inl (e ∙ sym (subst (λ k. found (get w.marked.shelf) k ≡ Some v) same was)))
      | inr since ↦ inr (inr (v, (e, (same, since))))
    ]

allowed_content : (w : Marks) (image : Files) (key c : List ℕ) → found (entries image) key ≡ whole_in (read_for key (Some c)) → MayRead w (file_name key) (read (file_name key) c)
    → Allowed w image key
allowed_content w image key c e may = elim (cases_Bool (bytes_eq (file_meta c).key key)) [
  | inl own ↦ allowed_whole w image key c (read (file_name key) c) refl ((bytes_eq-Decides (file_meta c).key key).0 own)
      (e ∙ ap (λ b. whole_in (cond b (read (file_name key) c) Nothing)) own) may
  | inr other ↦ inl (e ∙ ap (λ b. whole_in (cond b (read (file_name key) c) Nothing)) other)
]

allowed_image : (s : State) (w : Marks) (image : Files) (key : List ℕ) → IsSafe s w → is_touched w (file_name key) ≡ true → IsImage s image
    → (is_in_place w (file_name key) ≡ false) ⊎ NoChance s image (file_name key) → Allowed w image key
allowed_image s w image key safe t is may = go (entries image (file_name key)) refl
  where
    go : (o : Option (List ℕ)) → entries image (file_name key) ≡ o → Allowed w image key
    go None e = inl (ap (λ o. whole_in (read_for key o)) e)
    go (Some c) e = allowed_content w image key c (ap (λ o. whole_in (read_for key o)) e) (touched_read s w image (file_name key) c safe t is may e)

pub safe_is_crash_safe : SafeIsCrashSafe
safe_is_crash_safe s w safe image is = record {
  untouched = λ key un. kept_image s (entry_place (file_name key)) (IsAsMarked w (file_name key)) (safe.untouched (file_name key) un) image is key refl;
  touched = λ key t may. allowed_image s w image key safe t is may;
}

-- ---- a disk at rest

-- what stands now at a place, by any prefix of the steps
rest_stands : (s : State) (p : Place) (left : ℕ) (at : Option ℕ) → IsQuiet s → names_before s left p ≡ at → standing s p ≡ content_of s.files at
rest_stands s p left at quiet is = ap (content_of s.files) (sym (quiet_names s left p quiet) ∙ is)

-- it is kept with whatever holds of it
pub kept_at_rest : (s : State) (p : Place) (P : Option (List ℕ) → Type 0) → IsQuiet s → P (standing s p) → IsKept s p P
kept_at_rest s p P quiet now = record {
  none = λ gone. subst P (rest_stands s p gone.0 None quiet gone.1) now;
  unwritten = λ file at. quiet.writes file;
  some = λ file at. subst P (rest_stands s p at.0 (Some file) quiet at.1 ∙ ap (λ ws. Some (content_after (s.files file).synced ws)) (quiet.writes file)) now;
}

pub quiet_is_safe : QuietIsSafe
quiet_is_safe s m quiet same = record {
  untouched = λ name un. kept_at_rest s (entry_place name) (IsAsMarked (marks_of m) name) quiet
      (λ key named. subst (λ n. whole_in (read_for key (standing s (entry_place n))) ≡ found (get m.shelf) key) named (same key));
  touched = λ name t file at. absurd (cc t);
  published = λ name t not_in_place file at. quiet.writes file;
}
