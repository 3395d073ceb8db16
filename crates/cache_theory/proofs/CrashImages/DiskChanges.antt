-- What each change of the disk keeps of what may stand at the entry places.
use Rattle.std.proofs.Common.{◌≡◌, ◌≢◌, inl, inr, ℕ, ◌+◌, ◌-◌, ◌<◌, ◌≤◌, List, [], ◌++◌, length, drop, true, false, Some, refl, sym, ap, subst, ◌∙◌, arith}
use Rattle.std.proofs.Math.Seq.{drop-append-add}
use Rattle.std.proofs.lemmas.Bool.{cases_eq, cases_lt}
use Rattle.disk_theory.specs.declared.place.Place.TheVariants.{Doomed}
use Rattle.disk_theory.specs.Image.{moment}
use Rattle.disk_theory.specs.State.{File, State, Write, content, content_after, created, names_now, renamed}
use Rattle.disk_theory.proofs.Files.{with_file-below}
use Rattle.disk_theory.proofs.Images.{drop-nil}
use Rattle.entry_file.specs.EntryFile.{read}
use Rattle.index_theory.specs.Apart.{IsEntry}
use Rattle.cache_theory.specs.Crash.{IsAsMarked, IsFine, IsSafe, MayBeFiled, MayRead}
use Rattle.cache_theory.specs.Crash.MayBeFiled.{Moments, Synced}
use Rattle.cache_theory.specs.Ever.{EverAt, IsKept, entry_place}
use Rattle.cache_theory.specs.Keeps.{CreateKeeps, IsFineAll, MoveAsideKeeps, PublishKeeps, RemoveKeeps, RenameKeeps, SyncKeeps, WholeIsFine, WriteAsideKeeps, WriteKeeps}
use Rattle.cache_theory.specs.Marks.{Marks, is_in_place, is_touched}
use Rattle.cache_theory.proofs.CrashImages.EverSteps.{ever_created, ever_made, ever_removed, ever_renamed, ever_settled, ever_wrote}
use Rattle.cache_theory.proofs.CrashImages.FiledOnce.{entry_stays, one_name}
use Rattle.cache_theory.proofs.CrashImages.Kept.{kept_created, kept_removed, kept_renamed, kept_settled, kept_wrote}
use Rattle.cache_theory.proofs.CrashImages.Readings.{unfit_reads}

-- each moment of a file that was not written to is what was synced
pub moment_synced : (file : File) (left : ℕ) → file.writes ≡ [] → moment file left ≡ file.synced
moment_synced file left none = ap (λ (ws : List Write). content_after file.synced (drop left ws)) none ∙ ap (content_after file.synced) (drop-nil left)

-- names of which one is touched and the other is not have two places
apart_by : (w : Marks) (m n : List ℕ) → is_touched w m ≡ false → is_touched w n ≡ true → entry_place m ≢ entry_place n
apart_by w m n un t same = let both : true ≡ false = sym t ∙ ap (is_touched w) (sym (one_name m n same)) ∙ un in cc

-- ---- fine contents

-- a fine content reads as what may be found
pub fine_reads : (w : Marks) (name c : List ℕ) → IsFine w name c → MayRead w name (read name c)
fine_reads w name c fine = elim fine [
  | inl unfit ↦ subst (MayRead w name) (sym (unfit_reads name c unfit)) tt
  | inr v ↦ subst (MayRead w name) (sym v.1.1) v.1.0
]

-- what was synced of a file that was not written to since reads as what may be found
pub synced_reads : (w : Marks) (name : List ℕ) (file : File) → file.writes ≡ [] → MayBeFiled w name file → MayRead w name (read name file.synced)
synced_reads w name file none may = elim may [
  | Moments all ↦ subst (λ d. MayRead w name (read name d)) (moment_synced file 0 none) (fine_reads w name (moment file 0) (all 0))
  | Synced unwritten may ↦ may
]

pub whole_is_fine : WholeIsFine
whole_is_fine s w name file v safe t at whole = elim (safe.touched name t file at) [
  | Moments all ↦ all 0
  | Synced unwritten may ↦
      let synced : (s.files file).synced ≡ content (s.files file) = sym (ap (content_after (s.files file).synced) unwritten) in
      inr (v, (subst (MayRead w name) whole (subst (λ d. MayRead w name (read name d)) synced may), whole))
]

-- ---- the calls

-- before the writes that came, a file held what it held before
moment_before : (before now : File) (added : List Write) (left : ℕ) → now.synced ≡ before.synced → now.writes ≡ added ++ before.writes → length added ≤ left
    → moment now left ≡ moment before (left - length added)
moment_before before now added left synced writes le =
    let sum : left ≡ length added + (left - length added) = omega (arith, le) in
    (λ i. content_after (synced i) (drop (sum i) (writes i))) ∙ ap (content_after before.synced) (drop-append-add added before.writes (left - length added))

-- a file that was written to has fine moments, where what it held and what it got is fine
writes_filed : (w : Marks) (name : List ℕ) (before now : File) (added : List Write) → now.synced ≡ before.synced → now.writes ≡ added ++ before.writes
    → ((left : ℕ) → left < length added → IsFine w name (moment now left)) → IsFine w name (content before) → MayBeFiled w name before → MayBeFiled w name now
writes_filed w name before now added synced writes new held may = Moments (λ left. elim (cases_lt left (length added)) [
  | inl lt ↦ new left lt
  | inr le ↦ subst (IsFine w name) (sym (moment_before before now added left synced writes le)) (old may (left - length added))
])
  where
    old : MayBeFiled w name before → (left : ℕ) → IsFine w name (moment before left)
    old may left = elim may [
      | Moments all ↦ all left
      | Synced unwritten read ↦
          let now_synced : content before ≡ before.synced = moment_synced before 0 unwritten in
          subst (IsFine w name) (now_synced ∙ sym (moment_synced before left unwritten)) held
    ]

pub write_keeps : WriteKeeps
write_keeps s t w file writes only held safe = record { untouched = untouched; touched = touched; published = published }
  where
    untouched : (name : List ℕ) → is_touched w name ≡ false → IsKept t (entry_place name) (IsAsMarked w name)
    untouched name un =
        kept_wrote s t file (IsFineAll s w file) (entry_place name) (IsAsMarked w name) writes
        (λ at. let both : true ≡ false = sym (only name at).touched ∙ un in cc) (safe.untouched name un)

    touched : (name : List ℕ) → is_touched w name ≡ true → (f : ℕ) → EverAt t (entry_place name) f → MayBeFiled w name (t.files f)
    touched name t_is f at =
        let was : EverAt s (entry_place name) f = ever_wrote s t file (IsFineAll s w file) writes (entry_place name) f at in
        elim (cases_eq f file) [
          | inl same ↦
              let here : EverAt s (entry_place name) file = subst (EverAt s (entry_place name)) same was in
              subst (λ k. MayBeFiled w name (t.files k)) (sym same)
              (writes_filed w name (s.files file) (t.files file) writes.added writes.synced writes.writes
              (λ left lt. writes.moments left lt name here) (held name here) (safe.touched name t_is file here))
          | inr other ↦ subst (MayBeFiled w name) (sym (writes.others f other)) (safe.touched name t_is f was)
        ]

    published : (name : List ℕ) → is_touched w name ≡ true → is_in_place w name ≡ false → (f : ℕ) → EverAt t (entry_place name) f → (t.files f).writes ≡ []
    published name t_is out f at =
        let was : EverAt s (entry_place name) f = ever_wrote s t file (IsFineAll s w file) writes (entry_place name) f at in
        elim (cases_eq f file) [
          | inl same ↦ absurd (let both : true ≡ false = sym (only name (subst (EverAt s (entry_place name)) same was)).in_place ∙ out in cc)
          | inr other ↦ subst (λ (g : File). g.writes ≡ []) (sym (writes.others f other)) (safe.published name t_is out f was)
        ]

-- Where the files that ever stood as entries stood there before, and are as they were.

safe_by : (s t : State) (w : Marks) → ((name : List ℕ) → is_touched w name ≡ false → IsKept t (entry_place name) (IsAsMarked w name))
    → ((name : List ℕ) (f : ℕ) → EverAt t (entry_place name) f → EverAt s (entry_place name) f)
    → ((name : List ℕ) (f : ℕ) → EverAt s (entry_place name) f → t.files f ≡ s.files f) → IsSafe s w → IsSafe t w
safe_by s t w untouched stood same safe = record {
  untouched = untouched;
  touched = λ name t_is f at. subst (MayBeFiled w name) (sym (same name f (stood name f at))) (safe.touched name t_is f (stood name f at));
  published = λ name t_is out f at. subst (λ (g : File). g.writes ≡ []) (sym (same name f (stood name f at))) (safe.published name t_is out f (stood name f at));
}

pub write_aside_keeps : WriteAsideKeeps
write_aside_keeps s t w file writes aside safe =
    safe_by s t w
    (λ name un. kept_wrote s t file (λ c. Unit {0}) (entry_place name) (IsAsMarked w name) writes (aside name) (safe.untouched name un))
    (λ name f at. ever_wrote s t file (λ c. Unit {0}) writes (entry_place name) f at)
    (λ name f at. writes.others f (λ same. aside name (subst (EverAt s (entry_place name)) same at))) safe

pub create_keeps : CreateKeeps
create_keeps s w k sound safe =
    safe_by s (created (Doomed k) s) w
    (λ m un. kept_created s (Doomed k) (entry_place m) (IsAsMarked w m) (λ same. cc) sound (safe.untouched m un))
    (λ m f at. elim (ever_created s (Doomed k) (entry_place m) f at) [ inl new ↦ absurd (cc new.0) | inr old ↦ old ])
    (λ m f at. with_file-below s.made f _ s.files (ever_made s (entry_place m) f sound at)) safe

pub rename_keeps : RenameKeeps
rename_keeps s w name k t safe = record {
  untouched = λ m un. kept_renamed s (entry_place name) (Doomed k) (entry_place m) (IsAsMarked w m) (apart_by w m name un t) (λ same. cc) (safe.untouched m un);
  touched = λ m t_is f at. safe.touched m t_is f (entry_stays s name k m f at);
  published = λ m t_is out f at. safe.published m t_is out f (entry_stays s name k m f at);
}

pub publish_keeps : PublishKeeps
publish_keeps s w k name file now unwritten fine t safe = record { untouched = untouched; touched = touched; published = published }
  where
    next : State
    next = renamed (Doomed k) (entry_place name) s

    untouched : (m : List ℕ) → is_touched w m ≡ false → IsKept next (entry_place m) (IsAsMarked w m)
    untouched m un = kept_renamed s (Doomed k) (entry_place name) (entry_place m) (IsAsMarked w m) (λ same. cc) (apart_by w m name un t) (safe.untouched m un)

    -- the file that comes there may be filed under its name
    filed : MayBeFiled w name (s.files file)
    filed = Synced unwritten (subst (λ d. MayRead w name (read name d)) (moment_synced (s.files file) 0 unwritten) (fine_reads w name (content (s.files file)) fine))

    one_file : (f : ℕ) → names_now s (Doomed k) ≡ Some f → file ≡ f
    one_file f is = let same = sym now ∙ is in cc

    touched : (m : List ℕ) → is_touched w m ≡ true → (f : ℕ) → EverAt next (entry_place m) f → MayBeFiled w m (s.files f)
    touched m t_is f at = elim (ever_renamed s (Doomed k) (entry_place name) (entry_place m) f at) [
      | inl new ↦ subst (λ n. MayBeFiled w n (s.files f)) (sym (one_name m name new.0)) (subst (λ g. MayBeFiled w name (s.files g)) (one_file f new.1) filed)
      | inr old ↦ safe.touched m t_is f old
    ]

    published : (m : List ℕ) → is_touched w m ≡ true → is_in_place w m ≡ false → (f : ℕ) → EverAt next (entry_place m) f → (s.files f).writes ≡ []
    published m t_is out f at = elim (ever_renamed s (Doomed k) (entry_place name) (entry_place m) f at) [
      | inl new ↦ subst (λ g. (s.files g).writes ≡ []) (one_file f new.1) unwritten
      | inr old ↦ safe.published m t_is out f old
    ]

pub move_aside_keeps : MoveAsideKeeps
move_aside_keeps s w from to from_none to_none safe =
    safe_by s (renamed from to s) w
    (λ m un. kept_renamed s from to (entry_place m) (IsAsMarked w m) (λ same. from_none (subst IsEntry same tt)) (λ same. to_none (subst IsEntry same tt)) (safe.untouched m un))
    (λ m f at. elim (ever_renamed s from to (entry_place m) f at) [ inl new ↦ absurd (to_none (subst IsEntry new.0 tt)) | inr old ↦ old ])
    (λ m f at. refl) safe

pub remove_keeps : RemoveKeeps
remove_keeps s w place may safe = record {
  untouched = λ m un. kept_removed s place (entry_place m) (IsAsMarked w m) (λ here. elim (may m (sym here)) [
    | inl t ↦ absurd (let both : true ≡ false = sym t ∙ un in cc)
    | inr none ↦ λ key named. sym (none key named)
  ]) (safe.untouched m un);
  touched = λ m t_is f at. safe.touched m t_is f (ever_removed s place (entry_place m) f at);
  published = λ m t_is out f at. safe.published m t_is out f (ever_removed s place (entry_place m) f at);
}

-- a file with nothing pending any more
at_rest : (w : Marks) (name : List ℕ) (file : File) → MayBeFiled w name file → MayBeFiled w name (record { synced = content file; writes = [] })
at_rest w name file may = elim may [
  | Moments all ↦ Synced refl (fine_reads w name (content file) (all 0))
  | Synced unwritten may ↦ Synced refl (subst (λ d. MayRead w name (read name d)) (sym (moment_synced file 0 unwritten)) may)
]

pub sync_keeps : SyncKeeps
sync_keeps s w safe = record {
  untouched = λ name un. kept_settled s (entry_place name) (IsAsMarked w name) (safe.untouched name un);
  touched = λ name t file at. at_rest w name (s.files file) (safe.touched name t file (0, ever_settled s (entry_place name) file at));
  published = λ name t out file at. refl;
}
