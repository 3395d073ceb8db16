-- What a crash may leave at `clear`, and what each change of the disk adds to it.
use Rattle.std.proofs.Common.{◌≡◌, ◌≢◌, ◌⊎◌, ◌<◌, arith, zero, suc, inl, inr, ℕ, List, [], Option, Some, None, refl, sym, ap, subst, ◌∙◌, ⊎_elim}
use Rattle.std.specs.Prelude.{length, ⊤, ◌-◌}
use Rattle.disk_theory.specs.declared.place.Place.{Place}
use Rattle.disk_theory.specs.declared.place.Place.TheVariants.{Clear}
use Rattle.disk_theory.specs.Image.{MayStand}
use Rattle.disk_theory.specs.Sound.{IsSound, names_before}
use Rattle.disk_theory.specs.State.{File, State, Write, content_after, content_of, created, empty_file, names_now, removed, renamed, settled, standing, with_name, wrote}
use Rattle.disk_theory.specs.Writes.{WritesTo}
use Rattle.disk_theory.proofs.Files.{with_file-below}
use Rattle.disk_theory.proofs.Images.{holds_synced}
use Rattle.disk_theory.proofs.Places.{never}
use Rattle.disk_theory.proofs.Sound.{found}
use Rattle.index_theory.specs.AtClear.{ImageMayBeAtClear, IsClearApart, KeepsClear, MayBeAtClear, QuietIsAtClear, QuietIsClearApart, RemoveAtClear, RenameToClear, SyncKeepsClear}
use Rattle.index_theory.specs.Ever.{EverAt, EverNone}
use Rattle.index_theory.proofs.ApartLaws.{untouched}
use Rattle.index_theory.proofs.EverSteps.{ever_created, ever_made, ever_none_created, ever_none_removed, ever_none_renamed, ever_none_settled, ever_none_wrote, ever_removed, ever_renamed, ever_settled, ever_wrote, quiet_names, wrote_names}

-- ---- images

at_left : (s : State) (left : ℕ) (at : Option ℕ) (c : Option (List ℕ)) → names_before s left Clear ≡ at → IsClearApart s → MayStand s.files at c → MayBeAtClear s c
at_left s left None None is apart may = (left, is)
at_left s left None (Some c) is apart may = absurd may
at_left s left (Some file) None is apart may = absurd may
at_left s left (Some file) (Some c) is apart may =
    (file, ((left, is), holds_synced (s.files file) c (apart.unwritten file (left, is)) may))

pub image_may_be_at_clear : ImageMayBeAtClear
image_may_be_at_clear s image apart is =
    let left : ℕ = length s.steps - is.0 in
    at_left s left (names_before s left Clear) (image Clear) refl apart (is.1.1 Clear)

pub quiet_is_clear_apart : QuietIsClearApart
quiet_is_clear_apart s quiet sound = record {
  unwritten = λ file at. quiet.writes file;
  elsewhere = λ p file now at. sound.one_place 0 p Clear file now (sym (quiet_names s at.0 Clear quiet) ∙ at.1);
}

-- what a file holds that is unwritten since the sync
content_synced : (file : File) → file.writes ≡ [] → content_after file.synced file.writes ≡ file.synced
content_synced file none = ap (content_after file.synced) none

stands_synced : (s : State) (p : Place) (file : ℕ) → names_now s p ≡ Some file → (s.files file).writes ≡ [] → standing s p ≡ Some (s.files file).synced
stands_synced s p file at none = ap (content_of s.files) at ∙ ap Some (content_synced (s.files file) none)

pub quiet_is_at_clear : QuietIsAtClear
quiet_is_at_clear s None quiet none = sym (ap (content_of s.files) (sym (quiet_names s none.0 Clear quiet) ∙ none.1))
quiet_is_at_clear s (Some c) quiet (file, (at, is)) =
    ap Some is ∙ sym (stands_synced s Clear file (sym (quiet_names s at.0 Clear quiet) ∙ at.1) (quiet.writes file))

-- ---- a change after which the same files stood there

pub keeps_by : (s t : State) → (EverNone t Clear → EverNone s Clear) → ((f : ℕ) → EverAt t Clear f → EverAt s Clear f)
    → ((f : ℕ) → EverAt s Clear f → t.files f ≡ s.files f) → ((p : Place) (f : ℕ) → names_now t p ≡ Some f → EverAt t Clear f → p ≡ Clear)
    → IsClearApart s → KeepsClear s t
keeps_by s t none some same elsewhere apart = record { apart = record { unwritten = unwritten; elsewhere = elsewhere }; found = found_before }
  where
    unwritten : (f : ℕ) → EverAt t Clear f → (t.files f).writes ≡ []
    unwritten f at = subst (λ (file : File). file.writes ≡ []) (sym (same f (some f at))) (apart.unwritten f (some f at))

    found_before : (c : Option (List ℕ)) → MayBeAtClear t c → MayBeAtClear s c ⊎ ⊥
    found_before None gone = inl (none gone)
    found_before (Some c) (f, (at, is)) = inl (f, (some f at, is ∙ ap (λ (file : File). file.synced) (same f (some f at))))

pub nothing_keeps_clear : (s : State) → IsClearApart s → KeepsClear s s
nothing_keeps_clear s apart = record { apart = apart; found = λ c may. inl may }

pub both_keep_clear : (s t u : State) → KeepsClear s t → KeepsClear t u → KeepsClear s u
both_keep_clear s t u one two = record {
  apart = two.apart;
  found = λ c may. ⊎_elim (λ old. one.found c old) (λ new. absurd new) (two.found c may);
}

pub create_keeps_clear : (s : State) (place : Place) → Clear ≢ place → IsSound s → IsClearApart s → KeepsClear s (created place s)
create_keeps_clear s place not sound apart =
    keeps_by s (created place s) (ever_none_created s place Clear) before
    (λ f at. with_file-below s.made f empty_file s.files (ever_made s Clear f sound at)) elsewhere apart
  where
    before : (f : ℕ) → EverAt (created place s) Clear f → EverAt s Clear f
    before f at = ⊎_elim (λ new. absurd (not new.0)) (λ old. old) (ever_created s place Clear f at)

    elsewhere : (p : Place) (f : ℕ) → names_now (created place s) p ≡ Some f → EverAt (created place s) Clear f → p ≡ Clear
    elsewhere p f now at =
        elim (found place p (Some s.made) (Some f) (names_now s) now) [
          | inl new ↦ let lt = ever_made s Clear f sound (before f at) in absurd (young f new.1 lt)
          | inr stays ↦ apart.elsewhere p f stays.0 (before f at)
        ]
      where
        young : (f : ℕ) → Some s.made ≡ Some f → f < s.made → ⊥
        young f new lt = grind (arith, new, lt)

pub write_keeps_clear : (s : State) (place : Place) (write : Write) → Clear ≢ place → IsClearApart s → KeepsClear s (wrote place write s)
write_keeps_clear s place write not apart =
    keeps_by s (wrote place write s) (λ gone. gone) (λ f at. at)
    (λ f at. untouched s.files write f (names_now s place) (λ there. not (sym (apart.elsewhere place f there at))))
    (λ p f now at. apart.elsewhere p f now at) apart

pub writes_keep_clear : (s t : State) (place : Place) (file : ℕ) → Clear ≢ place → names_now s place ≡ Some file → WritesTo file (λ c. ⊤) s t → IsClearApart s → KeepsClear s t
writes_keep_clear s t place file not now writes apart =
    keeps_by s t (ever_none_wrote s t file (λ c. ⊤) writes Clear) (ever_wrote s t file (λ c. ⊤) writes Clear)
    (λ f at. writes.others f (λ same. not (sym (apart.elsewhere place file now (subst (EverAt s Clear) same at)))))
    (λ p f there at. apart.elsewhere p f (sym (wrote_names s t file 0 (λ c. ⊤) writes p) ∙ there) (ever_wrote s t file (λ c. ⊤) writes Clear f at)) apart

-- what stands after a move came from the first place, or stood there before
pub stood_before : (s : State) (from to p : Place) (f : ℕ) → names_now (renamed from to s) p ≡ Some f → ((p ≡ to) × (names_now s from ≡ Some f)) ⊎ (names_now s p ≡ Some f)
stood_before s from to p f now =
    elim (found from p None (Some f) (with_name to (names_now s from) (names_now s)) now) [
      | inl gone ↦ absurd (cc gone.1)
      | inr kept ↦ elim (found to p (names_now s from) (Some f) (names_now s) kept.0) [ inl here ↦ inl here | inr old ↦ inr old.0 ]
    ]

pub rename_keeps_clear : (s : State) (from to : Place) → Clear ≢ from → Clear ≢ to → IsClearApart s → KeepsClear s (renamed from to s)
rename_keeps_clear s from to not_from not_to apart =
    keeps_by s (renamed from to s) none before (λ f at. refl) elsewhere apart
  where
    none : EverNone (renamed from to s) Clear → EverNone s Clear
    none gone = ⊎_elim (λ here. absurd (⊎_elim (λ e. not_from e) (λ e. not_to e) here)) (λ old. old) (ever_none_renamed s from to Clear gone)

    before : (f : ℕ) → EverAt (renamed from to s) Clear f → EverAt s Clear f
    before f at = ⊎_elim (λ new. absurd (not_to new.0)) (λ old. old) (ever_renamed s from to Clear f at)

    elsewhere : (p : Place) (f : ℕ) → names_now (renamed from to s) p ≡ Some f → EverAt (renamed from to s) Clear f → p ≡ Clear
    elsewhere p f now at =
        elim (stood_before s from to p f now) [
          | inl moved ↦ absurd (not_from (sym (apart.elsewhere from f moved.1 (before f at))))
          | inr old ↦ apart.elsewhere p f old (before f at)
        ]

-- what stands after a removal stood there before
stood : (s : State) (place p : Place) (f : ℕ) → names_now (removed place s) p ≡ Some f → names_now s p ≡ Some f
stood s place p f now = elim (found place p None (Some f) (names_now s) now) [ inl gone ↦ absurd (cc gone.1) | inr kept ↦ kept.0 ]

pub remove_keeps_clear : (s : State) (place : Place) → Clear ≢ place → IsClearApart s → KeepsClear s (removed place s)
remove_keeps_clear s place not apart =
    keeps_by s (removed place s)
    (λ gone. ⊎_elim (λ here. absurd (not here)) (λ old. old) (ever_none_removed s place Clear gone))
    (λ f at. ever_removed s place Clear f at) (λ f at. refl)
    (λ p f now at. apart.elsewhere p f (stood s place p f now) (ever_removed s place Clear f at)) apart

pub sync_keeps_clear : SyncKeepsClear
sync_keeps_clear s apart = record {
  apart = record {
    unwritten = λ f at. refl;
    elsewhere = λ p f now at. apart.elsewhere p f now (0, ever_settled s Clear f at);
  };
  found = found_before;
}
  where
    found_before : (c : Option (List ℕ)) → MayBeAtClear (settled s) c → MayBeAtClear s c ⊎ ⊥
    found_before None gone = inl (0, ever_none_settled s Clear gone)
    found_before (Some c) (f, (at, is)) =
        let stands : EverAt s Clear f = (0, ever_settled s Clear f at) in
        inl (f, (stands, is ∙ content_synced (s.files f) (apart.unwritten f stands)))

-- ---- changes of what stands there

pub remove_at_clear : RemoveAtClear
remove_at_clear s apart = record {
  apart = record {
    unwritten = λ f at. apart.unwritten f (ever_removed s Clear Clear f at);
    elsewhere = λ p f now at. apart.elsewhere p f (stood s Clear p f now) (ever_removed s Clear Clear f at);
  };
  found = found_before;
}
  where
    found_before : (c : Option (List ℕ)) → MayBeAtClear (removed Clear s) c → MayBeAtClear s c ⊎ (c ≡ None)
    found_before None gone = inr refl
    found_before (Some c) (f, (at, is)) = inl (f, (ever_removed s Clear Clear f at, is))

pub rename_to_clear : RenameToClear
rename_to_clear s from sound not synced apart = record { apart = record { unwritten = unwritten; elsewhere = elsewhere }; found = found_before }
  where
    unwritten : (f : ℕ) → EverAt (renamed from Clear s) Clear f → (s.files f).writes ≡ []
    unwritten f at = ⊎_elim (λ new. synced f new.1) (λ old. apart.unwritten f old) (ever_renamed s from Clear Clear f at)

    elsewhere : (p : Place) (f : ℕ) → names_now (renamed from Clear s) p ≡ Some f → EverAt (renamed from Clear s) Clear f → p ≡ Clear
    elsewhere p f now at =
        elim (found from p None (Some f) (with_name Clear (names_now s from) (names_now s)) now) [
          | inl gone ↦ absurd (cc gone.1)
          | inr kept ↦ elim (found Clear p (names_now s from) (Some f) (names_now s) kept.0) [
            | inl here ↦ here.0
            | inr old ↦ elim (ever_renamed s from Clear Clear f at) [
              | inl new ↦ absurd (never from p (sound.one_place 0 p from f old.0 new.1) kept.1)
              | inr ever ↦ apart.elsewhere p f old.0 ever
            ]
          ]
        ]

    none_before : EverNone (renamed from Clear s) Clear → EverNone s Clear ⊎ (None ≡ standing s from)
    none_before (zero, is) =
        elim (found from Clear None None (with_name Clear (names_now s from) (names_now s)) is) [
          | inl gone ↦ absurd (not (sym gone.0))
          | inr stays ↦ elim (found Clear Clear (names_now s from) None (names_now s) stays.0) [
            | inl new ↦ inr (sym (ap (content_of s.files) new.1))
            | inr old ↦ inl (0, old.0)
          ]
        ]
    none_before (suc left, is) = inl (left, is)

    found_before : (c : Option (List ℕ)) → MayBeAtClear (renamed from Clear s) c → MayBeAtClear s c ⊎ (c ≡ standing s from)
    found_before None gone = none_before gone
    found_before (Some c) (f, (at, is)) = ⊎_elim (λ new. inr (ap Some is ∙ sym (stands_synced s from f new.1 (synced f new.1)))) (λ old. inl (f, (old, is))) (ever_renamed s from Clear Clear f at)
