-- No file stands at the entry places of two names, whatever changes come.
use Rattle.std.proofs.Common.{◌≡◌, ◌⊎◌, inl, inr, ℕ, List, [], Some, sym, ap, subst, ◌∙◌, arith}
use Rattle.disk_theory.specs.declared.place.Place.{Place}
use Rattle.disk_theory.specs.declared.place.Place.TheVariants.{Entry, Doomed, Index, Log, Tmp, Clear}
use Rattle.disk_theory.specs.State.{State, names_now, removed, renamed, settled}
use Rattle.cache_theory.specs.Ever.{EverAt, IsFiledOnce, IsUnpublished, entry_place}
use Rattle.cache_theory.specs.Keeps.{CreateFilesOnce, MoveAsideFilesOnce, PublishFilesOnce, QuietFilesOnce, RemoveFilesOnce, RenameFilesOnce, SyncFilesOnce, WriteFilesOnce}
use Rattle.index_theory.specs.Apart.{IsEntry}
use Rattle.cache_theory.proofs.CrashImages.EverSteps.{ever_created, ever_made, ever_removed, ever_renamed, ever_settled, ever_wrote, quiet_names}

text_at : Place → List ℕ
text_at (Entry name) = name.0
text_at (Doomed k) = []
text_at Index = []
text_at Log = []
text_at Tmp = []
text_at Clear = []

-- the place of an entry is one name's
pub one_name : (m n : List ℕ) → entry_place m ≡ entry_place n → m ≡ n
unfolding text_at
one_name m n same = ap text_at same

-- where each file that ever stands as an entry stood there before
once_by : (s t : State) → ((name : List ℕ) (file : ℕ) → EverAt t (entry_place name) file → EverAt s (entry_place name) file) → IsFiledOnce s → IsFiledOnce t
once_by s t stood once m n file at also = once m n file (stood m file at) (stood n file also)

pub quiet_files_once : QuietFilesOnce
quiet_files_once s quiet sound m n file at also =
    one_name m n (sound.one_place 0 (entry_place m) (entry_place n) file
    (sym (quiet_names s at.0 (entry_place m) quiet) ∙ at.1) (sym (quiet_names s also.0 (entry_place n) quiet) ∙ also.1))

pub write_files_once : WriteFilesOnce
write_files_once s t file writes = once_by s t (λ name f. ever_wrote s t file _ writes (entry_place name) f)

pub create_files_once : CreateFilesOnce
create_files_once s place sound once m n file at also =
    elim (ever_created s place (entry_place m) file at) [
      | inl new ↦ elim (ever_created s place (entry_place n) file also) [
        | inl too ↦ one_name m n (new.0 ∙ sym too.0)
        | inr old ↦ let lt = ever_made s (entry_place n) file sound old in absurd (omega (arith, lt, new.1))
      ]
      | inr old ↦ elim (ever_created s place (entry_place n) file also) [
        | inl new ↦ let lt = ever_made s (entry_place m) file sound old in absurd (omega (arith, lt, new.1))
        | inr too ↦ once m n file old too
      ]
    ]

-- among the doomed no entry stands
pub entry_stays : (s : State) (name : List ℕ) (k : ℕ) (other : List ℕ) (file : ℕ) → EverAt (renamed (entry_place name) (Doomed k) s) (entry_place other) file
    → EverAt s (entry_place other) file
entry_stays s name k other file at = elim (ever_renamed s (entry_place name) (Doomed k) (entry_place other) file at) [ inl new ↦ absurd (cc new.0) | inr old ↦ old ]

pub rename_files_once : RenameFilesOnce
rename_files_once s name k = once_by s (renamed (entry_place name) (Doomed k) s) (entry_stays s name k)

-- nor does one at another place that is no entry's
pub move_aside_files_once : MoveAsideFilesOnce
move_aside_files_once s from to to_none = once_by s (renamed from to s)
    (λ m f at. elim (ever_renamed s from to (entry_place m) f at) [ inl new ↦ absurd (to_none (subst IsEntry new.0 tt)) | inr old ↦ old ])

-- a file that comes from among the doomed stood at no entry place
module _ (s : State) (k : ℕ) (name : List ℕ) (file : ℕ) (now : names_now s (Doomed k) ≡ Some file) (aside : IsUnpublished s file) where
  -- an entry there is that file under the name, or it was there before and is another
  published_at : (other : List ℕ) (f : ℕ) → EverAt (renamed (Doomed k) (entry_place name) s) (entry_place other) f
      → ((other ≡ name) × (file ≡ f)) ⊎ EverAt s (entry_place other) f
  published_at other f at = elim (ever_renamed s (Doomed k) (entry_place name) (entry_place other) f at) [
    | inl new ↦ inl (one_name other name new.0, let same = sym now ∙ new.1 in cc)
    | inr old ↦ inr old
  ]

  not_before : (other : List ℕ) (f : ℕ) → file ≡ f → EverAt s (entry_place other) f → ⊥
  not_before other f same at = aside other (subst (EverAt s (entry_place other)) (sym same) at)

  once_published : IsFiledOnce s → IsFiledOnce (renamed (Doomed k) (entry_place name) s)
  once_published once m n f at also = elim (published_at m f at) [
    | inl new ↦ elim (published_at n f also) [ inl too ↦ new.0 ∙ sym too.0 | inr old ↦ absurd (not_before n f new.1 old) ]
    | inr old ↦ elim (published_at n f also) [ inl new ↦ absurd (not_before m f new.1 old) | inr too ↦ once m n f old too ]
  ]

pub publish_files_once : PublishFilesOnce
publish_files_once s k name file now aside once = once_published s k name file now aside once

pub remove_files_once : RemoveFilesOnce
remove_files_once s place = once_by s (removed place s) (λ name. ever_removed s place (entry_place name))

pub sync_files_once : SyncFilesOnce
sync_files_once s = once_by s (settled s) (λ name file at. (0, ever_settled s (entry_place name) file at))
