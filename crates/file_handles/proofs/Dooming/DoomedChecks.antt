-- How the checks of a `doom` end.
use Rattle.std.proofs.Common.{◌≡◌, ℕ, List, [], ◌∷◌, Bool, true, false, Option, Some, None, is_some, Result, Ok, Err, IsErrAnd, refl, sym, ap, ◌∙◌}
use Rattle.std.specs.Prelude.{if◌then◌else◌, option_map, ◌||◌}
use Rattle.std.specs.Cmp.Lexicographic.{bytes_decides}
use Rattle.std.proofs.lemmas.Bool.{or_right}
use Rattle.cache_base.specs.Checks.{first_failing}
use Rattle.cache_base.specs.declared.name.Name.{Name}
use Rattle.cache_theory.specs.Checks.{checks}
use Rattle.cache_theory.specs.Command.Command.{Doom}
use Rattle.cache_theory.specs.Ever.{entries}
use Rattle.cache_theory.specs.Machine.{Machine, is_entry, on_shelf, used_by}
use Rattle.cache_theory.specs.declared.refusal.Refusal.{Refusal}
use Rattle.cache_theory.specs.declared.refusal.Refusal.TheVariants as refused
use Rattle.chunk_store.specs.declared.damage.Damage.{Damage}
use Rattle.disk_theory.specs.State.{State, standing}
use Rattle.disk_theory.specs.declared.place.Place.TheVariants.{Entry}
use Rattle.entry_file.specs.EntryFile.{by_damages, by_fault, file_fault, file_meta, read, read_for}
use Rattle.entry_file.specs.EntryFile.Reading.{Nothing}
use Rattle.entry_file.proofs.FitLaws.{none_of}
use Rattle.entry_key.specs.Writing.{may_write}
use Rattle.entry_metadata.specs.Metadata.{Meta as Said}
use Rattle.entry_metadata.specs.declared.meta.Meta.{Meta}
use Rattle.entry_name.specs.EntryName.{file_name}
use Rattle.file_handles.specs.Answers.{OnRefused}
use Rattle.file_handles.specs.Cache.{cache_at}
use Rattle.file_handles.specs.Dooming.{EndsOn}
use Rattle.handle_table.specs.Kept.{Kept}
use Rattle.handle_table.specs.Finding.{used_place}
use Rattle.file_handles.specs.Loading.{IsMetaFor}
use Rattle.file_handles.specs.Stands.{Stands}
use Rattle.file_handles.specs.declared.fault.HandleFault.{HandleFault}
use Rattle.file_handles.specs.declared.fault.HandleFault.TheVariants as fault
use Rattle.file_handles.proofs.Finding.FoundShelf.{shelf_read}
use Rattle.file_handles.proofs.Finding.FoundUser.{used_same}

-- the checks, with what they test
unfoldable pub ended : Bool → Bool → Option Refusal
ended good some = first_failing ((good, refused.BadKey) ∷ (some, refused.Absent) ∷ [])

pub doom_checks : (m : Machine) (key : List ℕ) → first_failing (checks m (Doom key)) ≡ ended (may_write key) (is_some (used_by m key) || is_entry (on_shelf m key))
unfolding checks ended
doom_checks m key = refl

pub doom_bad_key : (s : State) (k : Kept) (key : List ℕ) → may_write key ≡ false → EndsOn (cache_at k s) (Doom key) (Some refused.BadKey)
unfolding ended
doom_bad_key s k key bad m stand = doom_checks m key ∙ ap (λ b. ended b (is_some (used_by m key) || is_entry (on_shelf m key))) bad

damaged_is_entry : (m : Said) (body : List ℕ) (ds : List Damage) → is_entry (by_damages m body ds) ≡ true
damaged_is_entry m body [] = refl
damaged_is_entry m body (d ∷ ds) = refl

-- a file of the key is an entry, even if it is damaged
meta_is_entry : (key : List ℕ) (o : Option (List ℕ)) (meta : Meta) → IsMetaFor key o meta → is_entry (read_for key o) ≡ true
unfolding read
meta_is_entry key None meta is = absurd is
meta_is_entry key (Some c) meta is =
    ap (λ (b : Bool). is_entry (if b then read (file_name key) c else Nothing)) ((bytes_decides (file_meta c).key key).1 is.1.0)
    ∙ ap (λ o. is_entry (by_fault o c)) (none_of (file_fault (file_name key) c) is.0)
    ∙ damaged_is_entry (file_meta c) _ _

module _ (s : State) (k : Kept) (key : List ℕ) (name : Name) (named : name.0 ≡ file_name key) (good : may_write key ≡ true) where
  ends_by : (a b : Bool) (m : Machine) → is_some (used_by m key) ≡ a → is_entry (on_shelf m key) ≡ b → first_failing (checks m (Doom key)) ≡ ended true (a || b)
  ends_by a b m used shelved = doom_checks m key ∙ (λ i. ended (good i) (used i || shelved i))

  -- what stands reads as the shelf does
  read_same : (m : Machine) (number : ℕ → ℕ) → Stands (standing s) k m number → is_entry (on_shelf m key) ≡ is_entry (read_for key (standing s (Entry name)))
  read_same m number stands = ap is_entry (sym (ap (λ n. read_for key (entries (standing s) n)) named ∙ shelf_read (standing s) m stands.entries key))

  mapped : (number : ℕ → ℕ) (o : Option ℕ) → is_some (option_map number o) ≡ is_some o
  mapped number None = refl
  mapped number (Some p) = refl

  used_as : (m : Machine) (number : ℕ → ℕ) → Stands (standing s) k m number → is_some (used_by m key) ≡ is_some (used_place k name key)
  used_as m number stands = ap is_some (used_same k name key m number stands.proper stands.handles named) ∙ mapped number (used_place k name key)

  pub doom_absent : is_some (used_place k name key) ≡ false → is_entry (read_for key (standing s (Entry name))) ≡ false → EndsOn (cache_at k s) (Doom key) (Some refused.Absent)
  unfolding ended
  doom_absent unused nothing m (number, stands) = ends_by false false m (used_as m number stands ∙ unused) (read_same m number stands ∙ nothing)

  pub doom_used : is_some (used_place k name key) ≡ true → EndsOn (cache_at k s) (Doom key) None
  unfolding ended
  doom_used used m (number, stands) = ends_by true (is_entry (on_shelf m key)) m (used_as m number stands ∙ used) refl

  pub doom_read : (meta : Meta) → IsMetaFor key (standing s (Entry name)) meta → EndsOn (cache_at k s) (Doom key) None
  unfolding ended
  doom_read meta is m (number, stands) =
      ends_by (is_some (used_by m key)) true m refl (read_same m number stands ∙ meta_is_entry key (standing s (Entry name)) meta is)
      ∙ ap (λ b. ended true b) (or_right (is_some (used_by m key)) true refl)

-- a refusal that was handed on
pub refused_on : {T : Type 0} (r : Result T HandleFault) (f : HandleFault) (P : Refusal → Type 0) → IsErrAnd r (λ e. e ≡ f) → ((refusal : Refusal) → f ≡ fault.Refused refusal → P refusal) → OnRefused r P
refused_on (Ok value) f P is each = tt
refused_on (Err e) f P is each = λ refusal same. each refusal (sym is ∙ same)
