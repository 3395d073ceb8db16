-- What stands at the place of a key, by what was read there.
use Rattle.std.proofs.Common.{inl, inr, ◌≡◌, ◌≢◌, ◌∙◌, ℕ, List, Bool, true, false, Option, Some, None, refl, sym, ap, subst}
use Rattle.std.specs.Prelude.{is_none, if◌then◌else◌}
use Rattle.std.specs.Str.{bytes_eq}
use Rattle.std.specs.Cmp.Lexicographic.{bytes_decides}
use Rattle.std.proofs.lemmas.Bool.{cases_Bool}
use Rattle.cache_theory.specs.Machine.{is_entry}
use Rattle.cache_theory.specs.declared.refusal.Refusal.{Refusal}
use Rattle.cache_theory.specs.declared.refusal.Refusal.TheVariants as refused
use Rattle.entry_file.specs.EntryFile.{by_fault, file_fault, file_meta, fits, read as reading, read_for}
use Rattle.entry_file.specs.EntryFile.Reading.{Nothing}
use Rattle.entry_file.specs.EntryRead.{ReadsAs}
use Rattle.entry_file.specs.declared.entry_read.EntryRead.{EntryRead}
use Rattle.entry_file.specs.declared.entry_read.EntryRead.TheVariants as read
use Rattle.entry_file.specs.declared.entry_read.Unfit.{Unfit}
use Rattle.entry_metadata.specs.Metadata.{Meta as Said}
use Rattle.entry_metadata.specs.declared.meta.Meta.{Meta}
use Rattle.entry_name.specs.EntryName.{file_name}
use Rattle.file_handles.specs.Loading.{IsMetaFor}
use Rattle.file_handles.specs.declared.fault.HandleFault.TheVariants as fault

read_if : (key c : List ℕ) (e : Bool) → bytes_eq (file_meta c).key key ≡ e → read_for key (Some c) ≡ (if e then reading (file_name key) c else Nothing)
read_if key c e same = ap (λ (x : Bool). if x then reading (file_name key) c else Nothing) same

pub reads_nothing : (name c : List ℕ) (f : Unfit) → file_fault name c ≡ Some f → reading name c ≡ Nothing
unfolding reading
reads_nothing name c f is = ap (λ (o : Option Unfit). by_fault o c) is

-- a file that does not fit, and one of another key
pub unfit_reads : (key c : List ℕ) (f : Unfit) → file_fault (file_name key) c ≡ Some f → read_for key (Some c) ≡ Nothing
unfit_reads key c f is = elim (cases_Bool (bytes_eq (file_meta c).key key)) [
  | inl same ↦ read_if key c true same ∙ reads_nothing (file_name key) c f is
  | inr other ↦ read_if key c false other
]

other_reads : (key c : List ℕ) → (file_meta c).key ≢ key → read_for key (Some c) ≡ Nothing
other_reads key c other = elim (cases_Bool (bytes_eq (file_meta c).key key)) [
  | inl same ↦ absurd (other ((bytes_decides (file_meta c).key key).0 same))
  | inr apart ↦ read_if key c false apart
]

-- of what stands at a place of a key whose name this is
module _ (key name : List ℕ) (content : Option (List ℕ)) (named : name ≡ file_name key) where
  pub absent_reads : ReadsAs name content read.Absent → read_for key content ≡ Nothing
  absent_reads reads = go content reads
    where
      go : (o : Option (List ℕ)) → ReadsAs name o read.Absent → read_for key o ≡ Nothing
      go None is = refl
      go (Some c) is = absurd is

  pub unfit_is_none : (f : Unfit) → ReadsAs name content (read.Unfit f) → read_for key content ≡ Nothing
  unfit_is_none f reads = go content reads
    where
      go : (o : Option (List ℕ)) → ReadsAs name o (read.Unfit f) → read_for key o ≡ Nothing
      go None is = absurd is
      go (Some c) is = unfit_reads key c f (let P : List ℕ → Type 0 = λ n. file_fault n c ≡ Some f in subst P named is)

  module _ (meta : Meta) (size : ℕ) (reads : ReadsAs name content (read.Fits meta size)) where
    pub other_is_none : meta.key ≢ key → read_for key content ≡ Nothing
    other_is_none other = go content reads
      where
        go : (o : Option (List ℕ)) → ReadsAs name o (read.Fits meta size) → read_for key o ≡ Nothing
        go None is = absurd is
        go (Some c) is = other_reads key c (λ same. other (ap (λ (m : Said). m.key) is.1 ∙ same))

    pub fit_is_meta : meta.key ≡ key → IsMetaFor key content meta
    fit_is_meta same = go content reads
      where
        go : (o : Option (List ℕ)) → ReadsAs name o (read.Fits meta size) → IsMetaFor key o meta
        go None is = absurd is
        go (Some c) is = (
          let P : List ℕ → Type 0 = λ n. fits n c ≡ true in subst P named (ap is_none is.0),
          (sym (ap (λ (m : Said). m.key) is.1) ∙ same, is.1),
        )

-- what was read is none of this key's
pub reads_none : (key : List ℕ) (content : Option (List ℕ)) → read_for key content ≡ Nothing → is_entry (read_for key content) ≡ false
reads_none key content is = ap is_entry is

-- what was read is no file that fits
pub not_fits_is_none : (key name : List ℕ) (content : Option (List ℕ)) (named : name ≡ file_name key) (r : EntryRead) → ((meta : Meta) (size : ℕ) → r ≡ read.Fits meta size → ⊥)
    → ReadsAs name content r → read_for key content ≡ Nothing
not_fits_is_none key name content named read.Absent other reads = absent_reads key name content named reads
not_fits_is_none key name content named (read.Unfit f) other reads = unfit_is_none key name content named f reads
not_fits_is_none key name content named (read.Fits meta size) other reads = absurd (other meta size refl)

-- what a test of two keys says, of which the first was lent
pub keys_apart : (lent key own : List ℕ) (r : Bool) → r ≡ bytes_eq lent key → r ≡ false → lent ≡ own → own ≢ key
keys_apart lent key own r is set e same = let equal : bytes_eq lent key ≡ true = (bytes_decides lent key).1 (e ∙ same) in cc

pub keys_same : (lent key own : List ℕ) (r : Bool) → r ≡ bytes_eq lent key → r ≡ true → lent ≡ own → own ≡ key
keys_same lent key own r is set e = sym e ∙ (bytes_decides lent key).0 (sym is ∙ set)

-- the one refusal, with what holds there
pub absent_with : (P : Type 0) → P → (refusal : Refusal) → fault.Refused refused.Absent ≡ fault.Refused refusal → (refusal ≡ refused.Absent) × P
absent_with P p refusal is = let e : refused.Absent ≡ refusal = cc in (sym e, p)
