-- What the shelf of a proper machine reads as.
use Rattle.std.proofs.Common.{◌≡◌, inl, inr, ℕ, List, [], ◌∷◌, Bool, true, false, Option, Some, None, refl, sym, ap, subst, ◌∙◌}
use Rattle.std.specs.Prelude.{IsSomeAnd, if◌then◌else◌, option_and_then}
use Rattle.std.specs.Str.{bytes_eq}
use Rattle.std.proofs.lemmas.Bool.{cases_Bool}
use Rattle.cache_theory.specs.Machine.{Machine, object, on_shelf, used_by}
use Rattle.cache_theory.specs.Proper.{IsProper}
use Rattle.cache_theory.specs.Table.{get}
use Rattle.cache_theory.proofs.ObjectLaws.Objects.{object_at}
use Rattle.chunk_store.specs.declared.damage.Damage.{Damage}
use Rattle.entry_file.specs.declared.entry_read.Unfit.{Unfit}
use Rattle.entry_file.specs.EntryFile.{by_damages, by_fault, body_in, file_fault, file_meta, read, read_for}
use Rattle.entry_file.specs.EntryFile.Reading.{Whole, Nothing}
use Rattle.entry_file.specs.Version.{IsFileOf, IsVersion, Version}
use Rattle.entry_file.proofs.EntryLaws.{file_reads_whole}
use Rattle.entry_file.proofs.WholeLaws.{reads_whole_exactly}
use Rattle.entry_metadata.specs.Metadata.{Meta}
use Rattle.entry_name.specs.EntryName.{file_name}

-- a version that is read has the key of the metadata
key_by_damages : (m : Meta) (body : List ℕ) (ds : List Damage) (v : Version) → by_damages m body ds ≡ Whole v → m.key ≡ v.key
key_by_damages m body [] v is =
    let same : ◌≡◌ {A = Version} (record { header = m.header; key = m.key; elements = m.elements; body = body }) v = cc in
    ap (λ (x : Version). x.key) same
key_by_damages m body (d ∷ ds) v is = absurd (cc)

key_by_fault : (c : List ℕ) (o : Option Unfit) (v : Version) → by_fault o c ≡ Whole v → (file_meta c).key ≡ v.key
key_by_fault c None v is = key_by_damages (file_meta c) (body_in c) _ v is
key_by_fault c (Some f) v is = absurd (cc)

pub key_read : (name c : List ℕ) (v : Version) → read name c ≡ Whole v → (file_meta c).key ≡ v.key
unfolding read
key_read name c v is = key_by_fault c (file_fault name c) v is

pub key_of_file : (v : Version) (c : List ℕ) → IsVersion v → IsFileOf v c → (file_meta c).key ≡ v.key
key_of_file v c is file = key_read (file_name v.key) c v (file_reads_whole v c is file)

-- a content with another key reads as nothing
pub other_key : (key c : List ℕ) → bytes_eq (file_meta c).key key ≡ false → read_for key (Some c) ≡ Nothing
other_key key c other = ap (λ (b : Bool). if b then read (file_name key) c else Nothing) other

pub same_key : (key c : List ℕ) → bytes_eq (file_meta c).key key ≡ true → read_for key (Some c) ≡ read (file_name key) c
same_key key c same = ap (λ (b : Bool). if b then read (file_name key) c else Nothing) same

-- what is read whole on the shelf is a version, and a file of it stands there
pub record IsShelved (m : Machine) (key : List ℕ) (v : Version) : Type 0 where
  pub version : IsVersion v
  pub named : file_name v.key ≡ file_name key
  pub file : IsSomeAnd (get m.shelf (file_name key)) (IsFileOf v)

pub whole_is_shelved : (m : Machine) (key : List ℕ) (v : Version) → IsProper m → on_shelf m key ≡ Whole v → IsShelved m key v
whole_is_shelved m key v proper is = go (get m.shelf (file_name key)) refl
  where
    content : (c : List ℕ) → get m.shelf (file_name key) ≡ Some c → read (file_name key) c ≡ Whole v → IsShelved m key v
    content c at whole =
        let parts = (reads_whole_exactly (file_name key) c v (proper.contents (file_name key) c at)).0 whole in
        record { version = parts.0; named = parts.1; file = subst (λ o. IsSomeAnd o (IsFileOf v)) (sym at) parts.2 }

    go : (o : Option (List ℕ)) → get m.shelf (file_name key) ≡ o → IsShelved m key v
    go None at = absurd (let never : Nothing ≡ Whole v = sym (ap (read_for key) at) ∙ is in cc)
    go (Some c) at = elim (cases_Bool (bytes_eq (file_meta c).key key)) [
      | inl same ↦ content c at (sym (same_key key c same) ∙ sym (ap (read_for key) at) ∙ is)
      | inr other ↦ absurd (let never : Nothing ≡ Whole v = sym (other_key key c other) ∙ sym (ap (read_for key) at) ∙ is in cc)
    ]

-- a content that stands there, and what holds of it
pub some_of : {P : List ℕ → Type 0} (o : Option (List ℕ)) → IsSomeAnd o P → (c : List ℕ) × ((o ≡ Some c) × P c)
some_of None h = absurd h
some_of (Some c) h = (c, (refl, h))

-- The object of a key.

use_if : List ℕ → Machine → ℕ → Option ℕ
use_if key m i = if bytes_eq (object m i).version.key key then Some i else None

-- an object that is used by a key is in use under its name
pub record IsUsedBy (m : Machine) (key : List ℕ) (i : ℕ) : Type 0 where
  pub at : get m.in_use (file_name key) ≡ Some i
  pub has_key : bytes_eq (object m i).version.key key ≡ true

use_if_some : (m : Machine) (key : List ℕ) (j i : ℕ) → use_if key m j ≡ Some i → (j ≡ i) × (bytes_eq (object m j).version.key key ≡ true)
unfolding use_if
use_if_some m key j i is = elim (cases_Bool (bytes_eq (object m j).version.key key)) [
  | inl same ↦
      let some : Some j ≡ Some i = sym (ap (λ (b : Bool). if b then Some j else None) same) ∙ is in
      (let e : j ≡ i = cc in e, same)
  | inr other ↦ absurd (let none : None ≡ Some i = sym (ap (λ (b : Bool). if b then Some j else None) other) ∙ is in cc)
]

pub used_by_is : (m : Machine) (key : List ℕ) (i : ℕ) → used_by m key ≡ Some i → IsUsedBy m key i
unfolding use_if
used_by_is m key i is = go (get m.in_use (file_name key)) refl
  where
    go : (o : Option ℕ) → get m.in_use (file_name key) ≡ o → IsUsedBy m key i
    go None at = absurd (let never : None ≡ Some i = sym (ap (λ o. option_and_then (use_if key m) o) at) ∙ is in cc)
    go (Some j) at =
        let parts = use_if_some m key j i (sym (ap (λ o. option_and_then (use_if key m) o) at) ∙ is) in
        record { at = at ∙ ap (λ k. Some k) parts.0; has_key = ap (λ k. bytes_eq (object m k).version.key key) (sym parts.0) ∙ parts.1 }

-- where another key's object is in use under the name, the shelf has nothing under the key
pub not_on_shelf : (m : Machine) (key : List ℕ) (j : ℕ) → IsProper m → used_by m key ≡ None → get m.in_use (file_name key) ≡ Some j → on_shelf m key ≡ Nothing
unfolding use_if
not_on_shelf m key j proper unused at =
    let none : use_if key m j ≡ None = sym (ap (λ o. option_and_then (use_if key m) o) at) ∙ unused in
    elim (cases_Bool (bytes_eq (object m j).version.key key)) [
      | inl same ↦ absurd (let some : Some j ≡ None = sym (ap (λ (b : Bool). if b then Some j else None) same) ∙ none in cc)
      | inr other ↦ elim (cases_Bool (object m j).finished) [
        | inl done ↦
            let v : Version = (object m j).version in
            let version : IsVersion v = (object_at m.objects proper.objects j (proper.user (file_name key) j at).in_use.number).version done in
            let there = some_of (get m.shelf (file_name key)) (proper.stored (file_name key) j at done) in
            ap (read_for key) there.1.0 ∙ other_key key there.0 (ap (λ k. bytes_eq k key) (key_of_file v there.0 version there.1.1) ∙ other)
        | inr un ↦ ap (read_for key) (proper.unstored (file_name key) j at un)
      ]
    ]

-- and so a version is read there only where no object is in use under the name
pub whole_is_unused : (m : Machine) (key : List ℕ) (v : Version) → IsProper m → used_by m key ≡ None → on_shelf m key ≡ Whole v → get m.in_use (file_name key) ≡ None
whole_is_unused m key v proper unused is = go (get m.in_use (file_name key)) refl
  where
    go : (o : Option ℕ) → get m.in_use (file_name key) ≡ o → get m.in_use (file_name key) ≡ None
    go None at = at
    go (Some j) at = absurd (let never : Nothing ≡ Whole v = sym (not_on_shelf m key j proper unused at) ∙ is in cc)
