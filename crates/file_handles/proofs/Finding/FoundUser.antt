-- The place of the object in use of a key, and the machine's object of the key.
use Rattle.std.proofs.Common.{◌≡◌, ◌∙◌, ℕ, List, Bool, true, false, not, Option, Some, None, IsSome, refl, sym, ap, subst}
use Rattle.std.specs.List.{position}
use Rattle.std.specs.Prelude.{if◌then◌else◌, option_and_then, option_map, unwrap_or}
use Rattle.std.specs.Str.{bytes_eq}
use Rattle.cache_base.specs.declared.name.Name.{Name}
use Rattle.cache_theory.specs.Machine.{Machine, object, used_by}
use Rattle.cache_theory.specs.Proper.{IsProper}
use Rattle.cache_theory.specs.Table.{get}
use Rattle.entry_name.specs.EntryName.{file_name}
use Rattle.handle_table.specs.Finding.{if_key, is_draft_at, is_user, is_writing, used_place}
use Rattle.handle_table.specs.Held.{is_draft, key_in}
use Rattle.handle_table.specs.Kept.{Kept}
use Rattle.handle_table.specs.Standing.{HandlesStand}
use Rattle.handle_table.specs.declared.object.Object.{Object}
use Rattle.file_handles.proofs.Setting.ElementEntries.{key_is}
use Rattle.file_handles.proofs.Setting.ElementEntries.{finished_is}
use Rattle.handle_table.proofs.User.{IsUserAt, no_user_there, user_found, user_is_used}

-- the place, where the key is this
abbrev place_if : List ℕ → List ℕ → ℕ → Option ℕ
place_if own key p = if bytes_eq own key then Some p else None

-- the object of the key is at the place
pub record IsUsedAt (k : Kept) (name : Name) (key : List ℕ) (p : ℕ) : Type 0 where
  pub user : IsUserAt k name p
  pub found : position (is_user name) k.objects ≡ Some p
  pub has_key : bytes_eq (key_in user.object.entry) key ≡ true

module _ (k : Kept) (name : Name) (key : List ℕ) where
  -- whose object is found there, of which the key is held against this one
  by_user : (p : ℕ) (there : IsUserAt k name p) → position (is_user name) k.objects ≡ Some p → used_place k name key ≡ place_if (key_in there.object.entry) key p
  by_user p there found =
      ap (λ o. option_and_then (if_key k key) o) found
      ∙ ap (λ o. option_and_then (λ (x : Object). place_if (key_in x.entry) key p) o) there.at_place

  if_some : (own : List ℕ) (p q : ℕ) → place_if own key p ≡ Some q → (p ≡ q) × (bytes_eq own key ≡ true)
  if_some own p q is = go (bytes_eq own key) refl
    where
      go : (b : Bool) → bytes_eq own key ≡ b → (p ≡ q) × (bytes_eq own key ≡ true)
      go true same = let some : Some p ≡ Some q = sym (ap (λ (b : Bool). if b then Some p else None) same) ∙ is in ((let e : p ≡ q = cc in e), same)
      go false other = absurd (let none : None ≡ Some q = sym (ap (λ (b : Bool). if b then Some p else None) other) ∙ is in cc)

  pub used_at : (q : ℕ) → used_place k name key ≡ Some q → IsUsedAt k name key q
  used_at q is = go (position (is_user name) k.objects) refl
    where
      go : (o : Option ℕ) → position (is_user name) k.objects ≡ o → IsUsedAt k name key q
      go None none = absurd (let never : None ≡ Some q = sym (ap (λ o. option_and_then (if_key k key) o) none) ∙ is in cc)
      go (Some p) found =
          let there = user_found k name p found in
          let parts = if_some (key_in there.object.entry) p q (sym (by_user p there found) ∙ is) in
          let P : ℕ → Type 0 = λ r. IsUsedAt k name key r in
          subst P parts.0 (record { user = there; found = found; has_key = parts.1 })

  module _ (m : Machine) (number : ℕ → ℕ) (proper : IsProper m) (stand : HandlesStand k m number) (named : name.0 ≡ file_name key) where
    machine_if : ℕ → Option ℕ
    machine_if i = place_if (object m i).version.key key i

    numbered_if : (b : Bool) (p : ℕ) → (if b then Some (number p) else None) ≡ option_map number (if b then Some p else None)
    numbered_if true p = refl
    numbered_if false p = refl

    at_name : (o : Option ℕ) → get m.in_use name.0 ≡ o → get m.in_use (file_name key) ≡ o
    at_name o at = ap (get m.in_use) (sym named) ∙ at

    -- the machine uses the object at the place
    pub used_same : used_by m key ≡ option_map number (used_place k name key)
    unfolding machine_if
    used_same = go (position (is_user name) k.objects) refl
      where
        go : (o : Option ℕ) → position (is_user name) k.objects ≡ o → used_by m key ≡ option_map number (used_place k name key)
        go None none =
            ap (λ o. option_and_then machine_if o) (at_name None (no_user_there k m number proper stand name none))
            ∙ ap (option_map number) (sym (ap (λ o. option_and_then (if_key k key) o) none))
        go (Some p) found =
            let there = user_found k name p found in
            let is = stand.objects p there.object there.at_place in
            ap (λ o. option_and_then machine_if o) (at_name (Some (number p)) (user_is_used k m number proper stand name p found))
            ∙ ap (λ own. place_if own key (number p)) (sym (key_is there.object.entry (object m (number p)) is.as_held.held_entry))
            ∙ numbered_if (bytes_eq (key_in there.object.entry) key) p
            ∙ ap (option_map number) (sym (by_user p there found))

    -- and whether it is being written
    pub writing_same : unwrap_or (option_map (λ i. (object m i).finished) (used_by m key)) true ≡ not (is_writing k name key)
    writing_same = ap (λ o. unwrap_or (option_map (λ i. (object m i).finished) o) true) used_same ∙ go (used_place k name key) refl
      where
        go : (o : Option ℕ) → used_place k name key ≡ o → unwrap_or (option_map (λ i. (object m i).finished) (option_map number o)) true ≡ not (unwrap_or (option_map (is_draft_at k) o) false)
        go None is = refl
        go (Some p) is =
            let there = (used_at p is).user in
            finished_is there.object.entry (object m (number p)) (stand.objects p there.object there.at_place).as_held.held_entry
            ∙ ap (λ o. not (unwrap_or (option_map (λ (x : Object). is_draft x.entry) o) false)) (sym there.at_place)

    -- so where no place is found the machine has none in use
    pub unused_same : used_place k name key ≡ None → IsSome (used_by m key) → ⊥
    unused_same none some = go (used_by m key) (used_same ∙ ap (option_map number) none) some
      where
        go : (o : Option ℕ) → o ≡ None → IsSome o → ⊥
        go None e some = cc
        go (Some i) e some = cc
