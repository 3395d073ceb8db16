-- Among the names of all entry files are those under which a file stands.
use Rattle.std.proofs.Common.{◌≡◌, Bool, true, false, List, filter, refl, sym, ap, subst, ◌∙◌}
use Rattle.std.specs.List.{list_any}
use Rattle.std.specs.Prelude.{IsSome, not, ◌==◌, ◌||◌}
use Rattle.std.proofs.lemmas.List.Elements.{filter_agree}
use Rattle.std.proofs.lemmas.List.Folds.{Any-from_list_any, list_any_at}
use Rattle.cache_base.specs.Names.{has_name}
use Rattle.cache_base.specs.declared.name.Name.{Name}
use Rattle.cache_store.specs.Clearing.{is_used_or_stands, is_user_or_among}
use Rattle.cache_store.specs.Evicting.{has_file}
use Rattle.handle_table.specs.Kept.{Kept}
use Rattle.handle_table.specs.Users.{users_of}
use Rattle.disk_theory.specs.Listing.{AreEntries}
use Rattle.disk_theory.specs.State.{State, standing}
use Rattle.disk_theory.specs.declared.place.Place.TheVariants.{Entry}
use Rattle.record_list.specs.Lists.{same_name}
use Rattle.record_list.proofs.NameLaws.{found_same, same_is, same_itself}

module _ (s : State) (entries : List Name) (are : AreEntries s entries) where
  listed : (name : Name) → list_any (same_name name) entries ≡ true → IsSome (standing s (Entry name))
  listed name any =
      let found = Any-from_list_any (same_name name) entries any in
      subst (λ (n : Name). IsSome (standing s (Entry n))) (sym (same_is name found.1 found.4)) ((are found.1).0 (found.0, found.2, found.3))

  found : (name : Name) → IsSome (standing s (Entry name)) → list_any (same_name name) entries ≡ true
  found name stands =
      let has = (are name).1 stands in
      list_any_at (same_name name) entries has.0 name has.1 (ap (same_name name) has.2 ∙ same_itself name)

  is_listed : (name : Name) → has_name entries name ≡ has_file s name
  is_listed name = found_same name entries ∙ go (list_any (same_name name) entries) refl (has_file s name) refl
    where
      go : (a : Bool) → list_any (same_name name) entries ≡ a → (b : Bool) → has_file s name ≡ b → a ≡ b
      go true any true stands = refl
      go true any false none = absurd (let some = listed name any in cc)
      go false none true stands = absurd (let some = found name stands in cc)
      go false any false none = refl

  pub those_with_files : (names : List Name) → filter (has_name entries) names ≡ filter (has_file s) names
  those_with_files names = filter_agree (has_name entries) (has_file s) is_listed names

  -- and those that an entry in use has
  pub those_held : (k : Kept) (names : List Name) → filter (is_user_or_among k entries) names ≡ filter (is_used_or_stands k s) names
  those_held k names = filter_agree (is_user_or_among k entries) (is_used_or_stands k s) (λ name. ap (λ b. not (users_of k name == 0) || b) (is_listed name)) names
