-- Where nothing stands under a name and no object of it is in use, there is nothing to doom.
use Rattle.std.proofs.Common.{◌≡◌, ℕ, Bool, true, false, cond, List, [], ◌∷◌, None, filter, refl, sym, ap, ◌∙◌}
use Rattle.std.specs.List.{AllByRecursion}
use Rattle.cache_base.specs.declared.name.Name.{Name}
use Rattle.cache_theory.specs.Machine.{Machine}
use Rattle.cache_theory.specs.Proper.{IsProper}
use Rattle.cache_theory.specs.Step.{all_doomed, doomed_at, doomed_under, without}
use Rattle.cache_theory.specs.Table.{IsTable, Table, get, remove}
use Rattle.cache_theory.proofs.ObjectLaws.Dooming.{proper_doomed_under}
use Rattle.cache_theory.proofs.Evictions.Evicting.{all_weaker, none_after, same_after}
use Rattle.cache_theory.proofs.TableLaws.{remove_is_table, same_table}

remove_none : {X : Type 0} (t : Table X) (name : List ℕ) → IsTable t → get t name ≡ None → remove t name ≡ t
remove_none t name is none = same_table (remove t name) t (remove_is_table t name is) is (λ q. same_after t name q none)

nothing_doomed : (m : Machine) (name : List ℕ) → IsProper m → m.rest ≡ [] → get m.shelf name ≡ None → get m.in_use name ≡ None → doomed_under m name ≡ m
nothing_doomed m name proper ended none unused =
    let shelf = remove_none m.shelf name proper.shelf none in
    let users = remove_none m.in_use name proper.users unused in
    let objects = ap (doomed_at m.objects) unused in
    let rest : without name m.rest ≡ m.rest = ap (without name) ended ∙ sym ended in
    λ i. record m { shelf = shelf i; in_use = users i; objects = objects i; rest = rest i }

module _ (stands : Name → Bool) where
  -- where nothing stands, the shelf has nothing under the name, and no object of it is in use
  abbrev pub IsBare : Machine → Name → Type 0
  IsBare m name = stands name ≡ false → (get m.shelf name.0 ≡ None) × (get m.in_use name.0 ≡ None)

  bare_on : (m : Machine) (gone : List ℕ) (names : List Name) → AllByRecursion (IsBare m) names → AllByRecursion (IsBare (doomed_under m gone)) names
  bare_on m gone names bare =
      all_weaker (IsBare m) (IsBare (doomed_under m gone)) names
      (λ n is none. (none_after m.shelf gone n.0 (is none).0, none_after m.in_use gone n.0 (is none).1)) bare

  first_doomed : (m : Machine) (n : Name) (names kept : List Name) → IsProper m → m.rest ≡ [] → IsBare m n
      → all_doomed (doomed_under m n.0) kept ≡ all_doomed (doomed_under m n.0) names → all_doomed m kept ≡ all_doomed m names
      → (b : Bool) → stands n ≡ b → all_doomed m (cond b (n ∷ kept) kept) ≡ all_doomed m (n ∷ names)
  first_doomed m n names kept proper ended bare gone left true e = gone
  first_doomed m n names kept proper ended bare gone left false e =
      left ∙ ap (λ k. all_doomed k names) (sym (nothing_doomed m n.0 proper ended (bare e).0 (bare e).1))

  -- so only those that stand are doomed
  pub those_standing : (m : Machine) (names : List Name) → IsProper m → m.rest ≡ [] → AllByRecursion (IsBare m) names
      → all_doomed m (filter stands names) ≡ all_doomed m names
  those_standing m [] proper ended bare = refl
  those_standing m (n ∷ names) proper ended bare =
      first_doomed m n names (filter stands names) proper ended bare.0
      (those_standing (doomed_under m n.0) names (proper_doomed_under m n.0 proper) (ap (without n.0) ended) (bare_on m n.0 names bare.1))
      (those_standing m names proper ended bare.1) (stands n) refl
