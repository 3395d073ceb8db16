-- The names of a table under which a value passes a test.
use Rattle.std.proofs.Common.{◌≡◌, ℕ, List, [], ◌∷◌, map, Bool, true, false, cond, Some, None, refl, sym, ap, ◌∙◌}
use Rattle.std.specs.Prelude.{◌||◌}
use Rattle.std.specs.FinMap.{is_sorted}
use Rattle.std.specs.FinMap.Entries.{below_all}
use Rattle.std.specs.Ordering.{eq_by_cmp}
use Rattle.std.proofs.lemmas.Bool.{and_parts}
use Rattle.std.proofs.lemmas.Map.Text.{is_eq-slice_cmp}
use Rattle.cache_base.specs.Names.{has_name}
use Rattle.cache_base.specs.declared.name.Name.{Name}
use Rattle.cache_theory.specs.Table.{IsTable, Table, bytes_cmp, get, keys, name_of}
use Rattle.cache_theory.proofs.Names.{same_bytes}
use Rattle.cache_theory.proofs.ObjectLaws.WritingNames.{is_true, none_below, passes_there, passing}

module _ {X : Type 0} (passes : X → Bool) (q : Name) where
  -- one entry more at the head, which passes or not, and is under the name or not
  with_first : (e : List ℕ × X) (es : Table X) (p b : Bool) → passes e.1 ≡ p → eq_by_cmp bytes_cmp q.0 e.0 ≡ b → (b ≡ true → get es q.0 ≡ None)
      → has_name (map name_of (keys (passing passes es))) q ≡ passes_there passes (get es q.0)
      → has_name (map name_of (keys (cond p (e ∷ passing passes es) (passing passes es)))) q ≡ passes_there passes (cond b (Some e.1) (get es q.0))
  with_first e es true true p_is b_is none later = ap (λ c. c || has_name (map name_of (keys (passing passes es))) q) b_is ∙ sym p_is
  with_first e es true false p_is b_is none later = ap (λ c. c || has_name (map name_of (keys (passing passes es))) q) b_is ∙ later
  with_first e es false true p_is b_is none later = later ∙ ap (passes_there passes) (none refl) ∙ sym p_is
  with_first e es false false p_is b_is none later = later

  has_sorted : (t : Table X) → is_sorted bytes_cmp t ≡ true → has_name (map name_of (keys (passing passes t))) q ≡ passes_there passes (get t q.0)
  has_sorted [] sorted = refl
  has_sorted (e ∷ es) sorted =
      let parts = and_parts (below_all bytes_cmp e.0 es) (is_sorted bytes_cmp es) sorted in
      with_first e es (passes e.1) (eq_by_cmp bytes_cmp q.0 e.0) refl refl
      (λ here. ap (get es) (same_bytes q.0 e.0 (sym (is_eq-slice_cmp q.0 e.0) ∙ here)) ∙ none_below e.0 es parts.0)
      (has_sorted es parts.1)

  pub has_passing : (t : Table X) → IsTable t → has_name (map name_of (keys (passing passes t))) q ≡ passes_there passes (get t q.0)
  has_passing t table = has_sorted t (is_true (is_sorted bytes_cmp t) table.rising)
