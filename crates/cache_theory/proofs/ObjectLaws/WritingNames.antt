-- The names that are being written rise, and are those of the unfinished objects in use.
use Rattle.std.proofs.Common.{◌≡◌, inl, inr, ℕ, List, [], ◌∷◌, filter, Bool, true, false, cond, not, Option, Some, None, T, refl, sym, ap, subst, ◌∙◌}
use Rattle.std.specs.FinMap.{is_sorted}
use Rattle.std.specs.FinMap.Entries.{below_all}
use Rattle.std.specs.Ordering.{eq_by_cmp, is_eq, is_lt}
use Rattle.std.specs.Prelude.{is_some, option_map, unwrap_or}
use Rattle.std.specs.declared.cmp.Ordering.{Ordering}
use Rattle.std.specs.declared.cmp.Ordering.TheVariants.{Less, Equal, Greater}
use Rattle.std.proofs.lemmas.Bool.{and_from, and_parts, cases_Bool}
use Rattle.std.proofs.lemmas.Map.Text.{is_eq-slice_cmp}
use Rattle.cache_base.specs.Names.{has_name}
use Rattle.cache_base.specs.declared.name.Name.{Name}
use Rattle.cache_theory.specs.Machine.{Machine, object, writing_names}
use Rattle.cache_theory.specs.Table.{IsTable, Table, bytes_cmp, get}
use Rattle.cache_check.proofs.FoundExactly.{has_key}
use Rattle.cache_theory.proofs.Names.{same_bytes}

pub is_true : (b : Bool) → T b → b ≡ true
is_true true h = refl
is_true false h = absurd h

pub less_apart : (o : Ordering) → is_lt o ≡ true → is_eq o ≡ false
less_apart Less less = refl
less_apart Equal less = absurd (cc)
less_apart Greater less = absurd (cc)

-- a name below all of a table has nothing there
pub none_below : {X : Type 0} (name : List ℕ) (t : Table X) → below_all bytes_cmp name t ≡ true → get t name ≡ None
none_below name [] below = refl
none_below name (e ∷ es) below =
    let parts = and_parts (is_lt (bytes_cmp name e.0)) (below_all bytes_cmp name es) below in
    ap (λ b. cond b (Some e.1) (get es name)) (less_apart (bytes_cmp name e.0) parts.0) ∙ none_below name es parts.1

-- The entries of a table whose values pass a test.

module _ {X : Type 0} (passes : X → Bool) where
  abbrev pub passing : Table X → Table X
  passing t = filter (λ e. passes e.1) t

  below_passing : (name : List ℕ) (t : Table X) → below_all bytes_cmp name t ≡ true
      → below_all bytes_cmp name (passing t) ≡ true
  below_passing name [] below = refl
  below_passing name (e ∷ es) below =
      let parts = and_parts (is_lt (bytes_cmp name e.0)) (below_all bytes_cmp name es) below in
      let later = below_passing name es parts.1 in
      elim (passes e.1) as (λ b. below_all bytes_cmp name (cond b (e ∷ passing es) (passing es)) ≡ true) [
        | true ↦ and_from (is_lt (bytes_cmp name e.0)) (below_all bytes_cmp name (passing es)) parts.0 later
        | false ↦ later
      ]

  sorted_passing : (t : Table X) → is_sorted bytes_cmp t ≡ true → is_sorted bytes_cmp (passing t) ≡ true
  sorted_passing [] sorted = refl
  sorted_passing (e ∷ es) sorted =
      let parts = and_parts (below_all bytes_cmp e.0 es) (is_sorted bytes_cmp es) sorted in
      let below = below_passing e.0 es parts.0 in
      let later = sorted_passing es parts.1 in
      elim (passes e.1) as (λ b. is_sorted bytes_cmp (cond b (e ∷ passing es) (passing es)) ≡ true) [
        | true ↦ and_from (below_all bytes_cmp e.0 (passing es)) (is_sorted bytes_cmp (passing es)) below later
        | false ↦ later
      ]

  pub passing_is_table : (t : Table X) → IsTable t → IsTable (passing t)
  passing_is_table t table = record {
    rising = subst T (sym (sorted_passing t (is_true (is_sorted bytes_cmp t) table.rising))) tt;
  }

  -- what is there passes
  abbrev pub passes_there : Option X → Bool
  passes_there o = unwrap_or (option_map passes o) false

  at_first : (b : Bool) (e : List ℕ × X) (es : Table X) (name : List ℕ) → eq_by_cmp bytes_cmp name e.0 ≡ true
      → is_some (get (passing es) name) ≡ false
      → is_some (get (cond b (e ∷ passing es) (passing es)) name) ≡ b
  at_first true e es name here later = ap (λ s. is_some (cond s (Some e.1) (get (passing es) name))) here
  at_first false e es name here later = later

  past_first : (b : Bool) (e : List ℕ × X) (es : Table X) (name : List ℕ) → eq_by_cmp bytes_cmp name e.0 ≡ false
      → is_some (get (cond b (e ∷ passing es) (passing es)) name) ≡ is_some (get (passing es) name)
  past_first true e es name other = ap (λ s. is_some (cond s (Some e.1) (get (passing es) name))) other
  past_first false e es name other = refl

  some_passing : (t : Table X) → is_sorted bytes_cmp t ≡ true → (name : List ℕ)
      → is_some (get (passing t) name) ≡ passes_there (get t name)
  some_passing [] sorted name = refl
  some_passing (e ∷ es) sorted name =
      let parts = and_parts (below_all bytes_cmp e.0 es) (is_sorted bytes_cmp es) sorted in
      let later = some_passing es parts.1 name in
      elim (cases_Bool (eq_by_cmp bytes_cmp name e.0)) [
        | inl here ↦
            let one : name ≡ e.0 = same_bytes name e.0 (sym (is_eq-slice_cmp name e.0) ∙ here) in
            let none : get es name ≡ None =
            none_below name es (subst (λ n. below_all bytes_cmp n es ≡ true) (sym one) parts.0) in
            at_first (passes e.1) e es name here (later ∙ ap passes_there none)
            ∙ sym (ap (λ s. passes_there (cond s (Some e.1) (get es name))) here)
        | inr other ↦
            past_first (passes e.1) e es name other ∙ later
            ∙ sym (ap (λ s. passes_there (cond s (Some e.1) (get es name))) other)
      ]

-- an object in use is still being written
abbrev pub is_unfinished : Machine → ℕ → Bool
is_unfinished m i = not (object m i).finished

pub has_writing : (m : Machine) → IsTable m.in_use → (name : Name)
    → has_name (writing_names m) name ≡ passes_there (is_unfinished m) (get m.in_use name.0)
has_writing m table name =
    has_key (passing (is_unfinished m) m.in_use) name
    ∙ some_passing (is_unfinished m) m.in_use (is_true (is_sorted bytes_cmp m.in_use) table.rising) name.0
