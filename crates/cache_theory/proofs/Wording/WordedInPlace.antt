-- The marks say where commands rewrote metadata in place.
use Rattle.std.proofs.Common.{◌≡◌, ◌⊎◌, inl, inr, ℕ, zero, suc, ◌<◌, List, [], ◌∷◌, get_or, Bool, true, false, ◌||◌, Some, None, refl, sym, ap, subst, ◌∙◌, arith}
use Rattle.std.specs.List.{Any, list_any}
use Rattle.std.specs.Prelude.{Option, if◌then◌else◌, option_map, slice_get, unwrap_or}
use Rattle.std.specs.Str.{bytes_eq}
use Rattle.std.proofs.lemmas.Bool.{or_cases, or_left}
use Rattle.std.proofs.lemmas.List.Folds.{list_any-append}
use Rattle.cache_base.specs.Checks.{first_failing}
use Rattle.cache_theory.specs.Checks.{checks}
use Rattle.cache_theory.specs.Command.{Command}
use Rattle.cache_theory.specs.Machine.{Machine, object}
use Rattle.cache_theory.specs.Marks.{Marks, begun, begun_by, is_buried, is_in_place, rewritten_in_place, unburied_name}
use Rattle.cache_theory.specs.declared.refusal.Refusal.{Refusal}
use Rattle.cache_theory.proofs.Begins.{begun_in_place}
use Rattle.cache_theory.proofs.Wording.WordedNames.{by_named, named_by}
use Rattle.cache_theory.proofs.Wording.WordedSteps.{IsDoneWith, IsOfCommands}
use Rattle.entry_name.specs.EntryName.{file_name}

-- the command rewrites the metadata of a finished object of the name that was not doomed at the mark
pub record Rewrites (mark : Machine) (name : List ℕ) (m : Machine) (c : Command) : Type 0 where
  pub number : ℕ
  pub rewrites : rewritten_in_place m c ≡ Some number
  pub named : file_name (object m number).version.key ≡ name
  pub undoomed : unwrap_or (option_map (λ o. o.doomed) (slice_get mark.objects number)) false ≡ false

only_name : (k : ℕ) (x y : List ℕ) → k < 1 → get_or (x ∷ []) k y ≡ y → x ≡ y
only_name zero x y lt is = is
only_name (suc k) x y lt is = absurd (omega arith)

-- the name of an object
from_name : (name own : List ℕ) (buried : Bool) → Any (λ n. n ≡ name) (if buried then [] else own ∷ []) → (buried ≡ false) × (own ≡ name)
from_name name own true any = absurd (let lt = any.2 in omega (arith, lt))
from_name name own false any = (refl, only_name any.0 own any.1 any.2 any.3 ∙ any.4)

to_name : (name own : List ℕ) (buried : Bool) → buried ≡ false → own ≡ name → Any (λ n. n ≡ name) (if buried then [] else own ∷ [])
to_name name own true un named = absurd (cc)
to_name name own false un named = (0, own, omega arith, refl, named)

name_from : (mark : Machine) (name : List ℕ) (m : Machine) (c : Command) (w : Marks) (o : Option ℕ) → w.marked ≡ mark
    → first_failing (checks m c) ≡ None → rewritten_in_place m c ≡ o → Any (λ n. n ≡ name) (unburied_name w m o) → IsDoneWith (Rewrites mark name) m c
name_from mark name m c w None marked passes rewrites any = absurd (let lt = any.2 in omega (arith, lt))
name_from mark name m c w (Some i) marked passes rewrites any =
    let own = from_name name (file_name (object m i).version.key) (is_buried w i) any in
    record {
      passes = passes;
      has = record {
        number = i;
        rewrites = rewrites;
        named = own.1;
        undoomed = subst (λ (n : Machine). unwrap_or (option_map (λ o. o.doomed) (slice_get n.objects i)) false ≡ false) marked own.0;
      };
    }

in_place_from : (mark : Machine) (name : List ℕ) (m : Machine) (c : Command) (w : Marks) (r : Option Refusal) → w.marked ≡ mark
    → first_failing (checks m c) ≡ r → is_in_place (begun_by r m c w) name ≡ true → (is_in_place w name ≡ true) ⊎ IsDoneWith (Rewrites mark name) m c
in_place_from mark name m c w (Some r) marked checked t = inl t
in_place_from mark name m c w None marked checked t =
    let names : List (List ℕ) = unburied_name w m (rewritten_in_place m c) in
    let either : (list_any (bytes_eq name) names || is_in_place w name) ≡ true = sym (list_any-append (bytes_eq name) names w.in_place) ∙ t in
    elim (or_cases (list_any (bytes_eq name) names) (is_in_place w name) either) [
      | inl here ↦ inr (name_from mark name m c w (rewritten_in_place m c) marked checked refl (named_by name names here))
      | inr there ↦ inl there
    ]

in_place_new : (mark : Machine) (name : List ℕ) (m : Machine) (c : Command) (w : Marks) → w.marked ≡ mark → IsDoneWith (Rewrites mark name) m c
    → is_in_place (begun m c w) name ≡ true
in_place_new mark name m c w marked done =
    let i : ℕ = done.has.number in
    let names : List (List ℕ) = unburied_name w m (rewritten_in_place m c) in
    let unburied : is_buried w i ≡ false =
    subst (λ (n : Machine). unwrap_or (option_map (λ o. o.doomed) (slice_get n.objects i)) false ≡ false) (sym marked) done.has.undoomed in
    let here : Any (λ n. n ≡ name) names =
    subst (λ o. Any (λ n. n ≡ name) (unburied_name w m o)) (sym done.has.rewrites) (to_name name (file_name (object m i).version.key) (is_buried w i) unburied done.has.named) in
    ap (λ r. is_in_place (begun_by r m c w) name) done.passes ∙ list_any-append (bytes_eq name) names w.in_place
    ∙ or_left (list_any (bytes_eq name) names) (is_in_place w name) (by_named name names here)

pub in_place_of_commands : (mark : Machine) (name : List ℕ) → IsOfCommands mark (Rewrites mark name) (λ w. is_in_place w name ≡ true)
in_place_of_commands mark name = record {
  from = λ m c w marked. in_place_from mark name m c w (first_failing (checks m c)) marked refl;
  kept = λ m c w. begun_in_place m c w name;
  new = λ m c w. in_place_new mark name m c w;
}
