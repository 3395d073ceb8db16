-- The marks say which names commands touched.
use Rattle.std.proofs.Common.{◌≡◌, ◌⊎◌, inl, inr, ℕ, ◌-◌, ◌<◌, List, ◌++◌, length, true, ◌||◌, Some, None, refl, sym, ap, ◌∙◌, arith, length-append}
use Rattle.std.specs.List.{Any, list_any}
use Rattle.std.specs.Prelude.{Option}
use Rattle.std.specs.Str.{bytes_eq}
use Rattle.std.proofs.lemmas.Bool.{cases_lt, or_cases, or_left}
use Rattle.std.proofs.lemmas.List.{get_or-append_right, get_or_append_left}
use Rattle.std.proofs.lemmas.List.Folds.{Any-from_list_any, list_any-append, list_any-from_Any}
use Rattle.std.proofs.lemmas.Slice.Eq.{bytes_eq-Decides}
use Rattle.cache_base.specs.Checks.{first_failing}
use Rattle.cache_theory.specs.Checks.{checks}
use Rattle.cache_theory.specs.Command.{Command}
use Rattle.cache_theory.specs.Machine.{Machine}
use Rattle.cache_theory.specs.Marks.{Marks, begun, begun_by, is_touched, touches}
use Rattle.cache_theory.specs.declared.refusal.Refusal.{Refusal}
use Rattle.cache_theory.proofs.Begins.{begun_touched}
use Rattle.cache_theory.proofs.Names.{same_bytes}
use Rattle.cache_theory.proofs.Wording.WordedSteps.{IsDoneWith, IsOfCommands}

-- an element of two joined lists is one of either
pub any_either : {X : Type 0} (P : X → Type 0) (xs ys : List X) → Any P (xs ++ ys) → Any P xs ⊎ Any P ys
any_either P xs ys any = elim (cases_lt any.0 (length xs)) [
  | inl left ↦ inl (any.0, any.1, left, sym (get_or_append_left xs ys any.1 any.0 left) ∙ any.3, any.4)
  | inr right ↦
      let below : any.0 - length xs < length ys = let joined = length-append xs ys in let lt = any.2 in omega (arith, joined, lt) in
      inr (any.0 - length xs, any.1, below, sym (get_or-append_right xs ys (length xs) any.0 any.1 refl right) ∙ any.3, any.4)
]

-- the command touches the name
abbrev pub Touches : List ℕ → Machine → Command → Type 0
Touches name m c = Any (λ n. n ≡ name) (touches m c)

pub named_by : (name : List ℕ) (names : List (List ℕ)) → list_any (bytes_eq name) names ≡ true → Any (λ n. n ≡ name) names
named_by name names test = let any = Any-from_list_any (bytes_eq name) names test in (any.0, any.1, any.2, any.3, sym (same_bytes name any.1 any.4))

pub by_named : (name : List ℕ) (names : List (List ℕ)) → Any (λ n. n ≡ name) names → list_any (bytes_eq name) names ≡ true
by_named name names any = list_any-from_Any (bytes_eq name) names (any.0, any.1, any.2, any.3, (bytes_eq-Decides name any.1).1 (sym any.4))

touched_from : (name : List ℕ) (m : Machine) (c : Command) (w : Marks) (r : Option Refusal) → first_failing (checks m c) ≡ r
    → is_touched (begun_by r m c w) name ≡ true → (is_touched w name ≡ true) ⊎ IsDoneWith (Touches name) m c
touched_from name m c w (Some r) checked t = inl t
touched_from name m c w None checked t =
    let either : (list_any (bytes_eq name) (touches m c) || is_touched w name) ≡ true = sym (list_any-append (bytes_eq name) (touches m c) w.touched) ∙ t in
    elim (or_cases (list_any (bytes_eq name) (touches m c)) (is_touched w name) either) [
      | inl here ↦ inr (record { passes = checked; has = named_by name (touches m c) here })
      | inr there ↦ inl there
    ]

touched_new : (name : List ℕ) (m : Machine) (c : Command) (w : Marks) → IsDoneWith (Touches name) m c → is_touched (begun m c w) name ≡ true
touched_new name m c w done =
    ap (λ r. is_touched (begun_by r m c w) name) done.passes ∙ list_any-append (bytes_eq name) (touches m c) w.touched
    ∙ or_left (list_any (bytes_eq name) (touches m c)) (is_touched w name) (by_named name (touches m c) done.has)

pub touched_of_commands : (mark : Machine) (name : List ℕ) → IsOfCommands mark (Touches name) (λ w. is_touched w name ≡ true)
touched_of_commands mark name = record {
  from = λ m c w marked. touched_from name m c w (first_failing (checks m c)) refl;
  kept = λ m c w. begun_touched m c w name;
  new = λ m c w marked. touched_new name m c w;
}
