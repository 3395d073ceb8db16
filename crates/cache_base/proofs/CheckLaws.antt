-- Rows of checks, none of which fails.
use Rattle.std.proofs.Common.{◌≡◌, List, [], ◌∷◌, Bool, true, false, cond, refl, ap, ◌∙◌}
use Rattle.std.specs.Prelude.{Option, None, Some, option_map}
use Rattle.std.specs.List.{AllByRecursion}
use Rattle.cache_base.specs.Checks.{first_failing}

-- every check of the rows holds
abbrev pub AllHold : {F : Type 0} → List (Bool × F) → Type 0
AllHold rows = AllByRecursion (λ row. row.0 ≡ true) rows

-- then no check fails
pub none_fails : {F : Type 0} (rows : List (Bool × F)) → AllHold rows → first_failing rows ≡ None
none_fails [] h = refl
none_fails (row ∷ rows) h = ap (λ b. cond b (first_failing rows) (Some row.1)) h.0 ∙ none_fails rows h.1

-- where no check fails, the first holds, and none of the rest fails
row_holds : {F : Type 0} (row : Bool × F) (rest : Option F) → cond row.0 rest (Some row.1) ≡ None → (row.0 ≡ true) × (rest ≡ None)
row_holds row rest h = go row.0 refl h
  where
    go : (b : Bool) → row.0 ≡ b → cond b rest (Some row.1) ≡ None → (row.0 ≡ true) × (rest ≡ None)
    go true e h = (e, h)
    go false e h = absurd (cc)

-- and so each holds
pub all_hold : {F : Type 0} (rows : List (Bool × F)) → first_failing rows ≡ None → AllHold rows
all_hold [] h = tt
all_hold (row ∷ rows) h = let parts = row_holds row (first_failing rows) h in (parts.0, all_hold rows parts.1)

-- what is none after it is mapped was none
pub none_from_map : {E F : Type 0} (f : E → F) (o : Option E) → option_map f o ≡ None → o ≡ None
none_from_map f None h = refl
none_from_map f (Some e) h = absurd (cc)
