-- Which slots use which places, by the tables alone.
use Rattle.std.specs.List.{list_any}
use Rattle.std.specs.Option.{ForSome}
use Rattle.std.specs.Prelude.{Bool, IsSome, List, None, Option, false, option_and_then, option_map, slice_get, true, unwrap_or, ℕ, ◌==◌, ◌<◌, ◌≡◌}
use Rattle.cache_base.specs.declared.limits.TheConstants.{SLOTS}
use Rattle.handle_table.specs.declared.object.Object.{Object}
use Rattle.handle_table.specs.declared.object.Use.{Use}

-- the use is of this place
abbrev pub is_use_of : ℕ → Option Use → Bool
is_use_of p u = unwrap_or (option_map (λ v. v.place == p) u) false

-- a file that stands aside has a number that is less than the number of slots
abbrev pub IsLow : Option ℕ → Type 0
IsLow aside = ForSome aside (λ number. number < SLOTS)

-- that is so of the file of each object
abbrev pub AreLow : List (Option Object) → Type 0
AreLow objects =
    (p : ℕ) → IsLow (option_and_then (λ x. x.aside) (unwrap_or (slice_get objects p) None))

-- each object has a slot that uses it
abbrev pub AreUsed : List (Option Object) → List (Option Use) → Type 0
AreUsed objects slots =
    (p : ℕ) → IsSome (unwrap_or (slice_get objects p) None) → list_any (is_use_of p) slots ≡ true
