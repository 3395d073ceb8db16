-- What a listing of a folder gives.
use Rattle.std.specs.Prelude.{◌≡◌, ◌⊎◌, ℕ, List, Option, Some}
use Rattle.std.specs.declared.cmp.Ordering.{Ordering}
use Rattle.std.specs.BTreeSet.{BTreeSet, insert_key}
use Rattle.std.specs.Fn.{FnReturnsAt}
use denote.Ref.{Bor}
use denote.Param.Members.{Shared}

-- some name reads as the item
pub record IsReadFrom {F T : Type 0} (g : Shared F (Bor (List ℕ) × Unit {0}) (Option T)) (f : F) (item : T) : Type 0 where
  pub name : List ℕ
  pub read : FnReturnsAt g f name (Some item)

-- the item was put among these, or they stay
abbrev pub GainsAtMost : {T : Type 0} → (T → T → Ordering) → T → BTreeSet T → BTreeSet T → Type 0
GainsAtMost cmp item before now = (now.keys ≡ before.keys) ⊎ (now.keys ≡ insert_key cmp before.keys item)
