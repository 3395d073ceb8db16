-- What a sync takes off its notes.
use Rattle.std.specs.Prelude.{◌≡◌, ◌++◌, List, Result, Ok}
use Rattle.std.specs.Fn.{FnReturnsAt}
use denote.Ref.{Bor}
use denote.Param.Members.{Shared}
use Rattle.std.specs.List.{All}
use Rattle.std.specs.BTreeSet.{BTreeSet}

-- The keys that were taken off are the first ones, and P holds of each.
pub record TakesOff {K : Type 0} (P : K → Type 0) (before now : BTreeSet K) : Type 0 where
  pub taken : List K
  pub first : before.keys ≡ taken ++ now.keys
  pub each : All P taken

-- A call at this key succeeded, with some answer.
pub record Succeeds {F K T E : Type 0} (g : Shared F (Bor K × Unit {0}) (Result T E)) (f : F) (key : K) : Type 0 where
  pub answer : T
  pub returned : FnReturnsAt g f key (Ok answer)
