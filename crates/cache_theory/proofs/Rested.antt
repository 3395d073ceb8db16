-- A machine whose update of the index has read other names, and one whose names were doomed one after another.
use Rattle.std.proofs.Common.{ℕ, List, [], ◌∷◌, None, Option, refl, arith}
use Rattle.cache_base.specs.declared.name.Name.{Name}
use Rattle.cache_theory.specs.Machine.{Machine}
use Rattle.cache_theory.specs.Proper.{IsInUse, IsProper}
use Rattle.cache_theory.specs.Step.{all_doomed, cleared_of, doomed_under, unmarked, update_ended}
use Rattle.cache_theory.proofs.ObjectLaws.Dooming.{proper_doomed_under}
use Rattle.cache_theory.proofs.ObjectLaws.Users.{in_use_along, user_along}

abbrev pub with_rest : Machine → List (List ℕ) → Machine
with_rest m rest = record m { rest = rest }

module _ (m : Machine) (rest : List (List ℕ)) (mark : Option (List ℕ)) where
  -- with another rest and another mark
  abbrev set : Machine
  set = record m { rest = rest; mark = mark }

  use_on : (i : ℕ) → IsInUse m i → IsInUse set i
  use_on i u = in_use_along m set i (omega arith) (λ h. h) u

  use_off : (i : ℕ) → IsInUse set i → IsInUse m i
  use_off i u = in_use_along set m i (omega arith) (λ h. h) u

  proper_set : IsProper m → IsProper set
  proper_set proper = record {
    moment = proper.moment;
    shelf = proper.shelf;
    users = proper.users;
    contents = proper.contents;
    objects = proper.objects;
    slots = proper.slots;
    user = λ name i at.
        user_along m set name i (use_on i) refl refl (proper.user name i at);
    only_user = λ name i u.
        proper.only_user name i (user_along set m name i (use_off i) refl refl u);
    stored = proper.stored;
    unstored = proper.unstored;
    writer = λ i u un. proper.writer i (use_off i u) un;
  }

pub proper_rested : (m : Machine) (rest : List (List ℕ)) → IsProper m → IsProper (with_rest m rest)
proper_rested m rest proper = proper_set m rest m.mark proper

pub proper_unmarked : (m : Machine) → IsProper m → IsProper (unmarked m)
proper_unmarked m proper = proper_set m m.rest None proper

pub proper_all_doomed : (m : Machine) (names : List Name) → IsProper m → IsProper (all_doomed m names)
proper_all_doomed m [] proper = proper
proper_all_doomed m (name ∷ names) proper =
    proper_all_doomed (doomed_under m name.0) names (proper_doomed_under m name.0 proper)

pub proper_cleared : (m : Machine) (names : List Name) → IsProper m → IsProper (cleared_of m names)
proper_cleared m names proper = proper_all_doomed (update_ended (unmarked m)) names (proper_set m [] None proper)
