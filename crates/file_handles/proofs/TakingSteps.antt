-- Files of entries that are taken away by steps on names alone: by none, by one, and by some after others.
use Rattle.std.proofs.Common.{◌≡◌, ◌∙◌, ◌++◌, inl, inr, ℕ, List, [], ◌∷◌, Result, Ok, Err, refl, sym, ap, subst, append_assoc}
use Rattle.std.specs.List.{AllByRecursion}
use Rattle.cache_base.specs.declared.name.Name.{Name}
use Rattle.disk_theory.specs.Calls.{if_done}
use Rattle.disk_theory.specs.State.{State, removed, renamed}
use Rattle.disk_theory.specs.declared.disk.DiskFault.{DiskFault}
use Rattle.disk_theory.specs.declared.disk.DiskFault.TheVariants.{Failed, Memory}
use Rattle.disk_theory.specs.declared.place.NameStep.{NameStep}
use Rattle.disk_theory.specs.declared.place.NameStep.TheVariants.{Create, Remove, Rename}
use Rattle.disk_theory.specs.declared.place.Place.{Place}
use Rattle.disk_theory.specs.declared.place.Place.TheVariants.{Clear, Doomed, Entry, Index, Log, Tmp}
use Rattle.doom_area.specs.DoomArea.{IsLeastFree}
use Rattle.file_handles.specs.Dooming.{IsTaking, IsTakingOf, TakesEntries, TakesEntry, TakesInOrder}
use Rattle.file_handles.proofs.Dooming.DoomedUser.{least_free}

-- nothing done takes no entry
pub takes_none : (s : State) → TakesEntries s s
takes_none s = record { taken = []; taking = tt; state = refl }

-- as where the disk holds the same
pub takes_same : {s t : State} → t ≡ s → TakesEntries s t
takes_same {s} {t} same = subst (TakesEntries s) (sym same) (takes_none s)

all_taking : (later first : List NameStep) → AllByRecursion IsTaking later → AllByRecursion IsTaking first → AllByRecursion IsTaking (later ++ first)
all_taking [] first two one = one
all_taking (step ∷ later) first two one = (two.0, all_taking later first two.1 one)

-- some steps after others
pub takes_then : (s t u : State) → TakesEntries s t → TakesEntries t u → TakesEntries s u
takes_then s t u one two = record {
  taken = two.taken ++ one.taken;
  taking = all_taking two.taken one.taken two.taking one.taking;
  state = two.state ∙ ap (λ (x : State). record x { steps = two.taken ++ x.steps }) one.state
      ∙ ap (λ (steps : List NameStep). record s { steps = steps }) (sym (append_assoc two.taken one.taken s.steps));
}

-- ---- the step of one entry

-- it is one of those
taking_of : (name : Name) (step : NameStep) → IsTakingOf name step → IsTaking step
taking_of name (Remove from) is = subst (λ (p : Place). IsTaking (Remove p)) (sym is) tt
taking_of name (Rename from (Doomed number)) is = subst (λ (p : Place). IsTaking (Rename p (Doomed number))) (sym is) tt
taking_of name (Rename from (Entry other)) is = absurd is
taking_of name (Rename from Index) is = absurd is
taking_of name (Rename from Log) is = absurd is
taking_of name (Rename from Tmp) is = absurd is
taking_of name (Rename from Clear) is = absurd is
taking_of name (Create place file) is = absurd is

pub one_takes : (name : Name) (s t : State) → TakesEntry name s t → TakesEntries s t
one_takes name s t (inl same) = takes_same same
one_takes name s t (inr (step, (is, state))) = record { taken = step ∷ []; taking = (taking_of name step is, tt); state = state }

-- after others that left the disk as it was
pub takes_after : (name : Name) (s u t : State) → u ≡ s → TakesEntry name u t → TakesEntry name s t
takes_after name s u t same takes = subst (λ (x : State). TakesEntry name x t) same takes

-- a change that may have failed: it is recorded all the same, but where memory ran out
done_takes : {T : Type 0} (r : Result T DiskFault) (name : Name) (s t u : State) → TakesEntry name s t → u ≡ if_done r t s → TakesEntry name s u
done_takes (Ok value) name s t u takes is = subst (TakesEntry name s) (sym is) takes
done_takes (Err Failed) name s t u takes is = subst (TakesEntry name s) (sym is) takes
done_takes (Err Memory) name s t u takes is = inl is

-- an entry's file that is removed
pub removed_takes : {T : Type 0} (r : Result T DiskFault) (s t : State) (name : Name) → t ≡ if_done r (removed (Entry name) s) s → TakesEntry name s t
removed_takes r s t name is = done_takes r name s (removed (Entry name) s) t (inr (Remove (Entry name), (refl, refl))) is

-- and one that moves to the least number that is not in use
pub moved_takes : {T : Type 0} (r : Result T DiskFault) (s t : State) (name : Name) (numbers : List ℕ)
    → ((number : ℕ) → IsLeastFree numbers number → t ≡ if_done r (renamed (Entry name) (Doomed number) s) s) → TakesEntry name s t
moved_takes r s t name numbers moves =
    let l = least_free numbers in
    done_takes r name s (renamed (Entry name) (Doomed l.0) s) t (inr (Rename (Entry name) (Doomed l.0), (refl, refl))) (moves l.0 l.1)

-- ---- the entries of some names, in their order

-- none is taken of names that are left
pub in_order_none : (names : List Name) (s : State) → TakesInOrder names s s
in_order_none [] s = refl
in_order_none (name ∷ rest) s = (s, (inl refl, in_order_none rest s))

-- one more after some
pub in_order_then : (names : List Name) (name : Name) (s t u : State) → TakesInOrder names s t → TakesEntry name t u → TakesInOrder (names ++ name ∷ []) s u
in_order_then [] name s t u same one = (u, (takes_after name s t u same one, refl))
in_order_then (first ∷ rest) name s t u (v, (takes, more)) one = (v, (takes, in_order_then rest name v t u more one))

-- and then none of the others
pub in_order_left : (names left : List Name) (s t : State) → TakesInOrder names s t → TakesInOrder (names ++ left) s t
in_order_left [] left s t same = subst (TakesInOrder left s) (sym same) (in_order_none left s)
in_order_left (first ∷ rest) left s t (v, (takes, more)) = (v, (takes, in_order_left rest left v t more))
