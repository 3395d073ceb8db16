-- What stands while doomed files are removed one after the other.
use Rattle.std.proofs.Common.{◌≡◌, ◌≢◌, ◌++◌, ◌<◌, ℕ, zero, suc, List, [], ◌∷◌, Contains, Option, None, Some, IsSome, inl, inr, length, get_or, drop, Result, Ok, Err, ◌+◌, drop-cons, add-one, refl, sym, ◌∙◌, ap, subst, arith}
use Rattle.std.proofs.lemmas.Bool.{cases_eq}
use Rattle.std.proofs.lemmas.List.Elements.{Contains-append_right}
use Rattle.std.proofs.lemmas.Map.Keys.{below_from_sorted, sorted_tail}
use Rattle.std.specs.Ordering.{nat_cmp}
use Rattle.disk_theory.specs.declared.place.Place.{Place}
use Rattle.disk_theory.specs.declared.place.Place.TheVariants.{Doomed}
use Rattle.disk_theory.specs.State.{State, standing, removed}
use Rattle.disk_theory.specs.Listing.{AreDoomed, AreSortedNumbers}
use Rattle.disk_theory.specs.Standing.{PutsContent}
use Rattle.disk_theory.proofs.Standing.{removed_puts}
use Rattle.disk_theory.specs.Calls.{if_done}
use Rattle.disk_theory.specs.declared.disk.DiskFault.{DiskFault}
use Rattle.disk_theory.specs.declared.disk.DiskFault.TheVariants.{Failed, Memory}
use Rattle.doom_area.specs.DoomArea.{RemovesDoomed, removed_each}

-- of the doomed files those of these numbers are left, the others were removed, and nothing else was done
pub record IsClearedTo (rest : List ℕ) (before now : State) : Type 0 where
  pub removes : RemovesDoomed before now
  pub left : AreDoomed now rest
  pub others : (place : Place) → ((n : ℕ) → place ≢ Doomed n) → standing now place ≡ standing before place

each_then : (ns : List ℕ) (n : ℕ) (s : State) → removed_each (ns ++ n ∷ []) s ≡ removed (Doomed n) (removed_each ns s)
each_then [] n s = refl
each_then (m ∷ ns) n s = each_then ns n (removed (Doomed m) s)

-- one more is removed
removes_more : (before now : State) (n : ℕ) → RemovesDoomed before now → RemovesDoomed before (removed (Doomed n) now)
removes_more before now n (ns, is) = (ns ++ n ∷ [], ap (removed (Doomed n)) is ∙ sym (each_then ns n before))

-- the same after a call that may have failed
pub removes_done : {T : Type 0} (r : Result T DiskFault) (n : ℕ) (before now next : State) → RemovesDoomed before now → next ≡ if_done r (removed (Doomed n) now) now → RemovesDoomed before next
removes_done (Ok value) n before now next removes is = subst (RemovesDoomed before) (sym is) (removes_more before now n removes)
removes_done (Err Failed) n before now next removes is = subst (RemovesDoomed before) (sym is) (removes_more before now n removes)
removes_done (Err Memory) n before now next removes is = subst (RemovesDoomed before) (sym is) removes

-- those after the first are other numbers
behind_apart : (n : ℕ) (rest : List ℕ) (number : ℕ) → AreSortedNumbers (n ∷ rest) → Contains rest number → number ≢ n
behind_apart n rest number rising has same =
    let lt : n < get_or rest has.0 number = below_from_sorted (n ∷ rest) 0 (suc has.0) number rising (omega arith) (omega (arith, has.1)) in
    omega (arith, has.2)

-- a number that is not the first stands after it
only_behind : (n : ℕ) (rest : List ℕ) (number : ℕ) → Contains (n ∷ rest) number → number ≢ n → Contains rest number
only_behind n rest number (zero, lt, is) apart = absurd (apart (sym is))
only_behind n rest number (suc k, lt, is) apart = (k, omega arith, is)

doomed_apart : (a b : ℕ) → a ≢ b → Doomed a ≢ Doomed b
doomed_apart a b apart same = apart cc

none_stands : (o : Option (List ℕ)) → o ≡ None → IsSome o → ⊥
none_stands None is some = cc
none_stands (Some c) is some = cc

-- the first of those that are left is removed
cleared_more : (n : ℕ) (rest : List ℕ) (before now : State) → AreSortedNumbers (n ∷ rest) → IsClearedTo (n ∷ rest) before now → IsClearedTo rest before (removed (Doomed n) now)
cleared_more n rest before now rising to = record {
  removes = removes_more before now n to.removes;
  left = λ number. (still number, only number);
  others = λ place other. (removed_puts (Doomed n) now).others place (other n) ∙ to.others place other;
}
  where
    puts : PutsContent (Doomed n) None now (removed (Doomed n) now)
    puts = removed_puts (Doomed n) now

    still : (number : ℕ) → Contains rest number → IsSome (standing (removed (Doomed n) now) (Doomed number))
    still number has =
        subst IsSome (sym (puts.others (Doomed number) (doomed_apart number n (behind_apart n rest number rising has))))
        ((to.left number).0 (Contains-append_right (n ∷ []) rest number has))

    only : (number : ℕ) → IsSome (standing (removed (Doomed n) now) (Doomed number)) → Contains rest number
    only number stands =
        elim (cases_eq number n) [
          | inl same ↦ absurd (none_stands (standing (removed (Doomed n) now) (Doomed number)) (ap (λ m. standing (removed (Doomed n) now) (Doomed m)) same ∙ puts.here) stands)
          | inr apart ↦
              let before : IsSome (standing now (Doomed number)) = subst IsSome (puts.others (Doomed number) (doomed_apart number n apart)) stands in
              only_behind n rest number ((to.left number).1 before) apart
        ]

-- The same in a list that is gone through by its places.
module _ (xs : List ℕ) (i : ℕ) (within : i < length xs) where
  first_is : drop i xs ≡ get_or xs i 0 ∷ drop (i + 1) xs
  first_is = drop-cons xs i 0 within ∙ ap (λ k. get_or xs i 0 ∷ drop k xs) (sym (add-one i))

  pub rising_step : AreSortedNumbers (drop i xs) → AreSortedNumbers (drop (i + 1) xs)
  rising_step rising = sorted_tail nat_cmp (get_or xs i 0) (drop (i + 1) xs) (subst AreSortedNumbers first_is rising)

  pub cleared_step : (before now next : State) → AreSortedNumbers (drop i xs) → IsClearedTo (drop i xs) before now → next ≡ removed (Doomed (get_or xs i 0)) now → IsClearedTo (drop (i + 1) xs) before next
  cleared_step before now next rising to is =
      subst (IsClearedTo (drop (i + 1) xs) before) (sym is)
      (cleared_more (get_or xs i 0) (drop (i + 1) xs) before now (subst AreSortedNumbers first_is rising) (subst (λ rest. IsClearedTo rest before now) first_is to))
