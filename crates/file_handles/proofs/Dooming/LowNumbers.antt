-- A file that stands aside has a number below that of the slots, so the next number is free.
use Rattle.std.proofs.Common.{◌≡◌, ℕ, ◌≤◌, List, Option, Some, None, refl, sym, ◌∙◌, arith}
use Rattle.cache_base.specs.declared.limits.TheConstants.{SLOTS}
use Rattle.cache_theory.specs.Machine.{Machine}
use Rattle.disk_theory.specs.State.{State, standing}
use Rattle.disk_theory.specs.declared.place.Place.TheVariants.{Doomed}
use Rattle.handle_table.proofs.LowNumbers.{low_at}
use Rattle.file_handles.specs.Cache.{cache_at}
use Rattle.handle_table.specs.Kept.{Kept}
use Rattle.handle_table.specs.Seats.{AreLow}
use Rattle.file_handles.specs.Stands.{Represents}

-- no file has a number that is not low
pub high_is_free : (k : Kept) → AreLow k.objects → (n : ℕ) → SLOTS ≤ n → (s : State) (m : Machine) → Represents (cache_at k s) m → standing s (Doomed n) ≡ None
high_is_free k low n high s m (number, stands) = go (standing s (Doomed n)) refl
  where
    go : (o : Option (List ℕ)) → standing s (Doomed n) ≡ o → standing s (Doomed n) ≡ None
    go None at = at
    go (Some c) at =
        let there = stands.aside.only n (λ none. let never : Some c ≡ None = sym at ∙ none in cc) in
        let is = there.1.0 in
        let lt = low_at k.objects is.place is.object is.at_place low n is.set_aside in
        absurd (omega (arith, lt, high))
