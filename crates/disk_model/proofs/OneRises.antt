-- A list of one item rises.
use Rattle.std.proofs.Common.{◌≡◌, List, [], ◌∷◌, ◌++◌, sym, ap, subst, ◌∙◌}
use Rattle.std.specs.List.Sorted.{IsStrictlySortedBy}
use Rattle.std.specs.declared.cmp.Ordering.{Ordering}

one_rises : {K : Type 0} (cmp : K → K → Ordering) (x : K) → IsStrictlySortedBy cmp (x ∷ [])
unfolding IsStrictlySortedBy
one_rises cmp x = (tt, tt)

pub pushed_rises : {K : Type 0} (cmp : K → K → Ordering) (x : K) (cleared pushed : List K) → cleared ≡ [] → pushed ≡ cleared ++ x ∷ []
    → IsStrictlySortedBy cmp pushed
pushed_rises cmp x cleared pushed none one = subst (IsStrictlySortedBy cmp) (sym (one ∙ ap (λ list. list ++ x ∷ []) none)) (one_rises cmp x)
