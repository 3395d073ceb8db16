-- Two lists in order, whose elements that tie stand alike, are the same.
use Rattle.std.proofs.Common.{zero, suc, ◌≡◌, ◌+◌, Bool, true, false, cond, not, ◌&&◌, List, [], ◌∷◌, get_or, refl, sym, ap, ◌∙◌, subst, arith}
use Rattle.std.specs.Cmp.{IsStrictWeakOrder}
use Rattle.std.specs.List.{All, filter}
use Rattle.std.specs.List.Sorted.{IsSortedBy, ties}
use Rattle.std.proofs.lemmas.Bool.{both_ways, false_from_ne_true, cond-true}
use Rattle.std.proofs.lemmas.List.Elements.{All-cons, All-head, All-filter}
use Rattle.std.proofs.lemmas.List.Sorted.{sorted_far}

pub irreflexive : {X : Type 0} (lt : X → X → Bool) → IsStrictWeakOrder lt → (x : X) → lt x x ≡ false
irreflexive lt o x = false_from_ne_true (lt x x) (λ e. both_ways (lt x x) (o.one_way x x e) e)

-- two values of which neither is less tie
pub ties_from : {X : Type 0} (lt : X → X → Bool) (x y : X) → lt x y ≡ false → lt y x ≡ false → ties lt x y ≡ true
ties_from lt x y a b = λ i. not (a i) && not (b i)

ties_itself : {X : Type 0} (lt : X → X → Bool) → IsStrictWeakOrder lt → (x : X) → ties lt x x ≡ true
ties_itself lt o x = ties_from lt x x (irreflexive lt o x) (irreflexive lt o x)

pub sorted_tail : {X : Type 0} (lt : X → X → Bool) (x : X) (xs : List X) → IsSortedBy lt (x ∷ xs) → IsSortedBy lt xs
sorted_tail lt x xs s k d low high =
    let next : suc k + 1 ≡ suc (k + 1) = omega arith in
    subst (λ n. lt (get_or (x ∷ xs) n d) (get_or xs k d) ≡ false) next (s (suc k) d (omega arith) (omega arith))

-- no later element is less than the first
pub sorted_first : {X : Type 0} (lt : X → X → Bool) → IsStrictWeakOrder lt → (x : X) (xs : List X) → IsSortedBy lt (x ∷ xs) → All (λ y. lt y x ≡ false) xs
sorted_first lt o x xs s k d high = sorted_far lt o (x ∷ xs) s zero (suc k) d (omega arith) (omega arith)

-- an element that is kept stands in the other list, where none is less than the first
not_below : {X : Type 0} (lt : X → X → Bool) → IsStrictWeakOrder lt → (x y : X) (xs ys : List X) → IsSortedBy lt (y ∷ ys)
    → filter (ties lt x) (x ∷ xs) ≡ filter (ties lt x) (y ∷ ys) → lt x y ≡ false
not_below {X} lt o x y xs ys s e =
    let P : X → Type 0 = λ z. lt z y ≡ false in
    let all = All-filter (ties lt x) P (y ∷ ys) (All-cons P y ys (irreflexive lt o y) (sorted_first lt o y ys s)) in
    let kept = sym (cond-true (ties lt x x) (x ∷ filter (ties lt x) xs) (filter (ties lt x) xs) (ties_itself lt o x)) ∙ e in
    All-head P x (filter (ties lt x) xs) (subst (All P) (sym kept) all)

same_first : {X : Type 0} (b c : Bool) (x y : X) (p q : List X) → b ≡ true → c ≡ true → cond b (x ∷ p) p ≡ cond c (y ∷ q) q → x ≡ y
same_first true true x y p q d e h = cc
same_first true false x y p q d e h = cc
same_first false c x y p q d e h = cc

same_rest : {X : Type 0} (b c : Bool) (x y : X) (p q : List X) → b ≡ c → cond b (x ∷ p) p ≡ cond c (y ∷ q) q → p ≡ q
same_rest true true x y p q d h = cc
same_rest false false x y p q d h = h
same_rest true false x y p q d h = cc
same_rest false true x y p q d h = cc

none_kept : {X : Type 0} (b : Bool) (x : X) (p : List X) → b ≡ true → [] ≡ cond b (x ∷ p) p → ⊥
none_kept true x p e h = cc
none_kept false x p e h = cc

pub same_from_ties : {X : Type 0} (lt : X → X → Bool) → IsStrictWeakOrder lt → (xs ys : List X) → IsSortedBy lt xs → IsSortedBy lt ys
    → ((x : X) → filter (ties lt x) xs ≡ filter (ties lt x) ys) → xs ≡ ys
same_from_ties lt o [] [] s t h = refl
same_from_ties lt o [] (y ∷ ys) s t h = absurd (none_kept (ties lt y y) y (filter (ties lt y) ys) (ties_itself lt o y) (h y))
same_from_ties lt o (x ∷ xs) [] s t h = absurd (none_kept (ties lt x x) x (filter (ties lt x) xs) (ties_itself lt o x) (sym (h x)))
same_from_ties lt o (x ∷ xs) (y ∷ ys) s t h =
    let up = not_below lt o x y xs ys t (h x) in
    let down = not_below lt o y x ys xs s (sym (h y)) in
    let e : x ≡ y = same_first (ties lt x x) (ties lt x y) x y _ _ (ties_itself lt o x) (ties_from lt x y up down) (h x) in
    let rest : xs ≡ ys = same_from_ties lt o xs ys (sorted_tail lt x xs s) (sorted_tail lt y ys t)
    (λ z. same_rest (ties lt z x) (ties lt z y) x y _ _ (ap (ties lt z) e) (h z)) in
    λ i. e i ∷ rest i
