-- `in_order` sorts, only moves records, and keeps the order of records that tie.
use Rattle.std.proofs.Common.{zero, suc, ◌≡◌, ◌+◌, Bool, true, false, cond, List, [], ◌∷◌, get_or, refl, ap, ◌∙◌, subst, arith}
use Rattle.std.specs.Cmp.{IsStrictWeakOrder, IsTotalOrder}
use Rattle.std.specs.List.{All, filter}
use Rattle.std.specs.List.Sorted.{IsPermutation, IsSortedBy, ties}
use Rattle.std.specs.Ordering.{is_lt}
use Rattle.std.proofs.lemmas.Bool.{both_ways, and_parts, not-true}
use Rattle.std.proofs.lemmas.Cmp.{then_total, on_total, nat_cmp_total, nat_list_cmp_total}
use Rattle.std.proofs.lemmas.List.Elements.{All-cons, All-nil, All-weaker}
use Rattle.std.proofs.lemmas.List.Sorted.{ranks_by, IsPermutation-refl, IsPermutation-cons, IsPermutation-middle, IsPermutation-sym, IsPermutation-trans, All-permutation}
use Rattle.index_record.specs.declared.record.IndexRecord.{IndexRecord}
use Rattle.evictor.specs.Evict.{evict_cmp, in_order, put_in_order, rank}
use Rattle.evictor.proofs.Stable.{sorted_tail, sorted_first}

-- whether a record is evicted before another
abbrev pub before : IndexRecord → IndexRecord → Bool
before r s = is_lt (evict_cmp r s)

pub evict_cmp_total : IsTotalOrder evict_cmp
unfolding evict_cmp
evict_cmp_total = then_total (on_total rank nat_cmp_total) (on_total (λ (r : IndexRecord). r.name.0) nat_list_cmp_total)

pub before_orders : IsStrictWeakOrder before
before_orders = ranks_by evict_cmp_total (λ (r : IndexRecord). r)

-- ---- the same records

pub moved_put : (r : IndexRecord) (ss : List IndexRecord) → IsPermutation (r ∷ ss) (put_in_order r ss)
moved_put r [] = IsPermutation-refl (r ∷ [])
moved_put r (s ∷ rest) = go (before s r) (moved_put r rest)
  where
    go : (b : Bool) → IsPermutation (r ∷ rest) (put_in_order r rest) → IsPermutation (r ∷ s ∷ rest) (cond b (s ∷ put_in_order r rest) (r ∷ s ∷ rest))
    go true moved = IsPermutation-trans _ _ _ (IsPermutation-sym _ _ (IsPermutation-middle (s ∷ []) r rest)) (IsPermutation-cons s _ _ moved)
    go false moved = IsPermutation-refl (r ∷ s ∷ rest)

pub moved_in_order : (rs : List IndexRecord) → IsPermutation rs (in_order rs)
moved_in_order [] = IsPermutation-refl []
moved_in_order (r ∷ rs) = IsPermutation-trans _ _ _ (IsPermutation-cons r _ _ (moved_in_order rs)) (moved_put r (in_order rs))

-- ---- in order

sorted_cons : (r : IndexRecord) (rs : List IndexRecord) → All (λ s. before s r ≡ false) rs → IsSortedBy before rs → IsSortedBy before (r ∷ rs)
sorted_cons r rs first up zero d low high = first zero d (omega arith)
sorted_cons r rs first up (suc k) d low high =
    let next : suc (k + 1) ≡ suc k + 1 = omega arith in
    subst (λ n. before (get_or (r ∷ rs) n d) (get_or rs k d) ≡ false) next (up k d (omega arith) (omega arith))

sorted_put : (r : IndexRecord) (ss : List IndexRecord) → IsSortedBy before ss → IsSortedBy before (put_in_order r ss)
sorted_put r [] up = sorted_cons r [] (All-nil _) up
sorted_put r (s ∷ rest) up = go (before s r) refl (sorted_put r rest (sorted_tail before s rest up))
  where
    after_s : All (λ x. before x s ≡ false) rest
    after_s = sorted_first before before_orders s rest up

    go : (b : Bool) → before s r ≡ b → IsSortedBy before (put_in_order r rest) → IsSortedBy before (cond b (s ∷ put_in_order r rest) (r ∷ s ∷ rest))
    go true e sorted = sorted_cons s (put_in_order r rest)
        (All-permutation (λ x. before x s ≡ false) _ _ (moved_put r rest) (All-cons (λ x. before x s ≡ false) r rest (before_orders.one_way s r e) after_s))
        sorted
    go false e sorted = sorted_cons r (s ∷ rest)
        (All-cons (λ x. before x r ≡ false) s rest e (All-weaker (λ x. before x s ≡ false) (λ x. before x r ≡ false) (λ x h. before_orders.chain x s r h e) rest after_s))
        up

pub sorted_in_order : (rs : List IndexRecord) → IsSortedBy before (in_order rs)
sorted_in_order [] = λ k d low high. absurd (omega arith)
sorted_in_order (r ∷ rs) = sorted_put r (in_order rs) (sorted_in_order rs)

-- ---- records that tie keep their order

-- of two records that differ by the order, one at most ties with x
not_both : (x r s : IndexRecord) → before s r ≡ true → ties before x s ≡ true → ties before x r ≡ true → ⊥
not_both x r s e a b =
    let s_not_below = not-true (before s x) ((and_parts _ _ a).1) in
    let x_not_below = not-true (before x r) ((and_parts _ _ b).0) in
    both_ways (before s r) (before_orders.chain s x r s_not_below x_not_below) e

crossed : (a b : Bool) (r s : IndexRecord) (put rest : List IndexRecord) → (a ≡ true → b ≡ true → ⊥) → put ≡ cond b (r ∷ rest) rest
    → cond a (s ∷ put) put ≡ cond b (r ∷ cond a (s ∷ rest) rest) (cond a (s ∷ rest) rest)
crossed true true r s put rest apart h = absurd (apart refl refl)
crossed true false r s put rest apart h = ap (λ p. s ∷ p) h
crossed false true r s put rest apart h = h
crossed false false r s put rest apart h = h

stable_put : (x r : IndexRecord) (ss : List IndexRecord) → filter (ties before x) (put_in_order r ss) ≡ filter (ties before x) (r ∷ ss)
stable_put x r [] = refl
stable_put x r (s ∷ rest) = go (before s r) refl (stable_put x r rest)
  where
    go : (b : Bool) → before s r ≡ b → filter (ties before x) (put_in_order r rest) ≡ filter (ties before x) (r ∷ rest) → filter (ties before x) (cond b (s ∷ put_in_order r rest) (r ∷ s ∷ rest)) ≡ filter (ties before x) (r ∷ s ∷ rest)
    go true e kept = crossed (ties before x s) (ties before x r) r s (filter (ties before x) (put_in_order r rest)) (filter (ties before x) rest) (not_both x r s e) kept
    go false e kept = refl

pub stable_in_order : (x : IndexRecord) (rs : List IndexRecord) → filter (ties before x) (in_order rs) ≡ filter (ties before x) rs
stable_in_order x [] = refl
stable_in_order x (r ∷ rs) = stable_put x r (in_order rs) ∙ ap (λ l. cond (ties before x r) (r ∷ l) l) (stable_in_order x rs)
