-- Where no name stands twice, the victims are the same in whatever order the records stand.
use Rattle.std.proofs.Common.{zero, suc, ◌≡◌, ◌+◌, ◌⊎◌, inl, inr, Bool, true, false, cond, List, [], ◌∷◌, get_or, map, refl, sym, ap, ◌∙◌, subst, arith}
use Rattle.std.specs.Cmp.{IsTotalOrder}
use Rattle.std.specs.Cmp.Lexicographic.{nat_list_eq_equiv}
use Rattle.std.specs.FinMap.{slice_cmp-IsAntisymmetric, nat_cmp-IsAntisymmetric}
use Rattle.std.specs.List.{AllByRecursion, Contains, IsDistinct, filter}
use Rattle.std.specs.List.Sorted.{IsPermutation, IsStrictlySortedBy}
use Rattle.std.specs.Ordering.{is_lt, nat_cmp, ordering_reverse, ordering_then}
use Rattle.std.specs.Str.{bytes_eq}
use Rattle.std.specs.declared.cmp.Ordering.{Ordering}
use Rattle.std.specs.declared.cmp.Ordering.TheVariants.{Less, Equal, Greater}
use Rattle.std.proofs.lemmas.List.Elements.{All-contains, All-contains_itself, All-filter, All-from_recursion, filter_passes, recursion_from_All}
use Rattle.std.proofs.lemmas.List.Sorted.{Contains-permutation, IsPermutation-sym, sum_by-IsPermutation}
use Rattle.std.proofs.lemmas.Map.Keys.{IsDistinct-IsPermutation, apart_from_distinct, sorted_from_all_adjacent}
use Rattle.std.proofs.lemmas.Slice.Eq.{bytes_eq-Decides}
use Rattle.cache_base.specs.Names.{name_cmp}
use Rattle.cache_base.specs.declared.name.Name.{Name}
use Rattle.index_record.specs.Record.{removed_record, size_kb}
use Rattle.index_record.specs.declared.record.IndexRecord.{IndexRecord}
use Rattle.evictor.specs.Evict.{SameInAnyOrder, candidates, down_to, evict_cmp, in_order, may_evict, rank, total_kb}
use Rattle.evictor.proofs.Sorting.{before, evict_cmp_total, moved_in_order, sorted_in_order}

-- ---- members of a list

split : {X : Type 0} (x : X) (xs : List X) (z : X) → Contains (x ∷ xs) z → (x ≡ z) ⊎ Contains xs z
split x xs z (zero, lt, is) = inl is
split x xs z (suc k, lt, is) = inr (k, omega (arith, lt), is)

first : {X : Type 0} (x : X) (xs : List X) → Contains (x ∷ xs) x
first x xs = (zero, omega arith, refl)

later : {X : Type 0} (x : X) (xs : List X) (z : X) → Contains xs z → Contains (x ∷ xs) z
later x xs z c = (suc c.0, omega (arith, c.1), c.2)

-- a member of a filtered list is one of the list, and passes
was_in : {X : Type 0} (p : X → Bool) (xs : List X) (z : X) → Contains (filter p xs) z → Contains xs z
was_in p xs z c = All-contains (Contains xs) (filter p xs) z (All-filter p (Contains xs) xs (All-contains_itself xs)) c

passed : {X : Type 0} (p : X → Bool) (xs : List X) (z : X) → Contains (filter p xs) z → p z ≡ true
passed p xs z c = All-contains (λ x. p x ≡ true) (filter p xs) z (filter_passes p xs) c

-- and a member that passes is one of the filtered list
still_in : {X : Type 0} (p : X → Bool) (xs : List X) (z : X) → p z ≡ true → Contains xs z → Contains (filter p xs) z
still_in p [] z passes c = absurd (omega (arith, c.1))
still_in {X} p (x ∷ xs) z passes c = go (p x) refl (split x xs z c) (still_in p xs z passes)
  where
    go : (b : Bool) → p x ≡ b → (x ≡ z) ⊎ Contains xs z → (Contains xs z → Contains (filter p xs) z) → Contains (cond b (x ∷ filter p xs) (filter p xs)) z
    go true e (inl is) rest = (zero, omega arith, is)
    go false e (inl is) rest = absurd (let same : p x ≡ true = ap p is ∙ passes in cc)
    go true e (inr d) rest = later x (filter p xs) z (rest d)
    go false e (inr d) rest = rest d

-- ---- a list in strict order is the only one with its members

module _ {X : Type 0} (cmp : X → X → Ordering) (total : IsTotalOrder cmp) where
  never : {P : Type 0} (x z : X) → x ≡ z → cmp x z ≡ Less → P
  never x z e h =
      let own : cmp z z ≡ Less = subst (λ y. cmp y z ≡ Less) e h in
      let turned : cmp z z ≡ Greater = total.antisymm z z ∙ ap ordering_reverse own in
      absurd (cc)

  not_both : {P : Type 0} (x y : X) → cmp x y ≡ Less → cmp y x ≡ Less → P
  not_both x y h k =
      let turned : cmp x y ≡ Greater = total.antisymm x y ∙ ap ordering_reverse k in
      absurd (cc)

  above : (x : X) (xs : List X) (z : X) → AllByRecursion (λ y. cmp x y ≡ Less) xs → Contains xs z → cmp x z ≡ Less
  above x xs z all c = All-contains (λ y. cmp x y ≡ Less) xs z (All-from_recursion (λ y. cmp x y ≡ Less) xs all) c

  rest_in : (x y : X) (xs ys : List X) → x ≡ y → AllByRecursion (λ z. cmp x z ≡ Less) xs → ((z : X) → Contains (x ∷ xs) z → Contains (y ∷ ys) z)
      → (z : X) → Contains xs z → Contains ys z
  rest_in x y xs ys e all to z c = elim (split y ys z (to z (later x xs z c))) [
    | inl is ↦ never x z (e ∙ is) (above x xs z all c)
    | inr d ↦ d
  ]

  one_order : (xs ys : List X) → IsStrictlySortedBy cmp xs → IsStrictlySortedBy cmp ys → ((z : X) → Contains xs z → Contains ys z) → ((z : X) → Contains ys z → Contains xs z) → xs ≡ ys
  unfolding IsStrictlySortedBy
  one_order [] [] s t to from = refl
  one_order [] (y ∷ ys) s t to from = let c = from y (first y ys) in absurd (omega (arith, c.1))
  one_order (x ∷ xs) [] s t to from = let c = to x (first x xs) in absurd (omega (arith, c.1))
  one_order (x ∷ xs) (y ∷ ys) s t to from =
      let e : x ≡ y = elim (split y ys x (to x (first x xs))) [
        | inl is ↦ sym is
        | inr c ↦ elim (split x xs y (from y (first y ys))) [
          | inl is ↦ is
          | inr d ↦ not_both x y (above x xs y s.0 d) (above y ys x t.0 c)
        ]
      ] in
      let rest : xs ≡ ys = one_order xs ys s.1 t.1 (rest_in x y xs ys e s.0 to) (rest_in y x ys xs (sym e) t.0 from) in
      λ i. e i ∷ rest i

-- ---- records of names none of which stands twice

abbrev alike : IndexRecord → IndexRecord → Bool
alike r s = bytes_eq r.name.0 s.name.0

alike_back : (r s : IndexRecord) → alike r s ≡ alike s r
alike_back r s = nat_list_eq_equiv.symm r.name.0 s.name.0

then_equal : (a b : Ordering) → ordering_then a b ≡ Equal → b ≡ Equal
then_equal Less b e = absurd (cc)
then_equal Equal b e = e
then_equal Greater b e = absurd (cc)

-- records that tie have one name
tied_alike : (r s : IndexRecord) → evict_cmp r s ≡ Equal → alike r s ≡ true
unfolding evict_cmp
tied_alike r s e =
    (bytes_eq-Decides r.name.0 s.name.0).1
    (slice_cmp-IsAntisymmetric nat_cmp-IsAntisymmetric r.name.0 s.name.0 (then_equal (nat_cmp (rank r) (rank s)) (name_cmp r.name s.name) e))

less_apart : (r s : IndexRecord) → before s r ≡ false → alike r s ≡ false → evict_cmp r s ≡ Less
less_apart r s up apart = go (evict_cmp r s) refl
  where
    go : (o : Ordering) → evict_cmp r s ≡ o → o ≡ Less
    go Less e = refl
    go Equal e = let same = tied_alike r s e in absurd (cc)
    go Greater e = let less : before s r ≡ true = ap is_lt (evict_cmp_total.antisymm s r ∙ ap ordering_reverse e) in absurd (cc)

names_apart : (r : IndexRecord) (rs : List IndexRecord) → AllByRecursion (λ n. bytes_eq r.name.0 n.0 ≡ false) (map (λ (s : IndexRecord). s.name) rs) → AllByRecursion (λ s. alike r s ≡ false) rs
names_apart r [] h = tt
names_apart r (s ∷ rs) h = (h.0, names_apart r rs h.1)

records_apart : (rs : List IndexRecord) → IsDistinct (λ (m n : Name). bytes_eq m.0 n.0) (map (λ (r : IndexRecord). r.name) rs) → IsDistinct alike rs
unfolding IsDistinct
records_apart [] h = tt
records_apart (r ∷ rs) h = (names_apart r rs h.0, records_apart rs h.1)

filter_apart : (p : IndexRecord → Bool) (rs : List IndexRecord) → IsDistinct alike rs → IsDistinct alike (filter p rs)
unfolding IsDistinct
filter_apart p [] h = tt
filter_apart p (r ∷ rs) h = elim (p r) as (λ b. IsDistinct alike (cond b (r ∷ filter p rs) (filter p rs))) [
  | true ↦ (recursion_from_All (λ s. alike r s ≡ false) (filter p rs) (All-filter p (λ s. alike r s ≡ false) rs (All-from_recursion (λ s. alike r s ≡ false) rs h.0)), filter_apart p rs h.1)
  | false ↦ filter_apart p rs h.1
]

-- the order of eviction is strict among them
strict_in_order : (rs : List IndexRecord) → IsDistinct alike rs → IsStrictlySortedBy evict_cmp (in_order rs)
strict_in_order rs apart =
    let none : IndexRecord = removed_record (record { 0 = [] }) in
    let moved : IsDistinct alike (in_order rs) = IsDistinct-IsPermutation alike alike_back rs (in_order rs) (moved_in_order rs) apart in
    sorted_from_all_adjacent evict_cmp_total (in_order rs) none
    (λ k h. less_apart (get_or (in_order rs) k none) (get_or (in_order rs) (k + 1) none)
    (sorted_in_order rs k none (omega arith) (omega (arith, h)))
    (apart_from_distinct alike (in_order rs) k (k + 1) none moved (omega arith) h))

-- ---- the victims

module _ (rs qs : List IndexRecord) (in_use : List Name) (apart : IsDistinct alike rs) (moved : IsPermutation rs qs) where
  abbrev may : IndexRecord → Bool
  may = may_evict in_use

  ordered_in : (xs ys : List IndexRecord) → IsPermutation xs ys → (z : IndexRecord) → Contains (candidates xs in_use) z → Contains (candidates ys in_use) z
  ordered_in xs ys m z c =
      let left = Contains-permutation (candidates xs in_use) (filter may xs) z (IsPermutation-sym (filter may xs) (candidates xs in_use) (moved_in_order (filter may xs))) c in
      Contains-permutation (filter may ys) (candidates ys in_use) z (moved_in_order (filter may ys))
      (still_in may ys z (passed may xs z left) (Contains-permutation xs ys z m (was_in may xs z left)))

  same_candidates : candidates rs in_use ≡ candidates qs in_use
  same_candidates =
      one_order evict_cmp evict_cmp_total (candidates rs in_use) (candidates qs in_use)
      (strict_in_order (filter may rs) (filter_apart may rs apart))
      (strict_in_order (filter may qs) (filter_apart may qs (IsDistinct-IsPermutation alike alike_back rs qs moved apart)))
      (ordered_in rs qs moved) (ordered_in qs rs (IsPermutation-sym rs qs moved))

pub same_in_any_order : SameInAnyOrder
same_in_any_order rs qs in_use limit apart moved =
    let total : total_kb rs ≡ total_kb qs = sym (sum_by-IsPermutation size_kb rs qs moved) in
    λ i. map (λ (r : IndexRecord). r.name) (down_to (total i) limit (same_candidates rs qs in_use (records_apart rs apart) moved i))
