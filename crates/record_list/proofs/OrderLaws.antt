-- Lists that are sorted by name, and names none of which stands twice.
use Rattle.std.proofs.Common.{◌≡◌, ℕ, ◌+◌, ◌<◌, List, [], ◌∷◌, length, get_or, Bool, true, false, not, ◌&&◌, ◌||◌, refl, sym, ap, ◌∙◌, arith}
use Rattle.std.specs.Prelude.{IsTrue, map, ◌↔◌}
use Rattle.std.specs.List.{AllByRecursion, IsAllAdjacentAnswer, IsDistinct, list_any}
use Rattle.std.specs.List.Sorted.{IsPermutation, IsSortedByKey}
use Rattle.std.specs.Ordering.{is_lt}
use Rattle.std.specs.declared.cmp.Ordering.{Ordering}
use Rattle.std.specs.declared.cmp.Ordering.TheVariants.{Less, Equal, Greater}
use Rattle.std.proofs.lemmas.Bool.{and_parts}
use Rattle.std.proofs.lemmas.List.{get_or-map, length-map}
use Rattle.std.proofs.lemmas.List.Sorted.{IsPermutation-map, IsPermutation-sym}
use Rattle.std.proofs.lemmas.Map.Keys.{IsDistinct-IsPermutation, Less-from_sorted, apart_from_distinct, sorted_from_all_adjacent}
use Rattle.cache_base.specs.Names.{AreSorted, name_cmp}
use Rattle.cache_base.specs.declared.name.Name.{Name}
use Rattle.cache_base.proofs.NameLaws.{name_cmp_total}
use Rattle.index_record.specs.Record.{removed_record}
use Rattle.index_record.specs.declared.record.IndexRecord.{IndexRecord}
use Rattle.record_list.specs.Lists.{HasNames, IsByName, names_of, same_name}
use Rattle.record_list.specs.Stored.{are_distinct}
use Rattle.record_list.proofs.NameLaws.{above_below, rising_distinct, same_back, same_itself, tied_same}

-- a name that is not above another, nor the same, is below it
neighbours : (a b : Name) → is_lt (name_cmp b a) ≡ false → same_name a b ≡ false → name_cmp a b ≡ Less
neighbours a b sorted apart = go (name_cmp a b) refl
  where
    go : (o : Ordering) → name_cmp a b ≡ o → o ≡ Less
    go Less e = refl
    go Equal e = let same : same_name a b ≡ true = ap (λ n. same_name a n) (sym (tied_same a b e)) ∙ same_itself a in absurd (cc)
    go Greater e = let less : is_lt (name_cmp b a) ≡ true = ap is_lt (above_below a b e) in absurd (cc)

-- what is sorted by names that are distinct rises
pub sorted_rises : {X : Type 0} (key : X → Name) (none : X) (xs : List X) → IsSortedByKey key name_cmp xs → IsDistinct same_name (map key xs) → AreSorted (map key xs)
sorted_rises key none xs sorted apart = sorted_from_all_adjacent name_cmp_total (map key xs) (key none) step
  where
    step : (k : ℕ) → k + 1 < length (map key xs) → name_cmp (get_or (map key xs) k (key none)) (get_or (map key xs) (k + 1) (key none)) ≡ Less
    step k h =
        let long : length (map key xs) ≡ length xs = length-map xs key in
        let here : get_or (map key xs) k (key none) ≡ key (get_or xs k none) = get_or-map key xs k none (key none) (omega arith) in
        let next : get_or (map key xs) (k + 1) (key none) ≡ key (get_or xs (k + 1) none) = get_or-map key xs (k + 1) none (key none) (omega arith) in
        neighbours (get_or (map key xs) k (key none)) (get_or (map key xs) (k + 1) (key none))
        ((λ i. is_lt (name_cmp (next i) (here i))) ∙ sorted k none (omega arith) (omega arith))
        (apart_from_distinct same_name (map key xs) k (k + 1) (key none) apart (omega arith) h)

none_alike : (name : Name) (names : List Name) → AllByRecursion (λ y. same_name name y ≡ false) names → list_any (same_name name) names ≡ false
none_alike name [] h = refl
none_alike name (n ∷ names) h = ap (λ b. b || list_any (same_name name) names) h.0 ∙ none_alike name names h.1

-- names none of which stands twice pass the test
pub are_apart : (names : List Name) → IsDistinct same_name names → are_distinct names ≡ true
unfolding IsDistinct
are_apart [] h = refl
are_apart (name ∷ names) h = ap (λ b. not b && are_distinct names) (none_alike name names h.0) ∙ are_apart names h.1

neither : (a b : Bool) → (a || b) ≡ false → (a ≡ false) × (b ≡ false)
neither true b h = absurd (cc)
neither false b h = (refl, h)

not_true : (b : Bool) → not b ≡ true → b ≡ false
not_true true h = absurd (cc)
not_true false h = refl

pub all_unlike : (name : Name) (names : List Name) → list_any (same_name name) names ≡ false → AllByRecursion (λ y. same_name name y ≡ false) names
all_unlike name [] h = tt
all_unlike name (n ∷ names) h = let parts = neither (same_name name n) (list_any (same_name name) names) h in (parts.0, all_unlike name names parts.1)

-- and names that pass it are such names
pub distinct_are : (names : List Name) → are_distinct names ≡ true → IsDistinct same_name names
unfolding IsDistinct
distinct_are [] h = tt
distinct_are (name ∷ names) h =
    let parts = and_parts (not (list_any (same_name name) names)) (are_distinct names) h in
    (all_unlike name names (not_true _ parts.0), distinct_are names parts.1)

-- a list and its permutation have distinct names alike
pub distinct_permutation : (xs ys : List Name) → IsPermutation xs ys → IsDistinct same_name xs → IsDistinct same_name ys
distinct_permutation xs ys moved = IsDistinct-IsPermutation same_name same_back xs ys moved

no_name : Name
no_name = record { 0 = [] }

below_from_test : (o : Ordering) → true ≡ is_lt o → o ≡ Less
below_from_test Less h = refl
below_from_test Equal h = absurd (cc)
below_from_test Greater h = absurd (cc)

-- where records that were sorted by name rise, none of the names stands twice, and nowhere else
pub distinct_answer : (rs sorted : List IndexRecord) (r : Bool) → IsPermutation rs sorted → (HasNames rs → IsByName rs sorted)
    → (IsTrue r ↔ AreSorted (names_of sorted)) → r ≡ are_distinct (names_of rs)
distinct_answer rs sorted true moved by_name tells =
    let back = IsPermutation-sym (names_of rs) (names_of sorted) (IsPermutation-map (λ (r : IndexRecord). r.name) rs sorted moved) in
    sym (are_apart (names_of rs) (distinct_permutation (names_of sorted) (names_of rs) back (rising_distinct (names_of sorted) (tells.0 refl))))
distinct_answer rs sorted false moved by_name tells = go (are_distinct (names_of rs)) refl
  where
    go : (b : Bool) → are_distinct (names_of rs) ≡ b → false ≡ b
    go false e = refl
    go true e = tells.1 (by_name (distinct_are (names_of rs) e)).rising

no_record : IndexRecord
no_record = removed_record no_name

named_at : (rs : List IndexRecord) (k : ℕ) → k < length rs
    → get_or (names_of rs) k no_name ≡ (get_or rs k no_record).name
named_at rs k lt = get_or-map (λ (r : IndexRecord). r.name) rs k no_record no_name lt

-- records rise where the name of each is below that of the next, and nowhere else
pub records_rise : (rs : List IndexRecord) (answer : Bool)
    → IsAllAdjacentAnswer (λ (a b : IndexRecord) t. t ≡ is_lt (name_cmp a.name b.name)) rs answer
    → answer ≡ true ↔ AreSorted (names_of rs)
records_rise rs true each =
    let len : length (names_of rs) ≡ length rs = length-map rs (λ (r : IndexRecord). r.name) in (
      λ is. sorted_from_all_adjacent name_cmp_total (names_of rs) no_name
          (λ k h. rw (named_at rs k (omega (arith, len, h)), named_at rs (k + 1) (omega (arith, len, h)))
          (below_from_test _ (each k no_record (omega (arith, len, h))))),
      λ rising. refl,
    )
records_rise rs false (k, lt, fails) = (
  λ is. absurd (cc),
  λ rising.
      let len : length (names_of rs) ≡ length rs = length-map rs (λ (r : IndexRecord). r.name) in
      let here = named_at rs k (omega (arith, lt)) in
      let next = named_at rs (k + 1) lt in
      let below = Less-from_sorted name_cmp (names_of rs) k (k + 1) no_name rising (omega arith) (omega (arith, len, lt)) in
      let less : name_cmp (get_or rs k no_record).name (get_or rs (k + 1) no_record).name ≡ Less = (λ i. name_cmp (sym here i) (sym next i)) ∙ below in
      let test : is_lt (name_cmp (get_or rs k no_record).name (get_or rs (k + 1) no_record).name) ≡ true = ap is_lt less in
      let failed : false ≡ is_lt (name_cmp (get_or rs k no_record).name (get_or rs (k + 1) no_record).name) = fails no_record in
      absurd (cc),
)
