-- No name stands twice among the victims, and no slot uses any.
use Rattle.std.proofs.Common.{◌≡◌, ℕ, Bool, true, false, cond, not, List, [], ◌∷◌, ◌++◌, Result, Ok, Err, IfOk, filter, map, sym, ap, subst, ◌∙◌}
use Rattle.std.specs.List.{AllByRecursion, IsDistinct}
use Rattle.std.specs.Prelude.{IsSome}
use Rattle.std.proofs.lemmas.Bool.{and_parts, not-true}
use Rattle.std.proofs.lemmas.List.Elements.{All-filter, All-from_recursion, filter_passes, recursion_from_All}
use Rattle.std.proofs.lemmas.List.Sorted.{All-permutation, IsPermutation-map}
use Rattle.cache_base.specs.Names.{has_name}
use Rattle.cache_base.specs.declared.name.Name.{Name}
use Rattle.cache_store.specs.Evicting.{ArePicked, AreUnused, AreVictims, HoldsFiles, has_file}
use Rattle.disk_theory.specs.State.{State, standing}
use Rattle.disk_theory.specs.declared.place.Place.TheVariants.{Entry}
use Rattle.evictor.specs.Evict.{candidates, in_order, may_evict, total_kb, victims}
use Rattle.evictor.proofs.AnyOrder.{same_in_any_order}
use Rattle.evictor.proofs.Prefix.{IsPrefix, split}
use Rattle.evictor.proofs.Sorting.{moved_in_order}
use Rattle.file_handles.specs.Cache.{cache_at}
use Rattle.handle_table.specs.Kept.{Kept}
use Rattle.file_handles.specs.Stands.{RepresentsSome}
use Rattle.handle_table.specs.Users.{AreOpenNames, users_of}
use Rattle.index_map.specs.Known.{IsKnown, Known}
use Rattle.index_map.proofs.Sorted.{sorted, sorted_by_name}
use Rattle.index_record.specs.Record.{is_pinned}
use Rattle.index_record.specs.declared.record.IndexRecord.{IndexRecord}
use Rattle.record_list.specs.Lists.{HasNames, names_of, same_name}
use Rattle.record_list.proofs.OrderLaws.{distinct_permutation}
use Rattle.record_list.proofs.ReadingLaws.{filter_distinct}

pub all_filtered : {X : Type 0} (P : X → Type 0) (p : X → Bool) (xs : List X) → AllByRecursion P xs → AllByRecursion P (filter p xs)
all_filtered P p xs h = recursion_from_All P (filter p xs) (All-filter p P xs (All-from_recursion P xs h))

-- some of distinct names are distinct
pub filtered_distinct : (test : Name → Bool) (names : List Name) → IsDistinct same_name names → IsDistinct same_name (filter test names)
unfolding IsDistinct
filtered_distinct test [] h = tt
filtered_distinct test (n ∷ names) h = elim (test n) as (λ b. IsDistinct same_name (cond b (n ∷ filter test names) (filter test names))) [
  | true ↦ (all_filtered (λ q. same_name n q ≡ false) test names h.0, filtered_distinct test names h.1)
  | false ↦ filtered_distinct test names h.1
]

all_first : {X : Type 0} (P : X → Type 0) (xs ys : List X) → AllByRecursion P (xs ++ ys) → AllByRecursion P xs
all_first P [] ys h = tt
all_first P (x ∷ xs) ys h = (h.0, all_first P xs ys h.1)

all_names : (P : Name → Type 0) (rs : List IndexRecord) → AllByRecursion (λ r. P r.name) rs → AllByRecursion P (names_of rs)
all_names P [] h = tt
all_names P (r ∷ rs) h = (h.0, all_names P rs h.1)

first_names : (P : Name → Type 0) (first rest : List IndexRecord) → AllByRecursion P (names_of (first ++ rest)) → AllByRecursion P (names_of first)
first_names P [] rest h = tt
first_names P (r ∷ first) rest h = (h.0, first_names P first rest h.1)

first_distinct : (first rest : List IndexRecord) → HasNames (first ++ rest) → HasNames first
unfolding IsDistinct
first_distinct [] rest h = tt
first_distinct (r ∷ first) rest h = (first_names (λ n. same_name r.name n ≡ false) first rest h.0, first_distinct first rest h.1)

module _ (records : List IndexRecord) (in_use : List Name) (kb : ℕ) where
  abbrev may : IndexRecord → Bool
  may = may_evict in_use

  prefix : (first : List IndexRecord) × (rest : List IndexRecord) × IsPrefix (total_kb records) kb (candidates records in_use) first rest
  prefix = split (total_kb records) kb (candidates records in_use)

  named : names_of prefix.0 ≡ victims records in_use kb
  named = sym (ap (map (λ (r : IndexRecord). r.name)) prefix.2.found)

  victims_distinct : HasNames records → IsDistinct same_name (victims records in_use kb)
  victims_distinct names =
      let left : List IndexRecord = filter may records in
      let moved = distinct_permutation (names_of left) (names_of (in_order left)) (IsPermutation-map (λ (r : IndexRecord). r.name) left (in_order left) (moved_in_order left)) (filter_distinct may records names) in
      subst (IsDistinct same_name) named (first_distinct prefix.0 prefix.1 (subst HasNames prefix.2.joined moved))

  all_may : AllByRecursion (λ r. may r ≡ true) (candidates records in_use)
  all_may =
      let left : List IndexRecord = filter may records in
      recursion_from_All (λ r. may r ≡ true) (in_order left) (All-permutation (λ r. may r ≡ true) left (in_order left) (moved_in_order left) (filter_passes may records))

  -- what holds of all that may be evicted holds of the victims
  all_victims : (P : Name → Type 0) → ((r : IndexRecord) → may r ≡ true → P r.name) → AllByRecursion P (victims records in_use kb)
  all_victims P of =
      subst (AllByRecursion P) named
      (all_names P prefix.0
      (go prefix.0 (all_first (λ r. may r ≡ true) prefix.0 prefix.1 (subst (AllByRecursion (λ r. may r ≡ true)) prefix.2.joined all_may))))
    where
      go : (rs : List IndexRecord) → AllByRecursion (λ r. may r ≡ true) rs → AllByRecursion (λ r. P r.name) rs
      go [] h = tt
      go (r ∷ rs) h = (of r h.0, go rs h.1)

  not_in_use : (r : IndexRecord) → may r ≡ true → has_name in_use r.name ≡ false
  not_in_use r passes = not-true (has_name in_use r.name) (and_parts (not (is_pinned r)) (not (has_name in_use r.name)) passes).1

module _ (map : Known) (k : Kept) (kb : ℕ) (names : List Name) (are : AreVictims map k kb names) where
  pub victims_unused : AllByRecursion (λ name. users_of k name ≡ 0) names
  victims_unused =
      subst (AllByRecursion (λ name. users_of k name ≡ 0)) (sym are.chosen)
      (all_victims map.records are.in_use kb (λ name. users_of k name ≡ 0) (λ r passes. are.unused r.name (not_in_use map.records are.in_use kb r passes)))

  -- and so of some of them
  pub picked_unused : (some : List Name) → ArePicked names some → AreUnused k some
  picked_unused some (test, is) =
      let distinct : IsDistinct same_name names = subst (IsDistinct same_name) (sym are.chosen) (victims_distinct map.records are.in_use kb are.known.names) in
      subst (AreUnused k) (sym is) (record {
        distinct = filtered_distinct test names distinct;
        unused = all_filtered (λ name. users_of k name ≡ 0) test names victims_unused;
      })

pub files_stand : (s : State) (names : List Name) → AllByRecursion (λ name. IsSome (standing s (Entry name))) (filter (has_file s) names)
files_stand s names = recursion_from_All (λ name. IsSome (standing s (Entry name))) (filter (has_file s) names) (filter_passes (has_file s) names)

-- they are the victims of the records in name order, too
pub victims_by_name : (map : Known) (k : Kept) (kb : ℕ) (names : List Name) (are : AreVictims map k kb names) → names ≡ victims (sorted map.records) are.in_use kb
victims_by_name map k kb names are =
    are.chosen ∙ same_in_any_order map.records (sorted map.records) are.in_use kb are.known.names (sorted_by_name map.records are.known.names).same

-- the names that `victims` gives are victims
pub chooses : {E : Type 0} (map : Known) (k : Kept) (kb : ℕ) (records : List IndexRecord) (in_use : List Name) → IsKnown map → records ≡ map.records → AreOpenNames k in_use
    → ((name : Name) → has_name in_use name ≡ false → users_of k name ≡ 0) → (r : Result (List Name) E) → IfOk r (λ names. names ≡ victims records in_use kb) → IfOk r (AreVictims map k kb)
chooses map k kb records in_use known same opened unused (Err e) is = tt
chooses map k kb records in_use known same opened unused (Ok names) is =
    record { in_use = in_use; known = known; opened = opened; unused = unused; chosen = is ∙ ap (λ rs. victims rs in_use kb) same }

-- files that were seen to stand may be removed
pub files_hold : (k : Kept) (s t v : State) (names files : List Name) → t ≡ s → v ≡ t → files ≡ filter (has_file t) names → RepresentsSome (cache_at k s) → HoldsFiles (cache_at k v) files
files_hold k s t v names files first second are some =
    let stand : files ≡ filter (has_file v) names = are ∙ ap (λ (x : State). filter (has_file x) names) (sym second) in
    subst (HoldsFiles (cache_at k v)) (sym stand) (record {
      stands = subst (λ (x : State). RepresentsSome (cache_at k x)) (sym (second ∙ first)) some;
      files = files_stand v names;
    })
