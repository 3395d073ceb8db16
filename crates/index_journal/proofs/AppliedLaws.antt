-- The list of an index and its journal, by rising names, is the journal applied to the index.
use Rattle.std.proofs.Common.{◌≡◌, List, [], ◌∷◌, ◌++◌, Bool, true, false, not, cond, refl, sym, subst, ◌∙◌}
use Rattle.std.specs.Prelude.{filter}
use Rattle.std.specs.List.{AllByRecursion}
use Rattle.std.proofs.lemmas.List.Elements.{All-from_recursion, recursion_from_All}
use Rattle.std.proofs.lemmas.List.Sorted.{All-permutation}
use Rattle.cache_base.specs.Names.{has_name}
use Rattle.index_record.specs.declared.record.IndexRecord.{IndexRecord}
use Rattle.index_record.specs.Record.{is_removed}
use Rattle.record_list.specs.Change.{HasNoRemoved, IsApplied}
use Rattle.record_list.specs.Lists.{HasNames, IsByName, names_of}
use Rattle.record_list.specs.Stored.{AreClean, IsClean, present}
use Rattle.record_list.proofs.SortedLaws.{by_name_keeps}
use Rattle.index_journal.specs.Merged.{merged}
use Rattle.index_journal.proofs.MergedLaws.{merged_at, merged_distinct}

all_filter : (P : IndexRecord → Type 0) (p : IndexRecord → Bool) (rs : List IndexRecord) → AllByRecursion P rs → AllByRecursion P (filter p rs)
all_filter P p [] h = tt
all_filter P p (r ∷ rs) h = elim (p r) as (λ b. AllByRecursion P (cond b (r ∷ filter p rs) (filter p rs))) [
  | true ↦ (h.0, all_filter P p rs h.1)
  | false ↦ all_filter P p rs h.1
]

all_append : (P : IndexRecord → Type 0) (xs ys : List IndexRecord) → AllByRecursion P xs → AllByRecursion P ys → AllByRecursion P (xs ++ ys)
all_append P [] ys hx hy = hy
all_append P (x ∷ xs) ys hx hy = (hx.0, all_append P xs ys hx.1 hy)

present_step : (r : IndexRecord) (rs : List IndexRecord) → HasNoRemoved (present rs) → (b : Bool) → is_removed r ≡ b → HasNoRemoved (cond (not b) (r ∷ present rs) (present rs))
present_step r rs more true e = more
present_step r rs more false e = (e, more)

none_removed : (rs : List IndexRecord) → HasNoRemoved (present rs)
none_removed [] = tt
none_removed (r ∷ rs) = present_step r rs (none_removed rs) (is_removed r) refl

module _ (rs js sorted : List IndexRecord) (hr : HasNames rs) (hj : HasNames js) (by : IsByName (merged rs js) sorted) where
  is_applied : IsApplied rs js sorted
  is_applied = record {
    rising = by.rising;
    same = λ name. by_name_keeps (merged rs js) sorted (merged_distinct rs js hr hj) by name ∙ merged_at rs js hj name;
  }

  -- what holds of the records of both lists, and of those that are not removed of the journal, holds of all
  each : (P : IndexRecord → Type 0) → AllByRecursion P rs → AllByRecursion P (present js) → AllByRecursion P sorted
  each P h k =
      recursion_from_All P sorted (All-permutation P (merged rs js) sorted by.same
      (All-from_recursion P (merged rs js) (all_append P _ (present js) (all_filter P (λ r. not (has_name (names_of js) r.name)) rs h) k)))

-- the list that was merged from what stands in two slices
pub merged_is : (items : List IndexRecord) {rs js xs ys : List IndexRecord} → items ≡ merged xs ys → xs ≡ rs → ys ≡ js → items ≡ merged rs js
merged_is items e ex ey = e ∙ (λ i. merged (ex i) (ey i))

module _ (rs js : List IndexRecord) (hr : HasNames rs) (hj : HasNames js) (items : List IndexRecord) (is : items ≡ merged rs js) where
  pub items_distinct : HasNames items
  items_distinct = subst HasNames (sym is) (merged_distinct rs js hr hj)

  by_merged : (sorted : List IndexRecord) → IsByName items sorted → IsByName (merged rs js) sorted
  by_merged sorted by = subst (λ xs. IsByName xs sorted) is by

  pub applied_answer : (sorted : List IndexRecord) → IsByName items sorted → IsApplied rs js sorted
  applied_answer sorted by = is_applied rs js sorted hr hj (by_merged sorted by)

  pub clean_answer : (sorted : List IndexRecord) → IsByName items sorted → AreClean rs → AreClean js → AreClean sorted
  clean_answer sorted by h k = each rs js sorted hr hj (by_merged sorted by) IsClean h (all_filter IsClean (λ r. not (is_removed r)) js k)

  pub present_answer : (sorted : List IndexRecord) → IsByName items sorted → HasNoRemoved rs → HasNoRemoved sorted
  present_answer sorted by h = each rs js sorted hr hj (by_merged sorted by) (λ r. is_removed r ≡ false) h (none_removed js)
