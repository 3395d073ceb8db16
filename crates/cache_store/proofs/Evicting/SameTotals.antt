-- Records that say the same under each name are the same in another order, so that their sizes have one sum.
use Rattle.std.proofs.Common.{Bool, true, false, cond, ◌≡◌, ◌∙◌, List, [], ◌∷◌, None, Option, Some, refl, sym, ap, subst}
use Rattle.std.specs.List.{AllByRecursion, IsDistinct}
use Rattle.std.specs.List.Sorted.{IsPermutation}
use Rattle.std.proofs.lemmas.List.Sorted.{IsPermutation-cons, IsPermutation-map, IsPermutation-middle, IsPermutation-refl, IsPermutation-sym, IsPermutation-trans, sum_by-IsPermutation}
use Rattle.cache_base.specs.declared.name.Name.{Name}
use Rattle.cache_theory.specs.Machine.{Machine}
use Rattle.cache_theory.specs.Proper.{IsProper}
use Rattle.cache_theory.specs.Table.{get}
use Rattle.evictor.specs.Evict.{total_kb}
use Rattle.index_map.specs.Known.{Known}
use Rattle.index_record.specs.Record.{size_kb}
use Rattle.index_record.specs.declared.record.IndexRecord.{IndexRecord}
use Rattle.index_theory.specs.Scan.{scan}
use Rattle.index_theory.proofs.ScanLaws.{table_is_scanned}
use Rattle.index_update.specs.Tells.{TellsAll}
use Rattle.record_list.specs.Lists.{HasNames, names_of, record_at, same_name}
use Rattle.record_list.proofs.NameLaws.{rising_distinct, same_back, same_is, same_itself}
use Rattle.record_list.proofs.OrderLaws.{distinct_permutation}

some_is : (x y : IndexRecord) → Some x ≡ Some y → x ≡ y
some_is x y e = cc

-- none stands under a name that all of the records differ from
none_at : (name : Name) (rs : List IndexRecord) → AllByRecursion (λ n. same_name name n ≡ false) (names_of rs) → record_at rs name ≡ None
none_at name [] unlike = refl
none_at name (r ∷ rs) unlike =
    ap (λ (b : Bool). cond b (Some r) (record_at rs name)) (same_back r.name name ∙ unlike.0) ∙ none_at name rs unlike.1

first_at : (r : IndexRecord) (rs : List IndexRecord) → record_at (r ∷ rs) r.name ≡ Some r
first_at r rs = ap (λ (b : Bool). cond b (Some r) (record_at rs r.name)) (same_itself r.name)

past_first : (r : IndexRecord) (rs : List IndexRecord) (name : Name) → same_name r.name name ≡ false → record_at (r ∷ rs) name ≡ record_at rs name
past_first r rs name other = ap (λ (b : Bool). cond b (Some r) (record_at rs name)) other

distinct_first : (r : IndexRecord) (rs : List IndexRecord) → HasNames (r ∷ rs) → AllByRecursion (λ n. same_name r.name n ≡ false) (names_of rs) × HasNames rs
unfolding IsDistinct
distinct_first r rs names = names

-- a record is taken out of those among which it stands
record Without (x : IndexRecord) (ys rest : List IndexRecord) : Type 0 where
  moved : IsPermutation (x ∷ rest) ys
  others : (name : Name) → same_name x.name name ≡ false → record_at rest name ≡ record_at ys name

taken_out : (x : IndexRecord) (ys : List IndexRecord) → record_at ys x.name ≡ Some x → (rest : List IndexRecord) × Without x ys rest
taken_out x [] at = absurd (cc)
taken_out x (y ∷ ys) at = go (same_name y.name x.name) refl (taken_out x ys)
  where
    go : (b : Bool) → same_name y.name x.name ≡ b → (record_at ys x.name ≡ Some x → (rest : List IndexRecord) × Without x ys rest)
        → (rest : List IndexRecord) × Without x (y ∷ ys) rest
    go true e later =
        let same : y ≡ x = some_is y x (sym (ap (λ (b : Bool). cond b (Some y) (record_at ys x.name)) e) ∙ at) in (
          ys,
          record {
            moved = subst (λ (z : IndexRecord). IsPermutation (x ∷ ys) (z ∷ ys)) (sym same) (IsPermutation-refl (x ∷ ys));
            others = λ name other. sym (past_first y ys name (ap (λ (z : IndexRecord). same_name z.name name) same ∙ other));
          },
        )
    go false e later =
        let found = later (sym (past_first y ys x.name e) ∙ at) in (
          y ∷ found.0,
          record {
            moved = IsPermutation-trans _ _ _ (IsPermutation-sym _ _ (IsPermutation-middle (y ∷ []) x found.0)) (IsPermutation-cons y _ _ found.1.moved);
            others = λ name other. ap (λ (o : Option IndexRecord). cond (same_name y.name name) (Some y) o) (found.1.others name other);
          },
        )

pub same_records : (xs ys : List IndexRecord) → HasNames xs → HasNames ys → ((name : Name) → record_at xs name ≡ record_at ys name) → IsPermutation xs ys
same_records [] [] a b same = IsPermutation-refl []
same_records [] (y ∷ ys) a b same = let one = same y.name ∙ first_at y ys in absurd (cc)
same_records (x ∷ xs) ys a b same =
    let out = taken_out x ys (sym (same x.name) ∙ first_at x xs) in
    let first = distinct_first x xs a in
    let kept = distinct_first x out.0 (distinct_permutation (names_of ys) (names_of (x ∷ out.0)) (IsPermutation-map (λ (r : IndexRecord). r.name) ys (x ∷ out.0) (IsPermutation-sym _ _ out.1.moved)) b) in
    IsPermutation-trans _ _ _ (IsPermutation-cons x _ _ (same_records xs out.0 first.1 kept.1 (λ name. go out.0 first.0 kept.0 out.1 name (same_name x.name name) refl))) out.1.moved
  where
    go : (rest : List IndexRecord) → AllByRecursion (λ n. same_name x.name n ≡ false) (names_of xs) → AllByRecursion (λ n. same_name x.name n ≡ false) (names_of rest)
        → Without x ys rest → (name : Name) (b : Bool) → same_name x.name name ≡ b → record_at xs name ≡ record_at rest name
    go rest first kept out name true e =
        subst (λ (n : Name). record_at xs n ≡ record_at rest n) (same_is x.name name e) (none_at x.name xs first ∙ sym (none_at x.name rest kept))
    go rest first kept out name false e = sym (past_first x xs name e) ∙ same name ∙ sym (out.others name e)

-- so the sizes of the records that tell all of the shelf sum up to those of its scan
pub sums_scan : (m : Machine) (map : Known) → IsProper m → TellsAll (get m.shelf) map → HasNames map.records → total_kb map.records ≡ total_kb (scan m.shelf)
sums_scan m map proper tells names =
    let scanned = table_is_scanned m.shelf proper.shelf.rising in
    sym (sum_by-IsPermutation size_kb map.records (scan m.shelf)
    (same_records map.records (scan m.shelf) names (rising_distinct _ scanned.rising) (λ name. tells name ∙ sym (scanned.same name))))
