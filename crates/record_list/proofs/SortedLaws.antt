-- What a list has under a name does not hang on its order, where no name stands twice.
use Rattle.std.proofs.Common.{◌≡◌, zero, suc, List, [], ◌∷◌, Bool, true, false, cond, refl, sym, ap, subst, ◌∙◌, arith}
use Rattle.std.specs.Prelude.{Option, None, Some}
use Rattle.std.specs.List.{AllByRecursion, Contains, IsDistinct}
use Rattle.std.proofs.lemmas.List.Sorted.{Contains-permutation, IsPermutation-sym}
use Rattle.cache_base.specs.declared.name.Name.{Name}
use Rattle.index_record.specs.declared.record.IndexRecord.{IndexRecord}
use Rattle.record_list.specs.Laws.{ByNameKeeps}
use Rattle.record_list.specs.Lists.{HasNames, names_of, record_at, same_name}
use Rattle.record_list.proofs.ChangeLaws.{some_same}
use Rattle.record_list.proofs.NameLaws.{same_is, same_itself}
use Rattle.record_list.proofs.Printed.{names_by_name}

later : (x : IndexRecord) (xs : List IndexRecord) (r : IndexRecord) → Contains xs r → Contains (x ∷ xs) r
later x xs r h = (suc h.0, omega (arith, h.1), h.2)

-- the record under a name is in the list, and has the name
found : (rs : List IndexRecord) (name : Name) (r : IndexRecord) → record_at rs name ≡ Some r → Contains rs r × (r.name ≡ name)
found [] name r h = absurd (cc)
found (x ∷ rs) name r h = go (same_name x.name name) refl h (found rs name r)
  where
    go : (b : Bool) → same_name x.name name ≡ b → cond b (Some x) (record_at rs name) ≡ Some r → (record_at rs name ≡ Some r → Contains rs r × (r.name ≡ name))
        → Contains (x ∷ rs) r × (r.name ≡ name)
    go true e h more = let same : x ≡ r = some_same x r h in ((0, omega arith, same), ap (λ (y : IndexRecord). y.name) (sym same) ∙ same_is x.name name e)
    go false e h more = let rest = more h in (later x rs r rest.0, rest.1)

all_at : (P : Name → Type 0) (rs : List IndexRecord) (r : IndexRecord) → AllByRecursion P (names_of rs) → Contains rs r → P r.name
all_at P [] r h c = absurd (omega (arith, c.1))
all_at P (x ∷ rs) r h (zero, lt, is) = subst (λ (y : IndexRecord). P y.name) is h.0
all_at P (x ∷ rs) r h (suc k, lt, is) = all_at P rs r h.1 (k, omega (arith, lt), is)

-- a record in the list is the one under its name
there : (rs : List IndexRecord) (r : IndexRecord) → HasNames rs → Contains rs r → record_at rs r.name ≡ Some r
unfolding IsDistinct
there [] r h c = absurd (omega (arith, c.1))
there (x ∷ rs) r h (zero, lt, is) = ap (λ b. cond b (Some x) (record_at rs r.name)) (ap (λ (y : IndexRecord). same_name x.name y.name) (sym is) ∙ same_itself x.name) ∙ ap Some is
there (x ∷ rs) r h (suc k, lt, is) =
    let apart : same_name x.name r.name ≡ false = all_at (λ n. same_name x.name n ≡ false) rs r h.0 (k, omega (arith, lt), is) in
    ap (λ b. cond b (Some x) (record_at rs r.name)) apart ∙ there rs r h.1 (k, omega (arith, lt), is)

pub by_name_keeps : ByNameKeeps
by_name_keeps rs sorted distinct by name = go (record_at sorted name) (record_at rs name) refl refl
  where
    go : (o p : Option IndexRecord) → record_at sorted name ≡ o → record_at rs name ≡ p → o ≡ p
    go None None e f = refl
    go (Some r) p e f =
        let at = found sorted name r e in
        sym (subst (λ n. record_at rs n ≡ Some r) at.1 (there rs r distinct (Contains-permutation sorted rs r (IsPermutation-sym rs sorted by.same) at.0))) ∙ f
    go None (Some r) e f =
        let at = found rs name r f in
        sym e ∙ subst (λ n. record_at sorted n ≡ Some r) at.1 (there sorted r (names_by_name rs sorted by distinct) (Contains-permutation rs sorted r by.same at.0))
