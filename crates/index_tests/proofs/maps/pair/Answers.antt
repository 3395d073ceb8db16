use Rattle.std.proofs.Common.{◌≡◌, false, [], ◌∷◌, ◌++◌, refl, sym, ap, ◌∙◌, subst}
use Rattle.std.specs.List.{IsDistinct}
use Rattle.cache_base.specs.declared.name.Name.{Name}
use Rattle.index_record.specs.declared.record.IndexRecord.{IndexRecord}
use Rattle.record_list.specs.Lists.{HasNames, same_name}
use Rattle.index_tests.proofs.maps.pair.Goals as goal

two_names : (a b : IndexRecord) (x y : Name) → a.name ≡ x → b.name ≡ y → same_name x y ≡ false → HasNames (a ∷ b ∷ [])
unfolding IsDistinct
two_names a b x y e f apart = (((λ i. same_name (e i) (f i)) ∙ apart, tt), (tt, tt))

pub returns-clause-names : goal.returns-clause-names
returns-clause-names c =
    let a = c.record.result in
    let b = c.record-2.result in
    let e = c.in_ok-push-2.ensures.ok ∙ ap (λ l. l ++ b ∷ []) (c.in_ok-push.ensures.ok ∙ ap (λ l. l ++ a ∷ []) c.new-list.ensures) in
    subst HasNames (sym e) (two_names a b _ _ c.record.ensures.name c.record-2.ensures.name refl)
