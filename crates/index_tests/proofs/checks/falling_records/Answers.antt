use Rattle.std.proofs.Common.{◌≡◌, false, [], ◌∷◌, ◌++◌, refl, sym, ap, ◌∙◌, subst}
use Rattle.std.specs.List.{IsDistinct}
use Rattle.cache_base.specs.declared.name.Name.{Name}
use Rattle.index_record.specs.declared.record.IndexRecord.{IndexRecord}
use Rattle.record_list.specs.Lists.{HasNames, same_name}
use Rattle.index_tests.proofs.checks.falling_records.Goals as goal

two_names : (a b : IndexRecord) (x y : Name) → a.name ≡ x → b.name ≡ y → same_name x y ≡ false → HasNames (a ∷ b ∷ [])
unfolding IsDistinct
two_names a b x y e f apart = (((λ i. same_name (e i) (f i)) ∙ apart, tt), (tt, tt))

pub returns : goal.returns
returns c =
    let a = c.record_of.result in
    let b = c.record_of-2.result in
    let e = c.in_ok-push-2.ensures.ok ∙ ap (λ l. l ++ b ∷ []) (c.in_ok-push.ensures.ok ∙ ap (λ l. l ++ a ∷ []) c.new-records.ensures) in
    subst HasNames (sym e) (two_names a b _ _ c.record_of.ensures c.record_of-2.ensures refl)
