-- Records do not differ from themselves.
use Rattle.std.proofs.Common.{◌≡◌, ◌<◌, ◌≤◌, ℕ, zero, suc, Bool, true, false, cond, List, [], ◌∷◌, length, get_or, All, None, Some, count_by, is_none, is_some, ◌&&◌, refl, sym, ap, ◌∙◌, arith}
use Rattle.std.specs.List.{IsDistinct}
use Rattle.std.proofs.lemmas.Bool.{eq-eqb}
use Rattle.std.proofs.lemmas.List.{get_or-map, length-map}
use Rattle.std.proofs.lemmas.List.Elements.{All-from_recursion}
use Rattle.std.proofs.lemmas.List.Sums.{sum_by-le}
use Rattle.index_map.specs.Known.{changed}
use Rattle.index_record.specs.declared.record.IndexRecord.{IndexRecord}
use Rattle.record_list.specs.Change.{change, record_eq}
use Rattle.record_list.specs.Lists.{HasNames, names_of, record_at, same_name}
use Rattle.record_list.proofs.NameLaws.{same_itself}

agrees_itself : (r : IndexRecord) → record_eq r r ≡ true
agrees_itself r = λ i.
    same_itself r.name i && eq-eqb r.frecency r.frecency refl i && eq-eqb r.origin r.origin refl i && eq-eqb r.on_start r.on_start refl i
    && eq-eqb r.on_stop r.on_stop refl i && eq-eqb r.content r.content refl i && eq-eqb r.flags r.flags refl i

-- where no name stands twice, each record is the one under its name
finds_itself : (rs : List IndexRecord) → HasNames rs → All (λ r. record_at rs r.name ≡ Some r) rs
unfolding IsDistinct
finds_itself [] names k d low = absurd (omega (arith, low))
finds_itself (x ∷ rs) names zero d low = ap (λ b. cond b (Some x) (record_at rs x.name)) (same_itself x.name)
finds_itself (x ∷ rs) names (suc k) d low =
    let under : k < length rs = omega (arith, low) in
    let name : get_or (names_of rs) k d.name ≡ (get_or rs k d).name = get_or-map (λ (r : IndexRecord). r.name) rs k d d.name under in
    let apart : same_name x.name (get_or (names_of rs) k d.name) ≡ false =
    All-from_recursion (λ n. same_name x.name n ≡ false) (names_of rs) names.0 k d.name (omega (arith, under, length-map rs (λ (r : IndexRecord). r.name))) in
    ap (λ b. cond b (Some x) (record_at rs (get_or rs k d).name)) (sym (ap (same_name x.name) name) ∙ apart) ∙ finds_itself rs names.1 k d under

none_passes : (p : IndexRecord → Bool) (rs : List IndexRecord) → All (λ r. p r ≡ false) rs → count_by p rs ≡ 0
none_passes p rs none =
    let all : All (λ r. cond (p r) 1 0 ≤ 0) rs = λ k d low. let no_one = ap {B = ℕ} (λ b. cond b 1 0) (none k d low) in omega (arith, no_one) in
    let sum = sum_by-le (λ r. cond (p r) 1 0) 0 rs all in
    omega (arith, sum)

pub unchanged_itself : (rs : List IndexRecord) → HasNames rs → changed rs rs ≡ 0
unchanged_itself rs names =
    let found : All (λ r. record_at rs r.name ≡ Some r) rs = finds_itself rs names in
    let other = none_passes (λ r. is_some (change r.name (record_at rs r.name) (Some r))) rs
    (λ k d low. let r = get_or rs k d in ap (λ o. is_some (change r.name o (Some r))) (found k d low) ∙ ap (λ b. is_some (cond b None (Some r))) (agrees_itself r)) in
    let gone = none_passes (λ r. is_none (record_at rs r.name)) rs (λ k d low. ap is_none (found k d low)) in
    omega (arith, other, gone)
