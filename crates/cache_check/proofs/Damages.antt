-- The findings of a body whose chunks are checked in order.
use Rattle.std.proofs.Common.{◌≡◌, ◌≤◌, ◌<◌, ◌+◌, ◌-◌, ◌++◌, ℕ, suc, List, [], ◌∷◌, take, map, Option, Some, None, refl, sym, ap, ◌∙◌, append_assoc, append-nil, arith}
use Rattle.std.specs.Prelude.{filter_map, option_to_list}
use Rattle.std.specs.List.{cons_option, range_with_len}
use Rattle.cache_base.specs.Limits.{chunks}
use Rattle.cache_base.specs.declared.name.Name.{Name}
use Rattle.cache_check.specs.declared.finding.Finding.{Finding}
use Rattle.cache_check.specs.declared.finding.What.TheVariants as what
use Rattle.chunk_store.specs.Chunks.{damage_at, damages}
use Rattle.chunk_store.specs.declared.damage.Damage.{Damage}
use Rattle.entry_metadata.specs.Metadata.{Meta}
use Rattle.cache_check.specs.Checks.{named}
use Rattle.cache_check.specs.Findings.{damaged}

-- the damages of the chunks from i on, of n
abbrev pub damages_from : (ℕ → Option Damage) → ℕ → ℕ → List Damage
damages_from f i n = filter_map f (range_with_len i (n - i))

abbrev pub listed : Name → List Damage → List Finding
listed name ds = named name (map (λ d. what.Damaged d) ds)

listed-append : (name : Name) (ds es : List Damage) → listed name (ds ++ es) ≡ listed name ds ++ listed name es
listed-append name [] es = refl
listed-append name (d ∷ ds) es = ap (λ (fs : List Finding). (record { name = name; what = what.Damaged d }) ∷ fs) (listed-append name ds es)

cons_listed : (o : Option Damage) (ds : List Damage) → cons_option o ds ≡ option_to_list o ++ ds
cons_listed None ds = refl
cons_listed (Some d) ds = refl

step : (f : ℕ → Option Damage) (i left : ℕ) → filter_map f (range_with_len i (suc left)) ≡ cons_option (f i) (filter_map f (range_with_len (i + 1) left))
step f i left = refl

module _ (f : ℕ → Option Damage) (i n : ℕ) where
  from_next : (o : Option Damage) → i < n → o ≡ f i → damages_from f i n ≡ option_to_list o ++ damages_from f (i + 1) n
  from_next o lt is =
      let one : n - i ≡ suc (n - (i + 1)) = omega (arith, lt) in
      ap (λ left. filter_map f (range_with_len i left)) one
      ∙ step f i (n - (i + 1))
      ∙ ap (λ p. cons_option p (damages_from f (i + 1) n)) (sym is)
      ∙ cons_listed o (damages_from f (i + 1) n)

  from_end : n ≤ i → damages_from f i n ≡ []
  from_end le = let none : n - i ≡ 0 = omega (arith, le) in ap (λ left. filter_map f (range_with_len i left)) none

  pub more : (name : Name) (out next whole : List Finding) (o : Option Damage) → i < n → o ≡ f i
      → next ≡ out ++ listed name (option_to_list o)
      → out ++ listed name (damages_from f i n) ≡ whole
      → next ++ listed name (damages_from f (i + 1) n) ≡ whole
  more name out next whole o lt is grown so_far =
      let left = damages_from f (i + 1) n in
      ap (λ (fs : List Finding). fs ++ listed name left) grown
      ∙ append_assoc out (listed name (option_to_list o)) (listed name left)
      ∙ ap (λ (fs : List Finding). out ++ fs) (sym (listed-append name (option_to_list o) left))
      ∙ ap (λ ds. out ++ listed name ds) (sym (from_next o lt is))
      ∙ so_far

  pub all : (name : Name) (out whole : List Finding) → n ≤ i → out ++ listed name (damages_from f i n) ≡ whole → out ≡ whole
  all name out whole le so_far =
      sym (append-nil out) ∙ ap (λ ds. out ++ listed name ds) (sym (from_end le)) ∙ so_far

-- the damages are looked for from the first chunk on
pub from_first : (name : Name) (m : Meta) (c : List ℕ) → listed name (damages_from (damage_at m.hashes (take m.offset c)) 0 (chunks m.offset)) ≡ named name (damaged m c)
unfolding damages
from_first name m c =
    let n = chunks m.offset in
    let same : n - 0 ≡ n = omega arith in
    ap (λ k. listed name (filter_map (damage_at m.hashes (take m.offset c)) (range_with_len 0 k))) same
