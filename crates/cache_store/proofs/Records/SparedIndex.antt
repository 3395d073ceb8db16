-- Where few records differ from the index, none is written.
use Rattle.std.proofs.Common.{◌≡◌, ◌<◌, ℕ, Bool, true, false, cond, refl, ap, ◌∙◌, arith}
use Rattle.std.specs.Prelude.{nat_le, not, ◌||◌}
use Rattle.std.proofs.lemmas.Bool.{leb-false, leb-true}
use Rattle.cache_base.specs.declared.limits.TheConstants.{CHANGED_MAX}
use Rattle.index_map.specs.Known.{IsKnown, Known, changed}
use Rattle.startup_read.specs.Kept.{written_map}
use Rattle.startup_read.specs.Refreshing.{after_refresh, is_due}
use Rattle.cache_store.specs.IndexCalls.{IsFresh}
use Rattle.cache_store.specs.InUse.{HasFewChanges}

-- a number below another is not at least that
below : (m n : ℕ) → n < m → nat_le m n ≡ false
below m n lt = go (nat_le m n) refl
  where
    go : (b : Bool) → nat_le m n ≡ b → nat_le m n ≡ false
    go true e = let le = leb-true m n e in absurd (omega (arith, lt, le))
    go false e = e

-- few records differ from an index whose map is as all maps are
pub few_fresh : (map : Known) → HasFewChanges map → (map.has_base ≡ true → IsKnown map) → IsFresh map
few_fresh map has known = record { has_base = has.has_base; few = has.few (known has.has_base) }

-- a fresh index is not due
pub fresh_not_due : (map : Known) → IsFresh map → is_due map ≡ false
fresh_not_due map fresh = (λ i. not (fresh.has_base i) || nat_le CHANGED_MAX (changed map.base map.records)) ∙ below CHANGED_MAX (changed map.base map.records) fresh.few

-- and one that is not due is fresh
pub not_due_fresh : (map : Known) → is_due map ≡ false → IsFresh map
not_due_fresh map e = go map.has_base refl (nat_le CHANGED_MAX (changed map.base map.records)) refl e
  where
    go : (b : Bool) → map.has_base ≡ b → (l : Bool) → nat_le CHANGED_MAX (changed map.base map.records) ≡ l → (not b || l) ≡ false → IsFresh map
    go true has false below e = record { has_base = has; few = leb-false CHANGED_MAX (changed map.base map.records) below }
    go true has true below e = absurd (cc)
    go false has l below e = absurd (cc)

-- nothing is done to the map
pub not_due_same : (map : Known) → is_due map ≡ false → after_refresh map ≡ map
not_due_same map e = ap (λ (b : Bool). cond b (written_map map) map) e
