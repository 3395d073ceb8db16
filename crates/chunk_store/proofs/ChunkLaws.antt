-- Chunks by their hashes.
use Rattle.std.proofs.Common.{◌≡◌, ℕ, zero, suc, ◌+◌, ◌<◌, ◌≤◌, List, [], Bool, true, false, cond, refl, sym, ap, ◌∙◌, arith}
use Rattle.std.specs.Prelude.{◌==◌, nat_lt, slice_index, Option, None, Some, filter_map}
use Rattle.std.specs.List.{range_with_len, cons_option}
use Rattle.std.proofs.lemmas.Bool.{eqb-true, ltb-true, ltb-false}
use Rattle.cache_base.specs.Limits.{chunks}
use Rattle.jenkins_hash.specs.Hash.{hash16_of}
use Rattle.chunk_store.specs.declared.damage.Damage.{Damage}
use Rattle.chunk_store.specs.Chunks.{chunk, damage_at, damages}

-- a list that leaves nothing of a range has nothing at each place
nothing_at : (f : ℕ → Option Damage) (a n i : ℕ) → filter_map f (range_with_len a n) ≡ [] → a ≤ i → i < a + n → f i ≡ None
nothing_at f a zero i h low high = absurd (omega (arith, low, high))
nothing_at f a (suc n) i h low high =
    let go : (o : Option Damage) → cons_option o (filter_map f (range_with_len (a + 1) n)) ≡ []
    → (o ≡ None) × (filter_map f (range_with_len (a + 1) n) ≡ []) =
    λ o. elim o as (λ o. cons_option o (filter_map f (range_with_len (a + 1) n)) ≡ [] → (o ≡ None) × (filter_map f (range_with_len (a + 1) n) ≡ [])) [
      | None ↦ λ e. (refl, e)
      | Some x ↦ λ e. absurd (cc)
    ] in
    let parts : (f a ≡ None) × (filter_map f (range_with_len (a + 1) n) ≡ []) = go (f a) h in
    let later : a + 1 ≤ i → f i ≡ None = λ le. nothing_at f (a + 1) n i parts.1 le (omega (arith, high)) in
    let pick : (b : Bool) → nat_lt a i ≡ b → f i ≡ None =
    λ b. elim b as (λ b. nat_lt a i ≡ b → f i ≡ None) [
      | true ↦ λ e. let lt = ltb-true a i e in later (omega (arith, lt))
      | false ↦ λ e. let le = ltb-false a i e in let same : a ≡ i = omega (arith, low, le) in ap f (sym same) ∙ parts.0
    ] in
    pick (nat_lt a i) refl

-- the chunks of a content with no damage have their stored hashes
pub chunk_good : (hashes : List ℕ) (len : ℕ) (body : List ℕ) → damages hashes len body ≡ [] → (i : ℕ) → i < chunks len → hash16_of (chunk body i) ≡ slice_index hashes i
unfolding damages
chunk_good hashes len body h i below =
    let none : damage_at hashes body i ≡ None = nothing_at (damage_at hashes body) 0 (chunks len) i h (omega arith) (omega (arith, below)) in
    let found : Damage = record { chunk = i; stored = slice_index hashes i; found = hash16_of (chunk body i) } in
    let go : (b : Bool) → (hash16_of (chunk body i) == slice_index hashes i) ≡ b
    → cond b None (Some found) ≡ None
    → hash16_of (chunk body i) ≡ slice_index hashes i =
    λ b. elim b as (λ b. (hash16_of (chunk body i) == slice_index hashes i) ≡ b
    → cond b None (Some found) ≡ None
    → hash16_of (chunk body i) ≡ slice_index hashes i) [
      | true ↦ λ e n. eqb-true _ _ e
      | false ↦ λ e n. absurd (cc)
    ] in
    go _ refl none
