-- `down_to` is the shortest prefix that is enough, or all.
use Rattle.std.proofs.Common.{zero, suc, ◌≡◌, ℕ, ◌+◌, ◌-◌, ◌<◌, ◌≤◌, Bool, true, false, cond, leb, List, [], ◌∷◌, ◌++◌, length, take, refl, ap, ◌∙◌, arith}
use Rattle.std.proofs.lemmas.Bool.{le-leb, leb-true, leb-false}
use Rattle.std.proofs.lemmas.List.Sums.{sum_by-cons}
use Rattle.index_record.specs.Record.{size_kb}
use Rattle.index_record.specs.declared.record.IndexRecord.{IndexRecord}
use Rattle.evictor.specs.Evict.{down_to, total_kb}

pub record IsPrefix (total limit : ℕ) (records first rest : List IndexRecord) : Type 0 where
  pub found : down_to total limit records ≡ first
  pub joined : records ≡ first ++ rest
  pub enough : 0 < length rest → total ≤ limit + total_kb first
  pub shortest : (k : ℕ) → k < length first → limit + total_kb (take k first) < total

cons_kb : (r : IndexRecord) (rs : List IndexRecord) → total_kb (r ∷ rs) ≡ size_kb r + total_kb rs
cons_kb r rs = sum_by-cons size_kb r rs

abbrev Splits : ℕ → ℕ → List IndexRecord → Type 0
Splits total limit records = (first : List IndexRecord) × (rest : List IndexRecord) × IsPrefix total limit records first rest

shortest_cons : (total limit : ℕ) (r : IndexRecord) (first : List IndexRecord) → limit < total
    → ((k : ℕ) → k < length first → limit + total_kb (take k first) < total - size_kb r)
    → (k : ℕ) → k < length (r ∷ first) → limit + total_kb (take k (r ∷ first)) < total
shortest_cons total limit r first above less zero h = omega arith
shortest_cons total limit r first above less (suc k) h = rw (cons_kb r (take k first)) (omega (arith, less k (omega arith)))

split_cons : (total limit : ℕ) (r : IndexRecord) (rs : List IndexRecord) → leb total limit ≡ false → Splits (total - size_kb r) limit rs → Splits total limit (r ∷ rs)
split_cons total limit r rs e s = (
  r ∷ s.0,
  s.1,
  record {
    found = ap (λ b. cond b [] (r ∷ down_to (total - size_kb r) limit rs)) e ∙ ap (λ l. r ∷ l) s.2.found;
    joined = ap (λ l. r ∷ l) s.2.joined;
    enough = λ h. rw (cons_kb r s.0) (omega (arith, s.2.enough h));
    shortest = shortest_cons total limit r s.0 (leb-false total limit e) s.2.shortest;
  },
)

split_here : (total limit : ℕ) (r : IndexRecord) (rs : List IndexRecord) → leb total limit ≡ true → Splits total limit (r ∷ rs)
split_here total limit r rs e = (
  [],
  r ∷ rs,
  record {
    found = ap (λ b. cond b [] (r ∷ down_to (total - size_kb r) limit rs)) e;
    joined = refl;
    enough = λ h. omega (arith, leb-true total limit e);
    shortest = λ k h. absurd (omega arith);
  },
)

pub split : (total limit : ℕ) (records : List IndexRecord) → Splits total limit records
split total limit [] = (
  [],
  [],
  record {
    found = refl;
    joined = refl;
    enough = λ h. absurd (omega arith);
    shortest = λ k h. absurd (omega arith);
  },
)
split total limit (r ∷ rs) = go (leb total limit) refl (split (total - size_kb r) limit rs)
  where
    go : (b : Bool) → leb total limit ≡ b → Splits (total - size_kb r) limit rs → Splits total limit (r ∷ rs)
    go true e rest = split_here total limit r rs e
    go false e rest = split_cons total limit r rs e rest

-- no record is taken where the total is at most the limit
pub down_to_met : (total limit : ℕ) (records : List IndexRecord) → total ≤ limit → down_to total limit records ≡ []
down_to_met total limit [] h = refl
down_to_met total limit (r ∷ rs) h = ap (λ b. cond b [] (r ∷ down_to (total - size_kb r) limit rs)) (le-leb total limit h)
