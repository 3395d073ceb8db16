-- The order of eviction, and the victims.
use Rattle.std.specs.List.{IsDistinct}
use Rattle.std.specs.List.Sorted.{IsPermutation, IsSorted}
use Rattle.std.specs.Ordering.{is_lt, nat_cmp, ordering_then}
use Rattle.std.specs.Prelude.{Bool, List, [], filter, if◌then◌else◌, length, map, nat_le, not, sum_by, take, ℕ, ◌&&◌, ◌++◌, ◌+◌, ◌-◌, ◌<◌, ◌==◌, ◌^◌, ◌∷◌, ◌≡◌, ◌≤◌}
use Rattle.std.specs.Str.{bytes_eq}
use Rattle.std.specs.declared.cmp.Ordering.{Ordering}
use Rattle.cache_base.specs.Names.{has_name, name_cmp}
use Rattle.cache_base.specs.declared.name.Name.{Name}
use Rattle.index_record.specs.Record.{is_pinned, size_kb}
use Rattle.index_record.specs.declared.record.IndexRecord.{IndexRecord}

-- how late a record is evicted: by its frecency, and with frecency 0 after all others
abbrev pub rank : IndexRecord → ℕ
rank r = if r.frecency == 0 then 2 ^ 32 else r.frecency

-- the order of two records: by rising rank, and then by rising name
unfoldable pub evict_cmp : IndexRecord → IndexRecord → Ordering
evict_cmp r s = ordering_then (nat_cmp (rank r) (rank s)) (name_cmp r.name s.name)

-- a record in its place among records in this order
abbrev pub put_in_order : IndexRecord → List IndexRecord → List IndexRecord
put_in_order r [] = r ∷ []
put_in_order r (s ∷ rest) = if is_lt (evict_cmp s r) then s ∷ put_in_order r rest else r ∷ s ∷ rest

-- the records in this order
abbrev pub in_order : List IndexRecord → List IndexRecord
in_order [] = []
in_order (r ∷ rs) = put_in_order r (in_order rs)

-- the sizes of records in KB
abbrev pub total_kb : List IndexRecord → ℕ
total_kb records = sum_by size_kb records

-- whether a record may be evicted, where entries of these names are in use
abbrev pub may_evict : List Name → IndexRecord → Bool
may_evict in_use r = not (is_pinned r) && not (has_name in_use r.name)

-- the records that may be evicted, in their order
abbrev pub candidates : List IndexRecord → List Name → List IndexRecord
candidates records in_use = in_order (filter (may_evict in_use) records)

-- the first of the records, up to the one whose removal brings the total down to the limit, or all of them
abbrev pub down_to : ℕ → ℕ → List IndexRecord → List IndexRecord
down_to total limit [] = []
down_to total limit (r ∷ rs) = if nat_le total limit then [] else r ∷ down_to (total - size_kb r) limit rs

-- the names of the records that are evicted, so that the sizes of all records sum to at most the limit
abbrev pub victims : List IndexRecord → List Name → ℕ → List Name
victims records in_use limit = map (λ r. r.name) (down_to (total_kb records) limit (candidates records in_use))

-- `in_order` only moves records, and puts them in the order
abbrev pub OrderSorts : Type 0
OrderSorts = (records : List IndexRecord) → IsPermutation records (in_order records) × IsSorted evict_cmp (in_order records)

-- the victims are the first of the candidates: without them the total is at most the limit, or none is left, and
-- without fewer of them it is above
pub record AreVictims (records : List IndexRecord) (in_use : List Name) (limit : ℕ)
    (first rest : List IndexRecord) : Type 0 where
  pub named : victims records in_use limit ≡ map (λ r. r.name) first
  pub prefix : candidates records in_use ≡ first ++ rest
  pub enough : 0 < length rest → total_kb records ≤ limit + total_kb first
  pub shortest : (k : ℕ) → k < length first → limit + total_kb (take k first) < total_kb records

-- the victims are always such a prefix of the candidates
abbrev pub VictimsSuffice : Type 0
VictimsSuffice = (records : List IndexRecord) (in_use : List Name) (limit : ℕ) →
    (first : List IndexRecord) × (rest : List IndexRecord) × AreVictims records in_use limit first rest

-- where no name stands twice, the victims are the same in whatever order the records stand
abbrev pub SameInAnyOrder : Type 0
SameInAnyOrder = (records others : List IndexRecord) (in_use : List Name) (limit : ℕ)
    → IsDistinct (λ (m n : Name). bytes_eq m.0 n.0) (map (λ (r : IndexRecord). r.name) records) → IsPermutation records others
    → victims records in_use limit ≡ victims others in_use limit
