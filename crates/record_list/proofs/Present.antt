-- The records that are not removed, of those that were read.
use Rattle.std.proofs.Common.{◌≡◌, ◌+◌, ◌*◌, ◌/◌, ◌%◌, ◌^◌, List, [], ◌∷◌, Bool, true, false, not, cond, refl, ap, ◌∙◌, arith}
use Rattle.std.specs.Prelude.{◌==◌}
use Rattle.index_record.specs.declared.record.IndexRecord.{IndexRecord}
use Rattle.index_record.specs.Record.{cleared, is_removed}
use Rattle.record_list.specs.Stored.{present, read_as}

-- the bits that are cleared leave the removed flag alone
pub still_removed : (r : IndexRecord) → is_removed (cleared r) ≡ is_removed r
still_removed r =
    let same : (r.flags / 2 ^ 29 * 2 ^ 29 + r.flags % 2 ^ 27) / 2 ^ 29 ≡ r.flags / 2 ^ 29 = omega arith in
    ap (λ n. n % 2 == 1) same

-- the list with one read record at its head, where it is not removed
with_one : IndexRecord → List IndexRecord → Bool → List IndexRecord
with_one r rs b = cond (not b) (cleared r ∷ present (read_as rs)) (present (read_as rs))

-- so it is the same whether the removed ones are left out before or after
pub present_read : (rs : List IndexRecord) → present (read_as rs) ≡ read_as (present rs)
unfolding with_one
present_read [] = refl
present_read (r ∷ rs) = go (is_removed r) refl (present_read rs)
  where
    go : (b : Bool) → is_removed r ≡ b → present (read_as rs) ≡ read_as (present rs) → present (read_as (r ∷ rs)) ≡ read_as (cond (not b) (r ∷ present rs) (present rs))
    go true e rest = ap (with_one r rs) (still_removed r ∙ e) ∙ rest
    go false e rest = ap (with_one r rs) (still_removed r ∙ e) ∙ ap (λ xs. cleared r ∷ xs) rest
