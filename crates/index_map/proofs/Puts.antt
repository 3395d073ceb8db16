-- What one slot that is put or taken does to a table and to its counts.
use Rattle.std.proofs.Common.{◌≡◌, ℕ, ◌+◌, Bool, true, false, cond, List, [], refl, sym, ap, ◌∙◌, subst, arith}
use Rattle.std.specs.List.{All, IsDistinct, sum_by}
use Rattle.std.specs.Map.{keys_of, lookup, values_of}
use Rattle.std.specs.Option.{option_map_or}
use Rattle.std.specs.Prelude.{IfSome, None, Option, Some, unwrap_or}
use Rattle.std.proofs.lemmas.List.Elements.{All-nil}
use Rattle.cache_base.specs.declared.name.Name.{Name}
use Rattle.index_record.specs.declared.record.IndexRecord.{IndexRecord}
use Rattle.record_list.specs.Lists.{same_name}
use Rattle.record_list.proofs.NameLaws.{same_is}
use Rattle.indexmap.specs.IndexMap.{insert_entry, swap_remove_entry}
use Rattle.index_map.specs.Known.{IsPlain}
use Rattle.index_map.specs.Slots.{IsSlotOf, IsTable, changed_of, counts_of, kilobytes_of, records_of, rewritten, seen_only, written, Slot}
use Rattle.index_map.specs.declared.counts.Counts.{Counts}
use Rattle.index_map.proofs.Sums.{AreThere, Exchanged, IsWith, IsWithout, counts_after, empty, there, with_empty}
use Rattle.index_map.proofs.Tables.{all_put, all_rewritten, all_taken, sum_put, sum_taken}

-- what the empty slot adds is nothing
weight_of : (g : Slot → ℕ) → g empty ≡ 0 → (o : Option Slot) → g (unwrap_or o empty) ≡ option_map_or g o 0
weight_of g none None = none
weight_of g none (Some slot) = refl

put_weighs : (g : Slot → ℕ) → g empty ≡ 0 → (table after : List (Name × Slot)) (name : Name) (old new : Slot)
    → after ≡ insert_entry same_name table name new → old ≡ unwrap_or (lookup (same_name name) table) empty
    → sum_by g (values_of after) + g old ≡ sum_by g (values_of table) + g new
put_weighs g none table after name old new e o =
    (λ i. sum_by g (values_of (e i)) + (ap g o ∙ weight_of g none (lookup (same_name name) table)) i) ∙ sum_put same_name g name new table

pub put_exchanges : (table after : List (Name × Slot)) (name : Name) (old new : Slot) → after ≡ insert_entry same_name table name new
    → old ≡ unwrap_or (lookup (same_name name) table) empty → Exchanged (values_of table) (values_of after) old new
put_exchanges table after name old new e o = record {
  records = put_weighs records_of refl table after name old new e o;
  kilobytes = put_weighs kilobytes_of refl table after name old new e o;
  changed = put_weighs changed_of refl table after name old new e o;
}

-- an entry, for lists that may be empty
abbrev no_entry : Name × Slot
no_entry = (record { 0 = [] }, empty)

take_weighs : (g : Slot → ℕ) → g empty ≡ 0 → (table after : List (Name × Slot)) (name : Name) (old : Slot)
    → after ≡ swap_remove_entry (same_name name) table → lookup (same_name name) table ≡ Some old
    → sum_by g (values_of after) + g old ≡ sum_by g (values_of table) + g empty
take_weighs g none table after name old e o =
    let taken = sum_taken (same_name name) g table no_entry in
    let value : option_map_or g (lookup (same_name name) table) 0 ≡ g old = ap (λ v. option_map_or g v 0) o in
    omega (arith, ap (λ l. sum_by g (values_of l)) e, taken, value, none)

pub take_exchanges : (table after : List (Name × Slot)) (name : Name) (old : Slot) → after ≡ swap_remove_entry (same_name name) table
    → lookup (same_name name) table ≡ Some old → Exchanged (values_of table) (values_of after) old empty
take_exchanges table after name old e o = record {
  records = take_weighs records_of refl table after name old e o;
  kilobytes = take_weighs kilobytes_of refl table after name old e o;
  changed = take_weighs changed_of refl table after name old e o;
}

-- ---- the counts

module _ (table after : List (Name × Slot)) (name : Name) (old new : Slot) (n m : Counts) (counted : n ≡ counts_of (values_of table)) where
  module _ (e : after ≡ insert_entry same_name table name new) (o : old ≡ unwrap_or (lookup (same_name name) table) empty) (w : IsWith n new m) where
    pub put_there : AreThere m old
    put_there = there (values_of table) (values_of after) old new n m counted (put_exchanges table after name old new e o) w

    pub put_counts : (l : Counts) → IsWithout m old l → l ≡ counts_of (values_of after)
    put_counts l less = counts_after (values_of table) (values_of after) old new n m l counted (put_exchanges table after name old new e o) w less

module _ (table after : List (Name × Slot)) (name : Name) (old : Slot) (n : Counts) (counted : n ≡ counts_of (values_of table))
    (e : after ≡ swap_remove_entry (same_name name) table) (o : lookup (same_name name) table ≡ Some old) where
  pub take_there : AreThere n old
  take_there = there (values_of table) (values_of after) old empty n n counted (take_exchanges table after name old e o) (with_empty n)

  pub take_counts : (l : Counts) → IsWithout n old l → l ≡ counts_of (values_of after)
  take_counts l less = counts_after (values_of table) (values_of after) old empty n n l counted (take_exchanges table after name old e o) (with_empty n) less

-- ---- the table stays a table

pub no_table : IsTable []
unfolding IsDistinct
no_table = record { distinct = tt; own = All-nil (λ e. IsSlotOf e.0 e.1) }

pub put_table : (table after : List (Name × Slot)) (name : Name) (slot : Slot) → after ≡ insert_entry same_name table name slot
    → IsDistinct same_name (keys_of after) → IsTable table → IsSlotOf name slot → IsTable after
put_table table after name slot e distinct old new = record {
  distinct = distinct;
  own = subst (All (λ e. IsSlotOf e.0 e.1)) (sym e) (all_put same_name same_is (λ e. IsSlotOf e.0 e.1) name slot table old.own new);
}

pub take_table : (table after : List (Name × Slot)) (name : Name) → after ≡ swap_remove_entry (same_name name) table
    → IsDistinct same_name (keys_of after) → IsTable table → IsTable after
take_table table after name e distinct old = record {
  distinct = distinct;
  own = subst (All (λ e. IsSlotOf e.0 e.1)) (sym e) (all_taken (same_name name) (λ e. IsSlotOf e.0 e.1) table no_entry old.own);
}

pub rewritten_table : (w : Slot → Slot) → ((name : Name) (slot : Slot) → IsSlotOf name slot → IsSlotOf name (w slot))
    → (table after : List (Name × Slot)) → after ≡ rewritten w table → IsDistinct same_name (keys_of after) → IsTable table → IsTable after
rewritten_table w keeps table after e distinct old = record {
  distinct = distinct;
  own = subst (All (λ e. IsSlotOf e.0 e.1)) (sym e) (all_rewritten (λ e. IsSlotOf e.0 e.1) w keeps table old.own);
}

pub seen_only_fits : (name : Name) (slot : Slot) → IsSlotOf name slot → IsSlotOf name (seen_only slot)
seen_only_fits name slot h = record { current = go slot.seen; base = h.base }
  where
    go : (b : Bool) → IfSome (cond b slot.current None) (λ r. (r.name ≡ name) × IsPlain r)
    go true = h.current
    go false = tt

pub written_fits : (name : Name) (slot : Slot) → IsSlotOf name slot → IsSlotOf name (written slot)
written_fits name slot h = record { current = h.current; base = go slot.current h.current }
  where
    go : (o : Option IndexRecord) → IfSome o (λ r. (r.name ≡ name) × IsPlain r) → IfSome o (λ r. r.name ≡ name)
    go None f = tt
    go (Some r) f = f.0
