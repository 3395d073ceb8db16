-- The changes of the slots, by rising names, are the difference.
use Rattle.std.proofs.Common.{◌≡◌, List, refl, sym, ap, ◌∙◌, length}
use Rattle.std.specs.List.{filter_map}
use Rattle.std.specs.Map.{lookup, values_of}
use Rattle.std.specs.Prelude.{IfSome, None, Option, Some, option_and_then}
use Rattle.std.proofs.lemmas.List.Sorted.{length_permutation}
use Rattle.cache_base.specs.declared.name.Name.{Name}
use Rattle.index_record.specs.Record.{removed_record}
use Rattle.index_record.specs.declared.record.IndexRecord.{IndexRecord}
use Rattle.record_list.specs.Change.{IsDiff, change}
use Rattle.record_list.specs.Lists.{HasNames, IsByName, same_name}
use Rattle.record_list.specs.Stored.{AreClean, IsClean}
use Rattle.record_list.proofs.SortedLaws.{by_name_keeps}
use Rattle.index_map.specs.Known.{changed}
use Rattle.index_map.specs.Slots.{IsSlotOf, IsTable, base_in, change_in, change_of, current_in, Slot}
use Rattle.index_map.proofs.Counting.{changed_counted, changes_counted}
use Rattle.index_map.proofs.Lookups.{all_moved, names-part, record_at-part, slot_at}
use Rattle.index_map.proofs.Shown.{base_at, base_of, clean_changes, current_at, current_of, own_change}

abbrev pub changes_of : List (Name × Slot) → List IndexRecord
changes_of table = filter_map change_in (values_of table)

changed_as : (name : Name) (base current : Option IndexRecord) → IfSome base (λ b. b.name ≡ name) → change_of base current ≡ change name base current
changed_as name None None own = refl
changed_as name (Some b) None own = ap (λ n. Some (removed_record n)) own
changed_as name None (Some r) own = refl
changed_as name (Some b) (Some r) own = refl

change_at : (name : Name) (o : Option Slot) → IfSome o (IsSlotOf name) → option_and_then change_in o ≡ change name (option_and_then base_of o) (option_and_then current_of o)
change_at name None h = refl
change_at name (Some slot) h = changed_as name slot.base slot.current h.base

pub names_changed : (table : List (Name × Slot)) → IsTable table → HasNames (changes_of table)
names_changed table is = names-part change_in table is.distinct (own_change table is)

pub is_diff : (table : List (Name × Slot)) (out : List IndexRecord) → IsTable table → IsByName (changes_of table) out
    → IsDiff (base_in (values_of table)) (current_in (values_of table)) out
is_diff table out is by = record {
  rising = by.rising;
  same = λ q.
      by_name_keeps (changes_of table) out (names_changed table is) by q
      ∙ record_at-part change_in table is.distinct (own_change table is) q
      ∙ change_at q (lookup (same_name q) table) (slot_at IsSlotOf table is.own q)
      ∙ (λ i. change q (sym (base_at table is q) i) (sym (current_at table is q) i));
}

pub is_clean : (table : List (Name × Slot)) (out : List IndexRecord) → IsTable table → IsByName (changes_of table) out → AreClean out
is_clean table out is by = all_moved IsClean (changes_of table) out by.same (clean_changes table is)

pub diff_long : (table : List (Name × Slot)) (out : List IndexRecord) → IsTable table → IsByName (changes_of table) out
    → length out ≡ changed (base_in (values_of table)) (current_in (values_of table))
diff_long table out is by = length_permutation (changes_of table) out by.same ∙ sym (changes_counted (values_of table)) ∙ changed_counted table is
