use Rattle.std.proofs.Common.{ap, ◌∙◌, length, replicate, rules}
use Rattle.std.specs.Map.{lookup}
use Rattle.std.specs.Option.{option_map}
use Rattle.record_list.specs.Lists.{names_of, same_name}
use Rattle.record_list.proofs.NameLaws.{rising_distinct}
use Rattle.record_list.proofs.SortedLaws.{by_name_keeps}
use Rattle.index_map.specs.Known.{IsPlain}
use Rattle.index_map.specs.Slots.{base_slot, marked_in}
use Rattle.index_map.proofs.Lookups.{all_moved}
use Rattle.index_map.proofs.Marked.{first_marks, marked_table}
use Rattle.index_map.proofs.base.Base.over.Goals as goal

pub returns-clause-slots : goal.returns-clause-slots
returns-clause-slots c = λ q.
    let rs = c.in_order-records.result in
    ap (λ ms. lookup (same_name q) (marked_in rs ms)) (c.in_ok-marks.ensures.items_if_clones_equal (λ y same. same) ∙ ap (λ m. replicate (length c.as_slice-count.result.now) m) c.first_mark.ensures)
    ∙ first_marks c.args.seen rs (length c.as_slice-count.result.now) q (ap length c.as_slice-count.ensures)
    ∙ ap (option_map (base_slot c.args.seen)) (by_name_keeps c.args.records rs c.requires.names c.in_order-records.ensures q)

pub returns-clause-table : goal.returns-clause-table
returns-clause-table c =
    let rs = c.in_order-records.result in
    marked_table rs c.in_ok-marks.marks.items (rising_distinct (names_of rs) c.in_order-records.ensures.rising) (all_moved IsPlain c.args.records rs c.in_order-records.ensures.same c.requires.plain)

pub invariant_of-result : goal.invariant_of-result
invariant_of-result c = record {
  rising = c.in_order-records.ensures.rising;
  plain = all_moved IsPlain c.args.records c.in_order-records.result c.in_order-records.ensures.same c.requires.plain;
  long = search rules;
  few = search rules;
  counted = search rules;
}
