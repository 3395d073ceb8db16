use Rattle.std.proofs.Common.{rules, []}
use Rattle.std.proofs.lemmas.List.Sorted.{IsPermutation-map, answers_always}
use Rattle.index_record.specs.Record.{removed_record}
use Rattle.record_list.specs.Lists.{names_of}
use Rattle.record_list.proofs.OrderLaws.{distinct_permutation, sorted_rises}
use Rattle.record_list.proofs.name_order.sort.Goals as goal

pub returns-clause-moved : goal.returns-clause-moved
returns-clause-moved c = c.sort_unstable_by_key.ensures.permutation

pub returns-clause-by_name : goal.returns-clause-by_name
returns-clause-by_name c = λ distinct.
    let old = c.args.records.now.items in
    let new = c.sort_unstable_by_key.new.self.items in
    let moved = c.sort_unstable_by_key.ensures.permutation in
    record {
      rising = sorted_rises (λ r. r.name) (removed_record (record { 0 = [] })) new
          (c.sort_unstable_by_key.ensures.sorted (λ r. r.name) (answers_always _ _ _ (λ f a r g h. search rules)))
          (distinct_permutation (names_of old) (names_of new) (IsPermutation-map (λ r. r.name) old new moved) distinct);
      same = moved;
    }
