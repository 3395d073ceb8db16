use Rattle.std.proofs.Common.{rules}
use Rattle.std.proofs.lemmas.List.Sorted.{answers_always}
use Rattle.index_record.specs.declared.record.IndexRecord.{IndexRecord}
use Rattle.record_list.proofs.NameLaws.{tied_same}
use Rattle.index_map.proofs.Search.{answers_rise, none_there}
use Rattle.index_map.proofs.Steps.{no_record}
use Rattle.index_map.proofs.name_order.place_of.Goals as goal

pub returns-in-Ok-clause-found : goal.returns-in-Ok-clause-found
returns-in-Ok-clause-found c = λ d. tied_same _ _ (c.in-Ok.ensures.position (λ (r : IndexRecord). r.name) (answers_always _ _ _ (λ f a r g h. search rules)) d)

pub returns-in-Err-clause-none : goal.returns-in-Err-clause-none
returns-in-Err-clause-none c =
    none_there (λ (r : IndexRecord). r.name) no_record c.args.records.now c.args.name.now c.in-Err.field-0
    (c.in-Err.ensures.position (λ (r : IndexRecord). r.name) (answers_always _ _ _ (λ f a r g h. search rules))
    (answers_rise (λ (r : IndexRecord). r.name) c.args.records.now c.args.name.now c.requires))
