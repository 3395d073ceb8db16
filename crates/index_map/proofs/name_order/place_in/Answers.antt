use Rattle.std.proofs.Common.{rules}
use Rattle.std.proofs.lemmas.List.Sorted.{answers_always}
use Rattle.cache_base.specs.declared.name.Name.{Name}
use Rattle.record_list.proofs.NameLaws.{tied_same}
use Rattle.index_map.specs.declared.slot.Held.{Held}
use Rattle.index_map.proofs.Held.{none_held}
use Rattle.index_map.proofs.Search.{answers_rise, none_there, no_name}
use Rattle.index_map.proofs.name_order.place_in.Goals as goal

pub returns-in-Ok-clause-found : goal.returns-in-Ok-clause-found
returns-in-Ok-clause-found c = λ d. tied_same _ _ (c.in-Ok.ensures.position (λ (e : Name × Held). e.0) (answers_always _ _ _ (λ f a r g h. search rules)) d)

pub returns-in-Err-clause-none : goal.returns-in-Err-clause-none
returns-in-Err-clause-none c =
    none_there (λ (e : Name × Held). e.0) (no_name, none_held) c.args.places.now c.args.name.now c.in-Err.field-0
    (c.in-Err.ensures.position (λ (e : Name × Held). e.0) (answers_always _ _ _ (λ f a r g h. search rules))
    (answers_rise (λ (e : Name × Held). e.0) c.args.places.now c.args.name.now c.requires))
