use Rattle.std.proofs.Common.{[], ap, arith, get_or, sym, ◌∙◌, ◌∷◌, ◌++◌}
use Rattle.std.proofs.lemmas.List.{map_more}
use Rattle.index_map.specs.Slots.{new_place}
use Rattle.index_map.proofs.Steps.{no_record}
use Rattle.index_map.proofs.name_order.empty_places.Goals as goal

pub loop-record-preserved : goal.loop-record-preserved
loop-record-preserved c =
    let rs = c.args.records.now in
    let i = c.loop-record.record-index in
    c.in_ok-push.ensures.items ∙ ap (λ l. l ++ new_place (get_or rs i no_record) ∷ []) c.loop-record.invariant ∙ sym (map_more new_place rs i no_record (omega arith))
