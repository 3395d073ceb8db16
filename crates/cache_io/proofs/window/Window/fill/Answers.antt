use Rattle.std.proofs.Common.{slice_range, take, ap, ◌∙◌, arith}
use Rattle.std.specs.Vec.{with_items}
use Rattle.std.proofs.lemmas.List.{with_items_is}
use Rattle.std.proofs.lemmas.Result.{err_from_is_err_and}
use Rattle.cache_io.proofs.WindowLaws.{grew_more, grew_none, kept}
use Rattle.cache_io.proofs.window.Window.fill.Goals as goal

pub returns-in_err-n-clause-grew : goal.returns-in_err-n-clause-grew
returns-in_err-n-clause-grew g c =
    let w = c.make_room.new.self in
    let ys = c.read_after.new.room in
    grew_none _ (with_items w.room ys).items w.room.items ys w.start w.end _ _ c.make_room.ensures.items (with_items_is w.room ys (omega (arith, c.read_after.auto.room, c.as_mut_slice.ensures.len))) w.ordered
    (c.read_after.ensures.front ∙ ap (take w.end) c.as_mut_slice.ensures.value) c.in_err-n.ensures.failed

pub returns-clause-grew : goal.returns-clause-grew
returns-clause-grew g c =
    let w = c.make_room.new.self in
    let ys = c.read_after.new.room in
    let n = c.in_ok-n.n in
    grew_more _ (with_items w.room ys).items w.room.items ys w.start w.end n _ _ c.make_room.ensures.items (with_items_is w.room ys (omega (arith, c.read_after.auto.room, c.as_mut_slice.ensures.len))) w.ordered
    (c.read_after.ensures.front ∙ ap (take w.end) c.as_mut_slice.ensures.value) c.in_ok-n.ensures.bytes

pub returns-in_err-n-clause-same : goal.returns-in_err-n-clause-same
returns-in_err-n-clause-same g c =
    let w = c.make_room.new.self in
    let ys = c.read_after.new.room in
    let failed = err_from_is_err_and c.from_residual-in_err-n.result c.from_residual-in_err-n.ensures.1 in
    rw failed.1
    (ap (λ l. slice_range l w.start w.end) (with_items_is w.room ys (omega (arith, c.read_after.auto.room, c.as_mut_slice.ensures.len)))
    ∙ kept w.room.items ys w.start w.end w.ordered (c.read_after.ensures.front ∙ ap (take w.end) c.as_mut_slice.ensures.value) ∙ c.make_room.ensures.items)
