use Rattle.std.proofs.Common.{ap, sym, ◌∙◌}
use Rattle.context_clear.specs.Covered.{covers_found, covers_name}
use Rattle.context_clear.proofs.CoveredNames.{covered_none, covered_one}
use Rattle.context_clear.proofs.origin_records.covered_names.Goals as goal
use Rattle.context_clear.proofs.origin_records.covered_names.Goals.{then-is_covered+in_ok-push, else-is_covered}

pub loop-r-preserved : goal.loop-r-preserved
loop-r-preserved c =
    let p = covers_name c.args.map.now c.args.origin in
    let asked = ap (covers_found c.args.origin) (sym c.get.ensures.record) ∙ sym c.is_covered.ensures in
    elim c.if-is_covered.branch [
      | then-is_covered+in_ok-push w ↦ covered_one p c.args.records.now c.loop-r.r-index _ c.loop-r.names c.if-is_covered.names c.loop-r-test.true c.loop-r.invariant (asked ∙ w.if-is_covered.true) (w.names-is ∙ w.in_ok-push.ensures.ok)
      | else-is_covered w ↦ covered_none p c.args.records.now c.loop-r.r-index _ c.loop-r.names c.if-is_covered.names c.loop-r-test.true c.loop-r.invariant (asked ∙ w.if-is_covered.false) w.names-is
    ]
