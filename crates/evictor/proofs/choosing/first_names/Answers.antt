use Rattle.std.proofs.Common.{ap, ◌∙◌, drop, ◌++◌, arith}
use Rattle.std.proofs.lemmas.List.{append-nil}
use Rattle.std.specs.Prelude.{map}
use Rattle.index_record.specs.declared.record.IndexRecord.{IndexRecord}
use Rattle.evictor.proofs.Prefix.{down_to_met}
use Rattle.evictor.proofs.choosing.first_names.Goals as goal

pub returns-then-left-limit : goal.returns-then-left-limit
returns-then-left-limit c =
    let l = c.loop-r in
    let none = down_to_met l.left c.from-limit.result (drop l.r-index c.args.records.now) (omega arith) in
    let all = l.invariant ∙ ap (λ rs. l.names ++ map (λ (r : IndexRecord). r.name) rs) none ∙ append-nil l.names in
    cc (all, c.from-limit.ensures)
