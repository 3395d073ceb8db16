use Rattle.std.proofs.Common.{List, subst, sym}
use Rattle.index_record.specs.declared.record.IndexRecord.{IndexRecord}
use Rattle.record_list.specs.Lists.{IsByName}
use Rattle.context_clear.proofs.CoveredNames.{covered_from}
use Rattle.context_clear.proofs.origin_records.victims.Goals as goal

pub returns : goal.returns
returns c =
    covered_from c.args.map.now c.args.origin c.as_slice.result.now c.covered_names.result c.in_ok-records.ensures.known
    (subst (λ (out : List IndexRecord). IsByName c.args.map.now.records out) (sym c.as_slice.ensures) c.in_ok-records.ensures.by_name) c.covered_names.ensures
