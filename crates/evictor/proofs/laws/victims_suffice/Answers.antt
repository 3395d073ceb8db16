use Rattle.std.proofs.Common.{ap}
use Rattle.std.specs.Prelude.{map}
use Rattle.index_record.specs.declared.record.IndexRecord.{IndexRecord}
use Rattle.evictor.specs.Evict.{candidates, total_kb}
use Rattle.evictor.proofs.Prefix.{split}
use Rattle.evictor.proofs.laws.victims_suffice.Goals as goal

pub returns : goal.returns
returns c = λ records in_use limit.
    let s = split (total_kb records) limit (candidates records in_use) in
    (s.0, s.1, record { named = ap (map (λ (r : IndexRecord). r.name)) s.2.found; prefix = s.2.joined; enough = s.2.enough; shortest = s.2.shortest })
