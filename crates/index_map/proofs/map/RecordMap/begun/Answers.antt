use Rattle.index_map.proofs.Shown.{begins}
use Rattle.index_map.proofs.map.RecordMap.begun.Goals as goal

pub returns : goal.returns
returns c = begins c.args.base c.args.seen c.in_ok-over.field-0 c.in_ok-over.ensures.table c.in_ok-over.ensures.slots
