use Rattle.std.proofs.Common.{arith}
use Rattle.std.specs.Map.{values_of}
use Rattle.std.proofs.lemmas.Map.Entries.{length-values_of}
use Rattle.index_map.specs.Slots.{slots_of}
use Rattle.index_map.proofs.Held.{length_slots}
use Rattle.index_map.proofs.Sums.{small}
use Rattle.index_map.proofs.table.Table.counts.Goals as goal

pub returns-clause-small : goal.returns-clause-small
returns-clause-small c =
    let es = c.self.inside.slots.entries in
    small c.self.inside.counts (values_of (slots_of es)) c.self.invariant.1 (omega (arith, c.len-len.ensures.len, c.len-len.ensures.small, length-values_of (slots_of es), length_slots es))
