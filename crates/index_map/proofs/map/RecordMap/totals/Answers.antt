use Rattle.std.proofs.Common.{ap, ◌∙◌, length, subst}
use Rattle.std.specs.Map.{values_of}
use Rattle.std.specs.Prelude.{sum_by}
use Rattle.index_record.specs.Record.{size_kb}
use Rattle.index_map.specs.Known.{IsKnown, Known}
use Rattle.index_map.specs.declared.counts.Counts.{Counts}
use Rattle.index_map.proofs.Counting.{kilobytes_counted, records_counted}
use Rattle.index_map.proofs.Shown.{is_known}
use Rattle.index_map.proofs.map.RecordMap.totals.Goals as goal

pub returns-clause-count : goal.returns-clause-count
returns-clause-count c =
    ap (λ (n : Counts). n.records) c.counts-counts.ensures.counts ∙ records_counted (values_of c.self.inside.slots) ∙ ap (λ (m : Known). length m.records) c.self.view_is

pub returns-clause-kilobytes : goal.returns-clause-kilobytes
returns-clause-kilobytes c =
    ap (λ (n : Counts). n.kilobytes) c.counts-counts.ensures.counts ∙ kilobytes_counted (values_of c.self.inside.slots)
    ∙ ap (λ (m : Known). sum_by size_kb m.records) c.self.view_is

pub returns-clause-known : goal.returns-clause-known
returns-clause-known c = subst IsKnown c.self.view_is (is_known c.self.inside.slots c.self.inside.has_base c.self.invariant c.counts-counts.ensures.table)
