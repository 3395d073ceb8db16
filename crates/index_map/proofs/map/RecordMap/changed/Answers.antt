use Rattle.std.proofs.Common.{ap, subst, ◌∙◌}
use Rattle.index_map.specs.Known.{IsKnown, Known, changed}
use Rattle.index_map.specs.declared.counts.Counts.{Counts}
use Rattle.index_map.proofs.Counting.{changed_counted}
use Rattle.index_map.proofs.Shown.{is_known}
use Rattle.index_map.proofs.map.RecordMap.changed.Goals as goal

pub returns-clause-count : goal.returns-clause-count
returns-clause-count c =
    ap (λ (n : Counts). n.changed) c.counts.ensures.counts ∙ changed_counted c.self.inside.slots c.counts.ensures.table
    ∙ ap (λ (m : Known). changed m.base m.records) c.self.view_is

pub returns-clause-known : goal.returns-clause-known
returns-clause-known c = subst IsKnown c.self.view_is (is_known c.self.inside.slots c.self.inside.has_base c.self.invariant c.counts.ensures.table)
