use Rattle.std.proofs.Common.{ap, subst, ◌∙◌}
use Rattle.index_map.specs.Known.{IsKnown, Known}
use Rattle.index_map.proofs.Shown.{is_known}
use Rattle.index_map.proofs.map.RecordMap.unordered.Goals as goal

pub returns-in_err-records-clause-known : goal.returns-in_err-records-clause-known
returns-in_err-records-clause-known c =
    subst IsKnown c.self.view_is (is_known c.self.inside.slots c.self.inside.has_base c.self.invariant c.records.ensures.table)

pub returns-clause-records : goal.returns-clause-records
returns-clause-records c = c.from_vec.ensures ∙ c.in_ok-records.ensures.records ∙ ap (λ (m : Known). m.records) c.self.view_is

pub returns-clause-known : goal.returns-clause-known
returns-clause-known c = subst IsKnown c.self.view_is (is_known c.self.inside.slots c.self.inside.has_base c.self.invariant c.records.ensures.table)
