use Rattle.std.proofs.Common.{ap, subst, sym, ◌∙◌}
use Rattle.record_list.specs.Change.{IsDiff}
use Rattle.record_list.specs.Lists.{HasNames, IsByName}
use Rattle.index_map.specs.Known.{IsKnown, Known, changed}
use Rattle.index_map.proofs.Differences.{diff_long, is_clean, is_diff, names_changed}
use Rattle.index_map.proofs.Shown.{is_known}
use Rattle.index_map.proofs.map.RecordMap.diff.Goals as goal

pub returns-in_err-changes-clause-known : goal.returns-in_err-changes-clause-known
returns-in_err-changes-clause-known c = subst IsKnown c.self.view_is (is_known c.self.inside.slots c.self.inside.has_base c.self.invariant c.changes.ensures.table)

pub by_name-requires : goal.by_name-requires
by_name-requires c = subst HasNames (sym c.in_ok-changes.ensures.changes) (names_changed c.self.inside.slots c.changes.ensures.table)

pub returns-clause-diff : goal.returns-clause-diff
returns-clause-diff c =
    let by = subst (λ l. IsByName l c.by_name.result) c.in_ok-changes.ensures.changes c.by_name.ensures in
    subst (λ (m : Known). IsDiff m.base m.records c.by_name.result) c.self.view_is (is_diff c.self.inside.slots c.by_name.result c.changes.ensures.table by)

pub returns-clause-clean : goal.returns-clause-clean
returns-clause-clean c =
    let by = subst (λ l. IsByName l c.by_name.result) c.in_ok-changes.ensures.changes c.by_name.ensures in
    is_clean c.self.inside.slots c.by_name.result c.changes.ensures.table by

pub returns-clause-count : goal.returns-clause-count
returns-clause-count c =
    let by = subst (λ l. IsByName l c.by_name.result) c.in_ok-changes.ensures.changes c.by_name.ensures in
    diff_long c.self.inside.slots c.by_name.result c.changes.ensures.table by ∙ ap (λ (m : Known). changed m.base m.records) c.self.view_is

pub returns-clause-known : goal.returns-clause-known
returns-clause-known c = subst IsKnown c.self.view_is (is_known c.self.inside.slots c.self.inside.has_base c.self.invariant c.changes.ensures.table)
