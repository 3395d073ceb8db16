use Rattle.std.proofs.Common.{sym, subst}
use Rattle.record_list.specs.Lists.{HasNames}
use Rattle.index_map.specs.Known.{IsKnown}
use Rattle.index_map.proofs.Lookups.{names-part}
use Rattle.index_map.proofs.Shown.{current_of, is_known, own_current}
use Rattle.index_map.proofs.map.RecordMap.records.Goals as goal

pub by_name-requires : goal.by_name-requires
by_name-requires c =
    let table = c.self.inside.slots in
    let is = c.records.ensures.table in
    subst HasNames (sym c.in_ok-records.ensures.records) (names-part current_of table is.distinct (own_current table is))

pub returns-in_err-records-clause-known : goal.returns-in_err-records-clause-known
returns-in_err-records-clause-known c = subst IsKnown c.self.view_is (is_known c.self.inside.slots c.self.inside.has_base c.self.invariant c.records.ensures.table)

pub returns-clause-known : goal.returns-clause-known
returns-clause-known c = subst IsKnown c.self.view_is (is_known c.self.inside.slots c.self.inside.has_base c.self.invariant c.records.ensures.table)
