use Rattle.std.proofs.Common.{ap, sym, ◌∙◌, subst}
use Rattle.record_list.specs.Lists.{record_at}
use Rattle.index_map.specs.Known.{IsKnown, Known}
use Rattle.index_map.proofs.Shown.{is_known, seen_at}
use Rattle.index_map.proofs.map.RecordMap.get.Goals as goal

pub returns-clause-record : goal.returns-clause-record
returns-clause-record c =
    c.seen_at.ensures.record ∙ sym (seen_at c.self.inside.slots c.seen_at.ensures.table c.args.name.now)
    ∙ ap (λ (m : Known). record_at m.seen c.args.name.now) c.self.view_is

pub returns-clause-known : goal.returns-clause-known
returns-clause-known c = subst IsKnown c.self.view_is (is_known c.self.inside.slots c.self.inside.has_base c.self.invariant c.seen_at.ensures.table)
