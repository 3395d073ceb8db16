use Rattle.std.proofs.Common.{ap, subst, ◌∙◌}
use Rattle.index_map.specs.Slots.{IsTable, marked_in, rewritten, seen_only}
use Rattle.index_map.proofs.Marked.{all_seen, base_table}
use Rattle.index_map.proofs.base.Base.keep_seen.Goals as goal

pub returns-clause-slots : goal.returns-clause-slots
returns-clause-slots c =
    let rs = c.self.inside.records in
    ap (marked_in rs) c.keep_seen.ensures.marks
    ∙ all_seen rs c.self.inside.marks.items ∙ ap (rewritten seen_only) c.self.view_is

pub returns-clause-was_table : goal.returns-clause-was_table
returns-clause-was_table c = subst IsTable c.self.view_is (base_table c.self.inside.records c.self.inside.marks.items c.self.inside.counts c.self.invariant c.self.inside.marks.items)

pub returns-clause-table : goal.returns-clause-table
returns-clause-table c = base_table c.self.inside.records c.self.inside.marks.items c.self.inside.counts c.self.invariant c.keep_seen.new.marks.items
