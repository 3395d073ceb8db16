use Rattle.std.proofs.Common.{None, subst}
use Rattle.std.specs.Map.{lookup}
use Rattle.record_list.specs.Lists.{same_name}
use Rattle.index_map.specs.Known.{Sets}
use Rattle.index_map.specs.Slots.{gone_slot, shown}
use Rattle.index_map.proofs.Shown.{puts_sets, still_no_base}
use Rattle.index_map.proofs.Marked.{gone_base, gone_current, gone_seen}
use Rattle.index_map.proofs.map.RecordMap.remove.Goals as goal

pub returns : goal.returns
returns c =
    let old = c.self.inside.slots in
    let new = c.remove.new.self in
    let has_base = c.self.inside.has_base in
    let name = c.args.name.now in
    let was = lookup (same_name name) old in
    subst (λ m. Sets m (shown new has_base) name None) c.self.view_is
    (puts_sets old new has_base name (gone_slot was) None c.remove.ensures.was_table c.remove.ensures.table c.remove.ensures.removes
    (gone_current was) (gone_seen was) (gone_base was))

pub invariant_of-self : goal.invariant_of-self
invariant_of-self c =
    let old = c.self.inside.slots in
    let new = c.remove.new.self in
    let has_base = c.self.inside.has_base in
    let name = c.args.name.now in
    let was = lookup (same_name name) old in
    still_no_base (shown old has_base) (shown new has_base)
    (puts_sets old new has_base name (gone_slot was) None c.remove.ensures.was_table c.remove.ensures.table c.remove.ensures.removes
    (gone_current was) (gone_seen was) (gone_base was)).base
    c.self.invariant
