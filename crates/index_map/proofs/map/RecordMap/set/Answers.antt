use Rattle.std.proofs.Common.{Some, refl, subst, true}
use Rattle.std.specs.Map.{lookup}
use Rattle.std.proofs.lemmas.Result.{on_ok_weaker}
use Rattle.record_list.specs.Lists.{same_name}
use Rattle.index_map.specs.Known.{Sets}
use Rattle.index_map.specs.Slots.{record_slot, shown}
use Rattle.index_map.proofs.Shown.{put_no_base, puts_sets}
use Rattle.index_map.proofs.map.RecordMap.set.Goals as goal

pub returns-clause-ok : goal.returns-clause-ok
returns-clause-ok c =
    let old = c.self.inside.slots in
    let new = c.put.new.self in
    let has_base = c.self.inside.has_base in
    let r = c.args.r in
    on_ok_weaker c.put.result
    (λ puts. subst (λ m. Sets m (shown new has_base) r.name (Some r)) c.self.view_is
    (puts_sets old new has_base r.name (Some (record_slot r true (lookup (same_name r.name) old))) (Some r)
    c.put.ensures.was_table c.put.ensures.table puts refl refl refl))
    c.put.ensures.ok

pub invariant_of-self : goal.invariant_of-self
invariant_of-self c =
    let old = c.self.inside.slots in
    let new = c.put.new.self in
    let has_base = c.self.inside.has_base in
    let r = c.args.r in
    put_no_base old new has_base r.name (Some r) c.put.result
    (on_ok_weaker c.put.result
    (λ puts. puts_sets old new has_base r.name (Some (record_slot r true (lookup (same_name r.name) old))) (Some r)
    c.put.ensures.was_table c.put.ensures.table puts refl refl refl)
    c.put.ensures.ok)
    c.put.ensures.err c.self.invariant
