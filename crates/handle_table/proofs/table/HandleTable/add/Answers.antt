use Rattle.std.proofs.Common.{◌≡◌, ◌+◌, ap, arith, ◌∙◌}
use Rattle.handle_table.specs.Finding.{is_free}
use Rattle.handle_table.specs.Kept.{Kept, kept_in}
use Rattle.handle_table.proofs.Joined.{added, found_within}
use Rattle.handle_table.proofs.table.HandleTable.add.Goals as goal

pub returns-clause-adds : goal.returns-clause-adds
returns-clause-adds c =
    let p = c.free_place-place.result in
    let made : c.in-Some.made ≡ c.args.self.now.made + 1 = omega arith in
    let lt = found_within is_free c.args.self.now.rows.objects p c.free_place-place.ensures in
    added c.args.slot c.args.object c.args.writes (kept_in c.args.self.now) (kept_in c.join.new.self) (kept_in c.put.new.self) c.in-Some.made p made (omega (arith, lt)) c.free_place-place.ensures c.requires.numbered c.join.ensures.joins c.put.ensures

pub returns-clause-chunks : goal.returns-clause-chunks
returns-clause-chunks c = ap (λ (k : Kept). k.chunks) c.put.ensures ∙ ap (λ (k : Kept). k.chunks) c.join.ensures.joins.same
