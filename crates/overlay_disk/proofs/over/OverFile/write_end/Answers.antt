use Rattle.std.proofs.Common.{◌≡◌, ◌+◌, ◌-◌, ◌++◌, ◌∙◌, length, take, arith, rules, ap}
use Rattle.disk_theory.specs.State.{standing}
use Rattle.overlay_disk.specs.Seen.{beginning}
use Rattle.overlay_disk.proofs.OverLaws.{ended_tail}
use Rattle.overlay_disk.proofs.over.OverFile.write_end.Goals as goal

pub returns-clause-ok : goal.returns-clause-ok
returns-clause-ok g c = λ told.
    let file = c.args.self.now in
    let head = beginning (standing (g.D.Disk.state c.args.below.now.disk)) file in
    let start : c.in_ok-start.start ≡ length head = c.in_ok-start.ensures.len told in
    let at = c.args.from - c.in_ok-start.start in
    let past = c.if-from-start.false in
    let is : c.args.from ≡ length head + at = omega (arith, start, past) in
    let items : c.extend_from_slice.new.self.items ≡ take at file.tail.items ++ c.args.bytes.now = search rules in
    ap (λ l. head ++ l) items ∙ ended_tail head file.tail.items c.args.bytes.now at c.args.from is
