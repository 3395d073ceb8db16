use Rattle.std.proofs.Common.{◌≡◌, ◌+◌, ◌-◌, ◌++◌, ◌∙◌, length, take, drop, arith, rules, ap, subst}
use Rattle.disk_theory.specs.State.{State, standing}
use Rattle.overlay_disk.specs.Seen.{beginning, content_over}
use Rattle.overlay_disk.proofs.OverLaws.{lent_back, patched_tail}
use Rattle.overlay_disk.proofs.over.OverFile.patch.Goals as goal

pub returns-else-from-start-clause-ok : goal.returns-else-from-start-clause-ok
returns-else-from-start-clause-ok g c = λ told.
    let file = c.args.self.now in
    let head = beginning (standing (g.D.Disk.state c.args.below.now.disk)) file in
    let start : c.in_ok-start.start ≡ length head = c.in_ok-start.ensures.len told in
    let at = c.args.from - c.in_ok-start.start in
    let past = c.if-from-start.false in
    let is : c.args.from ≡ length head + at = omega (arith, start, past) in
    let tail = c.deref_mut-else-from-start.result.now in
    let same : tail ≡ file.tail.items = c.deref_mut-else-from-start.ensures.value in
    let bytes : c.overwrite-else-from-start.new.buf ≡ take at tail ++ c.args.bytes.now ++ drop (at + length c.args.bytes.now) tail = c.overwrite-else-from-start.ensures in
    let room : length c.overwrite-else-from-start.new.buf ≡ file.tail.len = search rules in
    ap (λ l. head ++ l) (lent_back c.overwrite-else-from-start.new.buf file.tail.items file.tail.len room ∙ bytes ∙ ap (λ l. take at l ++ c.args.bytes.now ++ drop (at + length c.args.bytes.now) l) same)
    ∙ patched_tail head file.tail.items c.args.bytes.now at c.args.from is

pub returns-in_ok-copy_up-clause-ok : goal.returns-in_ok-copy_up-clause-ok
returns-in_ok-copy_up-clause-ok g c = λ told.
    let before : State = g.D.Disk.state c.args.below.now.disk in
    let mid : State = g.D.Disk.state c.start.new.below.disk in
    let same : mid ≡ before = c.start.ensures.seen.state told in
    let file = c.copy_up.new.self in
    let head = beginning (standing before) file in
    let content : content_over (standing before) file ≡ content_over (standing before) c.args.self.now =
    subst (λ (s : State). content_over (standing s) file ≡ content_over (standing s) c.args.self.now) same (c.in_ok-copy_up.ensures.content told) in
    let start : length head ≡ c.args.from = subst (λ (s : State). length (beginning (standing s) file) ≡ c.args.from) same (c.in_ok-copy_up.ensures.start told) in
    let is : c.args.from ≡ length head + 0 = omega (arith, start) in
    let tail = c.deref_mut.result.now in
    let rest : tail ≡ file.tail.items = c.deref_mut.ensures.value in
    let bytes : c.overwrite.new.buf ≡ take 0 tail ++ c.args.bytes.now ++ drop (0 + length c.args.bytes.now) tail = c.overwrite.ensures in
    let room : length c.overwrite.new.buf ≡ file.tail.len = search rules in
    ap (λ l. head ++ l) (lent_back c.overwrite.new.buf file.tail.items file.tail.len room ∙ bytes ∙ ap (λ l. take 0 l ++ c.args.bytes.now ++ drop (0 + length c.args.bytes.now) l) rest)
    ∙ patched_tail head file.tail.items c.args.bytes.now 0 c.args.from is
    ∙ ap (λ l. take c.args.from l ++ c.args.bytes.now ++ drop (c.args.from + length c.args.bytes.now) l) content
