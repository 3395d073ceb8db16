use Rattle.std.proofs.Common.{◌≡◌, ◌≤◌, ◌-◌, ◌++◌, ◌∙◌, length, take, drop, rules, ap}
use Rattle.disk_theory.specs.State.{part_of, standing}
use Rattle.overlay_disk.specs.Seen.{held}
use Rattle.overlay_disk.proofs.OverLaws.{copied, lent_back, part_held}
use Rattle.overlay_disk.proofs.over.OverFile.copy_up.Goals as goal

pub returns-clause-content : goal.returns-clause-content
returns-clause-content g c = λ told.
    let file = c.args.self.now in
    let stands = standing (g.D.Disk.state c.args.below.now.disk) file.from in
    let old = c.deref_mut.result.now in
    let len : length old ≡ c.args.start - c.args.from = search rules in
    let part = part_of c.args.from (length old) stands in
    let got = c.in_ok-found.ensures.bytes told in
    let all : length old ≤ c.in_ok-found.found = search rules in
    let read : part ≡ take (c.args.start - c.args.from) (drop c.args.from (held stands)) =
    part_held c.args.from (length old) stands ∙ ap (λ n. take n (drop c.args.from (held stands))) len in
    let room : length c.read.new.buf ≡ c.in_ok-tail.tail.len = search rules in
    let items : c.extend_from_slice.new.self.items ≡ c.read.new.buf ++ c.deref.result.now =
    c.in_ok-extend_from_slice.ensures.items ∙ ap (λ l. l ++ c.deref.result.now) (lent_back c.read.new.buf c.in_ok-tail.tail.items c.in_ok-tail.tail.len room) in
    let rest : c.deref.result.now ≡ file.tail.items = c.deref.ensures.value in
    let bytes : c.read.new.buf ≡ part ++ drop c.in_ok-found.found old = got.1 in
    ap (λ l. take c.args.from (held stands) ++ l) (items ∙ ap (λ l. c.read.new.buf ++ l) rest ∙ ap (λ l. l ++ file.tail.items) bytes)
    ∙ copied (held stands) file.tail.items part old file.kept c.args.from c.args.start c.in_ok-found.found c.requires.inside (c.requires.told told) all read
