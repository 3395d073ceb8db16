use Rattle.std.proofs.Common.{ℕ, List, ◌≡◌, ◌≤◌, ◌<◌, ◌+◌, ◌-◌, ◌++◌, ◌∙◌, length, min, take, drop, arith, rules, ap, sym}
use Rattle.std.proofs.lemmas.List.{length-take-le}
use Rattle.disk_theory.specs.State.{State, part_of, standing}
use Rattle.overlay_disk.specs.Seen.{beginning, content_over, held}
use Rattle.overlay_disk.proofs.OverLaws.{drop_past, part_held, read_whole}
use Rattle.overlay_disk.proofs.over.OverFile.read.Goals as goal

pub returns-then-from-start-clause-bytes : goal.returns-then-from-start-clause-bytes
returns-then-from-start-clause-bytes g c = λ told.
    let file = c.args.self.now in
    let head = beginning (standing (g.D.Disk.state c.args.below.now.disk)) file in
    let start : c.in_ok-start.start ≡ length head = c.in_ok-start.ensures.len told in
    let past = c.if-from-start.true in
    let inside : length head ≤ c.args.from = omega (arith, start, past) in
    let same : drop (c.args.from - c.in_ok-start.start) file.tail.items ≡ drop c.args.from (content_over (standing (g.D.Disk.state c.args.below.now.disk)) file) =
    ap (λ n. drop (c.args.from - n) file.tail.items) start ∙ sym (drop_past head file.tail.items c.args.from inside) in
    let at = c.args.from - c.in_ok-start.start in
    let old = c.args.buf.now in
    let tail = c.deref.result.now in
    let value : tail ≡ file.tail.items = c.deref.ensures.value in
    let all : drop at tail ≡ drop c.args.from (content_over (standing (g.D.Disk.state c.args.below.now.disk)) file) = ap (drop at) value ∙ same in
    let len : c.copy_part.result ≡ length (take (length old) (drop at tail)) = c.copy_part.ensures.len in
    let bytes : c.copy_part.new.buf ≡ take (length old) (drop at tail) ++ drop c.copy_part.result old = c.copy_part.ensures.bytes in (
      len ∙ ap (λ l. length (take (length old) l)) all,
      bytes ∙ ap (λ l. take (length old) l ++ drop c.copy_part.result old) all,
    )

pub returns-clause-bytes : goal.returns-clause-bytes
returns-clause-bytes g c = λ told.
    let before : State = g.D.Disk.state c.args.below.now.disk in
    let mid : State = g.D.Disk.state c.start.new.below.disk in
    let same : mid ≡ before = c.start.ensures.seen.state told in
    let file = c.args.self.now in
    let old = c.args.buf.now in
    let first = c.least-first.result in
    let stands = standing before file.from in
    let start : c.in_ok-start.start ≡ length (beginning (standing before) file) = c.in_ok-start.ensures.len told in
    let inside : c.args.from < c.in_ok-start.start = c.if-from-start.false in
    let least : first ≡ min (c.in_ok-start.start - c.args.from) (length old) = c.least-first.ensures in
    let n : length (take first old) ≡ first = length-take-le first old (omega (arith, least)) in
    let got = c.in_ok-found.ensures.bytes told in
    let found = c.in_ok-found.found in
    let part = part_of c.args.from (length (take first old)) (standing mid file.from) in
    let read : part ≡ take first (drop c.args.from (held stands)) =
    part_held c.args.from (length (take first old)) (standing mid file.from)
    ∙ ap (λ k. take k (drop c.args.from (held (standing mid file.from)))) n
    ∙ ap (λ (s : State). take first (drop c.args.from (held (standing s file.from)))) same in
    let count : found ≡ length part = got.0 in
    let bytes : c.read.new.buf ≡ part ++ drop found (take first old) = got.1 in
    let all : first ≤ found = c.if-found-first.false in
    let amid : List ℕ = c.read.new.buf ++ drop first old in
    let room : length amid ≡ length old = search rules in
    let tail = c.deref-2.result.now in
    let value : tail ≡ file.tail.items = c.deref-2.ensures.value in
    let last : c.copy_after.result ≡ first + length (take (length amid - first) tail) = c.copy_after.ensures.len in
    let ends : c.copy_after.new.buf ≡ take first amid ++ take (length amid - first) tail ++ drop c.copy_after.result amid = c.copy_after.ensures.bytes in
    let at : take (length amid - first) tail ≡ take (length old - first) file.tail.items =
    ap (λ k. take (k - first) tail) room ∙ ap (take (length old - first)) value in
    let joined : amid ≡ (part ++ drop found (take first old)) ++ drop first old = ap (λ l. l ++ drop first old) bytes in
    read_whole (held stands) file.tail.items part old file.kept c.args.from c.in_ok-start.start first found c.copy_after.result c.copy_after.new.buf
    inside start least read count all
    (last ∙ ap (λ l. first + length l) at)
    (ends ∙ ap (λ l. take first amid ++ l ++ drop c.copy_after.result amid) at
    ∙ ap (λ l. take first l ++ take (length old - first) file.tail.items ++ drop c.copy_after.result l) joined)
