use Rattle.std.proofs.Common.{◌+◌, ℕ, refl, sym, ap, subst, ◌∙◌, arith}
use Rattle.cache_export.specs.Front.{front_at, lead_len}
use Rattle.cache_export.specs.Reader.{RefusesPart, held_in}
use Rattle.cache_export.specs.Reading.{IsStuck}
use Rattle.std.specs.Prelude.{IfErr}
use Rattle.cache_export.proofs.NextLaws.{bad_taken, has_ended, leaves_taken, none_wanted, stuck_bad}
use Rattle.cache_export.proofs.WholeLaws.{stands_whole}
use Rattle.cache_export.proofs.reader.DumpReader.next.Goals as goal

pub overflow_add-lead : goal.overflow_add-lead
overflow_add-lead g c =
    let r = record c.args.self.now { window = c.read_next.new.window; bounded = c.in-Ok-Part.ensures.most ∙ c.args.self.now.bounded } in
    let reached = rw c.in-Ok-Part.field-0-is at c.in-Ok-Part.ensures.reached in
    let stands = stands_whole r c.lead-lead.result c.left-left.result c.in-Ok-Part.len c.lead-lead.ensures c.left-left.ensures reached in
    omega (arith, stands.fits)

pub take-requires : goal.take-requires
take-requires g c =
    let reached = rw c.in-Ok-Part.field-0-is at c.in-Ok-Part.ensures.reached in
    stands_whole _ c.lead-lead.result c.left-left.result c.in-Ok-Part.len c.lead-lead.ensures c.left-left.ensures reached

pub returns-in-Ok-Part-clause-leaves : goal.returns-in-Ok-Part-clause-leaves
returns-in-Ok-Part-clause-leaves g c =
    let left = g.S.Source.left c.args.source.now in
    let now = g.S.Source.left c.read_next.new.source in
    let reached = rw c.in-Ok-Part.field-0-is at c.in-Ok-Part.ensures.reached in
    let stands = stands_whole _ c.lead-lead.result c.left-left.result c.in-Ok-Part.len c.lead-lead.ensures c.left-left.ensures reached in
    leaves_taken c.args.self.now _ left now refl refl refl c.in-Ok-Part.ensures.grew c.take.new.self (c.lead-lead.result + c.in-Ok-Part.len) c.take.result stands c.take.ensures.taken

pub returns-in-Ok-Part-clause-bad : goal.returns-in-Ok-Part-clause-bad
returns-in-Ok-Part-clause-bad g c =
    let mid = record c.args.self.now { window = c.read_next.new.window; bounded = c.in-Ok-Part.ensures.most ∙ c.args.self.now.bounded } in
    let left = g.S.Source.left c.args.source.now in
    let now = g.S.Source.left c.read_next.new.source in
    let reached = rw c.in-Ok-Part.field-0-is at c.in-Ok-Part.ensures.reached in
    let whole = ap (λ (n : ℕ). front_at mid.progress.due n mid.used (held_in mid)) (sym c.left-left.ensures) ∙ reached in
    let stands = stands_whole mid (lead_len mid.progress.due) c.left-left.result c.in-Ok-Part.len refl c.left-left.ensures reached in
    bad_taken c.args.self.now mid left now refl refl refl c.in-Ok-Part.ensures.grew c.in-Ok-Part.len c.take.result whole stands
    (subst (λ (n : ℕ). IfErr c.take.result (RefusesPart mid (n + c.in-Ok-Part.len))) c.lead-lead.ensures c.take.ensures.bad)

pub returns-in-Ok-Bad-clause-bad : goal.returns-in-Ok-Bad-clause-bad
returns-in-Ok-Bad-clause-bad g c =
    let mid = record c.args.self.now { window = c.read_next.new.window; bounded = c.in-Ok-Bad.ensures.most ∙ c.args.self.now.bounded } in
    let left = g.S.Source.left c.args.source.now in
    let now = g.S.Source.left c.read_next.new.source in
    let reached = rw c.in-Ok-Bad.field-0-is at c.in-Ok-Bad.ensures.reached in
    let stuck = subst (λ (n : ℕ). IsStuck mid.progress.due n mid.used (held_in mid) now) c.left-left.ensures reached in
    rw c.bad.ensures (refl, stuck_bad c.args.self.now mid left now refl refl refl c.in-Ok-Bad.ensures.grew stuck)

pub returns-in-Ok-End-clause-leaves : goal.returns-in-Ok-End-clause-leaves
returns-in-Ok-End-clause-leaves g c =
    let mid = record c.args.self.now { window = c.read_next.new.window; bounded = c.in-Ok-End.ensures.most ∙ c.args.self.now.bounded } in
    let left = g.S.Source.left c.args.source.now in
    let now = g.S.Source.left c.read_next.new.source in
    let reached = rw c.in-Ok-End.field-0-is at c.in-Ok-End.ensures.reached in
    let more = ap (λ (n : ℕ). front_at mid.progress.due n mid.used (held_in mid)) (sym c.left-left.ensures) ∙ reached.0 in
    has_ended c.args.self.now mid left now refl refl refl c.in-Ok-End.ensures.grew more reached.1.0 reached.1.1

pub returns-in-Err-Source-clause-whole : goal.returns-in-Err-Source-clause-whole
returns-in-Err-Source-clause-whole g c = λ held.
    let r = c.args.self.now in
    c.in-Err-Source.ensures.wanted (λ more. none_wanted r held (ap (λ (n : ℕ). front_at r.progress.due n r.used (held_in r)) (sym c.left-left.ensures) ∙ more))

pub returns-in-Err-Memory-clause-whole : goal.returns-in-Err-Memory-clause-whole
returns-in-Err-Memory-clause-whole g c = λ held.
    let r = c.args.self.now in
    c.in-Err-Memory.ensures.wanted (λ more. none_wanted r held (ap (λ (n : ℕ). front_at r.progress.due n r.used (held_in r)) (sym c.left-left.ensures) ∙ more))

pub returns-in-Ok-End-clause-whole : goal.returns-in-Ok-End-clause-whole
returns-in-Ok-End-clause-whole g c = λ held.
    let r = c.args.self.now in
    c.in-Ok-End.ensures.wanted (λ more. none_wanted r held (ap (λ (n : ℕ). front_at r.progress.due n r.used (held_in r)) (sym c.left-left.ensures) ∙ more))

pub returns-in-Ok-Bad-clause-whole : goal.returns-in-Ok-Bad-clause-whole
returns-in-Ok-Bad-clause-whole g c = λ held.
    let r = c.args.self.now in
    c.in-Ok-Bad.ensures.wanted (λ more. none_wanted r held (ap (λ (n : ℕ). front_at r.progress.due n r.used (held_in r)) (sym c.left-left.ensures) ∙ more))

pub returns-in-Ok-Part-clause-whole : goal.returns-in-Ok-Part-clause-whole
returns-in-Ok-Part-clause-whole g c = λ held.
    let r = c.args.self.now in
    c.in-Ok-Part.ensures.wanted (λ more. none_wanted r held (ap (λ (n : ℕ). front_at r.progress.due n r.used (held_in r)) (sym c.left-left.ensures) ∙ more))
