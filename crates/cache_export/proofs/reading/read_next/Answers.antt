use Rattle.std.proofs.Common.{ℕ, ◌<◌, length, sym, ap, subst, ◌∙◌}
use Rattle.cache_export.specs.Front.{front_at}
use Rattle.cache_io.specs.Window.{items}
use Rattle.cache_io.proofs.WindowLaws.{grew_on}
use Rattle.cache_export.proofs.ReadingLaws.{more_before, more_is_short}
use Rattle.cache_export.proofs.reading.read_next.Goals as goal

pub fill-requires : goal.fill-requires
fill-requires g c =
    let front = front_at c.args.due c.args.left c.args.used in
    subst (λ (n : ℕ). length (items c.reads.window) < n) (sym (c.reads.invariant.1.1.0 ∙ c.requires.most))
    (more_is_short c.args.due c.args.left c.args.used (items c.reads.window) (ap front (sym c.as_slice.ensures) ∙ sym c.in-More.ensures))

pub returns-in_err-count-clause-grew : goal.returns-in_err-count-clause-grew
returns-in_err-count-clause-grew g c = grew_on _ _ _ _ _ _ c.reads.invariant.0 c.in_err-count.ensures.grew

pub returns-in_err-count-clause-wanted : goal.returns-in_err-count-clause-wanted
returns-in_err-count-clause-wanted g c = λ other.
    let front = front_at c.args.due c.args.left c.args.used in
    absurd (other (more_before c.args.due c.args.left c.args.used (items c.args.window.now) (items c.reads.window) _ _ c.reads.invariant.0 (ap front (sym c.as_slice.ensures) ∙ sym c.in-More.ensures)))

pub returns-then-ends-clause-wanted : goal.returns-then-ends-clause-wanted
returns-then-ends-clause-wanted g c = λ other.
    let front = front_at c.args.due c.args.left c.args.used in
    absurd (other (more_before c.args.due c.args.left c.args.used (items c.args.window.now) (items c.reads.window) _ _ c.reads.invariant.0 (ap front (sym c.as_slice.ensures) ∙ sym c.in-More.ensures)))

pub returns-then-count-eq0-clause-wanted : goal.returns-then-count-eq0-clause-wanted
returns-then-count-eq0-clause-wanted g c = λ other.
    let front = front_at c.args.due c.args.left c.args.used in
    absurd (other (more_before c.args.due c.args.left c.args.used (items c.args.window.now) (items c.reads.window) _ _ c.reads.invariant.0 (ap front (sym c.as_slice.ensures) ∙ sym c.in-More.ensures)))

pub reads-preserved : goal.reads-preserved
reads-preserved g c =
    let front = front_at c.args.due c.args.left c.args.used in (
      grew_on _ _ _ _ _ _ c.reads.invariant.0 c.in_ok-count.ensures.grew,
      (
        c.in_ok-count.ensures.cause.kept (λ h. cc) ∙ c.reads.invariant.1.0,
        (
          c.in_ok-count.ensures.most ∙ c.reads.invariant.1.1.0,
          λ other. absurd (other (more_before c.args.due c.args.left c.args.used (items c.args.window.now) (items c.reads.window) _ _ c.reads.invariant.0 (ap front (sym c.as_slice.ensures) ∙ sym c.in-More.ensures))),
        ),
      ),
    )
