-- The machine's own clearing is that of its names, which the records of a scan tell.
use Rattle.std.proofs.Common.{◌≡◌, Bool, None, Option, Some, if◌then◌else◌, map, ℕ, refl, ap}
use Rattle.std.specs.Prelude.{is_some}
use Rattle.cache_base.specs.declared.name.Name.{Name}
use Rattle.cache_theory.specs.Checks.{checks}
use Rattle.cache_theory.specs.Covers.{cleared, cleared_by, covered_open, joined_names, resumed, resumed_by, taken_for, taken_for_by}
use Rattle.cache_theory.specs.Laws.{ClearGoesByScan, ClearIsOfNames, ResumeGoesByScan, ResumeIsOfNames, ResumeWithoutMark}
use Rattle.cache_theory.specs.Step.{answer, cleared_of, effect, unmarked}
use Rattle.cache_theory.proofs.Clears.Covering.{covered_by_scan}
use Rattle.cache_theory.specs.Command.Reply.{Resumed}
use Rattle.context_clear.specs.Mark.{mark_of}
use Rattle.entry_key.specs.Tags.{value_hash}
use Rattle.index_theory.specs.Scan.{scan}

pub clear_is_of_names : ClearIsOfNames
unfolding checks effect
clear_is_of_names m origin = (refl, refl)

pub clear_goes_by_scan : ClearGoesByScan
unfolding cleared cleared_by
clear_goes_by_scan m origin =
    ap (joined_names (covered_open m (value_hash origin))) (covered_by_scan m.shelf (value_hash origin))

pub resume_is_of_names : ResumeIsOfNames
unfolding checks effect
resume_is_of_names m some =
    (ap (λ (b : Bool). answer (if b then cleared_of m (resumed m) else unmarked m) Resumed) some, refl)

pub resume_without_mark : ResumeWithoutMark
unfolding checks effect resumed
resume_without_mark m none = (
  ap (λ (o : Option ℕ). if is_some o then cleared_of m (resumed m) else unmarked m) none,
  ap (λ (o : Option ℕ). map (λ (name : Name). name.0) (taken_for m o)) none,
)

pub resume_goes_by_scan : ResumeGoesByScan
unfolding resumed resumed_by
resume_goes_by_scan m = go (mark_of m.mark)
  where
    go : (o : Option ℕ) → taken_for m o ≡ taken_for_by (scan m.shelf) m o
    go None = refl
    go (Some origin) = ap (joined_names (covered_open m origin)) (covered_by_scan m.shelf origin)
