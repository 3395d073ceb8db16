use Rattle.std.proofs.Common.{sym, ◌∙◌, ap, refl, false, true, not}
use Rattle.std.specs.Prelude.{◌||◌}
use Rattle.std.proofs.lemmas.Bool.{not-false, not-true, or_right}
use Rattle.cache_theory.specs.Command.Command.{SetElement, UnsetElement}
use Rattle.handle_table.specs.Held.{is_draft}
use Rattle.handle_table.specs.Kept.{use_at, used}
use Rattle.file_handles.specs.Kept.{kept}
use Rattle.file_handles.proofs.Setting.ElementChecks.{handed_on, set_ends, set_no_slot, unset_ends, unset_no_slot}
use Rattle.file_handles.proofs.Setting.ElementSlots.{use_found}
use Rattle.file_handles.proofs.LiveUses.{live_refuses, used_at}
use Rattle.file_handles.proofs.NoSlots.{check_handed_on, check_passed, use_checks}
use Rattle.file_handles.proofs.handles.Handles.may_change.Goals as goal

pub returns-in_err-used-clause-refused : goal.returns-in_err-used-clause-refused
returns-in_err-used-clause-refused c =
    handed_on c.from_residual.result c.in_err-used.field-0.0 _ c.from_residual.ensures.1
    (λ name. live_refuses (kept c.args.self.now) c.args.slot (UnsetElement c.args.slot name) c.in_err-used.field-0.0 used (sym c.live_use.ensures.used ∙ c.in_err-used.was)
    (λ is. unset_no_slot (kept c.args.self.now) c.args.slot c.requires c.in_err-used.field-0.0 is name))

pub returns-in_err-used-clause-refused_set : goal.returns-in_err-used-clause-refused_set
returns-in_err-used-clause-refused_set c =
    handed_on c.from_residual.result c.in_err-used.field-0.0 _ c.from_residual.ensures.1
    (λ name value. live_refuses (kept c.args.self.now) c.args.slot (SetElement c.args.slot name value) c.in_err-used.field-0.0 used (sym c.live_use.ensures.used ∙ c.in_err-used.was)
    (λ is. set_no_slot (kept c.args.self.now) c.args.slot c.requires c.in_err-used.field-0.0 is name value))

pub returns-in-Draft-clause-refused : goal.returns-in-Draft-clause-refused
returns-in-Draft-clause-refused c =
    let k = kept c.args.self.now in
    let at = use_found (use_at k c.args.slot) c.in_ok-used.used (used_at k c.args.slot c.in_ok-used.used (sym c.live_use.ensures.used ∙ c.in_ok-used.was)) in
    unset_ends k c.args.slot c.requires c.in_ok-used.used c.object_at.result.now at c.object_at.ensures false
    (λ i. not-true c.in_ok-used.used.writes c.if-not-used.true i || not (is_draft (c.in-Draft.is i)))

pub returns-in-Draft-clause-refused_set : goal.returns-in-Draft-clause-refused_set
returns-in-Draft-clause-refused_set c name value =
    let k = kept c.args.self.now in
    let at = use_found (use_at k c.args.slot) c.in_ok-used.used (used_at k c.args.slot c.in_ok-used.used (sym c.live_use.ensures.used ∙ c.in_ok-used.was)) in
    set_ends k c.args.slot c.requires c.in_ok-used.used c.object_at.result.now at c.object_at.ensures false
    (λ i. not-true c.in_ok-used.used.writes c.if-not-used.true i || not (is_draft (c.in-Draft.is i))) name value refl

pub returns-in_default-clause-passes : goal.returns-in_default-clause-passes
returns-in_default-clause-passes c =
    let k = kept c.args.self.now in
    let at = use_found (use_at k c.args.slot) c.in_ok-used.used (used_at k c.args.slot c.in_ok-used.used (sym c.live_use.ensures.used ∙ c.in_ok-used.was)) in
    unset_ends k c.args.slot c.requires c.in_ok-used.used c.object_at.result.now at c.object_at.ensures true
    (λ i. not-false c.in_ok-used.used.writes c.if-not-used.false i || not (is_draft (c.in-Draft.is i)))

pub returns-in_default-2-clause-passes : goal.returns-in_default-2-clause-passes
returns-in_default-2-clause-passes c =
    let k = kept c.args.self.now in
    let at = use_found (use_at k c.args.slot) c.in_ok-used.used (used_at k c.args.slot c.in_ok-used.used (sym c.live_use.ensures.used ∙ c.in_ok-used.was)) in
    unset_ends k c.args.slot c.requires c.in_ok-used.used c.object_at.result.now at c.object_at.ensures true
    (ap (λ e. c.in_ok-used.used.writes || not (is_draft e)) c.in_default.is ∙ or_right c.in_ok-used.used.writes true refl)

pub returns-in_err-used-clause-no_slot : goal.returns-in_err-used-clause-no_slot
returns-in_err-used-clause-no_slot c =
    check_handed_on (kept c.args.self.now) c.args.slot c.in_err-used.field-0.0 c.live_use.result c.from_residual.result c.in_err-used.was c.from_residual.ensures.1 (use_checks (kept c.args.self.now) c.args.slot c.live_use.result c.live_use.ensures.used)

pub returns-in-Draft-clause-no_slot : goal.returns-in-Draft-clause-no_slot
returns-in-Draft-clause-no_slot c =
    check_passed (kept c.args.self.now) c.args.slot c.in_ok-used.used c.live_use.result _ c.in_ok-used.was (use_checks (kept c.args.self.now) c.args.slot c.live_use.result c.live_use.ensures.used) (λ same. cc)

pub returns-in_default-clause-no_slot : goal.returns-in_default-clause-no_slot
returns-in_default-clause-no_slot c =
    check_passed (kept c.args.self.now) c.args.slot c.in_ok-used.used c.live_use.result _ c.in_ok-used.was (use_checks (kept c.args.self.now) c.args.slot c.live_use.result c.live_use.ensures.used) (λ same. cc)

pub returns-in_default-2-clause-no_slot : goal.returns-in_default-2-clause-no_slot
returns-in_default-2-clause-no_slot c =
    check_passed (kept c.args.self.now) c.args.slot c.in_ok-used.used c.live_use.result _ c.in_ok-used.was (use_checks (kept c.args.self.now) c.args.slot c.live_use.result c.live_use.ensures.used) (λ same. cc)
