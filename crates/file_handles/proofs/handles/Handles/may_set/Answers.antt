use Rattle.std.proofs.Common.{◌≡◌, sym, ◌∙◌, ap, false, subst, true, None, IfSome}
use Rattle.entry_parts.specs.Setting.{set_fault, with_element}
use Rattle.cache_theory.specs.Checks.{good_element}
use Rattle.handle_table.specs.Held.{elements_in}
use Rattle.file_handles.specs.Kept.{kept}
use Rattle.handle_table.specs.Refuses.{HasAt}
use Rattle.file_handles.specs.Setting.{are_small}
use Rattle.handle_table.specs.declared.object.Object.{Object}
use Rattle.file_handles.proofs.Setting.ElementChecks.{at_object, bad_name, bad_value, empty_name, set_bad, set_ends_by, settable, some_object}
use Rattle.file_handles.proofs.Setting.ElementEntries.{small_has_room}
use Rattle.file_handles.proofs.Reading.PartsSlots.{refused_on}
use Rattle.file_handles.proofs.NoSlots.{check_handed_on, check_passed}
use Rattle.file_handles.proofs.handles.Handles.may_set.Goals as goal
use Rattle.file_handles.proofs.handles.Handles.may_set.Goals.{then-is_empty-via-then-is_empty, then-is_empty-via-else-is_empty+then-has_zero, then-is_empty-via-else-is_empty+else-has_zero+then-has_zero-2}

pub returns-then-is_empty-clause-refused : goal.returns-then-is_empty-clause-refused
returns-then-is_empty-clause-refused c =
    let name = c.args.name.now in
    let value = c.args.value.now in
    let bad : (good_element name value).0 ≡ false = elim c.then-is_empty.branch [
      | then-is_empty-via-then-is_empty w ↦ empty_name name value (sym w.if-is_empty.ensures)
      | then-is_empty-via-else-is_empty+then-has_zero w ↦ bad_name name value (sym w.if-has_zero.ensures)
      | then-is_empty-via-else-is_empty+else-has_zero+then-has_zero-2 w ↦ bad_value name value (sym w.if-has_zero-2.ensures)
    ] in
    set_bad (kept c.args.self.now) c.args.slot c.requires name value c.in_ok-place.ensures.passes bad

pub returns-then-may_have-clause-passes : goal.returns-then-may_have-clause-passes
returns-then-may_have-clause-passes c =
    set_ends_by (kept c.args.self.now) c.args.slot c.requires c.args.name.now c.args.value.now c.in_ok-place.ensures.passes (sym c.if-is_empty.ensures) (sym c.if-has_zero.ensures) (sym c.if-has_zero-2.ensures)
    c.in_ok-place.place c.object_at-object.result.now c.object_at-object.ensures c.in_ok-place.ensures.object c.elements.result.now c.elements.ensures true c.if-may_have.ensures

pub returns-then-may_have-clause-object : goal.returns-then-may_have-clause-object
returns-then-may_have-clause-object c =
    let k = kept c.args.self.now in
    let name = c.args.name.now in
    let value = c.args.value.now in
    let x = c.object_at-object.result.now in
    let has = at_object _ x (HasAt k c.args.slot c.in_ok-place.place) c.object_at-object.ensures c.in_ok-place.ensures.object in
    some_object _ x _ c.object_at-object.ensures
    (has, small_has_room x.entry (with_element name value (elements_in x.entry)) (ap (λ es. are_small x.entry (with_element name value es)) (sym c.elements.ensures) ∙ sym c.if-may_have.ensures))

pub returns-else-may_have-clause-refused : goal.returns-else-may_have-clause-refused
returns-else-may_have-clause-refused c =
    set_ends_by (kept c.args.self.now) c.args.slot c.requires c.args.name.now c.args.value.now c.in_ok-place.ensures.passes (sym c.if-is_empty.ensures) (sym c.if-has_zero.ensures) (sym c.if-has_zero-2.ensures)
    c.in_ok-place.place c.object_at-object.result.now c.object_at-object.ensures c.in_ok-place.ensures.object c.elements.result.now c.elements.ensures false c.if-may_have.ensures

pub returns-in_err-place-clause-refused : goal.returns-in_err-place-clause-refused
returns-in_err-place-clause-refused c = refused_on c.from_residual.result c.in_err-place.field-0.0 _ c.from_residual.ensures.1 (c.in_err-place.ensures.refused_set c.args.name.now c.args.value.now)

pub returns-then-may_have-clause-settable : goal.returns-then-may_have-clause-settable
returns-then-may_have-clause-settable c =
    let name = c.args.name.now in
    let value = c.args.value.now in
    let x = c.object_at-object.result.now in
    let P : Object → Type 0 = λ x. set_fault name value (elements_in x.entry) ≡ None in
    subst (λ o. IfSome o P) (sym c.object_at-object.ensures)
    (settable name value x.entry (elements_in x.entry) (sym c.if-is_empty.ensures) (sym c.if-has_zero.ensures) (sym c.if-has_zero-2.ensures)
    (ap (λ es. are_small x.entry (with_element name value es)) (sym c.elements.ensures) ∙ sym c.if-may_have.ensures))

pub returns-in_err-place-clause-no_slot : goal.returns-in_err-place-clause-no_slot
returns-in_err-place-clause-no_slot c =
    check_handed_on (kept c.args.self.now) c.args.slot c.in_err-place.field-0.0 c.may_change.result c.from_residual.result c.in_err-place.was c.from_residual.ensures.1 c.may_change.ensures.no_slot

pub returns-then-is_empty-clause-no_slot : goal.returns-then-is_empty-clause-no_slot
returns-then-is_empty-clause-no_slot c =
    check_passed (kept c.args.self.now) c.args.slot c.in_ok-place.place c.may_change.result _ c.in_ok-place.was c.may_change.ensures.no_slot (λ same. cc)

pub returns-then-may_have-clause-no_slot : goal.returns-then-may_have-clause-no_slot
returns-then-may_have-clause-no_slot c =
    check_passed (kept c.args.self.now) c.args.slot c.in_ok-place.place c.may_change.result _ c.in_ok-place.was c.may_change.ensures.no_slot (λ same. cc)

pub returns-else-may_have-clause-no_slot : goal.returns-else-may_have-clause-no_slot
returns-else-may_have-clause-no_slot c =
    check_passed (kept c.args.self.now) c.args.slot c.in_ok-place.place c.may_change.result _ c.in_ok-place.was c.may_change.ensures.no_slot (λ same. cc)
