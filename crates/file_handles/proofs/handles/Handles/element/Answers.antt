use Rattle.std.proofs.Common.{sym, ap, ◌∙◌}
use Rattle.std.specs.Prelude.{option_map}
use Rattle.cache_theory.specs.Command.Command.{ElementOf}
use Rattle.entry_parts.specs.Elements.{element}
use Rattle.handle_table.specs.Kept.{use_at, used}
use Rattle.file_handles.specs.Kept.{kept}
use Rattle.handle_table.specs.declared.object.Use.{Use}
use Rattle.file_handles.proofs.Setting.ElementChecks.{element_no_slot, handed_on}
use Rattle.file_handles.proofs.Setting.ElementReads.{element_leaves}
use Rattle.file_handles.proofs.Setting.ElementSlots.{use_found}
use Rattle.file_handles.proofs.LiveUses.{live_refuses, none_live, some_live, used_at}
use Rattle.file_handles.proofs.Refused.{refused_leaves}
use Rattle.file_handles.proofs.handles.Handles.element.Goals as goal

pub returns-in_err-used-clause-refused : goal.returns-in_err-used-clause-refused
returns-in_err-used-clause-refused c =
    let k = kept c.args.self.now in
    let r = c.in_err-used.field-0.0 in
    handed_on c.from_residual.result r _ c.from_residual.ensures.1
    (λ s. refused_leaves s k (ElementOf c.args.slot c.args.name.now) r
    (live_refuses k c.args.slot (ElementOf c.args.slot c.args.name.now) r used (sym c.live_use.ensures.used ∙ c.in_err-used.was) (λ is. element_no_slot k c.args.slot c.requires r is c.args.name.now)))

pub returns-clause-found : goal.returns-clause-found
returns-clause-found c s =
    let k = kept c.args.self.now in
    let at = use_found (use_at k c.args.slot) c.in_ok-used.used (used_at k c.args.slot c.in_ok-used.used (sym c.live_use.ensures.used ∙ c.in_ok-used.was)) in
    element_leaves s k c.args.slot c.requires c.in_ok-used.used.place c.object_at-object.result.now
    (record { ranged = c.in_ok-used.used.ranged; place = ap (option_map (λ (u : Use). u.place)) at; found = c.object_at-object.ensures }) c.args.name.now _
    (c.get.ensures ∙ ap (element c.args.name.now) c.elements.ensures)

pub returns-in_err-used-clause-no_object : goal.returns-in_err-used-clause-no_object
returns-in_err-used-clause-no_object c =
    handed_on c.from_residual.result c.in_err-used.field-0.0 _ c.from_residual.ensures.1
    (none_live (kept c.args.self.now) c.args.slot c.in_err-used.field-0.0 (sym c.live_use.ensures.used ∙ c.in_err-used.was))

pub returns-clause-object : goal.returns-clause-object
returns-clause-object c = some_live (kept c.args.self.now) c.args.slot c.in_ok-used.used (sym c.live_use.ensures.used ∙ c.in_ok-used.was)
