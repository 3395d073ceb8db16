use Rattle.std.proofs.Common.{◌∙◌, ℕ, sym}
use Rattle.cache_theory.specs.Command.Command.{ReadPart}
use Rattle.cache_theory.specs.declared.refusal.Refusal.{Refusal}
use Rattle.handle_table.specs.Kept.{use_at, used}
use Rattle.file_handles.specs.Kept.{kept}
use Rattle.handle_table.specs.Refuses.{HasNoObject, Refuses}
use Rattle.file_handles.proofs.Reading.PartsSlots.{part_len, part_no_slot, part_passes, refused_on}
use Rattle.file_handles.proofs.Setting.ElementSlots.{use_found}
use Rattle.file_handles.proofs.LiveUses.{live_refuses, none_live, some_live, used_at}
use Rattle.file_handles.proofs.handles.Handles.body_len.Goals as goal

pub returns-in_err-user-clause-refused : goal.returns-in_err-user-clause-refused
returns-in_err-user-clause-refused c =
    let k = kept c.args.self.now in
    refused_on c.from_residual.result c.in_err-user.field-0.0 (λ (r : Refusal). (from len : ℕ) → Refuses k (ReadPart c.args.slot from len) r) c.from_residual.ensures.1
    (λ from len. live_refuses k c.args.slot (ReadPart c.args.slot from len) c.in_err-user.field-0.0 used (sym c.live_use.ensures.used ∙ c.in_err-user.was)
    (λ is. part_no_slot k c.args.slot c.requires c.in_err-user.field-0.0 is from len))

pub returns-clause-len : goal.returns-clause-len
returns-clause-len c = λ m number proper stand.
    c.body_len.ensures
    ∙ part_len (kept c.args.self.now) c.args.slot c.requires m number stand c.in_ok-user.user c.object_at.result.now
    (used_at (kept c.args.self.now) c.args.slot c.in_ok-user.user (sym c.live_use.ensures.used ∙ c.in_ok-user.was)) c.object_at.ensures

pub returns-clause-passes : goal.returns-clause-passes
returns-clause-passes c =
    let k = kept c.args.self.now in
    part_passes k c.args.slot c.requires c.in_ok-user.user (use_found (use_at k c.args.slot) c.in_ok-user.user (used_at k c.args.slot c.in_ok-user.user (sym c.live_use.ensures.used ∙ c.in_ok-user.was)))

pub returns-in_err-user-clause-no_object : goal.returns-in_err-user-clause-no_object
returns-in_err-user-clause-no_object c =
    refused_on c.from_residual.result c.in_err-user.field-0.0 (HasNoObject (kept c.args.self.now) c.args.slot) c.from_residual.ensures.1
    (none_live (kept c.args.self.now) c.args.slot c.in_err-user.field-0.0 (sym c.live_use.ensures.used ∙ c.in_err-user.was))

pub returns-clause-object : goal.returns-clause-object
returns-clause-object c = some_live (kept c.args.self.now) c.args.slot c.in_ok-user.user (sym c.live_use.ensures.used ∙ c.in_ok-user.was)
