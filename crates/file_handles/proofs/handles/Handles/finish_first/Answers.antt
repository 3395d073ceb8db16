use Rattle.std.proofs.Common.{sym, ◌∙◌}
use Rattle.std.proofs.lemmas.Result.{IfOk-weaker}
use Rattle.cache_theory.specs.Command.Command.{Close}
use Rattle.file_handles.specs.Effects.{HasEffect, IsLearntOf}
use Rattle.handle_table.specs.Kept.{object_at}
use Rattle.file_handles.specs.Kept.{kept}
use Rattle.file_handles.proofs.Begun.{begun_in}
use Rattle.file_handles.proofs.Closing.ClosedSlot.{draft_there, finished_in, finished_may, finished_safe, may_give_up, told_then, unchanged_in}
use Rattle.file_handles.proofs.EffectLaws.{finished_effect, kept_effect}
use Rattle.file_handles.proofs.Setting.ElementChecks.{the_object}
use Rattle.file_handles.proofs.Places.{filed_somehow}
use Rattle.file_handles.proofs.IndexLeft.{completed_left}
use Rattle.file_handles.specs.Changes.{completed}
use Rattle.file_handles.proofs.UnsyncedLaws.{writes_or_not}
use Rattle.file_handles.proofs.Finishing.Writers.{draft_may}
use Rattle.file_handles.proofs.handles.Handles.finish_first.Goals as goal

pub finish_at-requires-clause-draft : goal.finish_at-requires-clause-draft
finish_at-requires-clause-draft g c =
    draft_may _ (draft_there c.args.used.writes _ (sym c.is_finished_by.ensures ∙ c.if-is_finished_by.true))

pub finish_at-requires-clause-told : goal.finish_at-requires-clause-told
finish_at-requires-clause-told g c told = filed_somehow _ _ _ (c.requires.told told)

pub returns-then-is_finished_by-clause-finishes : goal.returns-then-is_finished_by-clause-finishes
returns-then-is_finished_by-clause-finishes g c told = record {
  leaves = λ b h is.
      let m = h.machine in
      let w = h.marks in
      let s = g.D.Disk.state c.args.disk.now in
      let t = g.D.Disk.state c.finish_at.new.disk in
      let k = kept c.args.self.now in
      let after = kept c.finish_at.new.self in
      let finishes = sym c.is_finished_by.ensures ∙ c.if-is_finished_by.true in
      let begun = begun_in s k m (Close c.args.slot) w is in record {
        safe = finished_safe s k c.args.slot c.requires.slot c.args.used c.requires.used finishes c.finish_at.result t after (c.finish_at.ensures.changes told) m w begun;
        next = finished_in s k c.args.slot c.requires.slot c.args.used c.requires.used finishes c.finish_at.result t after (c.finish_at.ensures.changes told) m w begun (g.met.D.Disk.sound c.args.disk.now told);
      };
}

pub returns-then-is_finished_by-clause-there : goal.returns-then-is_finished_by-clause-there
returns-then-is_finished_by-clause-there g c =
    told_then c.finish_at.result _ _ (λ told.
    finished_may (g.D.Disk.state c.args.disk.now) (kept c.args.self.now) c.args.slot c.requires.slot c.args.used c.requires.used (sym c.is_finished_by.ensures ∙ c.if-is_finished_by.true) c.finish_at.result
    (g.D.Disk.state c.finish_at.new.disk) (kept c.finish_at.new.self) (c.finish_at.ensures.changes told) (g.met.D.Disk.sound c.args.disk.now told) (c.requires.told told))

pub returns-then-is_finished_by-clause-effect : goal.returns-then-is_finished_by-clause-effect
returns-then-is_finished_by-clause-effect g c =
    let k = kept c.args.self.now in
    IfOk-weaker c.finish_at.result (IsLearntOf completed (object_at k c.args.used.place)) (HasEffect k (Close c.args.slot)) (λ e is.
    finished_effect k c.args.slot c.requires.slot c.args.used c.requires.used (sym c.is_finished_by.ensures ∙ c.if-is_finished_by.true) e is)
    c.finish_at.ensures.effect

pub returns-else-is_finished_by-clause-effect : goal.returns-else-is_finished_by-clause-effect
returns-else-is_finished_by-clause-effect g c =
    kept_effect (kept c.args.self.now) c.args.slot c.requires.slot c.args.used c.requires.used (sym c.is_finished_by.ensures ∙ c.if-is_finished_by.false)

pub returns-else-is_finished_by-clause-finishes : goal.returns-else-is_finished_by-clause-finishes
returns-else-is_finished_by-clause-finishes g c told = record {
  leaves = λ b h is.
      let m = h.machine in
      let w = h.marks in
      let s = g.D.Disk.state c.args.disk.now in
      let k = kept c.args.self.now in record {
        safe = λ on. ((begun_in s k m (Close c.args.slot) w is).crash_kept on).safe;
        next = unchanged_in s k c.args.slot c.requires.slot c.args.used c.requires.used (sym c.is_finished_by.ensures ∙ c.if-is_finished_by.false) m w is;
      };
}

pub returns-else-is_finished_by-clause-there : goal.returns-else-is_finished_by-clause-there
returns-else-is_finished_by-clause-there g c told =
    let stands = c.requires.told told in
    may_give_up (g.D.Disk.state c.args.disk.now) (kept c.args.self.now) c.args.slot c.requires.slot c.args.used c.requires.used stands.0 stands.1.0 stands.1.1

pub returns-then-is_finished_by-clause-index : goal.returns-then-is_finished_by-clause-index
returns-then-is_finished_by-clause-index g c told =
    let there = the_object _ _ (draft_there c.args.used.writes _ (sym c.is_finished_by.ensures ∙ c.if-is_finished_by.true)) in
    completed_left (g.D.Disk.state c.args.disk.now) (g.D.Disk.state c.finish_at.new.disk) (kept c.args.self.now) (kept c.finish_at.new.self) c.args.used.place there.0 completed c.finish_at.result
    (g.met.D.Disk.sound c.args.disk.now told) there.1.0 (filed_somehow _ _ _ (c.requires.told told)) (c.finish_at.ensures.changes told)

pub returns-then-is_finished_by-clause-same : goal.returns-then-is_finished_by-clause-same
returns-then-is_finished_by-clause-same g c = λ none. absurd (writes_or_not (kept c.args.self.now) c.args.slot c.args.used c.requires.used none (sym c.is_finished_by.ensures ∙ c.if-is_finished_by.true))
