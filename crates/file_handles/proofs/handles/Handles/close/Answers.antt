use Rattle.std.proofs.Common.{ap, refl, sym, ◌∙◌, rules}
use Rattle.file_handles.specs.Answers.{fault_of}
use Rattle.handle_table.specs.Kept.{used}
use Rattle.file_handles.specs.Kept.{kept}
use Rattle.file_handles.specs.declared.fault.HandleFault.TheVariants as fault
use Rattle.file_handles.proofs.Reading.ClosedChunks.{closed, unclosed}
use Rattle.file_handles.proofs.Reading.PartsSlots.{err_is, on_err}
use Rattle.file_handles.proofs.Accounting.{account_then_handed_on}
use Rattle.file_handles.proofs.Closing.ClosedSlot.{closed_leaves, closed_safe, faulted_leaves, unused_leaves}
use Rattle.file_handles.proofs.Dooming.DoomedCommand.{no_refusal}
use Rattle.file_handles.proofs.Setting.ElementSlots.{use_found}
use Rattle.file_handles.proofs.LiveUses.{live_same, used_at}
use Rattle.file_handles.proofs.Histories.{history_of}
use Rattle.file_handles.proofs.Where.{carries_out}
use Rattle.file_handles.proofs.IndexLeft.{then_left}
use Rattle.file_handles.proofs.UnsyncedLaws.{same_unsynced, then_unsynced}
use Rattle.file_handles.proofs.NoSlots.{call_handed_on, call_passed, never_refused, use_checks}
use Rattle.file_handles.proofs.handles.Handles.close.Goals as goal

pub returns-in_err-used-clause-carried : goal.returns-in_err-used-clause-carried
returns-in_err-used-clause-carried g c told = carries_out (λ b m w is.
    unused_leaves (g.D.Disk.state c.args.disk.now) (kept c.args.self.now) c.args.slot c.requires.slot c.in_err-used.field-0.0 (sym (ap used (live_same (kept c.args.self.now) c.args.slot m is.number is.stands.handles)) ∙ sym c.live_use.ensures.used ∙ c.in_err-used.was) c.from_residual.result c.from_residual.ensures.1 m w is)

pub returns-in_err-effect-clause-carried : goal.returns-in_err-effect-clause-carried
returns-in_err-effect-clause-carried g c told = carries_out (λ b m w is.
    faulted_leaves c.args.slot c.from_residual-in_err-effect.result c.in_err-effect.field-0.0 (g.D.Disk.state c.finish_first.new.disk) (kept c.finish_first.new.self) m w c.from_residual-in_err-effect.ensures.1
    c.in_err-effect.ensures.refused ((c.in_err-effect.ensures.finishes told).leaves b (history_of m w) is).safe)

pub returns-in_err-give_up-clause-carried : goal.returns-in_err-give_up-clause-carried
returns-in_err-give_up-clause-carried g c told = carries_out (λ b m w is.
    let at = use_found _ _ (used_at (kept c.args.self.now) c.args.slot c.in_ok-used.used (sym c.live_use.ensures.used ∙ c.in_ok-used.was)) in
    let stands = ((c.in_ok-effect.ensures.finishes told).leaves b (history_of m w) is).next in
    let safe = closed_safe (g.D.Disk.state c.args.disk.now) (kept c.args.self.now) c.args.slot c.requires.slot c.in_ok-used.used at (g.D.Disk.state c.finish_first.new.disk)
    (kept c.finish_first.new.self) (kept c.give_up.new.self) m w is stands (g.D.Disk.state c.give_up.new.disk) c.give_up.result (c.give_up.ensures.gives_up told) in
    faulted_leaves c.args.slot c.from_residual-in_err-give_up.result (fault_of c.in_err-give_up.field-0.0) (g.D.Disk.state c.give_up.new.disk) (kept c.give_up.new.self) m w c.from_residual-in_err-give_up.ensures.1
    (no_refusal c.in_err-give_up.field-0.0) safe)

pub returns-clause-carried : goal.returns-clause-carried
returns-clause-carried g c told = carries_out (λ b m w is.
    let at = use_found _ _ (used_at (kept c.args.self.now) c.args.slot c.in_ok-used.used (sym c.live_use.ensures.used ∙ c.in_ok-used.was)) in
    let stands = ((c.in_ok-effect.ensures.finishes told).leaves b (history_of m w) is).next in
    closed_leaves (g.D.Disk.state c.args.disk.now) (kept c.args.self.now) c.args.slot c.requires.slot c.in_ok-used.used at (g.D.Disk.state c.finish_first.new.disk)
    (kept c.finish_first.new.self) (kept c.give_up.new.self) m w is stands (g.D.Disk.state c.give_up.new.disk) (c.in_ok-give_up.ensures.gives_up told))

pub returns-in_err-give_up-clause-files : goal.returns-in_err-give_up-clause-files
returns-in_err-give_up-clause-files g c = record {
  unchanged = search rules;
  index = λ told. then_left (g.D.Disk.state c.args.disk.now) (g.D.Disk.state c.finish_first.new.disk) (g.D.Disk.state c.give_up.new.disk) (c.finish_first.ensures.index told) (c.give_up.ensures.index told);
  disk = record {
    account = account_then_handed_on g.D.Disk c.give_up.result c.in_err-give_up.field-0.0 c.from_residual-in_err-give_up.result c.args.disk.now c.finish_first.new.disk c.give_up.new.disk c.in_err-give_up.was
        c.from_residual-in_err-give_up.ensures.1 c.in_ok-effect.ensures.disk.account c.give_up.ensures.disk.account;
    change = search rules;
    no_entry = search rules;
  };
}

pub returns-clause-files : goal.returns-clause-files
returns-clause-files g c = record {
  unchanged = search rules;
  index = λ told. then_left (g.D.Disk.state c.args.disk.now) (g.D.Disk.state c.finish_first.new.disk) (g.D.Disk.state c.give_up.new.disk) (c.finish_first.ensures.index told) (c.give_up.ensures.index told);
  disk = search rules;
}

pub returns-in_err-used-clause-chunks : goal.returns-in_err-used-clause-chunks
returns-in_err-used-clause-chunks g c = record {
  given_up = on_err _ c.from_residual.result (fault.Refused c.in_err-used.field-0.0) (err_is c.from_residual.result (fault.Refused c.in_err-used.field-0.0) c.from_residual.ensures.1);
  chunks = unclosed (kept c.args.self.now) (kept c.args.self.now) c.args.slot refl refl;
}

pub returns-in_err-effect-clause-chunks : goal.returns-in_err-effect-clause-chunks
returns-in_err-effect-clause-chunks g c = record {
  given_up = on_err _ c.from_residual-in_err-effect.result c.in_err-effect.field-0.0 (err_is c.from_residual-in_err-effect.result c.in_err-effect.field-0.0 c.from_residual-in_err-effect.ensures.1);
  chunks = unclosed (kept c.args.self.now) (kept c.finish_first.new.self) c.args.slot c.finish_first.ensures.slots c.finish_first.ensures.chunks;
}

pub returns-in_err-give_up-clause-chunks : goal.returns-in_err-give_up-clause-chunks
returns-in_err-give_up-clause-chunks g c =
    let f = fault_of c.in_err-give_up.field-0.0 in
    record {
      given_up = on_err _ c.from_residual-in_err-give_up.result f (err_is c.from_residual-in_err-give_up.result f c.from_residual-in_err-give_up.ensures.1);
      chunks = closed (kept c.args.self.now) (kept c.finish_first.new.self) (kept c.give_up.new.self) c.args.slot c.in_ok-used.used (use_found _ _ (used_at (kept c.args.self.now) c.args.slot c.in_ok-used.used (sym c.live_use.ensures.used ∙ c.in_ok-used.was)))
          c.finish_first.ensures.slots c.in_ok-effect.ensures.numbered c.finish_first.ensures.chunks c.give_up.ensures.given_up c.give_up.ensures.chunks;
    }

pub returns-clause-chunks : goal.returns-clause-chunks
returns-clause-chunks g c = record {
  given_up = c.give_up.ensures.given_up;
  chunks = closed (kept c.args.self.now) (kept c.finish_first.new.self) (kept c.give_up.new.self) c.args.slot c.in_ok-used.used (use_found _ _ (used_at (kept c.args.self.now) c.args.slot c.in_ok-used.used (sym c.live_use.ensures.used ∙ c.in_ok-used.was)))
      c.finish_first.ensures.slots c.in_ok-effect.ensures.numbered c.finish_first.ensures.chunks c.give_up.ensures.given_up c.give_up.ensures.chunks;
}

pub returns-in_err-effect-clause-unsynced : goal.returns-in_err-effect-clause-unsynced
returns-in_err-effect-clause-unsynced g c = λ none told. same_unsynced (ap g.D.Disk.state (c.finish_first.ensures.same none))

pub returns-in_err-give_up-clause-unsynced : goal.returns-in_err-give_up-clause-unsynced
returns-in_err-give_up-clause-unsynced g c = λ none told.
    then_unsynced (g.D.Disk.state c.args.disk.now) (g.D.Disk.state c.finish_first.new.disk) (g.D.Disk.state c.give_up.new.disk) (same_unsynced (ap g.D.Disk.state (c.finish_first.ensures.same none))) (c.give_up.ensures.unsynced told)

pub returns-clause-unsynced : goal.returns-clause-unsynced
returns-clause-unsynced g c = λ none told.
    then_unsynced (g.D.Disk.state c.args.disk.now) (g.D.Disk.state c.finish_first.new.disk) (g.D.Disk.state c.give_up.new.disk) (same_unsynced (ap g.D.Disk.state (c.finish_first.ensures.same none))) (c.give_up.ensures.unsynced told)

pub returns-in_err-used-clause-no_slot : goal.returns-in_err-used-clause-no_slot
returns-in_err-used-clause-no_slot g c =
    call_handed_on (kept c.args.self.now) c.args.slot c.in_err-used.field-0.0 c.live_use.result c.from_residual.result c.in_err-used.was c.from_residual.ensures.1 (use_checks (kept c.args.self.now) c.args.slot c.live_use.result c.live_use.ensures.used)

pub returns-in_err-effect-clause-no_slot : goal.returns-in_err-effect-clause-no_slot
returns-in_err-effect-clause-no_slot g c =
    call_passed (kept c.args.self.now) c.args.slot c.in_ok-used.used c.live_use.result c.from_residual-in_err-effect.result c.in_ok-used.was (use_checks (kept c.args.self.now) c.args.slot c.live_use.result c.live_use.ensures.used)
    (never_refused c.in_err-effect.field-0.0 c.from_residual-in_err-effect.result c.from_residual-in_err-effect.ensures.1 c.in_err-effect.ensures.refused)

pub returns-in_err-give_up-clause-no_slot : goal.returns-in_err-give_up-clause-no_slot
returns-in_err-give_up-clause-no_slot g c =
    call_passed (kept c.args.self.now) c.args.slot c.in_ok-used.used c.live_use.result c.from_residual-in_err-give_up.result c.in_ok-used.was (use_checks (kept c.args.self.now) c.args.slot c.live_use.result c.live_use.ensures.used)
    (never_refused (fault_of c.in_err-give_up.field-0.0) c.from_residual-in_err-give_up.result c.from_residual-in_err-give_up.ensures.1 (no_refusal c.in_err-give_up.field-0.0))

pub returns-clause-no_slot : goal.returns-clause-no_slot
returns-clause-no_slot g c =
    call_passed (kept c.args.self.now) c.args.slot c.in_ok-used.used c.live_use.result _ c.in_ok-used.was (use_checks (kept c.args.self.now) c.args.slot c.live_use.result c.live_use.ensures.used) tt
