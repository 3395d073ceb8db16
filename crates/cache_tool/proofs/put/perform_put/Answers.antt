use Rattle.std.proofs.Common.{◌≡◌, ◌∙◌, Bool, true, false, Result, refl, ap, rules, arith, sym, true≢false}
use Rattle.std.specs.Prelude.{Err, Ok}
use Rattle.cache_base.specs.declared.status.Status.{Status}
use Rattle.cache_base.specs.declared.status.Status.TheVariants as status
use Rattle.cache_base.proofs.ByteLaws.{all_below}
use Rattle.cache_store.specs.Session.{session}
use Rattle.cache_replies.specs.declared.verdict.Verdict.{Verdict}
use Rattle.cache_store.specs.declared.fault.StoreFault.{StoreFault}
use Rattle.cache_store.specs.declared.fault.StoreFault.TheVariants as fault
use Rattle.cache_theory.specs.Command.Command.{Create, Close}
use Rattle.cache_theory.specs.History.{unanswered}
use Rattle.cache_tool.specs.HeldReply.{said_in}
use Rattle.cache_tool.specs.World.{supply}
use Rattle.disk_theory.specs.Account.{Accounts, Ending, no_sync, one_sync}
use Rattle.file_handles.proofs.Accounting.{accounts_sum, accounts_then}
use Rattle.cache_tool.proofs.Faulting.{is_false}
use Rattle.cache_tool.proofs.Handed.{handed_on, keeps_handed}
use Rattle.cache_tool.proofs.MarkLeft.{stays_mark, then_stays}
use Rattle.cache_tool.proofs.Puts.PutReplies.{sent_itself, sent_keeps}
use Rattle.cache_tool.proofs.RightLaws.{open_leaves_honest}
use Rattle.cache_tool.proofs.Puts.PutWhole.{appended_failed, appended_other, close_failed, close_went, create_failed, create_refused, created, nothing_went, other_outcome}
use Rattle.cache_tool.proofs.put.perform_put.Goals as goal

no_look : (o : Verdict) (now : Bool) → (now ≡ true → ◌≡◌ {A = Result Verdict StoreFault} (Ok o) (Err fault.Disk)) → now ≡ false
no_look o now failed = is_false now (λ e. absurd (let one = failed e in cc))

same_fault : (f g : StoreFault) → ◌≡◌ {A = Result Verdict StoreFault} (Err f) (Err g) → f ≡ g
same_fault f g is = cc

pub returns-in_err-piece-clause-performs : goal.returns-in_err-piece-clause-performs
returns-in_err-piece-clause-performs g c = λ told. record {
  each = λ some h stands.
      let failed = handed_on c.from_residual.result fault.Memory c.from_residual.ensures.1 in
      rw failed (nothing_went h c.args.key.now _ _ _ _ refl some stands);
  mark = stays_mark refl;
}

pub send-requires-clause-given : goal.send-requires-clause-given
send-requires-clause-given g c = (omega arith, all_below 256 c.args.key.now (λ i. omega (arith, c.type_inv.key i)))

pub returns-in_err-send-clause-performs : goal.returns-in_err-send-clause-performs
returns-in_err-send-clause-performs g c = λ told. record {
  each = λ some h stands.
      let failed = handed_on c.from_residual-in_err-send.result c.in_err-send.field-0.0 c.from_residual-in_err-send.ensures.1 in
      rw failed (create_failed h c.args.key.now _ _ _ _ _ refl some c.in_err-send.field-0.0 (λ e. c.in_err-send.ensures.keeps.no_sink (ap (λ f. Err f) e)) (sent_itself (Create 0 c.args.key.now) _ _ _ _ refl (c.in_err-send.ensures.sends told) h stands));
  mark = sent_keeps (Create 0 c.args.key.now) _ _ _ _ refl (c.in_err-send.ensures.sends told);
}

pub returns-in-Refused-clause-performs : goal.returns-in-Refused-clause-performs
returns-in-Refused-clause-performs g c = λ told. record {
  each = λ some h stands. create_refused h c.args.key.now _ _ _ _ _ refl some (sent_itself (Create 0 c.args.key.now) _ _ _ _ refl ((rw c.in-Refused.is at c.in_ok-send.ensures.sends) told) h stands);
  mark = sent_keeps (Create 0 c.args.key.now) _ _ _ _ refl (c.in_ok-send.ensures.sends told);
}

pub returns-in_err-appended-clause-performs : goal.returns-in_err-appended-clause-performs
returns-in_err-appended-clause-performs g c = λ told. record {
  each = λ some h stands.
      let made = created h c.args.key.now (session g.D.Disk c.args.store.now c.args.disk.now) (session g.D.Disk c.send.new.store c.send.new.disk) (said_in c.send.new.said)
      (sent_itself (Create 0 c.args.key.now) _ _ _ _ refl ((rw (other_outcome c.in_ok-send.field-0 c.in_default.not-Refused) at c.in_ok-send.ensures.sends) told) h stands) in
      let handed = handed_on c.from_residual-in_err-appended.result c.in_err-appended.field-0.0 c.from_residual-in_err-appended.ensures.1 in
      rw handed (appended_failed h c.args.key.now (supply g.S.Source c.args.source.now) (supply g.S.Source c.append_all.new.source) (session g.D.Disk c.args.store.now c.args.disk.now) (session g.D.Disk c.send.new.store c.send.new.disk) made c.in_err-appended.field-0.0
      (session g.D.Disk c.append_all.new.store c.append_all.new.disk) (said_in c.append_all.new.said) (λ e. c.in_err-appended.ensures.keeps.no_sink (ap (λ f. Err f) e))
      ((c.in_err-appended.ensures.appends told).each some (unanswered (Create 0 c.args.key.now) h) made.stands.keeps made.writes));
  mark = then_stays _ _ _ (sent_keeps (Create 0 c.args.key.now) _ _ _ _ refl (c.in_ok-send.ensures.sends told)) (c.in_err-appended.ensures.appends told).mark;
}

pub returns-in_err-appended-clause-unread : goal.returns-in_err-appended-clause-unread
returns-in_err-appended-clause-unread g c = λ bad. absurd (c.in_ok-send.ensures.bad_key bad (ap (λ o. Ok o) (other_outcome c.in_ok-send.field-0 c.in_default.not-Refused)))

pub returns-in_err-outcome-clause-performs : goal.returns-in_err-outcome-clause-performs
returns-in_err-outcome-clause-performs g c = λ told. record {
  each = λ some h stands.
      let made = created h c.args.key.now (session g.D.Disk c.args.store.now c.args.disk.now) (session g.D.Disk c.send.new.store c.send.new.disk) (said_in c.send.new.said)
      (sent_itself (Create 0 c.args.key.now) _ _ _ _ refl ((rw (other_outcome c.in_ok-send.field-0 c.in_default.not-Refused) at c.in_ok-send.ensures.sends) told) h stands) in
      let handed = handed_on c.from_residual-in_err-outcome.result c.in_err-outcome.field-0.0 c.from_residual-in_err-outcome.ensures.1 in
      let whole = rw c.in-Done.is at c.in_ok-appended.ensures.appends in
      rw handed (close_failed h c.args.key.now (supply g.S.Source c.args.source.now) (supply g.S.Source c.append_all.new.source) (session g.D.Disk c.args.store.now c.args.disk.now) (session g.D.Disk c.send.new.store c.send.new.disk) made
      (session g.D.Disk c.append_all.new.store c.append_all.new.disk) (said_in c.append_all.new.said)
      ((whole told).each some (unanswered (Create 0 c.args.key.now) h) made.stands.keeps made.writes)
      (session g.D.Disk c.send-in-Done.new.store c.send-in-Done.new.disk) (said_in c.send-in-Done.new.said)
      c.in_err-outcome.field-0.0 (λ e. c.in_err-outcome.ensures.keeps.no_sink (ap (λ f. Err f) e)) (c.in_err-outcome.ensures.sends told));
  mark = then_stays _ _ _ (sent_keeps (Create 0 c.args.key.now) _ _ _ _ refl (c.in_ok-send.ensures.sends told))
      (then_stays _ _ _ (c.in_ok-appended.ensures.appends told).mark (sent_keeps (Close 0) _ _ _ _ refl (c.in_err-outcome.ensures.sends told)));
}

pub returns-in_err-outcome-clause-unread : goal.returns-in_err-outcome-clause-unread
returns-in_err-outcome-clause-unread g c = λ bad. absurd (c.in_ok-send.ensures.bad_key bad (ap (λ o. Ok o) (other_outcome c.in_ok-send.field-0 c.in_default.not-Refused)))

pub returns-in-Done-clause-performs : goal.returns-in-Done-clause-performs
returns-in-Done-clause-performs g c = λ told. record {
  each = λ some h stands.
      let made = created h c.args.key.now (session g.D.Disk c.args.store.now c.args.disk.now) (session g.D.Disk c.send.new.store c.send.new.disk) (said_in c.send.new.said)
      (sent_itself (Create 0 c.args.key.now) _ _ _ _ refl ((rw (other_outcome c.in_ok-send.field-0 c.in_default.not-Refused) at c.in_ok-send.ensures.sends) told) h stands) in
      let whole = rw c.in-Done.is at c.in_ok-appended.ensures.appends in
      rw c.status_of.ensures (close_went h c.args.key.now (supply g.S.Source c.args.source.now) (supply g.S.Source c.append_all.new.source) (session g.D.Disk c.args.store.now c.args.disk.now) (session g.D.Disk c.send.new.store c.send.new.disk) made
      (session g.D.Disk c.append_all.new.store c.append_all.new.disk) (said_in c.append_all.new.said)
      ((whole told).each some (unanswered (Create 0 c.args.key.now) h) made.stands.keeps made.writes)
      (session g.D.Disk c.send-in-Done.new.store c.send-in-Done.new.disk) (said_in c.send-in-Done.new.said)
      c.in_ok-outcome.outcome (c.in_ok-outcome.ensures.sends told));
  mark = then_stays _ _ _ (sent_keeps (Create 0 c.args.key.now) _ _ _ _ refl (c.in_ok-send.ensures.sends told))
      (then_stays _ _ _ (c.in_ok-appended.ensures.appends told).mark (sent_keeps (Close 0) _ _ _ _ refl (c.in_ok-outcome.ensures.sends told)));
}

pub returns-in-Done-clause-unread : goal.returns-in-Done-clause-unread
returns-in-Done-clause-unread g c = λ bad. absurd (c.in_ok-send.ensures.bad_key bad (ap (λ o. Ok o) (other_outcome c.in_ok-send.field-0 c.in_default.not-Refused)))

pub returns : goal.returns
returns g c = record {
  performs = λ told. record {
    each = λ some h stands.
        let made = created h c.args.key.now (session g.D.Disk c.args.store.now c.args.disk.now) (session g.D.Disk c.send.new.store c.send.new.disk) (said_in c.send.new.said)
        (sent_itself (Create 0 c.args.key.now) _ _ _ _ refl ((rw (other_outcome c.in_ok-send.field-0 c.in_default.not-Refused) at c.in_ok-send.ensures.sends) told) h stands) in
        appended_other h c.args.key.now (supply g.S.Source c.args.source.now) (supply g.S.Source c.append_all.new.source) (session g.D.Disk c.args.store.now c.args.disk.now) (session g.D.Disk c.send.new.store c.send.new.disk) made c.in_ok-appended.appended
        (session g.D.Disk c.append_all.new.store c.append_all.new.disk) (said_in c.append_all.new.said) c.in_default-appended.not-Done
        ((c.in_ok-appended.ensures.appends told).each some (unanswered (Create 0 c.args.key.now) h) made.stands.keeps made.writes);
    mark = then_stays _ _ _ (sent_keeps (Create 0 c.args.key.now) _ _ _ _ refl (c.in_ok-send.ensures.sends told)) (c.in_ok-appended.ensures.appends told).mark;
  };
  only = search rules;
  read = search rules;
  taken = c.append_all.ensures.taken;
  unread = λ bad. absurd (c.in_ok-send.ensures.bad_key bad (ap (λ o. Ok o) (other_outcome c.in_ok-send.field-0 c.in_default.not-Refused)));
  done = λ is. absurd (c.in_default-appended.not-Done (let one : ◌≡◌ {A = Result Status StoreFault} (Ok c.in_ok-appended.appended) (Ok status.Done) = is in cc));
  refused = λ is. c.in_ok-appended.ensures.refused is;
  source = search rules;
  calm = search rules;
  keeps = record {
    stays = λ told none. c.in_ok-appended.ensures.keeps.stays told refl;
    honest = c.append_all.ensures.keeps.honest;
    no_sink = search rules;
    account =
        let made : Accounts g.D.Disk Ending.NoneFailed no_sync c.args.disk.now c.send.new.disk = c.in_ok-send.ensures.keeps.account in
        let appended : Accounts g.D.Disk Ending.NoneFailed no_sync c.send.new.disk c.append_all.new.disk = c.in_ok-appended.ensures.keeps.account in
        accounts_sum g.D.Disk Ending.NoneFailed one_sync c.args.disk.now c.send.new.disk c.append_all.new.disk (omega arith) made appended;
  };
  faulted = λ failed. absurd (true≢false (sym failed ∙ c.append_all.ensures.bare (no_look c.in_ok-send.field-0 c.send.new.store.faulting c.in_ok-send.ensures.faulted)));
  looked = λ disk. absurd (let one : ◌≡◌ {A = Result Status StoreFault} (Ok c.in_ok-appended.appended) (Err fault.Disk) = disk in cc);
  stays = λ disk. absurd (let one : ◌≡◌ {A = Result Status StoreFault} (Ok c.in_ok-appended.appended) (Err fault.Disk) = disk in cc);
  same_base = λ disk. absurd (let one : ◌≡◌ {A = Result Status StoreFault} (Ok c.in_ok-appended.appended) (Err fault.Disk) = disk in cc);
  unread_fault = λ disk. absurd (let one : ◌≡◌ {A = Result Status StoreFault} (Ok c.in_ok-appended.appended) (Err fault.Disk) = disk in cc);
  change = search rules;
}

pub returns-in_err-outcome-clause-keeps : goal.returns-in_err-outcome-clause-keeps
returns-in_err-outcome-clause-keeps g c =
    let made : Accounts g.D.Disk Ending.NoneFailed no_sync c.args.disk.now c.send.new.disk = c.in_ok-send.ensures.keeps.account in
    let appended : Accounts g.D.Disk Ending.NoneFailed no_sync c.send.new.disk c.append_all.new.disk = c.in_ok-appended.ensures.keeps.account in
    keeps_handed g.D.Disk one_sync c.from_residual-in_err-outcome.result c.in_err-outcome.field-0.0 c.send-in-Done.new.store c.args.disk.now c.append_all.new.disk c.send-in-Done.new.disk (omega arith)
    c.from_residual-in_err-outcome.ensures.1 (accounts_then g.D.Disk Ending.NoneFailed c.args.disk.now c.send.new.disk c.append_all.new.disk made appended) c.in_err-outcome.ensures.keeps

pub returns-in_err-appended-clause-keeps : goal.returns-in_err-appended-clause-keeps
returns-in_err-appended-clause-keeps g c =
    let made : Accounts g.D.Disk Ending.NoneFailed no_sync c.args.disk.now c.send.new.disk = c.in_ok-send.ensures.keeps.account in
    keeps_handed g.D.Disk one_sync c.from_residual-in_err-appended.result c.in_err-appended.field-0.0 c.append_all.new.store c.args.disk.now c.send.new.disk c.append_all.new.disk (omega arith)
    c.from_residual-in_err-appended.ensures.1 made c.in_err-appended.ensures.keeps

pub returns-in_err-piece-clause-keeps : goal.returns-in_err-piece-clause-keeps
returns-in_err-piece-clause-keeps g c = record {
  stays = search rules;
  honest = λ told. open_leaves_honest (session g.D.Disk c.args.store.now c.args.disk.now) (c.requires.told told);
  no_sink = search rules;
  account = search rules;
}

-- a look fails in the first command alone: the others make none

pub returns-in_err-send-clause-stays : goal.returns-in_err-send-clause-stays
returns-in_err-send-clause-stays g c = λ disk failed. c.send.ensures.stays failed

pub returns-in_err-send-clause-looked : goal.returns-in_err-send-clause-looked
returns-in_err-send-clause-looked g c = λ disk failed. c.send.ensures.looked failed

pub returns-in_err-appended-clause-looked : goal.returns-in_err-appended-clause-looked
returns-in_err-appended-clause-looked g c = λ disk failed. absurd (true≢false (sym failed ∙ c.append_all.ensures.bare (no_look c.in_ok-send.field-0 c.send.new.store.faulting c.in_ok-send.ensures.faulted)))

pub returns-in_err-appended-clause-stays : goal.returns-in_err-appended-clause-stays
returns-in_err-appended-clause-stays g c = λ disk failed. absurd (true≢false (sym failed ∙ c.append_all.ensures.bare (no_look c.in_ok-send.field-0 c.send.new.store.faulting c.in_ok-send.ensures.faulted)))

pub returns-in_err-outcome-clause-looked : goal.returns-in_err-outcome-clause-looked
returns-in_err-outcome-clause-looked g c = λ disk failed. absurd (true≢false (sym failed ∙ c.send-in-Done.ensures.bare tt))

pub returns-in_err-outcome-clause-stays : goal.returns-in_err-outcome-clause-stays
returns-in_err-outcome-clause-stays g c = λ disk failed. absurd (true≢false (sym failed ∙ c.send-in-Done.ensures.bare tt))

pub returns-in_err-send-clause-same_base : goal.returns-in_err-send-clause-same_base
returns-in_err-send-clause-same_base g c = λ disk failed. c.send.ensures.same_base failed

pub returns-in_err-appended-clause-same_base : goal.returns-in_err-appended-clause-same_base
returns-in_err-appended-clause-same_base g c = λ disk failed. absurd (true≢false (sym failed ∙ c.append_all.ensures.bare (no_look c.in_ok-send.field-0 c.send.new.store.faulting c.in_ok-send.ensures.faulted)))

pub returns-in_err-outcome-clause-same_base : goal.returns-in_err-outcome-clause-same_base
returns-in_err-outcome-clause-same_base g c = λ disk failed. absurd (true≢false (sym failed ∙ c.send-in-Done.ensures.bare tt))

pub returns-in_err-appended-clause-unread_fault : goal.returns-in_err-appended-clause-unread_fault
returns-in_err-appended-clause-unread_fault g c = λ disk failed. absurd (true≢false (sym failed ∙ c.append_all.ensures.bare (no_look c.in_ok-send.field-0 c.send.new.store.faulting c.in_ok-send.ensures.faulted)))

pub returns-in_err-outcome-clause-unread_fault : goal.returns-in_err-outcome-clause-unread_fault
returns-in_err-outcome-clause-unread_fault g c = λ disk failed. absurd (true≢false (sym failed ∙ c.send-in-Done.ensures.bare tt))

-- the last call failed, where no look did

pub returns-in_err-send-clause-change : goal.returns-in_err-send-clause-change
returns-in_err-send-clause-change g c = λ calm.
    rw (handed_on c.from_residual-in_err-send.result c.in_err-send.field-0.0 c.from_residual-in_err-send.ensures.1) (c.in_err-send.ensures.change calm (λ r. refl) (λ e. cc))

pub returns-in_err-appended-clause-change : goal.returns-in_err-appended-clause-change
returns-in_err-appended-clause-change g c = λ calm.
    rw (handed_on c.from_residual-in_err-appended.result c.in_err-appended.field-0.0 c.from_residual-in_err-appended.ensures.1)
    (c.in_err-appended.ensures.change (no_look c.in_ok-send.field-0 c.send.new.store.faulting c.in_ok-send.ensures.faulted))

pub returns-in_err-outcome-clause-change : goal.returns-in_err-outcome-clause-change
returns-in_err-outcome-clause-change g c = λ calm.
    rw (handed_on c.from_residual-in_err-outcome.result c.in_err-outcome.field-0.0 c.from_residual-in_err-outcome.ensures.1) (c.in_err-outcome.ensures.change (c.send-in-Done.ensures.bare tt) (λ r. refl) (λ e. cc))

-- and a look fails in the first command alone

pub returns-in_err-send-clause-faulted : goal.returns-in_err-send-clause-faulted
returns-in_err-send-clause-faulted g c = λ failed.
    handed_on c.from_residual-in_err-send.result c.in_err-send.field-0.0 c.from_residual-in_err-send.ensures.1
    ∙ ap (λ f. Err f) (same_fault c.in_err-send.field-0.0 fault.Disk (c.in_err-send.ensures.faulted failed))

pub returns-in_err-appended-clause-faulted : goal.returns-in_err-appended-clause-faulted
returns-in_err-appended-clause-faulted g c = λ failed. absurd (true≢false (sym failed ∙ c.append_all.ensures.bare (no_look c.in_ok-send.field-0 c.send.new.store.faulting c.in_ok-send.ensures.faulted)))

pub returns-in_err-outcome-clause-faulted : goal.returns-in_err-outcome-clause-faulted
returns-in_err-outcome-clause-faulted g c = λ failed. absurd (true≢false (sym failed ∙ c.send-in-Done.ensures.bare tt))

pub returns-in-Done-clause-faulted : goal.returns-in-Done-clause-faulted
returns-in-Done-clause-faulted g c = λ failed. absurd (true≢false (sym failed ∙ c.send-in-Done.ensures.bare tt))

pub returns-in-Refused-clause-faulted : goal.returns-in-Refused-clause-faulted
returns-in-Refused-clause-faulted g c = λ failed. absurd (let one = c.in_ok-send.ensures.faulted failed in cc)

pub returns-in_err-piece-clause-faulted : goal.returns-in_err-piece-clause-faulted
returns-in_err-piece-clause-faulted g c = λ failed. absurd (true≢false (sym failed ∙ c.requires.calm))
