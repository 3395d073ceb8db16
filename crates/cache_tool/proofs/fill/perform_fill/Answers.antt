use Rattle.std.proofs.Common.{◌+◌, ◌∙◌, ◌++◌, ap, arith, refl, rules}
use Rattle.cache_store.specs.Syncs.{writing_syncs}
use Rattle.std.specs.Prelude.{codes}
use Rattle.cache_store.specs.Session.{session}
use Rattle.cache_theory.specs.Command.Command.{ListRecords, Verify}
use Rattle.cache_theory.specs.Text.{with_number}
use Rattle.cache_tool.specs.FirstLine.{first_line}
use Rattle.cache_tool.specs.HeldReply.{said_in}
use Rattle.cache_tool.proofs.Fills.FillWhole.{checked_fails, checked_keeps, evicted_fails, fill_performed, listed_fails, nothing_fails, unevicted_fails}
use Rattle.cache_tool.proofs.Handed.{handed_account, keeps_handed}
use Rattle.cache_tool.proofs.MarkLeft.{others_keep, stays_mark, then_stays}
use Rattle.cache_tool.proofs.RightLaws.{open_leaves_honest}
use Rattle.disk_theory.specs.Account.{Ending}
use Rattle.file_handles.proofs.Accounting.{accounts_sum}
use Rattle.cache_tool.proofs.fill.perform_fill.Goals as goal

pub returns-in_err-say_made-clause-performs : goal.returns-in_err-say_made-clause-performs
returns-in_err-say_made-clause-performs g c = λ told. record {
  each = λ h keeps.
      nothing_fails c.args.now c.args.count c.args.first h (session g.D.Disk c.args.store.now c.args.disk.now) c.from_residual.result _ (session g.D.Disk c.args.store.now c.args.disk.now) _
      c.from_residual.ensures.1 keeps.stands.crash_kept.safe;
  mark = stays_mark refl;
}

pub returns-in_err-make_all-clause-performs : goal.returns-in_err-make_all-clause-performs
returns-in_err-make_all-clause-performs g c = λ told. record {
  each = λ h keeps.
      unevicted_fails c.args.now c.args.count c.args.first h (session g.D.Disk c.args.store.now c.args.disk.now) c.from_residual-in_err-make_all.result _ (session g.D.Disk c.make_all.new.store c.make_all.new.disk) _
      c.from_residual-in_err-make_all.ensures.1 ((c.in_err-make_all.ensures.runs told).each h keeps).safe;
  mark = (c.in_err-make_all.ensures.runs told).mark;
}

pub returns-in_err-evict_half-clause-performs : goal.returns-in_err-evict_half-clause-performs
returns-in_err-evict_half-clause-performs g c = λ told. record {
  each = λ h keeps.
      let made = (c.in_ok-make_all.ensures.runs told).each h keeps in
      evicted_fails c.args.now c.args.count c.args.first h (session g.D.Disk c.args.store.now c.args.disk.now) (session g.D.Disk c.make_all.new.store c.make_all.new.disk) made.stands
      _ (session g.D.Disk c.evict_half.new.store c.evict_half.new.disk) (said_in c.evict_half.new.said) ((c.in_err-evict_half.ensures.evicts told).each _ made.stands.keeps)
      c.from_residual-in_err-evict_half.result _ _ c.from_residual-in_err-evict_half.ensures.1;
  mark = then_stays _ _ _ (c.in_ok-make_all.ensures.runs told).mark ((c.in_err-evict_half.ensures.evicts told).mark);
}

pub returns-in_err-keep_line-clause-performs : goal.returns-in_err-keep_line-clause-performs
returns-in_err-keep_line-clause-performs g c = λ told. record {
  each = λ h keeps.
      let made = (c.in_ok-make_all.ensures.runs told).each h keeps in
      evicted_fails c.args.now c.args.count c.args.first h (session g.D.Disk c.args.store.now c.args.disk.now) (session g.D.Disk c.make_all.new.store c.make_all.new.disk) made.stands
      _ (session g.D.Disk c.evict_half.new.store c.evict_half.new.disk) (said_in c.evict_half.new.said) ((c.in_ok-evict_half.ensures.evicts told).each _ made.stands.keeps)
      c.from_residual-in_err-keep_line.result _ _ c.from_residual-in_err-keep_line.ensures.1;
  mark = then_stays _ _ _ (c.in_ok-make_all.ensures.runs told).mark ((c.in_ok-evict_half.ensures.evicts told).mark);
}

pub returns-in_err-checked-clause-performs : goal.returns-in_err-checked-clause-performs
returns-in_err-checked-clause-performs g c = λ told. record {
  each = λ h keeps.
      let made = (c.in_ok-make_all.ensures.runs told).each h keeps in
      let half = (c.in_ok-evict_half.ensures.evicts told).each _ made.stands.keeps in
      checked_fails c.args.now c.args.count c.args.first h (session g.D.Disk c.args.store.now c.args.disk.now) (session g.D.Disk c.make_all.new.store c.make_all.new.disk) made.stands
      _ (session g.D.Disk c.evict_half.new.store c.evict_half.new.disk) (said_in c.evict_half.new.said) half
      _ (session g.D.Disk c.send.new.store c.send.new.disk) (said_in c.send.new.said) ((c.in_err-checked.ensures.sends told).each _ half.stands.keeps)
      c.from_residual-in_err-checked.result _ _ c.from_residual-in_err-checked.ensures.1;
  mark = then_stays _ _ _ (c.in_ok-make_all.ensures.runs told).mark (then_stays _ _ _ (c.in_ok-evict_half.ensures.evicts told).mark (others_keep Verify _ _ (λ stood file never. never) (c.in_err-checked.ensures.sends told).mark));
}

pub returns-in_err-keep_line-2-clause-performs : goal.returns-in_err-keep_line-2-clause-performs
returns-in_err-keep_line-2-clause-performs g c = λ told. record {
  each = λ h keeps.
      let made = (c.in_ok-make_all.ensures.runs told).each h keeps in
      let half = (c.in_ok-evict_half.ensures.evicts told).each _ made.stands.keeps in
      checked_fails c.args.now c.args.count c.args.first h (session g.D.Disk c.args.store.now c.args.disk.now) (session g.D.Disk c.make_all.new.store c.make_all.new.disk) made.stands
      _ (session g.D.Disk c.evict_half.new.store c.evict_half.new.disk) (said_in c.evict_half.new.said) half
      _ (session g.D.Disk c.send.new.store c.send.new.disk) (said_in c.send.new.said) ((c.in_ok-checked.ensures.sends told).each _ half.stands.keeps)
      c.from_residual-in_err-keep_line-2.result _ _ c.from_residual-in_err-keep_line-2.ensures.1;
  mark = then_stays _ _ _ (c.in_ok-make_all.ensures.runs told).mark (then_stays _ _ _ (c.in_ok-evict_half.ensures.evicts told).mark (others_keep Verify _ _ (λ stood file never. never) (c.in_ok-checked.ensures.sends told).mark));
}

pub returns-in_err-send-clause-performs : goal.returns-in_err-send-clause-performs
returns-in_err-send-clause-performs g c = λ told. record {
  each = λ h keeps.
      let made = (c.in_ok-make_all.ensures.runs told).each h keeps in
      let half = (c.in_ok-evict_half.ensures.evicts told).each _ made.stands.keeps in
      let check = (c.in_ok-checked.ensures.sends told).each _ half.stands.keeps in
      let s0 = session g.D.Disk c.args.store.now c.args.disk.now in
      let s1 = session g.D.Disk c.make_all.new.store c.make_all.new.disk in
      let s2 = session g.D.Disk c.evict_half.new.store c.evict_half.new.disk in
      let s3 = session g.D.Disk c.send.new.store c.send.new.disk in
      let kept = checked_keeps c.args.now c.args.count c.args.first h s0 s1 made.stands _ s2 (said_in c.evict_half.new.said) half c.in_ok-checked.checked s3 (said_in c.send.new.said) check in
      listed_fails c.args.now c.args.count c.args.first h s0 s1 made.stands _ s2 (said_in c.evict_half.new.said) half c.in_ok-checked.checked s3 (said_in c.send.new.said) check
      _ (session g.D.Disk c.send-2.new.store c.send-2.new.disk) (said_in c.send-2.new.said) ((c.in_err-send.ensures.sends told).each _ kept)
      c.from_residual-in_err-send.result _ _ c.from_residual-in_err-send.ensures.1;
  mark = then_stays _ _ _ (c.in_ok-make_all.ensures.runs told).mark (then_stays _ _ _ (c.in_ok-evict_half.ensures.evicts told).mark (then_stays _ _ _ (others_keep Verify _ _ (λ stood file never. never) (c.in_ok-checked.ensures.sends told).mark) (others_keep ListRecords _ _ (λ stood file never. never) (c.in_err-send.ensures.sends told).mark)));
}

pub returns-in_err-keep_line-3-clause-performs : goal.returns-in_err-keep_line-3-clause-performs
returns-in_err-keep_line-3-clause-performs g c = λ told. record {
  each = λ h keeps.
      let made = (c.in_ok-make_all.ensures.runs told).each h keeps in
      let half = (c.in_ok-evict_half.ensures.evicts told).each _ made.stands.keeps in
      let check = (c.in_ok-checked.ensures.sends told).each _ half.stands.keeps in
      let s0 = session g.D.Disk c.args.store.now c.args.disk.now in
      let s1 = session g.D.Disk c.make_all.new.store c.make_all.new.disk in
      let s2 = session g.D.Disk c.evict_half.new.store c.evict_half.new.disk in
      let s3 = session g.D.Disk c.send.new.store c.send.new.disk in
      let kept = checked_keeps c.args.now c.args.count c.args.first h s0 s1 made.stands _ s2 (said_in c.evict_half.new.said) half c.in_ok-checked.checked s3 (said_in c.send.new.said) check in
      listed_fails c.args.now c.args.count c.args.first h s0 s1 made.stands _ s2 (said_in c.evict_half.new.said) half c.in_ok-checked.checked s3 (said_in c.send.new.said) check
      _ (session g.D.Disk c.send-2.new.store c.send-2.new.disk) (said_in c.send-2.new.said) ((c.in_ok-send.ensures.sends told).each _ kept)
      c.from_residual-in_err-keep_line-3.result _ _ c.from_residual-in_err-keep_line-3.ensures.1;
  mark = then_stays _ _ _ (c.in_ok-make_all.ensures.runs told).mark (then_stays _ _ _ (c.in_ok-evict_half.ensures.evicts told).mark (then_stays _ _ _ (others_keep Verify _ _ (λ stood file never. never) (c.in_ok-checked.ensures.sends told).mark) (others_keep ListRecords _ _ (λ stood file never. never) (c.in_ok-send.ensures.sends told).mark)));
}

pub returns-clause-performs : goal.returns-clause-performs
returns-clause-performs g c = λ told. record {
  each = λ h keeps.
      let made = (c.in_ok-make_all.ensures.runs told).each h keeps in
      let half = (c.in_ok-evict_half.ensures.evicts told).each _ made.stands.keeps in
      let check = (c.in_ok-checked.ensures.sends told).each _ half.stands.keeps in
      let s0 = session g.D.Disk c.args.store.now c.args.disk.now in
      let s1 = session g.D.Disk c.make_all.new.store c.make_all.new.disk in
      let s2 = session g.D.Disk c.evict_half.new.store c.evict_half.new.disk in
      let s3 = session g.D.Disk c.send.new.store c.send.new.disk in
      let kept = checked_keeps c.args.now c.args.count c.args.first h s0 s1 made.stands _ s2 (said_in c.evict_half.new.said) half c.in_ok-checked.checked s3 (said_in c.send.new.said) check in
      fill_performed c.args.now c.args.count c.args.first h s0 s1 made.stands _ s2 (said_in c.evict_half.new.said) half c.in_ok-checked.checked s3 (said_in c.send.new.said) check
      _ (session g.D.Disk c.send-2.new.store c.send-2.new.disk) (said_in c.send-2.new.said) ((c.in_ok-send.ensures.sends told).each _ kept)
      c.status_of.result c.keep_line-3.new.lines c.status_of.ensures
      (c.in_ok-keep_line-3.ensures ∙ ap (λ l. l ++ first_line (said_in c.send-2.new.said)) (c.in_ok-keep_line-2.ensures ∙ ap (λ l. l ++ first_line (said_in c.send.new.said))
      (c.in_ok-keep_line.ensures ∙ ap (λ l. l ++ first_line (said_in c.evict_half.new.said)) (c.in_ok-say_made.ensures ∙ ap (λ l. l ++ with_number (codes "made") c.args.count) c.requires.empty))));
  mark = then_stays _ _ _ (c.in_ok-make_all.ensures.runs told).mark (then_stays _ _ _ (c.in_ok-evict_half.ensures.evicts told).mark (then_stays _ _ _ (others_keep Verify _ _ (λ stood file never. never) (c.in_ok-checked.ensures.sends told).mark) (others_keep ListRecords _ _ (λ stood file never. never) (c.in_ok-send.ensures.sends told).mark)));
}

pub returns-in_err-say_made-clause-keeps : goal.returns-in_err-say_made-clause-keeps
returns-in_err-say_made-clause-keeps g c = record {
  stays = search rules;
  honest = λ told. open_leaves_honest (session g.D.Disk c.args.store.now c.args.disk.now) (c.requires.told told);
  no_sink = search rules;
  account = search rules;
}

-- the faults are accounted for

pub returns-in_err-checked-clause-keeps : goal.returns-in_err-checked-clause-keeps
returns-in_err-checked-clause-keeps g c = record {
  stays = search rules;
  honest = search rules;
  no_sink = search rules;
  account = let all = c.args.count + writing_syncs in
      let halved = accounts_sum g.D.Disk Ending.NoneFailed all c.args.disk.now c.make_all.new.disk c.evict_half.new.disk (omega arith) c.in_ok-make_all.ensures.keeps.account c.in_ok-evict_half.ensures.keeps.account in
      handed_account g.D.Disk all c.from_residual-in_err-checked.result c.in_err-checked.field-0.0 c.args.disk.now c.evict_half.new.disk c.send.new.disk (omega arith) c.from_residual-in_err-checked.ensures.1 halved c.in_err-checked.ensures.keeps.account;
}

pub returns-in_err-send-clause-keeps : goal.returns-in_err-send-clause-keeps
returns-in_err-send-clause-keeps g c = record {
  stays = search rules;
  honest = search rules;
  no_sink = search rules;
  account = let all = c.args.count + writing_syncs in
      let halved = accounts_sum g.D.Disk Ending.NoneFailed all c.args.disk.now c.make_all.new.disk c.evict_half.new.disk (omega arith) c.in_ok-make_all.ensures.keeps.account c.in_ok-evict_half.ensures.keeps.account in
      let checked = accounts_sum g.D.Disk Ending.NoneFailed all c.args.disk.now c.evict_half.new.disk c.send.new.disk (omega arith) halved c.in_ok-checked.ensures.keeps.account in
      handed_account g.D.Disk all c.from_residual-in_err-send.result c.in_err-send.field-0.0 c.args.disk.now c.send.new.disk c.send-2.new.disk (omega arith) c.from_residual-in_err-send.ensures.1 checked c.in_err-send.ensures.keeps.account;
}

pub returns-in_err-keep_line-3-clause-keeps : goal.returns-in_err-keep_line-3-clause-keeps
returns-in_err-keep_line-3-clause-keeps g c = record {
  stays = search rules;
  honest = search rules;
  no_sink = search rules;
  account = record {
    cause = search rules;
    went_on = search rules;
    stops = search rules;
    last = search rules;
    syncs = λ told.
        let made = c.in_ok-make_all.ensures.keeps.account.syncs told in
        let halved = c.in_ok-evict_half.ensures.keeps.account.syncs told in
        let checked = c.in_ok-checked.ensures.keeps.account.syncs told in
        let listed = c.in_ok-send.ensures.keeps.account.syncs told in
        omega (arith, made, halved, checked, listed);
  };
}

pub returns-in_err-evict_half-clause-keeps : goal.returns-in_err-evict_half-clause-keeps
returns-in_err-evict_half-clause-keeps g c =
    keeps_handed g.D.Disk (c.args.count + writing_syncs) c.from_residual-in_err-evict_half.result c.in_err-evict_half.field-0.0 c.evict_half.new.store c.args.disk.now c.make_all.new.disk c.evict_half.new.disk (omega arith)
    c.from_residual-in_err-evict_half.ensures.1 c.in_ok-make_all.ensures.keeps.account c.in_err-evict_half.ensures.keeps
