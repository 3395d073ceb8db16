use Rattle.std.proofs.Common.{arith, refl, rules}
use Rattle.cache_base.proofs.ByteLaws.{all_below}
use Rattle.cache_store.specs.Session.{session}
use Rattle.cache_store.specs.declared.fault.StoreFault.TheVariants as fault
use Rattle.cache_theory.specs.Command.Command.{Append}
use Rattle.cache_tool.proofs.Handed.{handed_on, handed_open}
use Rattle.cache_tool.proofs.MarkLeft.{stays_mark}
use Rattle.cache_tool.proofs.RightLaws.{open_leaves_honest}
use Rattle.cache_tool.proofs.Puts.PutReplies.{empty_went, is_empty_of, not_empty_of, over_went, piece_went, sent_itself, unsaid_went, sent_keeps}
use Rattle.cache_tool.proofs.put.append_piece.Goals as goal

pub returns-then-is_empty-clause-appends : goal.returns-then-is_empty-clause-appends
returns-then-is_empty-clause-appends g c =
    let empty = is_empty_of c.args.piece.now c.is_empty.result c.is_empty.ensures c.if-is_empty.true in
    λ told. record { each = λ h body stands writes room. empty_went h body c.args.piece.now _ _ empty stands writes; mark = stays_mark refl }

pub send-requires-clause-given : goal.send-requires-clause-given
send-requires-clause-given g c = (omega arith, all_below 256 c.args.piece.now (λ i. omega (arith, c.type_inv.piece i)))

pub returns-in_err-outcome-clause-appends : goal.returns-in_err-outcome-clause-appends
returns-in_err-outcome-clause-appends g c =
    let some = not_empty_of c.args.piece.now c.is_empty.result c.is_empty.ensures c.if-is_empty.false in
    let failed = handed_on c.from_residual.result c.in_err-outcome.field-0.0 c.from_residual.ensures.1 in
    λ told. rw failed (record {
      each = λ h body stands writes room. piece_went h body c.args.piece.now _ _ _ _ some writes (sent_itself (Append 0 c.args.piece.now) _ _ _ _ refl (c.in_err-outcome.ensures.sends told) h stands);
      mark = sent_keeps (Append 0 c.args.piece.now) _ _ _ _ refl (c.in_err-outcome.ensures.sends told);
    })

pub returns-in_err-say_too_large-clause-appends : goal.returns-in_err-say_too_large-clause-appends
returns-in_err-say_too_large-clause-appends g c =
    let some = not_empty_of c.args.piece.now c.is_empty.result c.is_empty.ensures c.if-is_empty.false in
    let failed = handed_on c.from_residual-in_err-say_too_large.result fault.Memory c.from_residual-in_err-say_too_large.ensures.1 in
    λ told. rw failed (record {
      each = λ h body stands writes room. unsaid_went h body c.args.piece.now _ _ _ _ _ _ some writes (sent_itself (Append 0 c.args.piece.now) _ _ _ _ refl (c.in_ok-outcome.ensures.sends told) h stands);
      mark = sent_keeps (Append 0 c.args.piece.now) _ _ _ _ refl (c.in_ok-outcome.ensures.sends told);
    })

pub returns-then-piece-room-clause-appends : goal.returns-then-piece-room-clause-appends
returns-then-piece-room-clause-appends g c =
    let some = not_empty_of c.args.piece.now c.is_empty.result c.is_empty.ensures c.if-is_empty.false in
    λ told. record {
      each = λ h body stands writes room. over_went h body c.args.piece.now c.args.room _ _ _ _ _ some c.if-piece-room.true room writes c.in_ok-say_too_large.ensures (sent_itself (Append 0 c.args.piece.now) _ _ _ _ refl (c.in_ok-outcome.ensures.sends told) h stands);
      mark = sent_keeps (Append 0 c.args.piece.now) _ _ _ _ refl (c.in_ok-outcome.ensures.sends told);
    }

pub returns-clause-appends : goal.returns-clause-appends
returns-clause-appends g c =
    let some = not_empty_of c.args.piece.now c.is_empty.result c.is_empty.ensures c.if-is_empty.false in
    λ told. record {
      each = λ h body stands writes room. piece_went h body c.args.piece.now _ _ _ _ some writes (sent_itself (Append 0 c.args.piece.now) _ _ _ _ refl (c.in_ok-outcome.ensures.sends told) h stands);
      mark = sent_keeps (Append 0 c.args.piece.now) _ _ _ _ refl (c.in_ok-outcome.ensures.sends told);
    }

pub returns-in_err-outcome-clause-keeps : goal.returns-in_err-outcome-clause-keeps
returns-in_err-outcome-clause-keeps g c = record {
  stays = λ told. handed_open c.from_residual.result c.in_err-outcome.field-0.0 (session g.D.Disk c.send.new.store c.send.new.disk) c.from_residual.ensures.1 (c.in_err-outcome.ensures.keeps.stays told);
  honest = search rules;
  no_sink = search rules;
  account = search rules;
}

pub returns-then-is_empty-clause-keeps : goal.returns-then-is_empty-clause-keeps
returns-then-is_empty-clause-keeps g c = record {
  stays = search rules;
  honest = λ told. open_leaves_honest (session g.D.Disk c.args.store.now c.args.disk.now) (c.requires.told told);
  no_sink = search rules;
  account = search rules;
}

pub returns-in_err-outcome-clause-change : goal.returns-in_err-outcome-clause-change
returns-in_err-outcome-clause-change g c = λ calm.
    rw (handed_on c.from_residual.result c.in_err-outcome.field-0.0 c.from_residual.ensures.1) (c.in_err-outcome.ensures.change (c.send.ensures.bare tt) (λ r. refl) (λ e. cc))
