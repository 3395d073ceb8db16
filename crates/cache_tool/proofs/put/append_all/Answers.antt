use Rattle.std.proofs.Common.{◌≡◌, length, take, refl, ap, rules, arith, ◌-◌}
use Rattle.std.specs.Bool.{IsTrue}
use Rattle.std.specs.Prelude.{Err, Ok}
use Rattle.cache_base.specs.declared.limits.TheConstants.{PIECE_MAX}
use Rattle.cache_store.specs.Session.{session}
use Rattle.cache_tool.specs.HeldReply.{said_in}
use Rattle.cache_tool.specs.World.{supply}
use Rattle.cache_tool.proofs.Handed.{handed_on, handed_open}
use Rattle.cache_tool.proofs.MarkLeft.{then_stays}
use Rattle.cache_tool.proofs.Puts.PutBody.{filled_ahead, filled_fits, filled_full, filled_length, last_broken, last_ended, last_failed, last_refused, no_is_refused, so_far_more, so_far_none, takes_at_most}
use Rattle.cache_tool.proofs.put.append_all.Goals as goal

pub pieces-init : goal.pieces-init
pieces-init g c = record {
  so_far = so_far_none (IsTrue g.D.Disk.tells) (g.S.Source.left c.args.source.now) (session g.D.Disk c.args.store.now c.args.disk.now);
  is_open = search rules;
  long = search rules;
  calm = search rules;
  sound = record { faults = refl; no_change = λ told. refl; syncs = λ told. omega arith };
  bare = λ calm. calm;
}

pub returns-in_err-outcome-clause-appends : goal.returns-in_err-outcome-clause-appends
returns-in_err-outcome-clause-appends g c = λ told. record {
  each = λ some h stands writes.
      let size : length c.fill-filled.new.piece ≡ PIECE_MAX = omega (arith, c.fill-filled.auto.piece, c.pieces.invariant.long) in
      let filled = c.fill-filled.ensures in
      let so = c.pieces.invariant.so_far in
      let fits = filled_fits c.fill-filled.result.count c.fill-filled.new.piece filled.within size in
      let next = filled_ahead so (g.S.Source.left c.fill-filled.new.source) (g.S.Source.faults c.args.source.now) (g.S.Source.faults c.pieces.source)
      (g.S.Source.faults c.fill-filled.new.source) c.fill-filled.result.ended c.fill-filled.result.count c.fill-filled.new.piece filled.within size
      some filled.bytes filled.full filled.end c.pieces.invariant.calm filled.cause in
      let failed = handed_on c.from_residual.result c.in_err-outcome.field-0.0 c.from_residual.ensures.1 in
      rw failed (last_failed (supply g.S.Source c.args.source.now) (supply g.S.Source c.fill-filled.new.source) so next fits told (c.in_err-outcome.ensures.appends told) h stands writes c.in_err-outcome.field-0.0 (refl {a = Err c.in_err-outcome.field-0.0}));
  mark = then_stays _ _ _ (c.pieces.invariant.so_far.mark told) (c.in_err-outcome.ensures.appends told).mark;
}

pub returns-in-Failed-clause-appends : goal.returns-in-Failed-clause-appends
returns-in-Failed-clause-appends g c = λ told. record {
  each = λ some h stands writes.
      let size : length c.fill-filled.new.piece ≡ PIECE_MAX = omega (arith, c.fill-filled.auto.piece, c.pieces.invariant.long) in
      let filled = c.fill-filled.ensures in
      let so = c.pieces.invariant.so_far in
      let fits = filled_fits c.fill-filled.result.count c.fill-filled.new.piece filled.within size in
      let next = filled_ahead so (g.S.Source.left c.fill-filled.new.source) (g.S.Source.faults c.args.source.now) (g.S.Source.faults c.pieces.source)
      (g.S.Source.faults c.fill-filled.new.source) c.fill-filled.result.ended c.fill-filled.result.count c.fill-filled.new.piece filled.within size
      some filled.bytes filled.full filled.end c.pieces.invariant.calm filled.cause in
      last_broken (supply g.S.Source c.args.source.now) (supply g.S.Source c.fill-filled.new.source) so next fits told (c.in_ok-outcome.ensures.appends told) h stands writes c.in_ok-outcome.outcome (refl {a = Ok c.in_ok-outcome.outcome}) c.in-Failed.is;
  mark = then_stays _ _ _ (c.pieces.invariant.so_far.mark told) (c.in_ok-outcome.ensures.appends told).mark;
}

pub returns-in-End-clause-appends : goal.returns-in-End-clause-appends
returns-in-End-clause-appends g c = λ told. record {
  each = λ some h stands writes.
      let size : length c.fill-filled.new.piece ≡ PIECE_MAX = omega (arith, c.fill-filled.auto.piece, c.pieces.invariant.long) in
      let filled = c.fill-filled.ensures in
      let so = c.pieces.invariant.so_far in
      let fits = filled_fits c.fill-filled.result.count c.fill-filled.new.piece filled.within size in
      let next = filled_ahead so (g.S.Source.left c.fill-filled.new.source) (g.S.Source.faults c.args.source.now) (g.S.Source.faults c.pieces.source)
      (g.S.Source.faults c.fill-filled.new.source) c.fill-filled.result.ended c.fill-filled.result.count c.fill-filled.new.piece filled.within size
      some filled.bytes filled.full filled.end c.pieces.invariant.calm filled.cause in
      rw c.status_of.ensures (last_ended (supply g.S.Source c.args.source.now) (supply g.S.Source c.fill-filled.new.source) so next fits told (c.in_ok-outcome.ensures.appends told) h stands writes c.in_ok-outcome.outcome (refl {a = Ok c.in_ok-outcome.outcome}) c.in-End.is);
  mark = then_stays _ _ _ (c.pieces.invariant.so_far.mark told) (c.in_ok-outcome.ensures.appends told).mark;
}

pub returns-in-Refused-clause-appends : goal.returns-in-Refused-clause-appends
returns-in-Refused-clause-appends g c = λ told. record {
  each = λ some h stands writes.
      let size : length c.fill-filled.new.piece ≡ PIECE_MAX = omega (arith, c.fill-filled.auto.piece, c.pieces.invariant.long) in
      let filled = c.fill-filled.ensures in
      let so = c.pieces.invariant.so_far in
      let fits = filled_fits c.fill-filled.result.count c.fill-filled.new.piece filled.within size in
      let next = filled_ahead so (g.S.Source.left c.fill-filled.new.source) (g.S.Source.faults c.args.source.now) (g.S.Source.faults c.pieces.source)
      (g.S.Source.faults c.fill-filled.new.source) c.fill-filled.result.ended c.fill-filled.result.count c.fill-filled.new.piece filled.within size
      some filled.bytes filled.full filled.end c.pieces.invariant.calm filled.cause in
      last_refused (supply g.S.Source c.args.source.now) (supply g.S.Source c.fill-filled.new.source) so next fits told (c.in_ok-outcome.ensures.appends told) h stands writes (ap (λ o. Ok o) c.in-Refused.is) c.in-Full.is;
  mark = then_stays _ _ _ (c.pieces.invariant.so_far.mark told) (c.in_ok-outcome.ensures.appends told).mark;
}

pub pieces-preserved : goal.pieces-preserved
pieces-preserved g c =
    let size : length c.fill-filled.new.piece ≡ PIECE_MAX = omega (arith, c.fill-filled.auto.piece, c.pieces.invariant.long) in
    let count = c.fill-filled.result.count in
    let bytes = c.fill-filled.new.piece in
    let len = filled_length count bytes c.fill-filled.ensures.within size in
    let room = c.in_ok-outcome.ensures.fits (ap (λ o. Ok o) c.in-Ok.is) in
    record {
      so_far = so_far_more (IsTrue g.D.Disk.tells) c.pieces.room (g.S.Source.left c.args.source.now) (g.S.Source.left c.pieces.source) (g.S.Source.left c.fill-filled.new.source)
          _ _ (session g.D.Disk c.append_piece.new.store c.append_piece.new.disk) (take count bytes) (said_in c.append_piece.new.said) c.pieces.invariant.so_far
          c.fill-filled.ensures.bytes (c.pieces.room - count) (filled_full count bytes c.fill-filled.ensures.within size (c.fill-filled.ensures.full c.in-Full.is))
          (omega (arith, len, room)) (rw c.in-Ok.is at c.in_ok-outcome.ensures.appends);
      is_open = λ told. c.in_ok-outcome.ensures.keeps.stays told refl;
      long = size;
      calm = search rules;
      sound = search rules;
      bare = λ calm. c.append_piece.ensures.bare (c.pieces.invariant.bare calm);
    }

pub returns-in_err-outcome-clause-taken : goal.returns-in_err-outcome-clause-taken
returns-in_err-outcome-clause-taken g c =
    let size : length c.fill-filled.new.piece ≡ PIECE_MAX = omega (arith, c.fill-filled.auto.piece, c.pieces.invariant.long) in
    let filled = c.fill-filled.ensures in
    takes_at_most c.pieces.invariant.so_far (g.S.Source.left c.fill-filled.new.source) (take c.fill-filled.result.count c.fill-filled.new.piece) filled.bytes
    (filled_fits c.fill-filled.result.count c.fill-filled.new.piece filled.within size)

pub returns-in-Failed-clause-taken : goal.returns-in-Failed-clause-taken
returns-in-Failed-clause-taken g c =
    let size : length c.fill-filled.new.piece ≡ PIECE_MAX = omega (arith, c.fill-filled.auto.piece, c.pieces.invariant.long) in
    let filled = c.fill-filled.ensures in
    takes_at_most c.pieces.invariant.so_far (g.S.Source.left c.fill-filled.new.source) (take c.fill-filled.result.count c.fill-filled.new.piece) filled.bytes
    (filled_fits c.fill-filled.result.count c.fill-filled.new.piece filled.within size)

pub returns-in-End-clause-taken : goal.returns-in-End-clause-taken
returns-in-End-clause-taken g c =
    let size : length c.fill-filled.new.piece ≡ PIECE_MAX = omega (arith, c.fill-filled.auto.piece, c.pieces.invariant.long) in
    let filled = c.fill-filled.ensures in
    takes_at_most c.pieces.invariant.so_far (g.S.Source.left c.fill-filled.new.source) (take c.fill-filled.result.count c.fill-filled.new.piece) filled.bytes
    (filled_fits c.fill-filled.result.count c.fill-filled.new.piece filled.within size)

pub returns-in-Refused-clause-taken : goal.returns-in-Refused-clause-taken
returns-in-Refused-clause-taken g c =
    let size : length c.fill-filled.new.piece ≡ PIECE_MAX = omega (arith, c.fill-filled.auto.piece, c.pieces.invariant.long) in
    let filled = c.fill-filled.ensures in
    takes_at_most c.pieces.invariant.so_far (g.S.Source.left c.fill-filled.new.source) (take c.fill-filled.result.count c.fill-filled.new.piece) filled.bytes
    (filled_fits c.fill-filled.result.count c.fill-filled.new.piece filled.within size)

pub returns-in-End-clause-refused : goal.returns-in-End-clause-refused
returns-in-End-clause-refused g c = λ no.
    c.in_ok-outcome.ensures.refused (ap (λ o. Ok o) (no_is_refused c.in_ok-outcome.outcome c.status_of.result c.status_of.ensures no))

pub returns-in-Refused-clause-refused : goal.returns-in-Refused-clause-refused
returns-in-Refused-clause-refused g c = λ no.
    c.in_ok-outcome.ensures.refused (ap (λ o. Ok o) c.in-Refused.is)

pub returns-in_err-outcome-clause-bare : goal.returns-in_err-outcome-clause-bare
returns-in_err-outcome-clause-bare g c = λ calm. c.append_piece.ensures.bare (c.pieces.invariant.bare calm)

pub returns-in-Failed-clause-bare : goal.returns-in-Failed-clause-bare
returns-in-Failed-clause-bare g c = λ calm. c.append_piece.ensures.bare (c.pieces.invariant.bare calm)

pub returns-in-End-clause-bare : goal.returns-in-End-clause-bare
returns-in-End-clause-bare g c = λ calm. c.append_piece.ensures.bare (c.pieces.invariant.bare calm)

pub returns-in-Refused-clause-bare : goal.returns-in-Refused-clause-bare
returns-in-Refused-clause-bare g c = λ calm. c.append_piece.ensures.bare (c.pieces.invariant.bare calm)

pub returns-in_err-outcome-clause-keeps : goal.returns-in_err-outcome-clause-keeps
returns-in_err-outcome-clause-keeps g c = record {
  stays = λ told. handed_open c.from_residual.result c.in_err-outcome.field-0.0 (session g.D.Disk c.append_piece.new.store c.append_piece.new.disk) c.from_residual.ensures.1 (c.in_err-outcome.ensures.keeps.stays told);
  honest = search rules;
  no_sink = search rules;
  account = search rules;
}

pub returns-in_err-outcome-clause-change : goal.returns-in_err-outcome-clause-change
returns-in_err-outcome-clause-change g c = λ calm.
    rw (handed_on c.from_residual.result c.in_err-outcome.field-0.0 c.from_residual.ensures.1) (c.in_err-outcome.ensures.change (c.pieces.invariant.bare calm))
