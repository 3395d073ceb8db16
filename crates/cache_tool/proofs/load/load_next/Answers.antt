-- One turn of a load.
use Rattle.std.proofs.Common.{◌∙◌, IsTrue, ap, arith, refl, subst, rules}
use Rattle.std.specs.Prelude.{Err, IfErr, Ok}
use Rattle.cache_export.specs.Parts.{Part}
use Rattle.cache_export.specs.Reader.{BreaksOff, LeavesReader, Refuses}
use Rattle.cache_store.specs.Session.{session}
use Rattle.cache_store.specs.declared.fault.StoreFault.TheVariants as fault
use Rattle.cache_tool.proofs.Handed.{handed_open}
use Rattle.cache_tool.proofs.Loads.LoadTurns.{part_further, turn_bad, turn_ends, turn_failed, turn_fails, turn_on, turn_stops}
use Rattle.cache_tool.proofs.RightLaws.{open_leaves_honest}
use Rattle.entry_metadata.specs.Meta.{meta_of}
use Rattle.cache_tool.proofs.load.load_next.Goals as goal

pub returns-in_err-begin_entry-in-Ok-Key-clause-loads : goal.returns-in_err-begin_entry-in-Ok-Key-clause-loads
returns-in_err-begin_entry-in-Ok-Key-clause-loads g c =
    let gives = subst (LeavesReader c.args.reader.now c.next.new.self (g.S.Source.left c.args.source.now) (g.S.Source.left c.next.new.source)) (c.in-Ok-Key.is ∙ ap (λ x. Ok x) c.in-Ok-Key.field-0-is) c.next.ensures.leaves in
    turn_fails (IsTrue g.D.Disk.tells) c.args.reader.now c.next.new.self c.args.count.now (g.S.Source.left c.args.source.now) (g.S.Source.left c.next.new.source) (session g.D.Disk c.args.store.now c.args.disk.now) (g.D.Disk.counts c.args.disk.now) (session g.D.Disk c.begin_entry.new.store c.begin_entry.new.disk) (g.D.Disk.counts c.begin_entry.new.disk) (Part.KeyPart c.in-Ok-Key.key) 0 refl gives (λ told. let made = c.in_err-begin_entry-in-Ok-Key.ensures.keeps.account.syncs told in omega (arith, made)) c.in_err-begin_entry-in-Ok-Key.field-0.0 c.from_residual.result _ c.from_residual.ensures.1 c.in_err-begin_entry-in-Ok-Key.ensures.runs

pub returns-in_err-begin_entry-in-Ok-Key-clause-keeps : goal.returns-in_err-begin_entry-in-Ok-Key-clause-keeps
returns-in_err-begin_entry-in-Ok-Key-clause-keeps g c = record {
  stays = λ told. handed_open c.from_residual.result c.in_err-begin_entry-in-Ok-Key.field-0.0 (session g.D.Disk c.begin_entry.new.store c.begin_entry.new.disk) c.from_residual.ensures.1 (c.in_err-begin_entry-in-Ok-Key.ensures.keeps.stays told);
  honest = search rules;
  no_sink = search rules;
  account = search rules;
}

pub returns-in_ok-begin_entry-in-Ok-Key-clause-loads : goal.returns-in_ok-begin_entry-in-Ok-Key-clause-loads
returns-in_ok-begin_entry-in-Ok-Key-clause-loads g c =
    let gives = subst (LeavesReader c.args.reader.now c.next.new.self (g.S.Source.left c.args.source.now) (g.S.Source.left c.next.new.source)) (c.in-Ok-Key.is ∙ ap (λ x. Ok x) c.in-Ok-Key.field-0-is) c.next.ensures.leaves in
    turn_on (IsTrue g.D.Disk.tells) c.args.reader.now c.next.new.self c.args.count.now (g.S.Source.left c.args.source.now) (g.S.Source.left c.next.new.source) (session g.D.Disk c.args.store.now c.args.disk.now) (g.D.Disk.counts c.args.disk.now) (session g.D.Disk c.begin_entry.new.store c.begin_entry.new.disk) (g.D.Disk.counts c.begin_entry.new.disk) (Part.KeyPart c.in-Ok-Key.key) 0 refl gives (λ told. let made = c.in_ok-begin_entry-in-Ok-Key.ensures.keeps.account.syncs told in omega (arith, made)) _ (omega arith) c.in_ok-begin_entry-in-Ok-Key.ensures.runs

pub returns-in_ok-begin_entry-in-Ok-Key-clause-few : goal.returns-in_ok-begin_entry-in-Ok-Key-clause-few
returns-in_ok-begin_entry-in-Ok-Key-clause-few g c = λ is.
    let gives = subst (LeavesReader c.args.reader.now c.next.new.self (g.S.Source.left c.args.source.now) (g.S.Source.left c.next.new.source)) (c.in-Ok-Key.is ∙ ap (λ x. Ok x) c.in-Ok-Key.field-0-is) c.next.ensures.leaves in
    let more = (part_further c.args.reader.now c.next.new.self (g.S.Source.left c.args.source.now) (g.S.Source.left c.next.new.source) (Part.KeyPart c.in-Ok-Key.key) 0 c.args.count.now gives (omega arith) c.requires.few).1 in
    omega (arith, more)

pub returns-in_ok-begin_entry-in-Ok-Key-clause-further : goal.returns-in_ok-begin_entry-in-Ok-Key-clause-further
returns-in_ok-begin_entry-in-Ok-Key-clause-further g c = λ is.
    let gives = subst (LeavesReader c.args.reader.now c.next.new.self (g.S.Source.left c.args.source.now) (g.S.Source.left c.next.new.source)) (c.in-Ok-Key.is ∙ ap (λ x. Ok x) c.in-Ok-Key.field-0-is) c.next.ensures.leaves in
    (part_further c.args.reader.now c.next.new.self (g.S.Source.left c.args.source.now) (g.S.Source.left c.next.new.source) (Part.KeyPart c.in-Ok-Key.key) 0 c.args.count.now gives (omega arith) c.requires.few).0

pub returns-in_err-append_piece-in-Ok-Piece-clause-loads : goal.returns-in_err-append_piece-in-Ok-Piece-clause-loads
returns-in_err-append_piece-in-Ok-Piece-clause-loads g c =
    let gives = subst (LeavesReader c.args.reader.now c.next.new.self (g.S.Source.left c.args.source.now) (g.S.Source.left c.next.new.source)) (c.in-Ok-Piece.is ∙ ap (λ x. Ok x) c.in-Ok-Piece.field-0-is) c.next.ensures.leaves in
    turn_fails (IsTrue g.D.Disk.tells) c.args.reader.now c.next.new.self c.args.count.now (g.S.Source.left c.args.source.now) (g.S.Source.left c.next.new.source) (session g.D.Disk c.args.store.now c.args.disk.now) (g.D.Disk.counts c.args.disk.now) (session g.D.Disk c.append_piece.new.store c.append_piece.new.disk) (g.D.Disk.counts c.append_piece.new.disk) (Part.PiecePart c.in-Ok-Piece.piece) 0 refl gives (λ told. let made = c.in_err-append_piece-in-Ok-Piece.ensures.keeps.account.syncs told in omega (arith, made)) c.in_err-append_piece-in-Ok-Piece.field-0.0 c.from_residual-in_err-append_piece-in-Ok-Piece.result _ c.from_residual-in_err-append_piece-in-Ok-Piece.ensures.1 c.in_err-append_piece-in-Ok-Piece.ensures.runs

pub returns-in_err-append_piece-in-Ok-Piece-clause-keeps : goal.returns-in_err-append_piece-in-Ok-Piece-clause-keeps
returns-in_err-append_piece-in-Ok-Piece-clause-keeps g c = record {
  stays = λ told. handed_open c.from_residual-in_err-append_piece-in-Ok-Piece.result c.in_err-append_piece-in-Ok-Piece.field-0.0 (session g.D.Disk c.append_piece.new.store c.append_piece.new.disk) c.from_residual-in_err-append_piece-in-Ok-Piece.ensures.1 (c.in_err-append_piece-in-Ok-Piece.ensures.keeps.stays told);
  honest = search rules;
  no_sink = search rules;
  account = search rules;
}

pub returns-in_ok-append_piece-in-Ok-Piece-clause-loads : goal.returns-in_ok-append_piece-in-Ok-Piece-clause-loads
returns-in_ok-append_piece-in-Ok-Piece-clause-loads g c =
    let gives = subst (LeavesReader c.args.reader.now c.next.new.self (g.S.Source.left c.args.source.now) (g.S.Source.left c.next.new.source)) (c.in-Ok-Piece.is ∙ ap (λ x. Ok x) c.in-Ok-Piece.field-0-is) c.next.ensures.leaves in
    turn_on (IsTrue g.D.Disk.tells) c.args.reader.now c.next.new.self c.args.count.now (g.S.Source.left c.args.source.now) (g.S.Source.left c.next.new.source) (session g.D.Disk c.args.store.now c.args.disk.now) (g.D.Disk.counts c.args.disk.now) (session g.D.Disk c.append_piece.new.store c.append_piece.new.disk) (g.D.Disk.counts c.append_piece.new.disk) (Part.PiecePart c.in-Ok-Piece.piece) 0 refl gives (λ told. let made = c.in_ok-append_piece-in-Ok-Piece.ensures.keeps.account.syncs told in omega (arith, made)) _ (omega arith) c.in_ok-append_piece-in-Ok-Piece.ensures.runs

pub returns-in_ok-append_piece-in-Ok-Piece-clause-few : goal.returns-in_ok-append_piece-in-Ok-Piece-clause-few
returns-in_ok-append_piece-in-Ok-Piece-clause-few g c = λ is.
    let gives = subst (LeavesReader c.args.reader.now c.next.new.self (g.S.Source.left c.args.source.now) (g.S.Source.left c.next.new.source)) (c.in-Ok-Piece.is ∙ ap (λ x. Ok x) c.in-Ok-Piece.field-0-is) c.next.ensures.leaves in
    let more = (part_further c.args.reader.now c.next.new.self (g.S.Source.left c.args.source.now) (g.S.Source.left c.next.new.source) (Part.PiecePart c.in-Ok-Piece.piece) 0 c.args.count.now gives (omega arith) c.requires.few).1 in
    omega (arith, more)

pub returns-in_ok-append_piece-in-Ok-Piece-clause-further : goal.returns-in_ok-append_piece-in-Ok-Piece-clause-further
returns-in_ok-append_piece-in-Ok-Piece-clause-further g c = λ is.
    let gives = subst (LeavesReader c.args.reader.now c.next.new.self (g.S.Source.left c.args.source.now) (g.S.Source.left c.next.new.source)) (c.in-Ok-Piece.is ∙ ap (λ x. Ok x) c.in-Ok-Piece.field-0-is) c.next.ensures.leaves in
    (part_further c.args.reader.now c.next.new.self (g.S.Source.left c.args.source.now) (g.S.Source.left c.next.new.source) (Part.PiecePart c.in-Ok-Piece.piece) 0 c.args.count.now gives (omega arith) c.requires.few).0

pub returns-in_err-finish_entry-in-Ok-Block-clause-loads : goal.returns-in_err-finish_entry-in-Ok-Block-clause-loads
returns-in_err-finish_entry-in-Ok-Block-clause-loads g c =
    let gives = subst (LeavesReader c.args.reader.now c.next.new.self (g.S.Source.left c.args.source.now) (g.S.Source.left c.next.new.source)) (c.in-Ok-Block.is ∙ ap (λ x. Ok x) c.in-Ok-Block.field-0-is) c.next.ensures.leaves in
    turn_fails (IsTrue g.D.Disk.tells) c.args.reader.now c.next.new.self c.args.count.now (g.S.Source.left c.args.source.now) (g.S.Source.left c.next.new.source) (session g.D.Disk c.args.store.now c.args.disk.now) (g.D.Disk.counts c.args.disk.now) (session g.D.Disk c.finish_entry.new.store c.finish_entry.new.disk) (g.D.Disk.counts c.finish_entry.new.disk) (Part.BlockPart (meta_of c.in-Ok-Block.meta)) 1 refl gives (λ told. let made = c.in_err-finish_entry-in-Ok-Block.ensures.keeps.account.syncs told in omega (arith, made)) c.in_err-finish_entry-in-Ok-Block.field-0.0 c.from_residual-in_err-finish_entry-in-Ok-Block.result _ c.from_residual-in_err-finish_entry-in-Ok-Block.ensures.1 c.in_err-finish_entry-in-Ok-Block.ensures.runs

pub returns-in_err-finish_entry-in-Ok-Block-clause-keeps : goal.returns-in_err-finish_entry-in-Ok-Block-clause-keeps
returns-in_err-finish_entry-in-Ok-Block-clause-keeps g c = record {
  stays = λ told. handed_open c.from_residual-in_err-finish_entry-in-Ok-Block.result c.in_err-finish_entry-in-Ok-Block.field-0.0 (session g.D.Disk c.finish_entry.new.store c.finish_entry.new.disk) c.from_residual-in_err-finish_entry-in-Ok-Block.ensures.1 (c.in_err-finish_entry-in-Ok-Block.ensures.keeps.stays told);
  honest = search rules;
  no_sink = search rules;
  account = search rules;
}

pub returns-in_ok-finish_entry-in-Ok-Block-clause-loads : goal.returns-in_ok-finish_entry-in-Ok-Block-clause-loads
returns-in_ok-finish_entry-in-Ok-Block-clause-loads g c =
    let gives = subst (LeavesReader c.args.reader.now c.next.new.self (g.S.Source.left c.args.source.now) (g.S.Source.left c.next.new.source)) (c.in-Ok-Block.is ∙ ap (λ x. Ok x) c.in-Ok-Block.field-0-is) c.next.ensures.leaves in
    turn_on (IsTrue g.D.Disk.tells) c.args.reader.now c.next.new.self c.args.count.now (g.S.Source.left c.args.source.now) (g.S.Source.left c.next.new.source) (session g.D.Disk c.args.store.now c.args.disk.now) (g.D.Disk.counts c.args.disk.now) (session g.D.Disk c.finish_entry.new.store c.finish_entry.new.disk) (g.D.Disk.counts c.finish_entry.new.disk) (Part.BlockPart (meta_of c.in-Ok-Block.meta)) 1 refl gives (λ told. let made = c.in_ok-finish_entry-in-Ok-Block.ensures.keeps.account.syncs told in omega (arith, made)) _ (omega arith) c.in_ok-finish_entry-in-Ok-Block.ensures.runs

pub returns-in_ok-finish_entry-in-Ok-Block-clause-few : goal.returns-in_ok-finish_entry-in-Ok-Block-clause-few
returns-in_ok-finish_entry-in-Ok-Block-clause-few g c = λ is.
    let gives = subst (LeavesReader c.args.reader.now c.next.new.self (g.S.Source.left c.args.source.now) (g.S.Source.left c.next.new.source)) (c.in-Ok-Block.is ∙ ap (λ x. Ok x) c.in-Ok-Block.field-0-is) c.next.ensures.leaves in
    let more = (part_further c.args.reader.now c.next.new.self (g.S.Source.left c.args.source.now) (g.S.Source.left c.next.new.source) (Part.BlockPart (meta_of c.in-Ok-Block.meta)) 1 c.args.count.now gives (omega arith) c.requires.few).1 in
    omega (arith, more)

pub returns-in_ok-finish_entry-in-Ok-Block-clause-further : goal.returns-in_ok-finish_entry-in-Ok-Block-clause-further
returns-in_ok-finish_entry-in-Ok-Block-clause-further g c = λ is.
    let gives = subst (LeavesReader c.args.reader.now c.next.new.self (g.S.Source.left c.args.source.now) (g.S.Source.left c.next.new.source)) (c.in-Ok-Block.is ∙ ap (λ x. Ok x) c.in-Ok-Block.field-0-is) c.next.ensures.leaves in
    (part_further c.args.reader.now c.next.new.self (g.S.Source.left c.args.source.now) (g.S.Source.left c.next.new.source) (Part.BlockPart (meta_of c.in-Ok-Block.meta)) 1 c.args.count.now gives (omega arith) c.requires.few).0

pub returns-in-Ok-End-clause-loads : goal.returns-in-Ok-End-clause-loads
returns-in-Ok-End-clause-loads g c =
    turn_ends (IsTrue g.D.Disk.tells) c.args.reader.now c.next.new.self c.args.count.now (g.S.Source.left c.args.source.now) (g.S.Source.left c.next.new.source) (session g.D.Disk c.args.store.now c.args.disk.now) (g.D.Disk.counts c.args.disk.now)
    (subst (LeavesReader c.args.reader.now c.next.new.self (g.S.Source.left c.args.source.now) (g.S.Source.left c.next.new.source)) (c.in-Ok-End.is ∙ ap (λ x. Ok x) c.in-Ok-End.field-0-is) c.next.ensures.leaves)

pub returns-in-Err-Bad-clause-loads : goal.returns-in-Err-Bad-clause-loads
returns-in-Err-Bad-clause-loads g c =
    rw c.in-Err-Bad.field-0-is
    (turn_bad (IsTrue g.D.Disk.tells) c.args.reader.now c.next.new.self c.args.count.now (g.S.Source.left c.args.source.now) (g.S.Source.left c.next.new.source) (session g.D.Disk c.args.store.now c.args.disk.now) (g.D.Disk.counts c.args.disk.now) c.in-Err-Bad.number
    (subst (λ r. IfErr r (Refuses c.args.reader.now (g.S.Source.left c.args.source.now))) (c.in-Err-Bad.is ∙ ap (λ x. Err x) c.in-Err-Bad.field-0-is) c.next.ensures.bad))

pub returns-in-Err-Source-clause-loads : goal.returns-in-Err-Source-clause-loads
returns-in-Err-Source-clause-loads g c =
    turn_failed (IsTrue g.D.Disk.tells) c.args.reader.now c.next.new.self c.args.count.now (g.S.Source.left c.args.source.now) (g.S.Source.left c.next.new.source) (session g.D.Disk c.args.store.now c.args.disk.now) (g.D.Disk.counts c.args.disk.now)
    (subst (λ r. IfErr r (BreaksOff c.args.reader.now (g.S.Source.left c.args.source.now) (g.S.Source.left c.next.new.source))) (c.in-Err-Source.is ∙ ap (λ x. Err x) c.in-Err-Source.field-0-is) c.next.ensures.failed)

pub returns-in-Err-Memory-clause-loads : goal.returns-in-Err-Memory-clause-loads
returns-in-Err-Memory-clause-loads g c =
    turn_stops (IsTrue g.D.Disk.tells) c.args.reader.now c.next.new.self c.args.count.now (g.S.Source.left c.args.source.now) (g.S.Source.left c.next.new.source) (session g.D.Disk c.args.store.now c.args.disk.now) (g.D.Disk.counts c.args.disk.now) fault.Memory

pub returns-in-Ok-End-clause-keeps : goal.returns-in-Ok-End-clause-keeps
returns-in-Ok-End-clause-keeps g c = record {
  stays = search rules;
  honest = λ told. open_leaves_honest (session g.D.Disk c.args.store.now c.args.disk.now) (c.requires.told told);
  no_sink = search rules;
  account = search rules;
}

pub returns-in-Err-Bad-clause-keeps : goal.returns-in-Err-Bad-clause-keeps
returns-in-Err-Bad-clause-keeps g c = record {
  stays = search rules;
  honest = λ told. open_leaves_honest (session g.D.Disk c.args.store.now c.args.disk.now) (c.requires.told told);
  no_sink = search rules;
  account = search rules;
}

pub returns-in-Err-Source-clause-keeps : goal.returns-in-Err-Source-clause-keeps
returns-in-Err-Source-clause-keeps g c = record {
  stays = search rules;
  honest = λ told. open_leaves_honest (session g.D.Disk c.args.store.now c.args.disk.now) (c.requires.told told);
  no_sink = search rules;
  account = search rules;
}

pub returns-in-Err-Memory-clause-keeps : goal.returns-in-Err-Memory-clause-keeps
returns-in-Err-Memory-clause-keeps g c = record {
  stays = search rules;
  honest = λ told. open_leaves_honest (session g.D.Disk c.args.store.now c.args.disk.now) (c.requires.told told);
  no_sink = search rules;
  account = search rules;
}
