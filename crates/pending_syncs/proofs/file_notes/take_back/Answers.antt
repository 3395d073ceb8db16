use Rattle.pending_syncs.proofs.NoteLaws.{taken_back}
use Rattle.pending_syncs.proofs.file_notes.take_back.Goals as goal

pub returns-then-is_new-clause-back : goal.returns-then-is_new-clause-back
returns-then-is_new-clause-back c = λ before made.
    taken_back before c.args.files.now c.remove.new.self c.args.place.now (made.absent c.if-is_new.true) made.others c.remove.ensures.updates.2
