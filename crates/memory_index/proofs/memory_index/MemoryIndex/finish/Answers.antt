use Rattle.std.proofs.Common.{IsTrue, refl}
use Rattle.index_theory.specs.Ever.{entries_on}
use Rattle.memory_index.proofs.RecordsAtEnd.{finish_ends}
use Rattle.memory_index.proofs.memory_index.MemoryIndex.finish.Goals as goal

pub returns-then-ended-clause-records : goal.returns-then-ended-clause-records
returns-then-ended-clause-records g c = λ told. record {
  ended = λ over q. refl;
  read = λ left. absurd (left (c.ended.ensures.ended.0 c.if-ended.true));
}

pub returns-clause-records : goal.returns-clause-records
returns-clause-records g c =
    finish_ends (IsTrue g.D.Disk.tells) (entries_on (g.D.Disk.state c.args.disk.now)) c.args.self.now c.finish.new.self c.finish.new.map c.finish.result
    (λ over. let ended = c.ended.ensures.ended.1 over in absurd (let not = c.if-ended.false in cc)) c.finish.ensures.slice c.finish.ensures.ended
