use Rattle.std.proofs.Common.{◌≡◌, ◌-◌, ℕ, length, IsTrue, ap, ◌∙◌, arith}
use Rattle.std.specs.Prelude.{replicate}
use Rattle.chunk_store.specs.Stored.{chunk_write}
use Rattle.entry_file.specs.Held.{held}
use Rattle.entry_file.specs.Unfinished.{IsUnfinished}
use Rattle.entry_file.proofs.Bodies.{may_write}
use Rattle.entry_file.proofs.NextChunk.{has_taken, stands_taken}
use Rattle.entry_file.proofs.StopLaws.{unfinished_write}
use Rattle.entry_file.proofs.Writing.{written_by}
use Rattle.entry_file.proofs.new_entry.NewEntry.put_chunk.Goals as goal

pub put_full-result-requires-clause-told : goal.put_full-result-requires-clause-told
put_full-result-requires-clause-told g c = λ told. may_write (held c.args.self.now) _ (c.requires.told told)

pub returns-clause-body : goal.returns-clause-body
returns-clause-body g c =
    let none : 0 - length c.put_full-result.new.chunk ≡ 0 = omega arith in
    has_taken (held c.args.self.now) c.args.b.now c.extend.new.self c.extend.ensures c.requires.full c.put_full-result.result c.put_full-result.new.hashes c.set_len.new.self
    (c.set_len.ensures ∙ ap (λ (n : ℕ). replicate n 0) none) c.put_full-result.ensures.hashes

pub returns-clause-stands : goal.returns-clause-stands
returns-clause-stands g c =
    stands_taken (held c.args.self.now) c.args.b.now c.extend.new.self c.extend.ensures c.requires.full (IsTrue g.D.Disk.tells) c.args.place.now _ _ c.put_full-result.result
    (g.met.D.Disk.sound c.args.disk.now) c.put_full-result.ensures.state

pub returns-clause-writes : goal.returns-clause-writes
returns-clause-writes g c = λ told.
    written_by c.args.place.now IsUnfinished (chunk_write (length c.args.self.now.hashes) c.extend.new.self) _ _ c.put_full-result.result (c.put_full-result.ensures.state told)
    (λ content stands. unfinished_write (length c.args.self.now.hashes) c.extend.new.self content)
