use Rattle.disk_theory.specs.State.{standing}
use Rattle.chunk_store.proofs.Filled.{chunk_over_any}
use Rattle.chunk_store.proofs.reading.read_chunk_into.Goals as goal

pub returns-clause-chunk : goal.returns-clause-chunk
returns-clause-chunk g c = λ told.
    let read = c.in_ok-n.ensures.bytes told in
    chunk_over_any c.args.offset c.args.index c.in_ok-n.n (standing (g.D.Disk.state c.args.disk.now) c.args.place.now) c.args.buf.now c.read.new.buf c.zero_from.new.buf
    c.requires.index c.requires.len c.read.auto.buf read.0 read.1 c.zero_from.ensures
