use Rattle.disk_theory.specs.State.{standing}
use Rattle.entry_file.proofs.TailLaws.{bytes_read, offset_read}
use Rattle.entry_file.proofs.reading.read_tail.Goals as goal

pub returns-clause-offset : goal.returns-clause-offset
returns-clause-offset g c = λ told.
    offset_read (standing (g.D.Disk.state c.args.disk.now) c.args.place.now) c.in_ok-bytes.bytes.items c.as_slice.result.now c.last_offset-offset.result c.as_slice.ensures.value
    c.in_ok-bytes.ensures.long (c.in_ok-bytes.ensures.tail told) c.last_offset-offset.ensures.offset

pub returns-clause-bytes : goal.returns-clause-bytes
returns-clause-bytes g c = λ told.
    bytes_read (standing (g.D.Disk.state c.args.disk.now) c.args.place.now) c.in_ok-bytes.bytes.items c.as_slice.result.now c.as_slice.ensures.value
    c.in_ok-bytes.ensures.long (c.in_ok-bytes.ensures.tail told) c.last_offset-offset.ensures.bytes
