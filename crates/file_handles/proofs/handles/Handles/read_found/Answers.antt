use Rattle.std.proofs.Common.{rules, ◌≡◌, ◌<◌, arith}
use Rattle.cache_base.specs.Limits.{chunks}
use Rattle.disk_theory.specs.State.{standing}
use Rattle.file_handles.proofs.Finding.FoundLoad.{only_chunk}
use Rattle.file_handles.proofs.handles.Handles.read_found.Goals as goal

pub returns-else-chunks-ne1-clause-chunk : goal.returns-else-chunks-ne1-clause-chunk
returns-else-chunks-ne1-clause-chunk g c = λ told.
    let one : chunks c.args.len ≡ 1 = search rules in
    let within : c.args.index < chunks c.args.len = c.requires.index in
    only_chunk (standing (g.D.Disk.state c.args.disk.now) c.args.place.now) c.args.len c.args.index c.args.self.now.chunk (omega (arith, one, within)) (c.requires.held told one (omega arith))
