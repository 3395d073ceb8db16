use Rattle.memory_index.proofs.ScanBegins.{scan_tells}
use Rattle.memory_index.proofs.memory_index.scan.Goals as goal

pub returns-clause-tells : goal.returns-clause-tells
returns-clause-tells g c = λ told.
    scan_tells (g.D.Disk.state c.args.disk.now) (g.D.Disk.state c.begin.new.disk) (record { map = c.new.result; update = c.in_ok-begin.field-0 }) c.finish.new.self
    (c.begin.ensures.looks.state told) c.new.ensures (c.in_ok-begin.ensures.rest told) (c.in_ok-finish.ensures.tells told)
