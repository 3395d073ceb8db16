use Rattle.overlay_disk.proofs.Counted.{has_cause}
use Rattle.overlay_disk.proofs.read_only.ReadOnly.read.Goals as goal

pub returns-clause-cause : goal.returns-clause-cause
returns-clause-cause g c = has_cause c.read.ensures.cause
