use Rattle.disk_theory.proofs.Prefixes.{unreached_is_kept}
use Rattle.disk_theory.proofs.laws.unreached_is_kept.Goals as goal

pub returns : goal.returns
returns g c told = unreached_is_kept _ (g.met.D.Disk.sound c.args._disk.now told)
