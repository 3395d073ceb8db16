use Rattle.disk_theory.proofs.Images.{now_is_image, only_now}
use Rattle.disk_theory.proofs.laws.reads_as_image.Goals as goal

pub returns-clause-one : goal.returns-clause-one
returns-clause-one g c told = now_is_image _ (g.met.D.Disk.sound c.args._disk.now told)

pub returns-clause-only : goal.returns-clause-only
returns-clause-only g c told quiet image is place = only_now _ image quiet is place
