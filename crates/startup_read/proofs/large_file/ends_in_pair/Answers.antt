use Rattle.std.proofs.Common.{◌∙◌, refl, sym}
use Rattle.std.proofs.lemmas.Slice.Eq.{bytes_eq-Decides}
use Rattle.disk_theory.specs.State.{standing}
use Rattle.startup_read.proofs.LargeFiles.{pair_read}
use Rattle.startup_read.proofs.large_file.ends_in_pair.Goals as goal

pub returns-clause-pair : goal.returns-clause-pair
returns-clause-pair g c = λ told set.
    pair_read (standing (g.D.Disk.state c.args.disk.now) c.args.place.now) c.args.size _ c.read.new.buf _ (c.requires.told told) c.requires.room
    (c.in_ok-read.ensures.bytes told) refl ((bytes_eq-Decides _ _).0 (sym c.eq.ensures ∙ set))
