use Rattle.std.proofs.Common.{◌≡◌, drop, subst}
use Rattle.std.specs.Prelude.{IfSome}
use Rattle.disk_theory.specs.State.{State, standing}
use Rattle.startup_read.specs.Large.{is_hashed}
use Rattle.startup_read.proofs.LargeFiles.{paired_file, unhashed_file}
use Rattle.startup_read.proofs.large_file.fails_check.Goals as goal

pub returns-then-pair-clause-fails : goal.returns-then-pair-clause-fails
returns-then-pair-clause-fails g c = λ told set.
    paired_file (standing (g.D.Disk.state c.args.disk.now) c.args.place.now) c.args.from c.args.size (c.requires.told told) c.requires.room
    (c.in_ok-pair.ensures.pair told c.if-pair.true)

pub returns-clause-fails : goal.returns-clause-fails
returns-clause-fails g c = λ told set.
    let place = c.args.place.now in
    let from = c.args.from in
    let hashed = c.in_ok-hashed.hashed in
    unhashed_file (standing (g.D.Disk.state c.args.disk.now) place) from hashed
    (subst (λ (s : State). IfSome (standing s place) (λ b. hashed ≡ is_hashed (drop from b))) (c.in_ok-pair.ensures.looks.state told) (c.in_ok-hashed.ensures.hashed told)) set
