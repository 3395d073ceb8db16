use Rattle.std.proofs.Common.{ap}
use Rattle.disk_theory.specs.State.{State, standing}
use Rattle.disk_theory.specs.declared.place.Place.TheVariants.{Index}
use Rattle.startup_read.proofs.LargeFiles.{answer_index, other_version}
use Rattle.startup_read.proofs.records.is_no_index.Goals as goal

pub returns-then-version-ne-VERSION-clause-none : goal.returns-then-version-ne-VERSION-clause-none
returns-then-version-ne-VERSION-clause-none g c = λ told none.
    other_version (standing (g.D.Disk.state c.args.disk.now) Index) c.args.size c.in_ok-version.version (c.requires told)
    (c.in_ok-version.ensures.number told) c.if-version-ne-VERSION.true

pub returns-clause-none : goal.returns-clause-none
returns-clause-none g c =
    answer_index c.fails_check.result (standing (g.D.Disk.state c.args.disk.now) Index) (standing (g.D.Disk.state c.number_at.new.disk) Index) c.args.size c.requires
    (λ told. ap (λ (s : State). standing s Index) (c.in_ok-version.ensures.looks.state told)) c.fails_check.ensures.fails
