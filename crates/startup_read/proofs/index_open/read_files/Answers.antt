use Rattle.std.proofs.Common.{subst}
use Rattle.disk_theory.specs.State.{State, standing}
use Rattle.disk_theory.specs.declared.place.Place.TheVariants.{Index}
use Rattle.startup_read.specs.Reads.{ReadsIndex}
use Rattle.startup_read.proofs.StartLaws.{base_from}
use Rattle.startup_read.proofs.index_open.read_files.Goals as goal

pub returns-clause-base : goal.returns-clause-base
returns-clause-base g c = λ tells.
    base_from (standing (g.D.Disk.state c.args.disk.now) Index) _ _ _ _ _ _ c.in_ok-map.map
    (subst (λ (s : State). ReadsIndex (standing s Index) c.in_ok-index.index.kind c.in_ok-index.index.records) (c.in_ok-size.ensures.state tells) (c.in_ok-index.ensures.reads tells))
    c.decide-start.ensures c.in_ok-map.ensures
