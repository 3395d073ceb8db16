use Rattle.std.proofs.Common.{◌-◌, ◌∙◌, ap}
use Rattle.disk_theory.specs.State.{State, part_of, standing}
use Rattle.jenkins_hash.specs.Hash.{hash_of}
use Rattle.startup_read.proofs.LargeFiles.{hashed_file}
use Rattle.startup_read.proofs.large_file.is_hashed.Goals as goal

pub returns-clause-hashed : goal.returns-clause-hashed
returns-clause-hashed g c = λ told.
    let place = c.args.place.now in
    let from = c.args.from in
    let end = c.args.size - 4 in
    hashed_file (standing (g.D.Disk.state c.args.disk.now) place) from c.args.size c.in_ok-stored.stored c.in_ok-hash.hash (c.requires.told told) c.requires.room
    (c.in_ok-stored.ensures.number told)
    (c.in_ok-hash.ensures.hash told ∙ ap (λ (s : State). hash_of (part_of from (end - from) (standing s place))) (c.in_ok-stored.ensures.looks.state told))
