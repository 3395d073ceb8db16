use Rattle.std.proofs.Common.{◌≡◌, ◌-◌, ◌∙◌, ap, arith, length, rules, take}
use Rattle.std.proofs.lemmas.List.{length-take}
use Rattle.disk_theory.specs.State.{State, part_of, standing}
use Rattle.startup_read.proofs.LargeFiles.{fed_on}
use Rattle.startup_read.proofs.large_file.hash_between.Goals as goal

pub loop-at-preserved : goal.loop-at-preserved
loop-at-preserved g c =
    let l = c.loop-at in
    let held = l.invariant in
    let place = c.args.place.now in
    let len = c.min-len.result in
    let step = c.in_ok-feed_piece.ensures in
    let file = standing (g.D.Disk.state c.args.disk.now) place in
    let fits : length (take len l.piece) ≡ len = let least = c.min-len.ensures in omega (arith, least, length-take len l.piece) in
    record {
      after = let after = held.after in omega (arith, after);
      before = let before = held.before in let least = c.min-len.ensures in let more = c.loop-at-test.true in omega (arith, before, least, more);
      fed = λ told. fed_on c.feed_piece.new.hasher file (standing (g.D.Disk.state l.disk) place) c.args.from l.at len _ held.after
          (ap (λ (s : State). standing s place) (held.state told)) fits (step.fed told (part_of c.args.from (l.at - c.args.from) file) (held.fed told));
      state = λ told. step.looks.state told ∙ held.state told;
      calm = record {
        faults = search rules;
        no_change = λ told. step.looks.no_change told ∙ held.calm.no_change told;
        syncs = λ told. let same = step.looks.unsynced told in let before = held.calm.syncs told in omega (arith, same, before);
      };
      unsynced = λ told. step.looks.unsynced told ∙ held.unsynced told;
      no_entry = λ told. step.no_entry told ∙ held.no_entry told;
    }
