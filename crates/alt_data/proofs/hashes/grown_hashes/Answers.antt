use Rattle.std.proofs.Common.{refl, rules}
use Rattle.disk_theory.specs.State.{standing}
use Rattle.alt_data.proofs.GrownHashes.{part_count, part_grown, whole_count, whole_grown}
use Rattle.alt_data.proofs.hashes.grown_hashes.Goals as goal

pub returns-then-whole-offset-clause-hashes : goal.returns-then-whole-offset-clause-hashes
returns-then-whole-offset-clause-hashes g c = λ tells.
    whole_grown (standing (g.D.Disk.state c.args.disk.now) c.args.place.now) c.args.offset _ c.args.old.now c.args.alt.now c.in_ok-hashes.hashes c.push_hashes.new.hashes
    (c.requires.told tells) refl c.if-whole-offset.true (search rules) c.in_ok-push_hashes.ensures

pub returns-then-whole-offset-clause-len : goal.returns-then-whole-offset-clause-len
returns-then-whole-offset-clause-len g c =
    whole_count c.args.offset _ c.args.old.now c.args.alt.now c.in_ok-hashes.hashes c.push_hashes.new.hashes
    c.requires.hashes refl c.if-whole-offset.true (search rules) c.in_ok-push_hashes.ensures

pub returns-clause-hashes : goal.returns-clause-hashes
returns-clause-hashes g c = λ tells.
    part_grown (standing (g.D.Disk.state c.args.disk.now) c.args.place.now) c.args.offset _ c.args.old.now c.args.alt.now c.in_ok-hashes.hashes c.read_chunk.new.buf c.push_joined.new.hashes
    (c.requires.told tells) refl (search rules) (c.in_ok-read_chunk.ensures.chunk tells) c.in_ok-push_joined.ensures

pub returns-clause-len : goal.returns-clause-len
returns-clause-len g c =
    part_count c.args.offset _ c.args.old.now c.args.alt.now c.in_ok-hashes.hashes c.read_chunk.new.buf c.push_joined.new.hashes
    c.requires.hashes refl c.in_ok-read_chunk.ensures.len (search rules) c.in_ok-push_joined.ensures
