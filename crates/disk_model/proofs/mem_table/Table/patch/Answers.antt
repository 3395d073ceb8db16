use Rattle.disk_theory.specs.State.Write.{Patch}
use Rattle.disk_model.proofs.MemWrites.{write_ok, write_err, write_sound}
use Rattle.disk_model.proofs.MemPending.{pending_written}
use Rattle.disk_model.proofs.mem_table.Table.patch.Goals as goal

pub invariant_of-self-2 : goal.invariant_of-self-2
invariant_of-self-2 c =
    let t = c.args.self.now in
    record {
      names = t.names;
      pending = pending_written t.files.items c.push.new.self.items t.written.items c.args.file c.patch.new.self c.requires.stands c.in_ok-push.ensures.items t.pending;
      sound = write_sound t.slots t.steps.items t.files.items c.args.file c.index_mut.result.now c.patch.new.self (Patch c.args.from c.args.bytes.now) c.requires.stands c.index_mut.ensures.value
          c.patch.result c.patch.ensures.ok c.patch.ensures.err c.requires.inside t.sound;
    }

pub returns-clause-ok : goal.returns-clause-ok
returns-clause-ok c =
    let t = c.args.self.now in
    write_ok t.slots t.steps.items t.files.items c.args.file c.index_mut.result.now c.patch.new.self (Patch c.args.from c.args.bytes.now) c.requires.stands c.index_mut.ensures.value
    c.patch.result c.patch.ensures.ok

pub returns-clause-err : goal.returns-clause-err
returns-clause-err c =
    let t = c.args.self.now in
    write_err t.slots t.steps.items t.files.items c.args.file c.index_mut.result.now c.patch.new.self (Patch c.args.from c.args.bytes.now) c.requires.stands c.index_mut.ensures.value
    c.patch.result c.patch.ensures.err
