use Rattle.std.proofs.Common.{IsTrue, arith, refl, rules}
use Rattle.cache_store.specs.Session.{session}
use Rattle.cache_tool.proofs.Handed.{handed_open}
use Rattle.cache_tool.proofs.Loads.LoadTurns.{starts}
use Rattle.cache_tool.proofs.load.load_parts.Goals as goal

pub parts-init : goal.parts-init
parts-init g c =
    let new = c.new-reader.ensures in
    record {
      so_far = starts (IsTrue g.D.Disk.tells) c.new-reader.result (g.S.Source.left c.args.source.now) (session g.D.Disk c.args.store.now c.args.disk.now) (g.D.Disk.counts c.args.disk.now) new.held new.stage new.given new.used;
      few = omega arith;
      stands = c.requires.told;
      source = refl;
      calm = record { faults = refl; no_change = λ told. refl; syncs = λ told. omega arith };
    }

pub returns-in_err-ended-clause-keeps : goal.returns-in_err-ended-clause-keeps
returns-in_err-ended-clause-keeps g c = record {
  stays = λ told.
      handed_open c.from_residual.result c.in_err-ended.field-0.0 (session g.D.Disk c.load_next.new.store c.load_next.new.disk) c.from_residual.ensures.1 (c.in_err-ended.ensures.keeps.stays told);
  honest = search rules;
  no_sink = search rules;
  account = search rules;
}

pub returns-in-Some-clause-loads : goal.returns-in-Some-clause-loads
returns-in-Some-clause-loads g c =
    rw c.in-Some.is at (c.in_ok-ended.ensures.loads.on (g.S.Source.left c.args.source.now) (session g.D.Disk c.args.store.now c.args.disk.now) (g.D.Disk.counts c.args.disk.now) c.parts.invariant.so_far)
