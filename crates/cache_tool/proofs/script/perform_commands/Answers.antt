use Rattle.std.proofs.Common.{refl, rules, arith, ◌∙◌}
use Rattle.cache_store.specs.Session.{session}
use Rattle.cache_tool.specs.World.{progress}
use Rattle.cache_tool.proofs.Growing.{takes_none, takes_on}
use Rattle.cache_tool.proofs.Handed.{handed_open}
use Rattle.cache_tool.proofs.Scripts.ScriptTurns.{starts}
use Rattle.cache_tool.proofs.script.perform_commands.Goals as goal

pub turns-init : goal.turns-init
turns-init g c = record {
  goes = starts g.D.Disk.tells c.args.reader.now _ c.requires.fresh.0 c.requires.fresh.1 c.requires.fresh.2;
  open_still = c.requires.told;
  grows = λ told. takes_none (g.K.Sink.taken c.args.sink.now);
  source = refl;
  sink = refl;
  later = omega arith;
  went_on = λ told. refl;
}

pub returns-in-Some-clause-performs : goal.returns-in-Some-clause-performs
returns-in-Some-clause-performs g c =
    rw c.in-Some.is at
    (c.in_ok-ended.ensures.performs.on (progress g.S.Source g.K.Sink g.D.Disk c.args.store.now c.args.source.now c.args.sink.now c.args.disk.now) c.turns.invariant.goes)

pub turns-preserved : goal.turns-preserved
turns-preserved g c = record {
  goes = search rules;
  open_still = search rules;
  grows = λ told.
      takes_on (g.K.Sink.taken c.args.sink.now) (g.K.Sink.taken c.turns.sink) (g.K.Sink.taken c.perform_next.new.sink) (c.turns.invariant.grows told) (c.perform_next.ensures.grows told);
  source = search rules;
  sink = search rules;
  later = let turn = c.perform_next.ensures.account.disk_later in omega (arith, c.turns.invariant.later, turn);
  went_on = λ told. (rw c.in_default.is at c.in_ok-ended.ensures.account).went_on (λ e. cc e) (λ e. cc e) told ∙ c.turns.invariant.went_on told;
}

pub returns-in_err-ended-clause-open : goal.returns-in_err-ended-clause-open
returns-in_err-ended-clause-open g c = λ told.
    handed_open c.from_residual.result c.in_err-ended.field-0.0 (session g.D.Disk c.perform_next.new.store c.perform_next.new.disk) c.from_residual.ensures.1 (c.in_err-ended.ensures.open told)

pub returns-in_err-ended-clause-grows : goal.returns-in_err-ended-clause-grows
returns-in_err-ended-clause-grows g c = λ told.
    takes_on (g.K.Sink.taken c.args.sink.now) (g.K.Sink.taken c.turns.sink) (g.K.Sink.taken c.perform_next.new.sink) (c.turns.invariant.grows told) (c.perform_next.ensures.grows told)

pub returns-in-Some-clause-grows : goal.returns-in-Some-clause-grows
returns-in-Some-clause-grows g c = λ told.
    takes_on (g.K.Sink.taken c.args.sink.now) (g.K.Sink.taken c.turns.sink) (g.K.Sink.taken c.perform_next.new.sink) (c.turns.invariant.grows told) (c.perform_next.ensures.grows told)
