use Rattle.std.proofs.Common.{◌≡◌, ap, Err, Ok, rules, subst, sym}
use Rattle.cache_script.specs.Command.{command_of}
use Rattle.cache_store.specs.CommandCall.{PerformsCommand}
use Rattle.cache_store.specs.Session.{open_of, session}
use Rattle.cache_store.specs.declared.fault.StoreFault.TheVariants as fault
use Rattle.cache_store.proofs.Performing.Stays.{open_still}
use Rattle.cache_store.proofs.store.Store.command.Goals as goal

-- ---- the line was said, or failed

pub returns-in_err-say_fault-clause-always : goal.returns-in_err-say_fault-clause-always
returns-in_err-say_fault-clause-always g c =
    let always = c.attempt-answered.ensures.always in
    record {
      stays_open = λ told none.
          open_still (session g.D.Disk c.args.self.now c.args.disk.now) (open_of c.attempt-answered.new.self) (open_of c.say_fault.new.self) (g.D.Disk.state c.attempt-answered.new.disk) c.say_fault.ensures.open
          (c.attempt-answered.ensures.stays c.if-self.true told) (c.requires.told told);
      grows = search rules;
      honest = always.honest;
      stopped = always.stopped;
      ordered = always.ordered;
      at_clear = always.at_clear;
      takes = always.takes;
      unsynced = always.unsynced;
      syncs = always.syncs;
      looks = always.looks;
      held = always.held;
      unfinished = always.unfinished;
      chunks = search rules;
      sink = search rules;
    }

pub returns-then-self-clause-always : goal.returns-then-self-clause-always
returns-then-self-clause-always g c =
    let always = c.attempt-answered.ensures.always in
    record {
      stays_open = λ told none.
          open_still (session g.D.Disk c.args.self.now c.args.disk.now) (open_of c.attempt-answered.new.self) (open_of c.say_fault.new.self) (g.D.Disk.state c.attempt-answered.new.disk) c.say_fault.ensures.open
          (c.attempt-answered.ensures.stays c.if-self.true told) (c.requires.told told);
      grows = search rules;
      honest = always.honest;
      stopped = always.stopped;
      ordered = always.ordered;
      at_clear = always.at_clear;
      takes = always.takes;
      unsynced = always.unsynced;
      syncs = always.syncs;
      looks = always.looks;
      held = always.held;
      unfinished = always.unfinished;
      chunks = search rules;
      sink = search rules;
    }

-- ---- the outcome is the verdict

pub returns-in-Ok-clause-does : goal.returns-in-Ok-clause-does
returns-in-Ok-clause-does g c = λ calm.
    subst (λ v. PerformsCommand g.D.Disk g.K.Sink (command_of c.args.c.now) (Ok v) c.args.self.now c.attempt-answered.new.self c.args.disk.now c.attempt-answered.new.disk c.args.sink.now c.attempt-answered.new.sink)
    (sym c.outcome_of.ensures.same) c.in-Ok.ensures.does

pub returns-in-Err-clause-does : goal.returns-in-Err-clause-does
returns-in-Err-clause-does g c = λ calm. c.in-Err.ensures.does

pub returns-in-Err-clause-fails : goal.returns-in-Err-clause-fails
returns-in-Err-clause-fails g c other failed told =
    let same : c.in-Err.fault ≡ fault.Disk = cc in
    c.in-Err.ensures.fails c.if-self.false other (ap Err same) told
