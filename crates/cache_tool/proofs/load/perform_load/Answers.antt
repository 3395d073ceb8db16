use Rattle.std.proofs.Common.{IsTrue, Ok}
use Rattle.cache_store.specs.Session.{session}
use Rattle.cache_store.specs.declared.fault.StoreFault.TheVariants as fault
use Rattle.cache_tool.proofs.Handed.{handed_on}
use Rattle.cache_tool.proofs.Loads.LoadEnds.{load_fails}
use Rattle.cache_tool.proofs.load.perform_load.Goals as goal

pub returns-in_err-say_loaded-in-Whole-clause-performs : goal.returns-in_err-say_loaded-in-Whole-clause-performs
returns-in_err-say_loaded-in-Whole-clause-performs g c =
    load_fails (IsTrue g.D.Disk.tells) (Ok c.in_ok-count.field-0) c.from_residual-in_err-say_loaded-in-Whole.result fault.Memory (g.S.Source.left c.args.source.now) (g.S.Source.left c.load_parts.new.source)
    (session g.D.Disk c.args.store.now c.args.disk.now) (session g.D.Disk c.load_parts.new.store c.load_parts.new.disk) (g.D.Disk.counts c.args.disk.now) (g.D.Disk.counts c.load_parts.new.disk) c.say_loaded.new.line
    (handed_on c.from_residual-in_err-say_loaded-in-Whole.result fault.Memory c.from_residual-in_err-say_loaded-in-Whole.ensures.1) c.in_ok-count.ensures.loads

pub returns-in_err-say_bad-in-Bad-clause-performs : goal.returns-in_err-say_bad-in-Bad-clause-performs
returns-in_err-say_bad-in-Bad-clause-performs g c =
    load_fails (IsTrue g.D.Disk.tells) (Ok c.in_ok-count.field-0) c.from_residual-in_err-say_bad-in-Bad.result fault.Memory (g.S.Source.left c.args.source.now) (g.S.Source.left c.load_parts.new.source)
    (session g.D.Disk c.args.store.now c.args.disk.now) (session g.D.Disk c.load_parts.new.store c.load_parts.new.disk) (g.D.Disk.counts c.args.disk.now) (g.D.Disk.counts c.load_parts.new.disk) c.say_bad.new.line
    (handed_on c.from_residual-in_err-say_bad-in-Bad.result fault.Memory c.from_residual-in_err-say_bad-in-Bad.ensures.1) c.in_ok-count.ensures.loads
