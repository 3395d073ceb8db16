use Rattle.std.proofs.Common.{◌<◌, inl, refl}
use Rattle.std.proofs.lemmas.Result.{IfOk-weaker}
use Rattle.cache_base.specs.declared.limits.TheConstants.{SLOTS}
use Rattle.doom_area.specs.DoomArea.{IsLeastFree}
use Rattle.handle_table.proofs.LowNumbers.{least_low}
use Rattle.file_handles.proofs.TakingSteps.{moved_takes}
use Rattle.file_handles.proofs.doom.set_aside.Goals as goal

pub returns-in-None-clause-low : goal.returns-in-None-clause-low
returns-in-None-clause-low g c low =
    IfOk-weaker c.doom.result (IsLeastFree c.args.in_use.now) (λ number. number < SLOTS) (λ number least. least_low c.args.in_use.now number least c.requires.few) c.doom.ensures.number

pub returns-in-None-clause-takes : goal.returns-in-None-clause-takes
returns-in-None-clause-takes g c told =
    moved_takes c.doom.result (g.D.Disk.state c.args.disk.now) (g.D.Disk.state c.doom.new.disk) c.args.name.now c.args.in_use.now (λ number least. c.doom.ensures.state number least told)

pub returns-in-Some-clause-takes : goal.returns-in-Some-clause-takes
returns-in-Some-clause-takes g c told = inl refl
