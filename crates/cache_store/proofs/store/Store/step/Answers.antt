use Rattle.file_handles.specs.Kept.{kept}
use Rattle.cache_store.proofs.Records.IndexAchieves.{fails_sparing, spares_same, step_achieves}
use Rattle.cache_store.proofs.Performing.Stays.{look_stays, noted_exactly}
use Rattle.cache_store.specs.Faults.{of_disk}
use Rattle.cache_store.specs.Session.{session}
use Rattle.cache_theory.specs.Command.Command.{StepUpdate}
use Rattle.std.proofs.Common.{◌≡◌, Err}
use Rattle.cache_store.proofs.store.Store.step.Goals as goal

pub returns-in-Ok-clause-does : goal.returns-in-Ok-clause-does
returns-in-Ok-clause-does g c = λ told.
    step_achieves c.args.n c.state_of.result (kept c.args.self.now.handles) c.args.self.now.moment (g.D.Disk.state c.args.disk.now) (g.D.Disk.state c.step.new.disk) c.args.self.now.index c.step.new.self
    (c.in-Ok.ensures.looks.state told) c.in-Ok.ensures.base c.in-Ok.ensures.rest (c.in-Ok.ensures.tells told) c.state_of.ensures.reply

pub returns-in-Err-clause-does : goal.returns-in-Err-clause-does
returns-in-Err-clause-does g c = λ told.
    fails_sparing (StepUpdate c.args.n) (Err c.look_fault.result) (λ f. f ≡ of_disk c.in-Err.fault) (session g.D.Disk c.args.self.now c.args.disk.now) _ c.look_fault.ensures.fault
    (λ apart. spares_same (g.D.Disk.state c.args.disk.now) (g.D.Disk.state c.step.new.disk) (c.in-Err.ensures.looks.state told))

pub returns-in-Err-clause-stays : goal.returns-in-Err-clause-stays
returns-in-Err-clause-stays g c = λ noted told.
    look_stays (kept c.args.self.now.handles) c.args.self.now.moment (g.D.Disk.state c.args.disk.now) (g.D.Disk.state c.step.new.disk) c.args.self.now.index c.step.new.self
    (c.in-Err.ensures.looks.state told) c.in-Err.ensures.base c.in-Err.ensures.left (c.in-Err.ensures.tells told)

pub returns-in-Err-clause-faulted : goal.returns-in-Err-clause-faulted
returns-in-Err-clause-faulted g c = noted_exactly c.in-Err.fault c.look_fault.result c.look_fault.new.faulting c.look_fault.ensures.fault c.look_fault.ensures.faulting
