-- When the store is open after a command.
use Rattle.std.proofs.Common.{List, ℕ, Option, Result, Ok, Err, refl}
use Rattle.cache_theory.specs.Command.{Command}
use Rattle.cache_theory.specs.Step.{step}
use Rattle.cache_store.specs.Open.{IsOpen, LeavesOpen}
use Rattle.cache_store.specs.Performing.{PerformsFor}
use Rattle.cache_store.specs.Session.{Session}
use Rattle.cache_replies.specs.declared.verdict.Verdict.{Verdict}
use Rattle.cache_store.specs.declared.fault.StoreFault.{StoreFault}
use Rattle.cache_store.specs.declared.fault.StoreFault.TheVariants as fault

-- with an answer it is open, and so it is where the sink failed
pub performs_open : (c : Command) (before after : Session) (taken now : Option (List ℕ)) (answer : Result Verdict StoreFault) → IsOpen before
    → PerformsFor c answer before after taken now → LeavesOpen answer after
performs_open c before after taken now (Ok o) was performs none =
    let done = performs.answers was.0 was.1 in ((step was.0 done.0).next, done.1.1.next)
performs_open c before after taken now (Err fault.Sink) was performs none =
    let done = performs.answers was.0 was.1 in ((step was.0 done.0).next, done.1.1.effect refl)
performs_open c before after taken now (Err fault.Disk) was performs none = absurd (cc)
performs_open c before after taken now (Err fault.Memory) was performs none = absurd (cc)
