use Rattle.std.proofs.Common.{◌≡◌, rules}
use Rattle.disk_theory.specs.State.{renamed}
use Rattle.disk_theory.specs.Calls.{if_done}
use Rattle.disk_theory.specs.declared.place.Place.TheVariants.{Entry, Doomed}
use Rattle.doom_area.proofs.LeastFree.{for_least}
use Rattle.doom_area.proofs.dooming.doom.Goals as goal

pub returns-in_err-rename-clause-state : goal.returns-in_err-rename-clause-state
returns-in_err-rename-clause-state g c = λ number least tells.
    let old = g.D.Disk.state c.args.disk.now in
    for_least (λ n. g.D.Disk.state c.rename.new.self ≡ if_done c.from_residual.result (renamed (Entry c.args.name.now) (Doomed n) old) old)
    c.args.in_use.now _ number c.least-number.ensures least (search rules)

pub returns-clause-state : goal.returns-clause-state
returns-clause-state g c = λ number least tells.
    let old = g.D.Disk.state c.args.disk.now in
    for_least (λ n. g.D.Disk.state c.rename.new.self ≡ renamed (Entry c.args.name.now) (Doomed n) old)
    c.args.in_use.now _ number c.least-number.ensures least (c.in_ok-rename.ensures.state tells)
