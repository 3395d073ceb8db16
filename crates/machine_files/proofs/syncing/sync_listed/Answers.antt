use Rattle.std.proofs.Common.{Ok}
use Rattle.std.specs.Fn.{FnReturnsAt}
use Rattle.machine_files.proofs.TakenLaws.{takes_all}
use Rattle.machine_files.proofs.syncing.sync_listed.Goals as goal

pub returns : goal.returns
returns g c =
    let s = c.in_ok-sync_each.ensures in
    record { each = takes_all (λ key. FnReturnsAt g.S.Fn c.args.sync key (Ok tt)) c.args.listed c.sync_each.new.pending s.synced s.all }
