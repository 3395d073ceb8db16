use Rattle.std.proofs.Common.{Ok, refl, rules}
use Rattle.std.specs.Fn.{FnReturnsAt}
use Rattle.machine_files.proofs.TakenLaws.{takes_first}
use Rattle.machine_files.proofs.syncing.sync_each.Goals as goal

pub loop-first-preserved-in_ok-sync : goal.loop-first-preserved-in_ok-sync
loop-first-preserved-in_ok-sync g c =
    takes_first (λ key. FnReturnsAt g.S.Fn c.args.sync key (Ok tt)) c.args.pending.now c.loop-first.pending c.pop_first.new.self c.in-Some.first.now c.pop_first.result
    c.loop-first.invariant
    c.in-Some.ensures.first
    (record { shown = c.in-Some.first; shows = refl; says = record { met = c.in_ok-sync.ensures } })
    (c.pop_first.ensures.variant.1 (c.first.ensures.variant.0 (search rules)))
    c.pop_first.ensures.removal
