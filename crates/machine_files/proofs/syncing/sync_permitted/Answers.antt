use Rattle.std.proofs.Common.{Ok, true, refl, rules, subst}
use Rattle.std.specs.Fn.{FnReturnsAt}
use Rattle.machine_files.specs.Taken.{Succeeds}
use Rattle.machine_files.proofs.TakenLaws.{takes_all, takes_flagged}
use Rattle.machine_files.proofs.syncing.sync_permitted.Goals as goal

pub loop-first-preserved-in_ok-is_synced : goal.loop-first-preserved-in_ok-is_synced
loop-first-preserved-in_ok-is_synced g c =
    let first = c.in-Some.first.now in
    let returned : FnReturnsAt g.S.Fn c.args.sync first (Ok c.in_ok-is_synced.is_synced) = record { shown = c.in-Some.first; shows = refl; says = record { met = c.in_ok-is_synced.ensures } } in
    takes_flagged (λ key. Succeeds g.S.Fn c.args.sync key) (λ key. FnReturnsAt g.S.Fn c.args.sync key (Ok true)) c.args.listed c.loop-first.left c.pop_first.new.self first c.pop_first.result
    c.loop-first.is_whole c.both-is_whole.result
    c.loop-first.invariant
    (λ is. ((c.both-is_whole.ensures is).0, subst (λ answer. FnReturnsAt g.S.Fn c.args.sync first (Ok answer)) (c.both-is_whole.ensures is).1 returned))
    c.in-Some.ensures.first
    (record { answer = c.in_ok-is_synced.is_synced; returned = returned })
    (c.pop_first.ensures.variant.1 (c.first.ensures.variant.0 (search rules)))
    c.pop_first.ensures.removal

pub returns-clause-whole : goal.returns-clause-whole
returns-clause-whole g c = λ is.
    takes_all (λ key. FnReturnsAt g.S.Fn c.args.sync key (Ok true)) c.args.listed c.loop-first.left (c.loop-first.invariant.1 is) (search rules)
