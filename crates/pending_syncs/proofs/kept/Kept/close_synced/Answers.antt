use Rattle.pending_syncs.proofs.KeptLaws.{one_kept}
use Rattle.pending_syncs.proofs.kept.Kept.close_synced.Goals as goal

pub returns-in-Some : goal.returns-in-Some
returns-in-Some g c =
    let k = c.keep-outcome in
    one_kept k.result c.args.self.now (record { files = c.clear.new.self; idle = c.args.self.now.idle }) k.new.self c.in-Some.place c.in-Some.opened c.once_synced.result
    c.in-Some.ensures.value c.once_synced.ensures c.clear.ensures.empty k.ensures.kept k.ensures.closed k.ensures.others
