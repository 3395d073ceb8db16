use Rattle.pending_syncs.proofs.KeptSteps.{closes_one}
use Rattle.pending_syncs.specs.Kept.{IsSettled}
use Rattle.pending_syncs.proofs.kept.Kept.close_first.Goals as goal

pub returns : goal.returns
returns g c =
    closes_one (IsSettled g.R.Machine c.args.rt.now) c.args.self.now c.forget.new.self c.in-Some.place.now
    c.in_ok-sync_waiting.ensures c.forget.ensures.gone c.forget.ensures.others
