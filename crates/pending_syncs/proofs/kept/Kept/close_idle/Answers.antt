use Rattle.std.proofs.Common.{sym}
use Rattle.pending_syncs.proofs.KeptSteps.{closes_idle}
use Rattle.pending_syncs.proofs.kept.Kept.close_idle.Goals as goal

pub returns-then-not-is_unsynced : goal.returns-then-not-is_unsynced
returns-then-not-is_unsynced g c = closes_idle c.args.self.now c.forget.new.self c.in-Some.place (sym c.if-not-is_unsynced.ensures) c.forget.ensures.gone c.forget.ensures.others
