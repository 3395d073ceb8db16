use Rattle.std.proofs.Common.{refl}
use Rattle.handle_tests.proofs.store.perform.Goals as goal

pub loop-preserved : goal.loop-preserved
loop-preserved g c = λ told. c.in_ok-last-in-Ok-Some.ensures.always.stays_open told refl
