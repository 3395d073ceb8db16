use Rattle.disk_model.specs.MemState.{state_from}
use Rattle.disk_theory.proofs.Sound.{sound_renamed}
use Rattle.disk_model.proofs.mem_table.Table.rename.Goals as goal

pub step-requires : goal.step-requires
step-requires c = let t = c.args.self.now in sound_renamed c.args.from c.args.to (state_from t.slots t.steps.items t.files.items) t.sound
