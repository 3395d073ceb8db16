use Rattle.std.specs.Prelude.{Some}
use Rattle.memory_index.proofs.OneSet.{sets_one}
use Rattle.memory_index.proofs.memory_index.MemoryIndex.set.Goals as goal

pub returns : goal.returns
returns c = sets_one c.args.r.name (Some c.args.r) c.args.self.now c.set.new.self c.take_off.new.self c.in_ok-set.ensures.ok c.take_off.ensures
