use Rattle.std.specs.Prelude.{None}
use Rattle.memory_index.proofs.OneSet.{sets_one}
use Rattle.memory_index.proofs.memory_index.MemoryIndex.remove.Goals as goal

pub returns : goal.returns
returns c = sets_one c.args.name.now None c.args.self.now c.remove.new.self c.take_off.new.self c.remove.ensures c.take_off.ensures
