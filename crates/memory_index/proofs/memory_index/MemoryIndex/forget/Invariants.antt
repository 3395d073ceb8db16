use Rattle.std.proofs.Common.{◌≡◌, drop}
use Rattle.memory_index.proofs.Forgotten.{ForgetsRest}
use Rattle.memory_index.proofs.memory_index.MemoryIndex.forget.Given as goal

-- the names that are left complete the whole
abbrev pub invariant-loop-name : goal.invariant-loop-name
invariant-loop-name l = record {
  rest : l.self.update ≡ l.fn.self.update;
  forgets : ForgetsRest (drop l.name-index l.names) l.fn.names l.fn.self.map l.self.map;
}
