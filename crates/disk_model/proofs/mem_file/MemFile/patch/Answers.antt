use Rattle.std.proofs.Common.{arith, subst}
use Rattle.std.proofs.lemmas.Grind.{common_steps}
use Rattle.cache_base.specs.Bytes.{AreBytes}
use Rattle.disk_model.proofs.mem_file.MemFile.patch.Goals as goal

pub invariant_of-self : goal.invariant_of-self
invariant_of-self c = record {
  are_bytes = subst AreBytes c.deref.ensures.value c.bytes_fit.ensures;
  is_current = grind (arith, common_steps);
  is_shortest = grind (arith, common_steps);
  is_longest = grind (arith, common_steps);
  is_least = grind (arith, common_steps);
}
