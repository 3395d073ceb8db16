use Rattle.std.proofs.Common.{refl}
use Rattle.handle_table.proofs.Unused.{none_at}
use Rattle.handle_table.proofs.table.HandleTable.new.Goals as goal

pub returns : goal.returns
returns c = record {
  no_objects = λ p. none_at c.no_objects.result p c.no_objects.ensures;
  no_uses = λ s. none_at c.no_uses.result s c.no_uses.ensures;
  none_made = refl;
  no_chunks = c.in_ok-new.ensures;
}
