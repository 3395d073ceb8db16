use Rattle.std.proofs.Common.{Option, None}
use Rattle.handle_table.specs.declared.object.Use.{Use}
use Rattle.handle_table.proofs.Unused.{same_in}
use Rattle.handle_table.proofs.table.no_uses.Goals as goal

pub returns : goal.returns
returns c = λ i lt. same_in {X = Option Use} 64 i None
