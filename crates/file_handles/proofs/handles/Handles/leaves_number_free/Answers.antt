use Rattle.std.proofs.Common.{arith}
use Rattle.file_handles.specs.Kept.{kept}
use Rattle.file_handles.proofs.Dooming.LowNumbers.{high_is_free}
use Rattle.file_handles.proofs.handles.Handles.leaves_number_free.Goals as goal

pub returns : goal.returns
returns c = high_is_free (kept c.args.self.now) c.args.self.now.table.rows.are_low 64 (omega arith)
