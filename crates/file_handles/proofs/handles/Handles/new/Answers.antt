use Rattle.handle_table.specs.Kept.{kept_in}
use Rattle.file_handles.proofs.Begins.{begins}
use Rattle.file_handles.proofs.handles.Handles.new.Goals as goal

pub returns : goal.returns
returns c =
    let unused = c.in_ok-new.ensures in
    begins (kept_in c.in_ok-new.field-0) unused.no_objects unused.no_uses unused.none_made unused.no_chunks c.opens_proper.ensures
