-- Handles of which a part is lent.
use Rattle.std.specs.Borrow.{Fml, MutBor}
use Rattle.std.specs.Io.BufRead.{Rests}
use Rattle.handle_table.specs.Kept.{Kept}
use Rattle.file_handles.specs.Kept.{kept}
use Rattle.file_handles.specs.contracts.handles.Handles.{the_row}
use Rattle.file_handles.specs.declared.handles.Handles.{Handles}

-- once the part is given back, this holds of what they keep
abbrev pub RestsWith : MutBor Handles → (Kept → Type 0) → Fml
RestsWith handles P = Rests the_row handles (λ new. P (kept new))
