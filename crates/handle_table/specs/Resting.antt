-- A table of which a part is lent.
use Rattle.std.specs.Borrow.{Fml, MutBor}
use Rattle.std.specs.Io.BufRead.{Rests}
use Rattle.handle_table.specs.Kept.{Kept, kept_in}
use Rattle.handle_table.specs.contracts.table.HandleTable.{the_row}
use Rattle.handle_table.specs.declared.table.HandleTable.{HandleTable}

-- once the part is given back, this holds of what it keeps
abbrev pub TableRests : MutBor HandleTable → (Kept → Type 0) → Fml
TableRests table P = Rests the_row table (λ new. P (kept_in new))
