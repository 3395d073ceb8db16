-- How bytes are written in place.
use Rattle.std.specs.Prelude.{ℕ, List, length}
use Rattle.std.specs.List.{refill}
use Rattle.std.specs.Borrow.{Lends, MutBor, Fml, Array, u8}
use Rattle.cache_base.specs.contracts.items.Items.{the_row}

-- The list ends as the bytes that are left in the slice, which keeps its length.
abbrev pub LendsItems : MutBor (List ℕ) → MutBor (List ℕ) → Fml
LendsItems bytes slice =
    Lends (the_row u8) (Array u8 0) bytes slice (refill (length bytes.now) bytes.now)
