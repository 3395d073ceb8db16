-- How a buffer is written in place.
use Rattle.std.specs.Prelude.{ℕ, List, length}
use Rattle.std.specs.List.{refill}
use Rattle.std.specs.Borrow.{Lends, MutBor, Fml, Array, u8}
use Rattle.cache_base.specs.contracts.buffer.Buffer.{the_row}

-- The buffer ends as the bytes that are left in the slice. A slice keeps its length, and at a list of that length
-- `refill` is the list.
abbrev pub LendsBytes : MutBor (List ℕ) → MutBor (List ℕ) → Fml
LendsBytes buffer slice =
    Lends the_row (Array u8 0) buffer slice (refill (length buffer.now) buffer.now)
