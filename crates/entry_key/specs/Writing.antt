-- Keys under which an entry may be written.
use Rattle.std.specs.Prelude.{ℕ, nat_lt, nat_le, ◌==◌, Bool, not, ◌&&◌, List, length}
use Rattle.std.specs.List.{list_all}
use Rattle.entry_key.specs.Walk.{read_key, reads}

-- a byte that is no zero byte and no newline
abbrev pub is_plain_byte : ℕ → Bool
is_plain_byte x = not (x == 0) && not (x == 10)

-- whether a key has 1 to 16,384 bytes, each of them plain, and reads
unfoldable pub may_write : List ℕ → Bool
may_write key = nat_lt 0 (length key) && nat_le (length key) 16384 && list_all is_plain_byte key && reads (read_key key)
