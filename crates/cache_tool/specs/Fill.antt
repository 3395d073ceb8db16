-- The commands of a `fill`.
use Rattle.std.specs.List.{range_with_len}
use Rattle.std.specs.Prelude.{List, [], codes, decimal, map, min, zero, suc, ℕ, ◌*◌, ◌+◌, ◌++◌, ◌-◌, ◌/◌, ◌%◌, ◌^◌, ◌∷◌}
use Rattle.cache_theory.specs.Command.{Command}
use Rattle.cache_theory.specs.Command.Command.{Append, At, Close, Create, Evict, Flush, ListRecords, Verify}

-- the numbers that follow one another
abbrev pub next_number : ℕ → ℕ
next_number x = (1103515245 * x + 12345) % 2 ^ 31

-- the number of the entry after so many others
abbrev pub number_at : ℕ → ℕ → ℕ
number_at first zero = first
number_at first (suc i) = next_number (number_at first i)

-- the moment of the entry with a number
abbrev pub moment_of : ℕ → ℕ → ℕ
moment_of now i = min (now + i) (2 ^ 32 - 1)

-- its key
abbrev pub key_of : ℕ → List ℕ
key_of i = codes ":https://fill.example/" ++ decimal i

-- its body, whose length follows from the number x
abbrev pub body_of : ℕ → ℕ → List ℕ
body_of i x = map (λ j. (i + j) % 256) (range_with_len 0 (x / 2 ^ 16))

-- it is made
abbrev pub entry_commands : ℕ → ℕ → ℕ → List Command
entry_commands now i x =
    At (moment_of now i) ∷ (Create 0 (key_of i) ∷ (Append 0 (body_of i x) ∷ (Close 0 ∷ [])))

-- and so are the first of them
abbrev pub entries_commands : ℕ → ℕ → ℕ → List Command
entries_commands now first zero = []
entries_commands now first (suc i) =
    entries_commands now first i ++ entry_commands now i (number_at first (suc i))

-- so many entries are made and synced
abbrev pub making_commands : ℕ → ℕ → ℕ → List Command
making_commands now count first = entries_commands now first count ++ Flush ∷ []

-- half the sum of the sizes in KB, as far as a number of 32 bits goes
abbrev pub half_of : ℕ → ℕ
half_of kb = min (kb / 2) (2 ^ 32 - 1)

-- half of all is evicted, and all is checked and listed
abbrev pub halving_commands : ℕ → List Command
halving_commands kb = Evict (half_of kb) ∷ (Verify ∷ (ListRecords ∷ []))
