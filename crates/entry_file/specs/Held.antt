-- What a new entry holds, and what a buffer holds of a body that is gone through.
use Rattle.std.specs.Prelude.{IfSome, List, Option, take, ℕ, ◌-◌, ◌<◌, ◌≡◌}
use Rattle.chunk_store.specs.Chunks.{chunk}
use Rattle.entry_file.specs.NewEntry.{Growing}
use Rattle.entry_file.specs.declared.new_entry.NewEntry.{NewEntry}

-- what is held of the body of a new entry
abbrev pub held : NewEntry → Growing
held e = record { hashes = e.hashes; rest = e.rest }

-- the bytes are the last of the first n chunks of a body of `offset` bytes at the beginning of a file, where n is not 0
abbrev pub IsLastOf : ℕ → Option (List ℕ) → ℕ → List ℕ → Type 0
IsLastOf n file offset bytes = 0 < n → IfSome file (λ content. bytes ≡ chunk (take offset content) (n - 1))
