-- The chunk hashes of a body that a file begins with.
use Rattle.std.specs.Prelude.{ℕ, ◌≡◌, ◌≤◌, ◌++◌, List, length, take, Option, None, Some}
use Rattle.chunk_store.specs.Chunks.{chunk_hashes}

-- a file stands there, and the chunks of its first n bytes have these hashes
abbrev pub HasChunks : Option (List ℕ) → ℕ → List ℕ → Type 0
HasChunks None n hashes = ⊥
HasChunks (Some c) n hashes = (n ≤ length c) × (hashes ≡ chunk_hashes (take n c))

-- a file stands there, and the chunks of its first n bytes, with more bytes after them, have these hashes
abbrev pub HasChunksWith : Option (List ℕ) → ℕ → List ℕ → List ℕ → Type 0
HasChunksWith None n more hashes = ⊥
HasChunksWith (Some c) n more hashes = (n ≤ length c) × (hashes ≡ chunk_hashes (take n c ++ more))
