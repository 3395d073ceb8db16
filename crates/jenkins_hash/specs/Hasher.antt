-- A hash of bytes that come in pieces.
use Rattle.std.specs.Prelude.{◌≡◌, ℕ, ◌%◌, ◌^◌, List, length, take}
use Rattle.jenkins_hash.specs.declared.hasher.Hasher.{Hasher}
use Rattle.jenkins_hash.specs.Hash.{absorb_all, start, tail}

-- the state was fed the bytes m: the words have taken in m's groups, the bytes after them are kept, and the length
-- is counted as far as the hash reads it
unfoldable pub WasFedBytes : Hasher → List ℕ → Type 0
WasFedBytes h m = (h.words ≡ absorb_all start m) × (take h.held h.group ≡ tail m) × (h.len ≡ length m % 2 ^ 32)
