-- The mark of a clearing: twelve bytes.
use Rattle.std.specs.Int.{from_be_bytes, to_be_bytes, w64}
use Rattle.std.specs.Prelude.{ℕ, ◌≡◌, ◌↔◌, ◌<◌, ◌^◌, ◌==◌, ◌&&◌, if◌then◌else◌, List, ◌++◌, length, take, Option, None, Some, IfSome, option_and_then}
use Rattle.cache_base.specs.Bytes.{AreBytes, be32, be32_at}
use Rattle.jenkins_hash.specs.Hash.{hash_of}

-- the hash of an origin as eight big-endian bytes
abbrev pub origin_bytes : ℕ → List ℕ
origin_bytes origin = to_be_bytes w64 origin

-- the mark of an origin: its hash, and the 32-bit hash of these eight bytes
unfoldable pub mark_bytes : ℕ → List ℕ
mark_bytes origin = origin_bytes origin ++ be32 (hash_of (origin_bytes origin))

-- the origin whose mark the bytes are: they are twelve, and the last four are the hash of the first eight
unfoldable pub marked_in : List ℕ → Option ℕ
marked_in xs = if length xs == 12 && be32_at xs 8 == hash_of (take 8 xs) then Some (from_be_bytes w64 xs) else None

-- the origin whose mark the file is, if there is a file and it is one
abbrev pub mark_of : Option (List ℕ) → Option ℕ
mark_of file = option_and_then marked_in file

-- there is a file, and it is the mark of this origin
abbrev pub IsMark : ℕ → Option (List ℕ) → Type 0
IsMark origin file = (origin < 2 ^ 64) × (file ≡ Some (mark_bytes origin))

-- an origin is found exactly where the file is its mark
abbrev pub TellsMark : Option (List ℕ) → Option ℕ → Type 0
TellsMark file found = (origin : ℕ) → (found ≡ Some origin) ↔ IsMark origin file

-- a mark is read as its origin
abbrev pub MarkIsRead : Type 0
MarkIsRead = (origin : ℕ) → origin < 2 ^ 64 → (length (mark_bytes origin) ≡ 12) × (marked_in (mark_bytes origin) ≡ Some origin)

-- bytes that are read as a mark are that of the origin
abbrev pub MarkIsSpelled : Type 0
MarkIsSpelled = (xs : List ℕ) → AreBytes xs → IfSome (marked_in xs) (λ origin. (origin < 2 ^ 64) × (mark_bytes origin ≡ xs))
