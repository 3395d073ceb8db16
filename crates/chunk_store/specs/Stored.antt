-- How chunks stand in the file of an entry.
use Rattle.std.specs.Prelude.{ℕ, List, [], ◌∷◌, ◌++◌, ◌*◌, ◌-◌, ◌/◌, ◌==◌, if◌then◌else◌, min, length, take, replicate, Option}
use Rattle.cache_base.specs.Limits.{chunk_size}
use Rattle.disk_theory.specs.State.{part_of, Write}
use Rattle.disk_theory.specs.State.Write.{End}

-- the length of chunk i of a body of this length
abbrev pub chunk_len : ℕ → ℕ → ℕ
chunk_len len i = min chunk_size (len - i * chunk_size)

-- a part of a chunk, filled up with zeros to n bytes
abbrev pub filled_up : ℕ → List ℕ → List ℕ
filled_up n part = part ++ replicate (n - length part) 0

-- chunk i of a body of this length at the beginning of a file, as read: what the file does not have is zeros
abbrev pub read_as : ℕ → ℕ → Option (List ℕ) → List ℕ
read_as len i file = filled_up (chunk_len len i) (part_of (i * chunk_size) (chunk_len len i) file)

-- the mark of an unfinished entry, which stands after its last chunk
abbrev pub stop_tail : List ℕ
stop_tail = 255 ∷ 255 ∷ 255 ∷ 255 ∷ []

-- the write of chunk i at its place in a file that then ends with the stop tail
abbrev pub chunk_write : ℕ → List ℕ → Write
chunk_write i bytes = End (i * chunk_size) (bytes ++ stop_tail)

-- so many bytes of a body are in whole chunks
abbrev pub whole_len : List ℕ → ℕ
whole_len body = length body / chunk_size * chunk_size

-- the file of a body that is not finished: its whole chunks and the stop tail, or nothing where no chunk is whole
abbrev pub unfinished_file : List ℕ → List ℕ
unfinished_file body = if length body / chunk_size == 0 then [] else take (whole_len body) body ++ stop_tail
