-- The chunks of a body and their hashes.
use Rattle.std.specs.List.{range_with_len}
use Rattle.std.specs.Prelude.{List, None, Option, Some, drop, filter_map, if◌then◌else◌, length, map, slice_index, take, ℕ, ◌*◌, ◌==◌}
use Rattle.cache_base.specs.Limits.{chunk_size, chunks}
use Rattle.chunk_store.specs.declared.damage.Damage.{Damage}
use Rattle.jenkins_hash.specs.Hash.{hash16_of}

-- chunk i of a body
abbrev pub chunk : List ℕ → ℕ → List ℕ
chunk body i = take chunk_size (drop (i * chunk_size) body)

-- the hash of a chunk with these bytes
abbrev pub chunk_hash_of : List ℕ → ℕ
chunk_hash_of bytes = hash16_of bytes

-- the hash of each chunk
abbrev pub chunk_hashes : List ℕ → List ℕ
chunk_hashes body = map (λ i. chunk_hash_of (chunk body i)) (range_with_len 0 (chunks (length body)))

-- the damage of chunk i, if its hash is not the stored one of these
abbrev pub damage_at : List ℕ → List ℕ → ℕ → Option Damage
damage_at hashes body i =
    if chunk_hash_of (chunk body i) == slice_index hashes i then None
    else Some (record { chunk = i; stored = slice_index hashes i; found = chunk_hash_of (chunk body i) })

-- the damages of the chunks of a body of this length, in order
unfoldable pub damages : List ℕ → ℕ → List ℕ → List Damage
damages hashes len body = filter_map (damage_at hashes body) (range_with_len 0 (chunks len))
