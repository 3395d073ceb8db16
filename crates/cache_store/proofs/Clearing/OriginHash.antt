-- The hash of an origin has 64 bits.
use Rattle.std.proofs.Common.{ℕ, zero, suc, List, length, ◌<◌, ◌^◌, ◌/◌}
use Rattle.std.specs.Int.{to_be_bytes, w32}
use Rattle.std.specs.Prelude.{slice_index}
use Rattle.cache_base.specs.Bytes.{AreBytes}
use Rattle.cache_base.proofs.ByteLaws.{small64}
use Rattle.cache_theory.proofs.CrashImages.FileBytes.{bytes-append, bytes_be32}
use Rattle.entry_key.specs.Tags.{value_hash}
use Rattle.sha1.specs.Sha1.{digest_bytes, hash_after, padded_message, sha1}

-- a digest is bytes
digest_is_bytes : (h : List ℕ) (n : ℕ) → AreBytes (digest_bytes h n)
unfolding digest_bytes
digest_is_bytes h zero = tt
digest_is_bytes h (suc n) = bytes-append (digest_bytes h n) (to_be_bytes w32 (slice_index h n)) (digest_is_bytes h n) (bytes_be32 (slice_index h n))

sha1_is_bytes : (value : List ℕ) → AreBytes (sha1 value)
unfolding sha1
sha1_is_bytes value = digest_is_bytes (hash_after (padded_message value) (length (padded_message value) / 64)) 5

pub value_hash_small : (value : List ℕ) → value_hash value < 2 ^ 64
unfolding value_hash
value_hash_small value = small64 (sha1 value) (sha1_is_bytes value)
