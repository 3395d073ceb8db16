-- The checks of a metadata block, in order.
use Rattle.std.specs.Prelude.{ℕ, ◌≡◌, ◌==◌, ◌+◌, ◌-◌, ◌*◌, nat_le, nat_lt, Bool, ◌&&◌, if◌then◌else◌, List, [], ◌∷◌, length, drop, map, slice_index, slice_range, Option, Some}
use Rattle.std.specs.List.{range_with_len}
use Rattle.cache_base.specs.Bytes.{be16_at, be32_at}
use Rattle.cache_base.specs.Checks.{first_failing}
use Rattle.cache_base.specs.Limits.{chunks}
use Rattle.cache_base.specs.declared.limits.TheConstants.{BLOCK_MAX}
use Rattle.jenkins_hash.specs.Hash.{hash_of}
use Rattle.entry_key.specs.Walk.{read_key, reads}
use Rattle.entry_parts.specs.Elements.{elements_of, have_form}
use Rattle.entry_parts.specs.Header.{header_in}
use Rattle.entry_parts.specs.declared.header.Header.{Header}
use Rattle.entry_parts.specs.declared.header.TheConstants.{VERSION}
use Rattle.entry_metadata.specs.Metadata.{Meta}
use Rattle.entry_metadata.specs.declared.fault.MetaFault.{MetaFault}
use Rattle.entry_metadata.specs.declared.fault.MetaFault.TheVariants as faults

-- where the hash of chunk i stands in a block
abbrev pub hash_place : ℕ → ℕ
hash_place i = 4 + 2 * i

-- where the header begins in a block with h hashes of chunks: after the last of them
abbrev pub header_place : ℕ → ℕ
header_place h = hash_place h

-- how many bytes a header of this version has
unfoldable pub header_len : ℕ → ℕ
header_len version = if version == 1 then 28 else 32

-- where the key begins in such a block of this version
abbrev pub key_place : ℕ → ℕ → ℕ
key_place h version = header_place h + header_len version

-- how many bytes a block of this version has at most, so that it is not too big as version 3 either
unfoldable pub block_max : ℕ → ℕ
block_max version = if version == 1 then BLOCK_MAX - 4 else BLOCK_MAX

-- whether there is such a version
unfoldable pub is_version : ℕ → Bool
is_version version = nat_le 1 version && nat_le version VERSION

-- the header in these bytes: that of version 1 has no flags, and they are read as 0
abbrev pub stored_header : List ℕ → Header
stored_header xs = record (header_in xs) { flags = if be32_at xs 0 == 1 then 0 else be32_at xs 28 }

-- what the block of a body of this length says, if all its checks hold. It says so as version 3
unfoldable pub meta_in : List ℕ → ℕ → Meta
meta_in block offset =
    let h = chunks offset in
    let header = stored_header (drop (header_place h) block) in
    let key = key_place h header.version in
    record {
      header = record header { version = VERSION };
      key = slice_range block key (key + header.key_size);
      elements = elements_of (drop (key + header.key_size + 1) block);
      hashes = map (λ i. be16_at block (hash_place i)) (range_with_len 0 h);
      offset = offset;
    }

-- the checks of a block that says m, each with the fault where it fails
unfoldable pub checks_of : List ℕ → Meta → List (Bool × MetaFault)
checks_of block m =
    let h = chunks m.offset in
    let version = be32_at block (header_place h) in
    let key_end = key_place h version + m.header.key_size in
    (nat_le (header_place h + 29) (length block), faults.Short)
    ∷ (nat_le (length block) (block_max version), faults.TooBig)
    ∷ (is_version version, faults.Version)
    ∷ (nat_lt key_end (length block) && slice_index block key_end == 0, faults.KeyEnd)
    ∷ (be32_at block 0 == hash_of (drop 4 block), faults.Hash)
    ∷ (reads (read_key m.key), faults.KeyForm)
    ∷ (have_form (drop (key_end + 1) block), faults.Elements)
    ∷ []

-- the fault of the first failing check of the block of a body of this length
abbrev pub block_fault : List ℕ → ℕ → Option MetaFault
block_fault block offset = first_failing (checks_of block (meta_in block offset))

-- the fault is that of the first failing check, or says that memory ran out
abbrev pub IsFirstFault : List ℕ → ℕ → MetaFault → Type 0
IsFirstFault block offset faults.Memory = Unit {0}
IsFirstFault block offset f = block_fault block offset ≡ Some f
