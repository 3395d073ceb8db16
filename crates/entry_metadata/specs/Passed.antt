-- What is known of a block before its elements are read.
use Rattle.std.specs.Prelude.{ℕ, ◌≡◌, ◌<◌, ◌≤◌, ◌+◌, true, if◌then◌else◌, List, length, drop, slice_range, None, Some}
use Rattle.cache_base.specs.Limits.{chunks}
use Rattle.entry_key.specs.Walk.{read_key, reads}
use Rattle.entry_metadata.specs.Checks.{block_fault, block_max, header_place, is_version, key_place, stored_header}
use Rattle.entry_metadata.specs.declared.fault.MetaFault.TheVariants.{Elements}
use Rattle.entry_parts.specs.Elements.{have_form}
use Rattle.entry_parts.specs.declared.header.Header.{Header}

-- a block with this header and so many hashes of chunks passes all checks before that of its elements
pub record PassedAt (block : List ℕ) (offset count : ℕ) (h : Header) : Type 0 where
  pub header : h ≡ stored_header (drop (header_place count) block)
  pub version : is_version h.version ≡ true
  pub within : key_place count h.version + h.key_size < length block
  pub small : length block ≤ block_max h.version
  pub grammar : reads (read_key (slice_range block
      (key_place count h.version) (key_place count h.version + h.key_size))) ≡ true
  pub fault : block_fault block offset
      ≡ (if have_form (drop (key_place count h.version + h.key_size + 1) block) then None
      else Some Elements)

-- the same of the block of a body of this length
abbrev pub Passed : List ℕ → ℕ → Header → Type 0
Passed block offset h = PassedAt block offset (chunks offset) h
