-- What stands at the beginning of the rest of a dump, by the lengths that are written there. A length is judged as
-- soon as its four bytes are there, and what it announces once that is whole.
use Rattle.std.specs.Prelude.{◌==◌, ◌||◌, ℕ, ◌+◌, nat_lt, if◌then◌else◌, min, List, length, take, drop, slice_index, nat_eq}
use Rattle.std.specs.Cmp.Lexicographic.{pointwise}
use Rattle.cache_base.specs.Bytes.{be32_at}
use Rattle.cache_base.specs.Limits.{chunk_size}
use Rattle.cache_base.specs.declared.limits.TheConstants.{BLOCK_MAX, BODY_MAX, KEY_MAX}
use Rattle.cache_export.specs.Dump.{head, head_len}
use Rattle.cache_export.specs.declared.front.Front.{Front}
use Rattle.cache_export.specs.declared.front.Front.TheVariants.{Whole, More, Bad}
use Rattle.cache_export.specs.declared.front.Due.{Due}
use Rattle.cache_export.specs.declared.front.Due.TheVariants as due
use Rattle.cache_export.specs.declared.limits.TheConstants.{DUMP_MAX}

-- a part of so many bytes, after so many of the dump
abbrev pub sized : ℕ → ℕ → List ℕ → Front
sized len used bytes =
    if nat_lt DUMP_MAX (used + len) then Bad
    else if nat_lt (length bytes) len then More
    else Whole len

-- a key after its length, which follow a byte 1
unfoldable pub key_front : ℕ → List ℕ → Front
key_front used bytes =
    if nat_lt (length bytes) 5 then More
    else if be32_at bytes 1 == 0 || nat_lt KEY_MAX (be32_at bytes 1) then Bad
    else sized (5 + be32_at bytes 1) used bytes

-- an item or the end
unfoldable pub item_front : ℕ → List ℕ → Front
item_front used bytes =
    if nat_lt DUMP_MAX (used + 1) then Bad
    else if length bytes == 0 then More
    else if slice_index bytes 0 == 0 then (if length bytes == 1 then More else Bad)
    else if slice_index bytes 0 == 1 then key_front used bytes
    else Bad

-- a block after its length
unfoldable pub block_front : ℕ → List ℕ → Front
block_front used bytes =
    if nat_lt DUMP_MAX (used + 4) then Bad
    else if nat_lt (length bytes) 4 then More
    else if nat_lt BLOCK_MAX (be32_at bytes 0) then Bad
    else sized (4 + be32_at bytes 0) used bytes

-- a piece, where so many bytes of the body are left, or the block where none are
unfoldable pub body_front : ℕ → ℕ → List ℕ → Front
body_front left used bytes = if left == 0 then block_front used bytes else sized (min chunk_size left) used bytes

-- the head, and what follows it
unfoldable pub head_front : ℕ → List ℕ → Front
head_front used bytes =
    if nat_lt (length bytes) head_len then More
    else if pointwise nat_eq (take head_len bytes) head then item_front (used + head_len) (drop head_len bytes)
    else Bad

-- the body's length, and what follows it
unfoldable pub length_front : ℕ → List ℕ → Front
length_front used bytes =
    if nat_lt DUMP_MAX (used + 4) then Bad
    else if nat_lt (length bytes) 4 then More
    else if nat_lt BODY_MAX (be32_at bytes 0) then Bad
    else body_front (be32_at bytes 0) (used + 4) (drop 4 bytes)

-- so many bytes stand before what is found
abbrev pub lead_len : Due → ℕ
lead_len due.Head = head_len
lead_len due.Item = 0
lead_len due.Length = 4
lead_len due.Body = 0

-- what is found, where this is due and so many bytes of a body are left
abbrev pub front_at : Due → ℕ → ℕ → List ℕ → Front
front_at due.Head left used bytes = head_front used bytes
front_at due.Item left used bytes = item_front used bytes
front_at due.Length left used bytes = length_front used bytes
front_at due.Body left used bytes = body_front left used bytes
