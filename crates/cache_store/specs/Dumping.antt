-- What of a file is dumped, and what stands after so many bytes of a dump.
use Rattle.std.specs.Prelude.{Bool, List, None, Option, Some, [], filter, flat_map, if◌then◌else◌, length, nat_le, nat_lt, not, ℕ, ◌&&◌, ◌+◌, ◌++◌, ◌≡◌}
use Rattle.cache_base.specs.declared.limits.TheConstants.{BODY_MAX}
use Rattle.cache_export.specs.Dump.{back_bytes, front_bytes, item_bytes}
use Rattle.cache_export.specs.Dumped.{may_dump, versions_in, within}
use Rattle.cache_export.specs.declared.limits.TheConstants.{DUMP_MAX}
use Rattle.cache_replies.specs.Said.{Saying}
use Rattle.cache_replies.specs.Saying.{SaysMore}
use Rattle.cache_theory.specs.Table.{Table}
use Rattle.entry_file.specs.EntryFile.{read, whole_in}
use Rattle.entry_file.specs.Version.{Version}
use Rattle.entry_key.specs.Writing.{may_write}
use Rattle.entry_metadata.specs.Metadata.{Meta, block_bytes}

-- an entry with these metadata may be dumped, if it is whole
abbrev pub may_dump_as : Meta → Bool
may_dump_as m = may_write m.key && nat_le m.offset BODY_MAX

-- its item, with this body
abbrev pub item_with : Meta → List ℕ → List ℕ
item_with m body = front_bytes m.key m.offset ++ (body ++ back_bytes (block_bytes m))

-- the length of its item
abbrev pub item_length : Meta → ℕ
item_length m = length (front_bytes m.key m.offset) + (m.offset + length (back_bytes (block_bytes m)))

-- what a file adds to a dump: so many bytes, which are these; or it ends it, since it would make it too long
pub record Turn : Type 0 where
  pub len : Option ℕ
  pub text : List ℕ

-- it adds nothing
abbrev pub adds_nothing : Turn
adds_nothing = record { len = Some 0; text = [] }

-- a version adds its item where it may be dumped, with so many bytes of the dump before it
abbrev pub turn_of : ℕ → Version → Turn
turn_of used v =
    if not (may_dump v) then adds_nothing
    else if nat_lt DUMP_MAX (used + length (item_bytes v) + 1) then record { len = None; text = [] }
    else record { len = Some (length (item_bytes v)); text = item_bytes v }

-- so does a version that was found, and where none was, nothing is added
abbrev pub turn_for : ℕ → Option Version → Turn
turn_for used None = adds_nothing
turn_for used (Some v) = turn_of used v

-- and what stands under a name adds what the version does that is found there
abbrev pub turn_at : ℕ → List ℕ → Option (List ℕ) → Turn
turn_at used name None = adds_nothing
turn_at used name (Some c) = turn_for used (whole_in (read name c))

-- a turn was taken: it was told how many bytes it added, and they were said
pub record TakesTurn (turn : Turn) (len : Option ℕ) (was now : Saying) : Type 0 where
  pub told : len ≡ turn.len
  pub says : SaysMore was now turn.text

-- the items of these files, with so many bytes of the dump before them
abbrev pub items_from : ℕ → Table (List ℕ) → List ℕ
items_from used files = flat_map item_bytes (within used (filter may_dump (versions_in files)))
