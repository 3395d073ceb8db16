-- The checks of a command, in order: the first that fails is the refusal.
use Rattle.std.specs.Prelude.{Bool, List, None, Option, Some, [], codes, is_none, is_some, length, nat_le, nat_lt, not, option_map, true, false, unwrap_or, ℕ, ◌&&◌, ◌+◌, ◌++◌, ◌||◌, ◌∷◌}
use Rattle.alt_data.specs.AltData.{Alt, alt_of, is_kind, with_alt}
use Rattle.cache_base.specs.Limits.{chunks}
use Rattle.cache_base.specs.declared.limits.TheConstants.{BLOCK_MAX, BODY_MAX, ELEMENTS_MAX}
use Rattle.cache_theory.specs.Command.{Command}
use Rattle.cache_theory.specs.Command.Command.{Create, OpenKey, Append, Finish, FinishAs, SetElement, UnsetElement, ElementOf, UseEntry, Pin, Unpin, PutAlt, ReadPart, Close, Doom, Get, GetAlt, MainBody, HasEntry, HasGiven}
use Rattle.cache_theory.specs.Machine.{Machine, is_entry, is_slot, is_writer, object, object_of, on_shelf, used_by}
use Rattle.cache_theory.specs.declared.refusal.Refusal.{Refusal}
use Rattle.cache_theory.specs.declared.refusal.Refusal.TheVariants as refused
use Rattle.entry_file.specs.EntryFile.{Reading}
use Rattle.entry_file.specs.EntryFile.Reading.{Whole, Damaged, Nothing}
use Rattle.entry_file.specs.Version.{Version}
use Rattle.entry_key.specs.Writing.{may_write}
use Rattle.entry_metadata.specs.Metadata.{block_length}
use Rattle.entry_parts.specs.Elements.{Element, element, elements_bytes}
use Rattle.entry_parts.specs.Setting.{has_zero, with_element}
use Rattle.entry_parts.specs.declared.header.Header.{Header}
use Rattle.entry_parts.specs.declared.header.TheConstants.{VERSION}

-- a check: it holds, or the command is refused so
abbrev pub Check : Type 0
Check = Bool × Refusal

-- the slot is free
abbrev pub slot_free : Machine → ℕ → Check
slot_free m s = (not (is_slot m s), refused.SlotTaken)

-- the slot is in use
abbrev pub slot_used : Machine → ℕ → Check
slot_used m s = (is_slot m s, refused.NoSlot)

-- an entry may be written under this key
abbrev pub good_key : List ℕ → Check
good_key key = (may_write key, refused.BadKey)

-- the slot is its object's writer
abbrev pub writer : Machine → ℕ → Check
writer m s = (is_writer m s, refused.NotWriter)

-- the entry of the slot is not finished
abbrev pub unfinished : Machine → ℕ → Check
unfinished m s = (not (object_of m s).finished, refused.Finished)

-- the entry of the slot is finished
abbrev pub finished : Machine → ℕ → Check
finished m s = ((object_of m s).finished, refused.Unfinished)

-- the elements of an unfinished entry are its writer's alone
abbrev pub may_set : Machine → ℕ → Check
may_set m s = (is_writer m s || (object_of m s).finished, refused.NotWriter)

-- an undoomed object of the key is in use, or a file of it stands
abbrev pub there : Machine → List ℕ → Check
there m key = (is_some (used_by m key) || is_entry (on_shelf m key), refused.Absent)

-- each chunk has its stored hash
abbrev pub undamaged : Reading → Check
undamaged (Damaged d) = (false, refused.Damaged d)
undamaged (Whole v) = (true, refused.Absent)
undamaged Nothing = (true, refused.Absent)

-- an object in use is joined as it is, and is not checked again
abbrev pub unless_used : Option ℕ → Check → Check
unless_used None check = check
unless_used (Some i) check = (true, check.1)

-- no undoomed object of the key is being written
abbrev pub not_writing : Machine → List ℕ → Check
not_writing m key = (unwrap_or (option_map (λ i. (object m i).finished) (used_by m key)) true, refused.Unfinished)

-- a body with so many bytes more is not too large
abbrev pub room_for : Machine → ℕ → ℕ → Check
room_for m s more = (nat_le (length (object_of m s).version.body + more) BODY_MAX, refused.TooLarge)

-- the version with an element set
abbrev pub with_value : List ℕ → List ℕ → Version → Version
with_value name value v = record v { elements = with_element name value v.elements }

-- an element may have this name and this value
abbrev pub good_element : List ℕ → List ℕ → Check
good_element name value = (nat_lt 0 (length name) && not (has_zero name) && not (has_zero value), refused.BadElement)

-- no element tells of alternative data yet
abbrev pub no_alt : Machine → ℕ → Check
no_alt m s = (is_none (element (codes "alt-data") (object_of m s).version.elements), refused.HasAlt)

-- alternative data may be of this kind
abbrev pub good_kind : List ℕ → Check
good_kind kind = (is_kind kind, refused.BadElement)

-- the version with alternative data of this kind after its body
abbrev pub with_alt_data : List ℕ → List ℕ → Version → Version
with_alt_data kind bytes v = record v { body = v.body ++ bytes; elements = with_alt v.body kind v.elements }

-- the alternative data of a version
abbrev pub alt_in_version : Version → Option Alt
alt_in_version v = alt_of v.elements (length v.body)

-- the entry has alternative data
abbrev pub has_alt : Reading → Check
has_alt (Whole v) = (is_some (alt_in_version v), refused.NoAlt)
has_alt (Damaged d) = (true, refused.NoAlt)
has_alt Nothing = (true, refused.NoAlt)

-- the version with this header and these elements, as one that is written: in version 3 of the format, and with its
-- key's length
abbrev pub with_parts : Header → List Element → Version → Version
with_parts header elements v = record v { header = record header { version = VERSION; key_size = length v.key }; elements = elements }

-- the block of a version is not too large
abbrev pub small_block : Version → Check
small_block v = (
  nat_le (block_length (chunks (length v.body)) (length v.key) (length (elements_bytes v.elements))) BLOCK_MAX,
  refused.TooLarge,
)

-- the elements of a version, and its block, are not too large
abbrev pub small_parts : Version → Check
small_parts v = (
  nat_le (length (elements_bytes v.elements)) ELEMENTS_MAX
      && nat_le (block_length (chunks (length v.body)) (length v.key) (length (elements_bytes v.elements))) BLOCK_MAX,
  refused.TooLarge,
)

-- the checks of each command
unfoldable pub checks : Machine → Command → List Check
checks m (Create s key) = slot_free m s ∷ good_key key ∷ []
checks m (OpenKey s key) = slot_free m s ∷ good_key key ∷ there m key ∷ unless_used (used_by m key) (undamaged (on_shelf m key)) ∷ []
checks m (Append s bytes) = slot_used m s ∷ writer m s ∷ unfinished m s ∷ room_for m s (length bytes) ∷ []
checks m (Finish s) = slot_used m s ∷ writer m s ∷ unfinished m s ∷ []
checks m (FinishAs s header elements) =
    slot_used m s ∷ writer m s ∷ unfinished m s ∷ small_block (with_parts header elements (object_of m s).version) ∷ []
checks m (SetElement s name value) = slot_used m s ∷ may_set m s ∷ good_element name value ∷ small_parts (with_value name value (object_of m s).version) ∷ []
checks m (UnsetElement s name) = slot_used m s ∷ may_set m s ∷ []
checks m (ElementOf s name) = slot_used m s ∷ []
checks m (UseEntry s) = slot_used m s ∷ []
checks m (Pin s) = slot_used m s ∷ writer m s ∷ []
checks m (Unpin s) = slot_used m s ∷ writer m s ∷ []
checks m (PutAlt s kind bytes) =
    slot_used m s ∷ writer m s ∷ finished m s ∷ no_alt m s ∷ good_kind kind ∷ room_for m s (length bytes)
    ∷ small_parts (with_alt_data kind bytes (object_of m s).version) ∷ []
checks m (ReadPart s from len) = slot_used m s ∷ []
checks m (Close s) = slot_used m s ∷ []
checks m (Doom key) = good_key key ∷ there m key ∷ []
checks m (Get key) = good_key key ∷ not_writing m key ∷ there m key ∷ undamaged (on_shelf m key) ∷ []
checks m (GetAlt key) = good_key key ∷ not_writing m key ∷ there m key ∷ undamaged (on_shelf m key) ∷ has_alt (on_shelf m key) ∷ []
checks m (MainBody key) = good_key key ∷ not_writing m key ∷ there m key ∷ undamaged (on_shelf m key) ∷ []
checks m (HasEntry key) = good_key key ∷ []
checks m (HasGiven key there) = good_key key ∷ []
-- the others are never refused
checks m _ = []
