-- A change of an entry: of its elements, one more use, or of its pin.
use Rattle.std.specs.Prelude.{Bool, List, None, Option, Some, if◌then◌else◌, length, nat_le, true, false, ℕ, ⊤, ◌&&◌, ◌*◌, ◌+◌, ◌/◌, ◌≡◌, ◌≤◌}
use Rattle.cache_base.specs.Limits.{chunks}
use Rattle.cache_base.specs.declared.limits.TheConstants.{BLOCK_MAX, ELEMENTS_MAX}
use Rattle.cache_theory.specs.Command.{Command}
use Rattle.cache_theory.specs.Command.Command.{Pin, Unpin}
use Rattle.entry_file.specs.Version.{Version}
use Rattle.entry_metadata.specs.Metadata.{block_length}
use Rattle.entry_parts.specs.Elements.{Element, elements_bytes}
use Rattle.entry_parts.specs.Header.{used_header}
use Rattle.entry_parts.specs.Setting.{set_fault, with_element, without_element}
use Rattle.entry_parts.specs.declared.header.Header.{Header}
use Rattle.frecency.specs.Frecency.{next as next_frecency}
use Rattle.index_record.specs.Filling.{bit_if}
use Rattle.handle_table.specs.Held.{body_len_in, key_in}
use Rattle.file_handles.specs.declared.change.Change.{Change}
use Rattle.file_handles.specs.declared.change.Change.TheVariants as change
use Rattle.handle_table.specs.declared.object.Entry.{Entry}
use Rattle.handle_table.specs.declared.object.Entry.TheVariants as entry

-- the elements after a change
abbrev pub changed_by : Change → List Element → List Element
changed_by (change.Set name value) es = with_element name.now value.now es
changed_by (change.Remove name) es = without_element name.now es
changed_by (change.Use now) es = es
changed_by (change.Pin pinned) es = es

-- the header after it: a use counts, and gives the frecency that follows; the pin is bit 0 of the flags
abbrev pub header_by : Change → Header → Header
header_by (change.Set name value) h = h
header_by (change.Remove name) h = h
header_by (change.Use now) h = used_header h now (next_frecency h.frecency now)
header_by (change.Pin pinned) h = record h { flags = h.flags / 2 * 2 + bit_if pinned 0 }

-- and the version
abbrev pub with_change : Change → Version → Version
with_change c v =
    record v { header = header_by c v.header; elements = changed_by c v.elements }

-- the element that a change sets, if it sets one, may be set
abbrev pub MaySet : Change → List Element → Type 0
MaySet (change.Set name value) es = set_fault name.now value.now es ≡ None
MaySet (change.Remove name) es = ⊤
MaySet (change.Use now) es = ⊤
MaySet (change.Pin pinned) es = ⊤

-- the entry has room for these elements
abbrev pub HasRoom : Entry → List Element → Type 0
HasRoom (entry.Draft d) es = length (elements_bytes es) ≤ ELEMENTS_MAX
HasRoom (entry.Finished meta) es =
    block_length (length meta.hashes) (length meta.key) (length (elements_bytes es)) ≤ BLOCK_MAX

-- the block of the entry is small with so many bytes of elements
abbrev pub has_small_block : Entry → ℕ → Bool
has_small_block x len = nat_le (block_length (chunks (body_len_in x)) (length (key_in x)) len) BLOCK_MAX

-- the elements are small, and so is the block of the entry with them
abbrev pub are_small : Entry → List Element → Bool
are_small x es =
    nat_le (length (elements_bytes es)) ELEMENTS_MAX && has_small_block x (length (elements_bytes es))

-- a length that is small
abbrev pub small_len : ℕ → Option ℕ
small_len n = if nat_le n ELEMENTS_MAX then Some n else None

-- the command that pins the entry of a slot, or that unpins it
abbrev pub pin_command : Bool → ℕ → Command
pin_command true slot = Pin slot
pin_command false slot = Unpin slot
