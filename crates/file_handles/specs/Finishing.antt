-- With which header and elements an entry is finished.
use Rattle.std.specs.Prelude.{List, None, Option, Some, if◌then◌else◌, length, ℕ}
use Rattle.cache_base.specs.Bytes.{AreBytes}
use Rattle.cache_theory.specs.Command.{Command}
use Rattle.cache_theory.specs.Command.Command.{Finish, FinishAs}
use Rattle.cache_theory.specs.Machine.{Object as MachineObject}
use Rattle.cache_theory.specs.Step.{finished_as}
use Rattle.cache_theory.specs.declared.refusal.Refusal.{Refusal}
use Rattle.cache_theory.specs.declared.refusal.Refusal.TheVariants as refused
use Rattle.disk_theory.specs.Account.{no_sync, one_sync}
use Rattle.entry_parts.specs.Elements.{AreElements, elements_bytes}
use Rattle.entry_parts.specs.Header.{IsHeader}
use Rattle.entry_parts.specs.declared.header.TheConstants.{VERSION}
use Rattle.file_handles.specs.Changes.{completed}
use Rattle.handle_table.specs.Held.{is_draft}
use Rattle.file_handles.specs.Setting.{has_small_block}
use Rattle.handle_table.specs.declared.object.Entry.{Entry}
use Rattle.handle_table.specs.declared.object.Object.{Object}
use Rattle.handle_table.specs.declared.object.Parts.{Parts}

-- the command that finishes the entry of a slot with the parts that are given, or else with its own
abbrev pub finish_command : Option Parts → ℕ → Command
finish_command None slot = Finish slot
finish_command (Some parts) slot = FinishAs slot parts.header parts.elements

-- the machine's object that is finished so
abbrev pub completed_by : Option Parts → MachineObject → MachineObject
completed_by None = completed
completed_by (Some parts) = finished_as parts.header parts.elements

-- the parts that are written after a body of this key: those that are given, in version 3 of the format and with the
-- key's length, or else its own
abbrev pub parts_by : Option Parts → List ℕ → Parts → Parts
parts_by None key own = own
parts_by (Some parts) key own =
    record { header = record parts.header { version = VERSION; key_size = length key }; elements = parts.elements }

-- the block of the entry is too large with the parts that are given
abbrev pub size_fault : Entry → Option Parts → Option Refusal
size_fault x None = None
size_fault x (Some parts) =
    if has_small_block x (length (elements_bytes parts.elements)) then None else Some refused.TooLarge

-- the first reason why an entry may not be finished so, if there is one
abbrev pub finish_fault : Entry → Option Parts → Option Refusal
finish_fault x given = if is_draft x then size_fault x given else Some refused.Finished

-- the most calls of the disk that finishing an object takes: one write, and a sync and a renaming unless it is doomed
abbrev pub finish_calls : Object → ℕ
finish_calls x = if x.doomed then 1 else 3

-- the most syncs that finishing what stands in a place takes: one, and none where it is doomed
abbrev pub finish_syncs : Option Object → ℕ
finish_syncs None = no_sync
finish_syncs (Some x) = if x.doomed then no_sync else one_sync

-- the numbers and the bytes of the parts are such
pub record AreParts (parts : Parts) : Type 0 where
  pub header : IsHeader parts.header
  pub elements : AreElements parts.elements
  pub bytes : AreBytes (elements_bytes parts.elements)
