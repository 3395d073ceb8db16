-- When bytes may be appended to a body.
use Rattle.std.specs.Prelude.{Err, List, Ok, Result, Some, if◌then◌else◌, length, nat_le, ℕ, ◌%◌, ◌+◌, ◌<◌, ◌≡◌}
use Rattle.cache_base.specs.Limits.{chunk_size}
use Rattle.cache_base.specs.declared.limits.TheConstants.{BODY_MAX}
use Rattle.cache_theory.specs.Command.Command.{Append}
use Rattle.cache_theory.specs.Machine.{Machine, object_of}
use Rattle.cache_theory.specs.Proper.{IsProper}
use Rattle.cache_theory.specs.Step.{step}
use Rattle.cache_theory.specs.declared.refusal.Refusal.{Refusal}
use Rattle.cache_theory.specs.declared.refusal.Refusal.TheVariants as refused
use Rattle.entry_file.specs.Held.{held}
use Rattle.entry_file.specs.NewEntry.{grown_len}
use Rattle.file_handles.specs.Answers.{done_or}
use Rattle.handle_table.specs.Kept.{Kept}
use Rattle.handle_table.specs.Standing.{HandlesStand}
use Rattle.file_handles.specs.declared.fault.HandleFault.{HandleFault}
use Rattle.handle_table.specs.declared.object.Entry.{Entry}
use Rattle.handle_table.specs.declared.object.Entry.TheVariants as entry

-- the first reason why so many bytes may not be appended to an entry
abbrev pub grow_fault : Entry → ℕ → Result (Unit {0}) Refusal
grow_fault (entry.Finished meta) more = Err refused.Finished
grow_fault (entry.Draft d) more =
    if nat_le (grown_len (held d.body) + more) BODY_MAX then Ok tt else Err refused.TooLarge

-- the bytes fit into what is left of the last chunk of the slot's body, and do not fill it
abbrev pub FitsInChunk : Machine → ℕ → List ℕ → Type 0
FitsInChunk m slot bytes =
    length (object_of m slot).version.body % chunk_size + length bytes < chunk_size

-- for every machine that the handles stand for in which they fit, the answer is the machine's reply
abbrev pub AnswersInChunk : Kept → ℕ → List ℕ → Result (Unit {0}) HandleFault → Type 0
AnswersInChunk k slot bytes answer =
    (m : Machine) (number : ℕ → ℕ) → IsProper m → HandlesStand k m number → FitsInChunk m slot bytes
    → done_or answer ≡ Some (step m (Append slot bytes)).reply
