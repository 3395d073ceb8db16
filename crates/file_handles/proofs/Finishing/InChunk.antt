-- Bytes that do not fill the chunk that a draft holds.
use Rattle.std.proofs.Common.{◌≡◌, ℕ, ◌+◌, ◌%◌, ◌<◌, ◌≤◌, List, length, None, ap, arith}
use Rattle.cache_base.specs.Checks.{first_failing}
use Rattle.cache_base.specs.declared.limits.TheConstants.{SLOTS}
use Rattle.cache_theory.specs.Checks.{checks}
use Rattle.cache_theory.specs.Command.Command.{Append}
use Rattle.cache_theory.specs.Command.Reply.{Done}
use Rattle.cache_theory.specs.Machine.{Machine, Object as MachineObject, object_of}
use Rattle.cache_theory.specs.Step.{effect, step, stepped}
use Rattle.entry_file.specs.Held.{held}
use Rattle.entry_file.proofs.Bodies.{rest_long}
use Rattle.file_handles.specs.Growing.{FitsInChunk}
use Rattle.handle_table.specs.Held.{IsEntryOf, rest_in}
use Rattle.handle_table.specs.Kept.{Kept}
use Rattle.handle_table.specs.Refuses.{HasAt}
use Rattle.handle_table.specs.Standing.{HandlesStand}
use Rattle.handle_table.specs.declared.object.Entry.{Entry}
use Rattle.handle_table.specs.declared.object.Entry.TheVariants as entry
use Rattle.handle_table.specs.declared.object.Object.{Object}
use Rattle.file_handles.proofs.Setting.ElementSlots.{there_held, there_object}

-- what is not on the disk of a body is no more than what its last chunk has
rest_within : (x : Entry) (o : MachineObject) → IsEntryOf x o → length (rest_in x) ≤ length o.version.body % 262144
rest_within (entry.Draft d) o is =
    let long = rest_long (held d.body) o.version.body is.1.body in omega (arith, long)
rest_within (entry.Finished meta) o is = omega arith

-- so bytes that fit into that chunk fit after it
pub fits_held : (k : Kept) (m : Machine) (number : ℕ → ℕ) → HandlesStand k m number → (slot : ℕ) → slot < SLOTS → (p : ℕ) (x : Object) → HasAt k slot p x
    → (bytes : List ℕ) → FitsInChunk m slot bytes → length (rest_in x.entry) + length bytes < 262144
fits_held k m number stand slot small p x has bytes fits =
    let le = rest_within x.entry _ (there_held k m number stand slot small p x has).held_entry in
    let same = ap (λ (o : MachineObject). length o.version.body % 262144) (there_object k m number stand slot small p x has) in
    let under : length (object_of m slot).version.body % 262144 + length bytes < 262144 = fits in
    omega (arith, le, same, under)

-- the reply where the checks hold
pub appends_done : (m : Machine) (slot : ℕ) (bytes : List ℕ) → first_failing (checks m (Append slot bytes)) ≡ None → (step m (Append slot bytes)).reply ≡ Done
unfolding effect
appends_done m slot bytes fine = ap (λ o. (stepped m (Append slot bytes) o).reply) fine
