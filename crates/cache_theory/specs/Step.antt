-- One step of the machine for each command.
use Rattle.std.specs.Prelude.{Bool, List, None, Option, Some, [], drop, false, filter, if◌then◌else◌, is_none, is_some, length, not, slice_get, slice_set, take, true, unwrap_or, ℕ, ◌&&◌, ◌==◌, ◌*◌, ◌++◌, ◌+◌, ◌/◌, ◌||◌, ◌∷◌}
use Rattle.std.specs.Str.{bytes_eq}
use Rattle.alt_data.specs.AltData.{Alt, main_body}
use Rattle.cache_base.specs.Checks.{first_failing}
use Rattle.cache_base.specs.declared.name.Name.{Name}
use Rattle.cache_check.specs.Findings.{findings}
use Rattle.cache_export.specs.Dumped.{dumped}
use Rattle.cache_theory.specs.Checks.{alt_in_version, checks, with_alt_data, with_parts, with_value}
use Rattle.cache_theory.specs.Command.{Command, Reply}
use Rattle.cache_theory.specs.Command.Command.{At, Create, OpenKey, Append, Finish, FinishAs, SetElement, UnsetElement, ElementOf, UseEntry, Pin, Unpin, PutAlt, ReadPart, Close, Doom, Get, GetAlt, MainBody, HasEntry, HasGiven, ListRecords, ListGiven, Evict, EvictNames, ClearOrigin, ClearNames, Resume, ResumeNames, Flush, StepUpdate, UpdateState, Verify, VerifyRecords, Rebuild, Dump}
use Rattle.cache_theory.specs.Command.Reply.{Done, Refused, NoneThere, Value, Part, Found, AltData, Main, Yes, No, Unknown, Records, Evicted, Cleared, Resumed, Ready, Updating, Findings, Rebuilt, Dumped}
use Rattle.cache_theory.specs.Covers.{cleared, resumed}
use Rattle.cache_theory.specs.Machine.{Machine, Object, Slot, has_slots, is_writer, nobody, number_of, object_of, on_shelf, open_names, used_by, waits_for, writing_names}
use Rattle.cache_theory.specs.Table.{get, insert, remove}
use Rattle.cache_theory.specs.declared.refusal.Refusal.{Refusal}
use Rattle.cache_theory.specs.declared.refusal.Refusal.TheVariants as refused
use Rattle.context_clear.specs.Mark.{mark_of}
use Rattle.entry_file.specs.EntryFile.{Reading, fits}
use Rattle.entry_file.specs.EntryFile.Reading.{Whole, Damaged, Nothing}
use Rattle.entry_file.specs.Version.{Version, file_of}
use Rattle.entry_name.specs.EntryName.{file_name}
use Rattle.entry_parts.specs.Elements.{Element, element}
use Rattle.entry_parts.specs.Setting.{without_element}
use Rattle.entry_parts.specs.Header.{fresh_header, used_header}
use Rattle.entry_parts.specs.declared.header.Header.{Header}
use Rattle.evictor.specs.Evict.{victims}
use Rattle.frecency.specs.Frecency.{next as next_frecency}
use Rattle.index_record.specs.Filling.{bit_if}
use Rattle.index_theory.specs.Scan.{scan}

-- the names without one
abbrev pub without : List ℕ → List (List ℕ) → List (List ℕ)
without name names = filter (λ n. not (bytes_eq n name)) names

-- the object of this number is o now; where it is finished and not doomed its file is on the shelf
abbrev pub stored : Machine → ℕ → Object → Machine
stored m i o =
    let name = file_name o.version.key in
    let stands = o.finished && not o.doomed in
    record m {
      objects = slice_set m.objects i o;
      shelf = if stands then insert m.shelf name (file_of o.version) else m.shelf;
      rest = if stands then without name m.rest else m.rest;
    }

-- the objects with one of them doomed, if there is one
abbrev pub doomed_at : List Object → Option ℕ → List Object
doomed_at objects None = objects
doomed_at objects (Some i) = slice_set objects i (record (unwrap_or (slice_get objects i) nobody) { doomed = true })

-- what stands under a name is doomed
abbrev pub doomed_under : Machine → List ℕ → Machine
doomed_under m name = record m {
  shelf = remove m.shelf name;
  in_use = remove m.in_use name;
  objects = doomed_at m.objects (get m.in_use name);
  rest = without name m.rest;
}

-- the slots with one of them given this use, or none
abbrev pub with_slot : ℕ → Option Slot → (ℕ → Option Slot) → ℕ → Option Slot
with_slot s slot slots t = if t == s then slot else slots t

-- a new object under the name of its key, in the slot
abbrev pub entered : Machine → ℕ → Bool → Object → Machine
entered m s writes o = record m {
  objects = m.objects ++ o ∷ [];
  in_use = insert m.in_use (file_name o.version.key) (length m.objects);
  slots = with_slot s (Some (record { object = length m.objects; writes = writes })) m.slots;
}

-- a new entry
abbrev pub fresh : ℕ → List ℕ → Object
fresh now key = record {
  version = record { header = fresh_header now (length key); key = key; elements = []; body = [] };
  finished = false;
  doomed = false;
}

-- a reader of the object in use, or of the entry on the shelf
abbrev pub joined : Machine → ℕ → Option ℕ → Reading → Machine
joined m s (Some i) r = record m { slots = with_slot s (Some (record { object = i; writes = false })) m.slots }
joined m s None (Whole v) = entered m s false (record { version = v; finished = true; doomed = false })
joined m s None (Damaged d) = m
joined m s None Nothing = m

-- the slot is given up; an undoomed object without slots is no longer in use
abbrev pub released : Machine → ℕ → Machine
released m s =
    let after = record m { slots = with_slot s None m.slots } in
    let o = object_of m s in
    if has_slots after (number_of m s) || o.doomed then after
    else record after { in_use = remove m.in_use (file_name o.version.key) }

-- the object of a slot with its version changed
abbrev pub changed : Machine → ℕ → (Version → Version) → Machine
changed m s f = let o = object_of m s in stored m (number_of m s) (record o { version = f o.version })

-- the version after one more use at a moment
abbrev pub used : ℕ → Version → Version
used now v = record v { header = used_header v.header now (next_frecency v.header.frecency now) }

-- the version with its pinned bit set or not; the other flags stay
abbrev pub with_pin : Bool → Version → Version
with_pin pinned v = record v { header = record v.header { flags = v.header.flags / 2 * 2 + bit_if pinned 0 } }

-- a writer's unfinished object is finished
abbrev pub finished_by : Machine → ℕ → Machine
finished_by m s = let o = object_of m s in if is_writer m s && not o.finished then stored m (number_of m s) (record o { finished = true }) else m

-- an object finished with this header and these elements
abbrev pub finished_as : Header → List Element → Object → Object
finished_as header elements o = record o { finished = true; version = with_parts header elements o.version }

-- the update of the index has read the first names of its rest, so many or all
abbrev pub update_stepped : Machine → ℕ → Machine
update_stepped m n = record m { rest = drop n m.rest }

-- it has read all of them, and so has ended
abbrev pub update_ended : Machine → Machine
update_ended m = record m { rest = [] }

-- no mark stands
abbrev pub unmarked : Machine → Machine
unmarked m = record m { mark = None }

-- what stands under each of these names is doomed
abbrev pub all_doomed : Machine → List Name → Machine
all_doomed m [] = m
all_doomed m (name ∷ names) = all_doomed (doomed_under m name.0) names

-- a clearing of these names: the update ends, they are doomed, and no mark is left
abbrev pub cleared_of : Machine → List Name → Machine
cleared_of m names = all_doomed (update_ended (unmarked m)) names

-- the clearing is done whose mark stands, if one does; what else stands there is removed
abbrev pub resumed_by_mark : Machine → Machine
resumed_by_mark m = if is_some (mark_of m.mark) then cleared_of m (resumed m) else unmarked m

-- the names that have to go, so that the entries take at most so many KB
unfoldable pub evicted : Machine → ℕ → List Name
evicted m kb = victims (scan m.shelf) (open_names m) kb

-- the machine after a command, and the reply
pub record Answer : Type 0 where
  pub next : Machine
  pub reply : Reply

-- this machine, and this reply
abbrev pub answer : Machine → Reply → Answer
answer m r = record { next = m; reply = r }

-- the value of an element, as the reply
abbrev pub element_reply : Option (List ℕ) → Reply
element_reply None = NoneThere
element_reply (Some value) = Value value

-- what is found under a key, as the reply
abbrev pub found_reply : Reading → Reply
found_reply (Whole v) = Found v
found_reply (Damaged d) = Refused (refused.Damaged d)
found_reply Nothing = Refused refused.Absent

-- the alternative data of a version, as the reply
abbrev pub alt_reply_of : Version → Option Alt → Reply
alt_reply_of v None = Refused refused.NoAlt
alt_reply_of v (Some alt) = AltData alt (drop alt.offset v.body)

-- the alternative data of what is found under a key, as the reply
abbrev pub alt_reply : Reading → Reply
alt_reply (Whole v) = alt_reply_of v (alt_in_version v)
alt_reply (Damaged d) = Refused (refused.Damaged d)
alt_reply Nothing = Refused refused.Absent

-- the main body of a version, as the reply
abbrev pub main_reply_of : Version → Reply
main_reply_of v = Main (main_body (alt_in_version v) v.body)

-- the main body of what is found under a key, as the reply
abbrev pub main_reply : Reading → Reply
main_reply (Whole v) = main_reply_of v
main_reply (Damaged d) = Refused (refused.Damaged d)
main_reply Nothing = Refused refused.Absent

-- whether a content stands there that fits under the name
abbrev pub fits_there : List ℕ → Option (List ℕ) → Bool
fits_there name None = false
fits_there name (Some content) = fits name content

-- whether there is an entry, which is unknown of a name that the update has still to read
abbrev pub has_reply : Machine → List ℕ → Bool → Reply
has_reply m name there = if waits_for m name then Unknown else if there then Yes else No

-- how far the update is, by the names that it has still to read
abbrev pub state_reply : List (List ℕ) → Reply
state_reply [] = Ready
state_reply names = Updating (length names)

-- what a command does whose checks hold
unfoldable pub effect : Machine → Command → Answer
effect m (At now) = answer (record m { moment = now }) Done
effect m (Create s key) = answer (entered (doomed_under m (file_name key)) s true (fresh m.moment key)) Done
effect m (OpenKey s key) = answer (joined m s (used_by m key) (on_shelf m key)) Done
effect m (Append s bytes) = answer (changed m s (λ v. record v { body = v.body ++ bytes })) Done
effect m (Finish s) = answer (finished_by m s) Done
effect m (FinishAs s header elements) = answer (stored m (number_of m s) (finished_as header elements (object_of m s))) Done
effect m (SetElement s name value) = answer (changed m s (with_value name value)) Done
effect m (UnsetElement s name) =
    if is_none (element name (object_of m s).version.elements) then answer m NoneThere
    else answer (changed m s (λ v. record v { elements = without_element name v.elements })) Done
effect m (ElementOf s name) = answer m (element_reply (element name (object_of m s).version.elements))
effect m (UseEntry s) = answer (changed m s (used m.moment)) Done
effect m (Pin s) = answer (changed m s (with_pin true)) Done
effect m (Unpin s) = answer (changed m s (with_pin false)) Done
effect m (PutAlt s kind bytes) = answer (changed m s (with_alt_data kind bytes)) Done
effect m (ReadPart s from len) = answer m (Part (take len (drop from (object_of m s).version.body)))
effect m (Close s) = answer (released (finished_by m s) s) Done
effect m (Doom key) = answer (doomed_under m (file_name key)) Done
effect m (Get key) = answer m (found_reply (on_shelf m key))
effect m (GetAlt key) = answer m (alt_reply (on_shelf m key))
effect m (MainBody key) = answer m (main_reply (on_shelf m key))
effect m (HasEntry key) = answer m (has_reply m (file_name key) (fits_there (file_name key) (get m.shelf (file_name key))))
effect m (HasGiven key there) = answer m (has_reply m (file_name key) there)
effect m ListRecords = answer (update_ended m) (Records (scan m.shelf))
effect m (ListGiven records) = answer (update_ended m) (Records records)
effect m (Evict kb) = answer (all_doomed (update_ended m) (evicted m kb)) (Evicted (evicted m kb))
effect m (EvictNames names) = answer (all_doomed (update_ended m) names) (Evicted names)
effect m (ClearOrigin origin) = answer (cleared_of m (cleared m origin)) (Cleared (length (cleared m origin)))
effect m (ClearNames names) = answer (cleared_of m names) (Cleared (length names))
effect m Resume = answer (resumed_by_mark m) Resumed
effect m (ResumeNames names) = answer (cleared_of m names) Resumed
effect m Flush = answer m Done
effect m (StepUpdate n) = answer (update_stepped m n) (state_reply (drop n m.rest))
effect m UpdateState = answer m (state_reply m.rest)
effect m Verify = answer (update_ended m) (Findings (findings m.shelf (scan m.shelf) (writing_names m)))
effect m (VerifyRecords records) = answer (update_ended m) (Findings (findings m.shelf records (writing_names m)))
effect m Rebuild = answer (update_ended m) (Rebuilt (length (scan m.shelf)))
effect m Dump = answer (update_ended m) (Dumped (dumped m.shelf))

-- one step: the first failing check is the reply, and then nothing changes
abbrev pub stepped : Machine → Command → Option Refusal → Answer
stepped m c None = effect m c
stepped m c (Some r) = answer m (Refused r)

-- the step of the machine for a command
abbrev pub step : Machine → Command → Answer
step m c = stepped m c (first_failing (checks m c))

-- the machine after commands
abbrev pub after : Machine → List Command → Machine
after m [] = m
after m (c ∷ cs) = after (step m c).next cs

-- the replies to commands
abbrev pub replies : Machine → List Command → List Reply
replies m [] = []
replies m (c ∷ cs) = (step m c).reply ∷ replies (step m c).next cs
