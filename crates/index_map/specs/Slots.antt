-- The slots of a map: one for each name, held without the name.
use Rattle.std.specs.List.{IsDistinct, cons_option, filter_map}
use Rattle.std.specs.Map.{keys_of, lookup, values_of}
use Rattle.std.specs.Option.{option_eq, option_map, option_map_or}
use Rattle.std.specs.Prelude.{All, Bool, IfSome, List, None, Option, Some, [], false, if◌then◌else◌, is_some, length, map, not, option_and_then, sum_by, true, ℕ, ◌<◌, ◌∷◌, ◌^◌, ◌||◌, ◌≡◌}
use Rattle.cache_base.specs.Names as names
use Rattle.cache_base.specs.Numbers.{one_if}
use Rattle.cache_base.specs.declared.name.Name.{Name}
use Rattle.index_record.specs.Record.{size_kb}
use Rattle.index_record.specs.declared.record.IndexRecord.{IndexRecord}
use Rattle.record_list.specs.Change.{change, record_eq}
use Rattle.record_list.specs.Lists.{AreSorted, same_name}
use Rattle.index_map.specs.Known.{ArePlain, IsPlain, Known}
use Rattle.index_map.specs.declared.slot.Facts.{Facts}
use Rattle.index_map.specs.declared.slot.Held.{Held}
use Rattle.index_map.specs.declared.counts.Counts.{Counts}
use Rattle.index_map.specs.declared.mark.Mark.{Mark}
use Rattle.index_map.specs.declared.mark.Mark.TheVariants.{Away, Gone, Seen, Unseen}

-- what is known under a name: the record now, whether it was seen, and the record of the base
pub record Slot : Type 0 where
  pub current : Option IndexRecord
  pub seen : Bool
  pub base : Option IndexRecord

-- a record without its name
abbrev pub facts_of : IndexRecord → Facts
facts_of r = record { origin = r.origin; frecency = r.frecency; flags = r.flags; on_start = r.on_start; on_stop = r.on_stop; content = r.content }

-- the record of a name
abbrev pub record_of : Name → Facts → IndexRecord
record_of name f = record { name = name; frecency = f.frecency; origin = f.origin; on_start = f.on_start; on_stop = f.on_stop; content = f.content; flags = f.flags }

-- the slot that is held under a name
abbrev pub slot_of : Name → Held → Slot
slot_of name held = record { current = option_map (record_of name) held.current; seen = held.seen; base = option_map (record_of name) held.base }

-- the slots of a table
abbrev pub slots_of : List (Name × Held) → List (Name × Slot)
slots_of table = map (λ e. (e.0, slot_of e.0 e.1)) table

-- a held slot under a name that none has: what it adds to the counts is the same under each
abbrev pub bare : Held → Slot
bare held = slot_of (record { 0 = [] }) held

-- the record of a slot that was seen
abbrev pub seen_of : Slot → Option IndexRecord
seen_of slot = if slot.seen then slot.current else None

-- the records now in slots
abbrev pub current_in : List Slot → List IndexRecord
current_in slots = filter_map (λ slot. slot.current) slots

-- those of them that were seen
abbrev pub seen_in : List Slot → List IndexRecord
seen_in slots = filter_map seen_of slots

-- the records of the base in slots
abbrev pub base_in : List Slot → List IndexRecord
base_in slots = filter_map (λ slot. slot.base) slots

-- what a map with this table shows
abbrev pub shown : List (Name × Slot) → Bool → Known
shown table has_base = record {
  records = current_in (values_of table);
  seen = seen_in (values_of table);
  base = base_in (values_of table);
  has_base = has_base;
}

-- whether the record now differs from the base's
abbrev pub differs : Slot → Bool
differs slot = not (option_eq record_eq slot.base slot.current)

-- what a journal has to say of a name with this record in the base, or none, and this one now, or none
abbrev pub change_of : Option IndexRecord → Option IndexRecord → Option IndexRecord
change_of None now = now
change_of (Some b) now = change b.name (Some b) now

-- what a journal has to say of a slot
abbrev pub change_in : Slot → Option IndexRecord
change_in slot = change_of slot.base slot.current

-- what a slot adds to the number of records
abbrev pub records_of : Slot → ℕ
records_of slot = one_if (is_some slot.current)

-- what a slot adds to the sum of the sizes in KB
abbrev pub kilobytes_of : Slot → ℕ
kilobytes_of slot = option_map_or size_kb slot.current 0

-- what a slot adds to the number of names that changed
abbrev pub changed_of : Slot → ℕ
changed_of slot = one_if (differs slot)

-- the counts of slots
abbrev pub counts_of : List Slot → Counts
counts_of slots = record {
  records = sum_by records_of slots;
  kilobytes = sum_by kilobytes_of slots;
  changed = sum_by changed_of slots;
}

-- counts that can be added up
pub record AreSmall (n : Counts) : Type 0 where
  pub records : n.records < 2 ^ 63
  pub kilobytes : n.kilobytes < 2 ^ 127
  pub changed : n.changed < 2 ^ 63

-- counts of a list of which three can be added up
pub record AreFew (n : Counts) : Type 0 where
  pub records : n.records < 2 ^ 62
  pub kilobytes : n.kilobytes < 2 ^ 126
  pub changed : n.changed < 2 ^ 62

-- a slot holds records of its own name, and that of now is not removed, dirty or fresh
pub record IsSlotOf (name : Name) (slot : Slot) : Type 0 where
  pub current : IfSome slot.current (λ r. (r.name ≡ name) × IsPlain r)
  pub base : IfSome slot.base (λ r. r.name ≡ name)

-- what is true of every table
pub record IsTable (table : List (Name × Slot)) : Type 0 where
  pub distinct : IsDistinct same_name (keys_of table)
  pub own : All (λ e. IsSlotOf e.0 e.1) table

-- under this name stands this slot, or none; all else is as before
abbrev pub PutsSlot : List (Name × Slot) → List (Name × Slot) → Name → Option Slot → Type 0
PutsSlot old new name slot = (q : Name) → lookup (same_name q) new ≡ (if same_name name q then slot else lookup (same_name q) old)

-- a slot without its record now where that was not seen
abbrev pub seen_only : Slot → Slot
seen_only slot = record slot { current = seen_of slot }

-- a slot whose record now is the base's, too
abbrev pub written : Slot → Slot
written slot = record slot { base = slot.current }

-- whether a slot holds a record
abbrev pub is_used : Slot → Bool
is_used slot = is_some slot.current || is_some slot.base

-- the same three of what is held: without an unseen record now
abbrev pub seen_held : Held → Held
seen_held held = record held { current = if held.seen then held.current else None }

-- with the record now as the base's
abbrev pub written_held : Held → Held
written_held held = record held { base = held.current }

-- whether it holds a record
abbrev pub is_held : Held → Bool
is_held held = is_some held.current || is_some held.base

-- the slots, rewritten, that hold a record then
abbrev pub kept_slot : (Slot → Slot) → Slot → Option Slot
kept_slot change slot = if is_used (change slot) then Some (change slot) else None

-- the table with its slots rewritten, without those that hold no record then
abbrev pub rewritten : (Slot → Slot) → List (Name × Slot) → List (Name × Slot)
rewritten change table = filter_map (λ e. option_map (λ slot. (e.0, slot)) (kept_slot change e.1)) table

-- the slot of a record now, over the slot that stood there
abbrev pub record_slot : IndexRecord → Bool → Option Slot → Slot
record_slot r seen old = record { current = Some r; seen = seen; base = option_and_then (λ slot. slot.base) old }

-- the slot of a record that is in the base and now
abbrev pub base_slot : Bool → IndexRecord → Slot
base_slot seen r = record { current = Some r; seen = seen; base = Some r }

-- ---- the list of the base

-- the slot of a record of the base with this mark: the record now is the base's, or there is none, or its slot stands
-- in the table
abbrev pub marked : IndexRecord → Mark → Option Slot
marked r Unseen = Some (base_slot false r)
marked r Seen = Some (base_slot true r)
marked r Gone = Some (record { current = None; seen = false; base = Some r })
marked r Away = None

-- the slots of a list of records, each with its mark
abbrev pub marked_in : List IndexRecord → List Mark → List (Name × Slot)
marked_in [] marks = []
marked_in (r ∷ rs) [] = []
marked_in (r ∷ rs) (m ∷ marks) = cons_option (option_map (λ slot. (r.name, slot)) (marked r m)) (marked_in rs marks)

-- the mark of a record that begins seen or not
abbrev pub first_mark : Bool → Mark
first_mark seen = if seen then Seen else Unseen

-- what a slot adds, if there is one
abbrev pub weigh : (Slot → ℕ) → Option Slot → ℕ
weigh f slot = option_map_or f slot 0

-- the list of the base: records in name order, none of which is removed, dirty or fresh, each with a mark, and the
-- counts
pub record IsBase (rs : List IndexRecord) (marks : List Mark) (counts : Counts) : Type 0 where
  pub rising : AreSorted rs
  pub plain : ArePlain rs
  pub long : length marks ≡ length rs
  pub few : length rs < 2 ^ 62
  pub counted : counts ≡ counts_of (values_of (marked_in rs marks))

-- what a slot of the list becomes with another mark
abbrev pub remarked : Mark → Slot → Option Slot
remarked mark slot = option_and_then (λ r. marked r mark) slot.base

-- a name without a record now
abbrev pub gone_slot : Option Slot → Option Slot
gone_slot old = option_map (λ b. record { current = None; seen = false; base = Some b }) (option_and_then (λ slot. slot.base) old)

-- ---- the places of a journal

-- the place of a record's name, where nothing is known yet
abbrev pub new_place : IndexRecord → Name × Held
new_place r = (r.name, record { current = None; base = None; seen = false })

-- the places of records in name order, where nothing is known yet
pub record AreNew (places : List (Name × Held)) : Type 0 where
  pub records : List IndexRecord
  pub rising : AreSorted records
  pub made : places ≡ map new_place records

-- the slots of those places that hold a record
abbrev pub used_in : List (Name × Held) → List (Name × Slot)
used_in places = rewritten (λ slot. slot) (slots_of places)

-- the base's record of what stands in the layers, if anything does, or else at the place
abbrev pub base_over : Held → Option Held → Option Facts
base_over placed None = placed.base
base_over placed (Some below) = below.base

-- under this name this is held; all else is as before
abbrev pub PutsHeld : List (Name × Held) → List (Name × Held) → Name → Held → Type 0
PutsHeld old new name held = (q : Name) → lookup (same_name q) new ≡ (if same_name name q then Some held else lookup (same_name q) old)

-- places in name order, each with what is held under its name, and the counts
pub record ArePlaces (places : List (Name × Held)) (counts : Counts) : Type 0 where
  pub rising : names.AreSorted (keys_of places)
  pub own : All (λ e. IsSlotOf e.0 e.1) (slots_of places)
  pub few : length places < 2 ^ 62
  pub counted : counts ≡ counts_of (map bare (values_of places))

-- ---- the layers

-- no name has a slot in both
abbrev pub AreApart : List (Name × Slot) → List (Name × Slot) → Type 0
AreApart a b = (q : Name) → IfSome (lookup (same_name q) a) (λ slot. lookup (same_name q) b ≡ None)

-- the mark after all unseen records are dropped
abbrev pub seen_mark : Mark → Mark
seen_mark Unseen = Gone
seen_mark Seen = Seen
seen_mark Gone = Gone
seen_mark Away = Away

-- the mark after the records now are written
abbrev pub written_mark : Mark → Mark
written_mark Unseen = Unseen
written_mark Seen = Seen
written_mark Gone = Away
written_mark Away = Away
