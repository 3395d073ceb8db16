-- What the table keeps: an object at some of the places, a use for some of the slots, and chunks of bodies.
use Rattle.std.specs.Prelude.{Err, List, None, Ok, Option, Result, Some, if◌then◌else◌, is_some, option_and_then, option_map, slice_get, slice_set, unwrap_or, [], ℕ, ◌+◌, ◌≡◌}
use Rattle.cache_theory.specs.declared.refusal.Refusal.{Refusal}
use Rattle.cache_theory.specs.declared.refusal.Refusal.TheVariants as refused
use Rattle.chunk_cache.specs.Cached.{CachedChunk, without_entry}
use Rattle.handle_table.specs.declared.object.Object.{Object}
use Rattle.handle_table.specs.declared.object.Use.{Use}
use Rattle.handle_table.specs.declared.table.HandleTable.{HandleTable}

-- what a table keeps
pub record Kept : Type 0 where
  pub objects : List (Option Object)
  pub slots : List (Option Use)
  -- how many objects were made so far
  pub made : ℕ
  -- the chunks that were read last, the most recent first
  pub chunks : List CachedChunk

-- what this table keeps
abbrev pub kept_in : HandleTable → Kept
kept_in t = record { objects = t.rows.objects; slots = t.rows.slots; made = t.made; chunks = t.chunks }

-- the object at a place
abbrev pub object_at : Kept → ℕ → Option Object
object_at k p = unwrap_or (slice_get k.objects p) None

-- the use of a slot
abbrev pub use_at : Kept → ℕ → Option Use
use_at k s = unwrap_or (slice_get k.slots s) None

-- the object of a slot
abbrev pub object_in : Kept → ℕ → Option Object
object_in k s = option_and_then (λ u. object_at k u.place) (use_at k s)

-- a use, where its object is there
abbrev pub if_there : Kept → Use → Option Use
if_there k u = if is_some (object_at k u.place) then Some u else None

-- the use of a slot, where its object is there
abbrev pub live_use : Kept → ℕ → Option Use
live_use k s = option_and_then (if_there k) (use_at k s)

-- the number of the object at a place
abbrev pub number_at : Kept → ℕ → Option ℕ
number_at k p = option_map (λ x. x.number) (object_at k p)

-- another object at a place, or none
abbrev pub with_object : Kept → ℕ → Option Object → Kept
with_object k p x = record k { objects = slice_set k.objects p x }

-- a new object at a place
abbrev pub with_new : Kept → ℕ → Object → Kept
with_new k p x = record (with_object k p (Some x)) { made = k.made + 1 }

-- no chunk of the object of this number
abbrev pub without_chunks : Kept → ℕ → Kept
without_chunks k number = record k { chunks = without_entry number k.chunks }

-- another use of a slot, or none
abbrev pub with_use : Kept → ℕ → Option Use → Kept
with_use k s u = record k { slots = slice_set k.slots s u }

-- no object, no use of a slot, no chunk, and none was made so far
pub record IsUnused (k : Kept) : Type 0 where
  pub no_objects : (p : ℕ) → object_at k p ≡ None
  pub no_uses : (s : ℕ) → use_at k s ≡ None
  pub none_made : k.made ≡ 0
  pub no_chunks : k.chunks ≡ []

-- the use of a slot that has one
abbrev pub used : Option Use → Result Use Refusal
used None = Err refused.NoSlot
used (Some u) = Ok u

-- the use of a slot that writes
abbrev pub writing : Option Use → Result Use Refusal
writing None = Err refused.NoSlot
writing (Some u) = if u.writes then Ok u else Err refused.NotWriter
