-- When a slot is given up.
use Rattle.std.specs.Option.{option_map_or}
use Rattle.std.specs.Prelude.{Bool, IsSome, IsSomeAnd, List, None, OnOk, Option, Result, Some, false, if◌then◌else◌, is_some, option_map, unwrap_or, ℕ, ◌&&◌, ◌≡◌}
use Rattle.cache_theory.specs.Command.Command.{Close}
use Rattle.cache_theory.specs.Crash.{IsSafe}
use Rattle.cache_theory.specs.Ever.{entries}
use Rattle.cache_theory.specs.History.{History, begun}
use Rattle.cache_theory.specs.Machine.{Machine, is_writer, object_of}
use Rattle.cache_theory.specs.Step.{finished_by, released}
use Rattle.cache_theory.specs.Table.{get}
use Rattle.chunk_cache.specs.Cached.{CachedChunk, without_entry}
use Rattle.disk_theory.specs.Account.{no_sync}
use Rattle.disk_theory.specs.Image.{Files}
use Rattle.disk_theory.specs.State.{State, removed, standing}
use Rattle.disk_theory.specs.declared.disk.DiskFault.{DiskFault}
use Rattle.disk_theory.specs.declared.place.Place.TheVariants.{Doomed}
use Rattle.handle_table.specs.Leaving.{other_uses}
use Rattle.file_handles.specs.Cache.{Cache}
use Rattle.handle_table.specs.Held.{is_draft, object_place}
use Rattle.file_handles.specs.Finishing.{finish_syncs}
use Rattle.handle_table.specs.Kept.{Kept, number_at, object_at, object_in, use_at}
use Rattle.file_handles.specs.Stands.{KeepsTo, KeepsWhere, ReachesHistory, Represents}
use Rattle.file_handles.specs.declared.fault.HandleFault.{HandleFault}
use Rattle.handle_table.specs.declared.object.Object.{Object}

-- a draft
abbrev pub is_some_draft : Option Object → Bool
is_some_draft None = false
is_some_draft (Some x) = is_draft x.entry

-- the slot writes an entry that is not finished
abbrev pub writes_draft : Kept → ℕ → Bool
writes_draft k slot = unwrap_or
    (option_map (λ u. u.writes && is_some_draft (object_at k u.place)) (use_at k slot)) false

-- the most syncs that closing the slot takes: those of finishing what it writes, if that is not finished
abbrev pub close_syncs : Kept → ℕ → ℕ
close_syncs k slot = if writes_draft k slot then finish_syncs (object_in k slot) else no_sync

-- the disk without the file that stands aside, if it does
abbrev pub without_doomed : Option ℕ → State → State
without_doomed None s = s
without_doomed (Some number) s = removed (Doomed number) s

-- the disk without the file of an object, where that stands aside
abbrev pub let_go_by : Object → State → State
let_go_by x s = without_doomed x.aside s

-- the closing of the slot has begun, and its writer has finished its object
abbrev pub closing : ℕ → History → History
closing slot h =
    record { machine = finished_by h.machine slot; marks = (begun (Close slot) h).marks }

-- the writer of the slot finishes its object first, whatever the history
pub record FinishesFirst {T : Type 0} (slot : ℕ) (answer : Result T HandleFault)
    (before after : Cache) : Type 0 where
  pub leaves : (crash : Bool) (h : History) → KeepsWhere crash before h
      → ReachesHistory crash (closing slot h) answer after

-- the slot has this place, where an object is whose file stands
pub record MayGiveUp (slot place : ℕ) (now : Cache) : Type 0 where
  pub placed : option_map (λ u. u.place) (use_at now.handles slot) ≡ Some place
  pub there : IsSomeAnd (object_at now.handles place)
      (λ x. IsSome (standing now.disk (object_place x)))

-- the slot is no writer of an unfinished object
abbrev pub WritesNothing : Machine → ℕ → Type 0
WritesNothing m slot = (object_of m slot).finished ≡ false → is_writer m slot ≡ false

-- the slot is given up, whatever the history in which it writes nothing
pub record GivesUp (slot : ℕ) (answer : Result (Unit {0}) DiskFault) (before after : Cache)
    : Type 0 where
  pub leaves : (crash : Bool) (h : History) → WritesNothing h.machine slot
      → KeepsWhere crash before h
      → ReachesHistory crash (record h { machine = released h.machine slot }) answer after

-- the entries are those of the shelf, and no doomed file stands
pub record IsClosed (files : Files) (m : Machine) : Type 0 where
  pub entries_are : (name : List ℕ) → entries files name ≡ get m.shelf name
  pub no_doomed : (k : ℕ) → files (Doomed k) ≡ None

-- all slots are given up, whatever machine is represented, and whatever history the disk keeps to
pub record ClosesAll (answer : Result (Unit {0}) DiskFault) (before : Cache) (t : State)
    : Type 0 where
  pub closed : (m : Machine) → Represents before m → OnOk answer (IsClosed (standing t) m)
  pub crash : (h : History) → KeepsTo before h → IsSafe t h.marks

-- Which chunks are held once a slot is given up.

-- all but those of the object of this number, if there is one
abbrev pub without_object : Option ℕ → List CachedChunk → List CachedChunk
without_object number chunks = option_map_or (λ n. without_entry n chunks) number chunks

-- once a slot has left this place: none of the object there, if no other slot uses it
abbrev pub chunks_left : Kept → ℕ → ℕ → List CachedChunk
chunks_left k slot place =
    if other_uses k slot place then k.chunks else without_object (number_at k place) k.chunks

-- once it has left the place that it has, if it has one
abbrev pub chunks_closed : Kept → ℕ → List CachedChunk
chunks_closed k slot = option_map_or (λ u. chunks_left k slot u.place) (use_at k slot) k.chunks

-- a slot is given up, and then those chunks are held; before that no chunk goes
pub record ClosesChunks {T : Type 0} (slot : ℕ) (answer : Result T HandleFault)
    (before after : Kept) : Type 0 where
  pub given_up : OnOk answer (use_at after slot ≡ None)
  pub chunks : after.chunks
      ≡ (if is_some (use_at after slot) then before.chunks else chunks_closed before slot)
