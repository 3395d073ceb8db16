-- Which entries a clearing of an origin takes: those whose key is of the origin and that are not pinned.
use Rattle.std.specs.Prelude.{Bool, List, None, Option, Some, [], filter, map, not, ℕ, ◌&&◌, ◌++◌, ◌==◌, ◌∷◌}
use Rattle.cache_base.specs.declared.name.Name.{Name}
use Rattle.cache_theory.specs.Machine.{Machine, Object, object}
use Rattle.cache_theory.specs.Table.{Table, insert, keys, name_of}
use Rattle.context_clear.specs.Covered.{covers_record}
use Rattle.context_clear.specs.Mark.{mark_of}
use Rattle.entry_file.specs.EntryFile.{file_meta, fits}
use Rattle.entry_key.specs.Tags.{origin_hash, tags_of, value_hash}
use Rattle.entry_parts.specs.declared.header.Header.{Header}
use Rattle.index_record.specs.Record.{has_bit}
use Rattle.index_record.specs.declared.record.IndexRecord.{IndexRecord}

-- the key is of the origin with this hash, and the header does not say that the entry is pinned
abbrev pub covers : ℕ → List ℕ → Header → Bool
covers origin key header = origin_hash (tags_of key) == origin && not (has_bit 0 header.flags)

-- an object is covered as its version is
abbrev pub covers_object : ℕ → Object → Bool
covers_object origin o = covers origin o.version.key o.version.header

-- a content is covered under a name where it fits there, and its key and header are
abbrev pub covers_content : ℕ → List ℕ → List ℕ → Bool
covers_content origin name content = fits name content && covers origin (file_meta content).key (file_meta content).header

-- the names of the undoomed objects in use that are covered, finished or not
abbrev pub covered_open : Machine → ℕ → List (List ℕ)
covered_open m origin = keys (filter (λ user. covers_object origin (object m user.1)) m.in_use)

-- the names of the contents on the shelf that are
abbrev pub covered_there : Table (List ℕ) → ℕ → List (List ℕ)
covered_there shelf origin = keys (filter (λ entry. covers_content origin entry.0 entry.1) shelf)

-- the names of the records that are
abbrev pub covered_records : ℕ → List IndexRecord → List (List ℕ)
covered_records origin records = map (λ r. r.name.0) (filter (covers_record origin) records)

-- names as a table, in which none stands twice
abbrev pub as_table : List (List ℕ) → Table (Unit {0})
as_table [] = []
as_table (name ∷ names) = insert (as_table names) name tt

-- the names of both lists in their order, each once
abbrev pub joined_names : List (List ℕ) → List (List ℕ) → List Name
joined_names first second = map name_of (keys (as_table (first ++ second)))

-- what a clearing of the origin with this hash takes: the names in use and those on the shelf that are covered
abbrev pub covered : Machine → ℕ → List Name
covered m origin = joined_names (covered_open m origin) (covered_there m.shelf origin)

-- the same, where these records stand for the shelf
abbrev pub covered_by : List IndexRecord → Machine → ℕ → List Name
covered_by records m origin = joined_names (covered_open m origin) (covered_records origin records)

-- what a clearing of the origin with this value takes
unfoldable pub cleared : Machine → List ℕ → List Name
cleared m origin = covered m (value_hash origin)

-- the same, where these records stand for the shelf
unfoldable pub cleared_by : List IndexRecord → Machine → List ℕ → List Name
cleared_by records m origin = covered_by records m (value_hash origin)

-- what the clearing takes that is resumed, where the mark of an origin stands
abbrev pub taken_for : Machine → Option ℕ → List Name
taken_for m None = []
taken_for m (Some origin) = covered m origin

-- what a `Resume` takes
unfoldable pub resumed : Machine → List Name
resumed m = taken_for m (mark_of m.mark)

-- the same, where these records stand for the shelf
abbrev pub taken_for_by : List IndexRecord → Machine → Option ℕ → List Name
taken_for_by records m None = []
taken_for_by records m (Some origin) = covered_by records m origin

-- what a `Resume` takes then
unfoldable pub resumed_by : List IndexRecord → Machine → List Name
resumed_by records m = taken_for_by records m (mark_of m.mark)
