-- The dump of a directory.
use Rattle.std.specs.Prelude.{ℕ, ◌+◌, nat_le, nat_lt, Bool, ◌&&◌, if◌then◌else◌, List, [], ◌∷◌, length, filter, filter_map, T}
use Rattle.std.specs.Cmp.Lexicographic.{slice_cmp}
use Rattle.std.specs.FinMap.{is_sorted}
use Rattle.std.specs.List.{AllByRecursion}
use Rattle.std.specs.Ordering.{nat_cmp}
use Rattle.cache_base.specs.Bytes.{AreBytes}
use Rattle.cache_base.specs.declared.limits.TheConstants.{BODY_MAX}
use Rattle.entry_file.specs.EntryFile.{read, whole_in}
use Rattle.entry_file.specs.Version.{Version}
use Rattle.entry_key.specs.Writing.{may_write}
use Rattle.cache_export.specs.Dump.{IsDump, dump_bytes, item_bytes}
use Rattle.cache_export.specs.declared.limits.TheConstants.{DUMP_MAX}

-- the files of a directory: their names are in order, none comes twice, and their contents are bytes
pub record AreFiles (files : List (List ℕ × List ℕ)) : Type 0 where
  pub sorted : T (is_sorted (slice_cmp nat_cmp) files)
  pub bytes : AllByRecursion (λ file. AreBytes file.1) files

-- whether a version may be dumped
abbrev pub may_dump : Version → Bool
may_dump v = may_write v.key && nat_le (length v.body) BODY_MAX

-- the versions that are found, in the order of the names of their files
abbrev pub versions_in : List (List ℕ × List ℕ) → List Version
versions_in files = filter_map (λ file. whole_in (read file.0 file.1)) files

-- the versions up to the first whose item, with the byte after it, would pass the longest dump; so many bytes stand
-- before
abbrev pub within : ℕ → List Version → List Version
within used [] = []
within used (v ∷ vs) =
    if nat_lt DUMP_MAX (used + length (item_bytes v) + 1) then [] else v ∷ within (used + length (item_bytes v)) vs

-- what is dumped of a directory: all that is found and may be dumped, as far as it fits
abbrev pub dumped : List (List ℕ × List ℕ) → List Version
dumped files = within 8 (filter may_dump (versions_in files))

-- the dump of a directory
abbrev pub dump_of : List (List ℕ × List ℕ) → List ℕ
dump_of files = dump_bytes (dumped files)

-- the dump of a directory is a dump
abbrev pub DumpOfIsDump : Type 0
DumpOfIsDump = (files : List (List ℕ × List ℕ)) → AreFiles files → IsDump (dump_of files) (dumped files)
