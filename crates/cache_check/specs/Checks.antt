-- What the check of a name and of a file adds, and the calls of the disk that they take.
use Rattle.std.specs.List.{AllByRecursion}
use Rattle.std.specs.Prelude.{IsSome, List, None, Option, Some, [], if◌then◌else◌, map, sum_by, unwrap_or, ℕ, ◌++◌, ◌+◌, ◌≡◌}
use Rattle.cache_base.specs.Limits.{chunks}
use Rattle.cache_base.specs.Names.{has_name}
use Rattle.cache_base.specs.declared.name.Name.{Name}
use Rattle.cache_check.specs.Findings.{IsTableOf}
use Rattle.cache_check.specs.Table.{Table, name_of}
use Rattle.cache_check.specs.declared.finding.Finding.{Finding}
use Rattle.cache_check.specs.declared.finding.What.{What}
use Rattle.disk_theory.specs.Calls.{Counts}
use Rattle.disk_theory.specs.Image.{Files}
use Rattle.disk_theory.specs.State.{State, standing}
use Rattle.disk_theory.specs.declared.place.Place.TheVariants.{Entry}
use Rattle.entry_file.specs.EntryFile.{file_meta, fits}
use Rattle.entry_file.specs.Looks.{LooksAtMost, meta_looks}
use Rattle.index_theory.specs.Ever.{Entries}

-- what the entry file of a name holds, if one stands
abbrev pub file_at : State → Name → Option (List ℕ)
file_at s name = standing s (Entry name)

-- a file stands under each of these names
abbrev pub AllStand : State → List Name → Type 0
AllStand s names = AllByRecursion (λ name. IsSome (file_at s name)) names

-- findings under a name
abbrev pub named : Name → List What → List Finding
named name whats = map (λ w. record { name = name; what = w }) whats

-- the list has grown by these findings under the name
abbrev pub AddsFindings : Name → List What → List Finding → List Finding → Type 0
AddsFindings name whats before now = now ≡ before ++ named name whats

-- the calls that the check of a file takes: those for its metadata, and one for each chunk where it fits
abbrev pub looks_at : Name → Option (List ℕ) → ℕ
looks_at name None = meta_looks
looks_at name (Some content) = meta_looks + (if fits name.0 content then chunks (file_meta content).offset else 0)

-- those of all files of a table that are not being written
abbrev pub looks_over : Table (List ℕ) → List Name → ℕ
looks_over files writing =
    sum_by (λ file. if has_name writing (name_of file.0) then 0 else looks_at (name_of file.0) (Some file.1)) files

-- the files of these names, as a table
abbrev pub table_of : Files → List Name → Table (List ℕ)
table_of files names = map (λ name. (name.0, unwrap_or (files (Entry name)) [])) names

-- the files of these names that stand now, as a table
abbrev pub files_of : State → List Name → Table (List ℕ)
files_of s names = table_of (standing s) names

-- the names of the entries were asked for, and the entries that are not being written were looked at, each once
abbrev pub LooksOnce : Entries → List Name → Counts → Counts → Type 0
LooksOnce es writing before now = (files : Table (List ℕ)) → IsTableOf es files
    → LooksAtMost (1 + looks_over files writing) before now
