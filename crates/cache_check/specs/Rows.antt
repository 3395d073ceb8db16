-- The names that have a file or a record, one after another.
use Rattle.std.specs.FinMap.Entries.{by_order}
use Rattle.std.specs.Prelude.{Bool, List, None, Option, Some, [], drop, false, if◌then◌else◌, true, ℕ, ◌∷◌}
use Rattle.cache_base.specs.Names.{name_cmp}
use Rattle.cache_base.specs.declared.name.Name.{Name}
use Rattle.cache_check.specs.declared.finding.Finding.{Finding}
use Rattle.cache_check.specs.declared.finding.What.{What}
use Rattle.disk_theory.specs.Image.{Files}
use Rattle.disk_theory.specs.declared.place.Place.TheVariants.{Entry}
use Rattle.index_record.specs.declared.record.IndexRecord.{IndexRecord}
use Rattle.cache_check.specs.Checks.{looks_at, named}
use Rattle.cache_check.specs.Findings.{findings_of}
use Rattle.cache_check.specs.declared.rows.Row.{Row}

-- the row of a file, with this record or without one
abbrev pub of_file : Name → Option IndexRecord → Row
of_file name known = record { name = name; filed = true; known = known }

-- the row of a record without a file
abbrev pub of_record : IndexRecord → Row
of_record r = record { name = r.name; filed = false; known = Some r }

-- the row of the least name of files and records that rise
abbrev pub first_row : List Name → List IndexRecord → Option Row
first_row [] [] = None
first_row (name ∷ names) [] = Some (of_file name None)
first_row [] (r ∷ rs) = Some (of_record r)
first_row (name ∷ names) (r ∷ rs) =
    Some (by_order (name_cmp name r.name) (of_file name None) (of_file name (Some r)) (of_record r))

-- a list without its first item, where that is taken
abbrev pub without_first : {X : Type 0} → List X → Bool → List X
without_first items taken = if taken then drop 1 items else items

-- what is wrong under the name of a row
abbrev pub row_findings : Files → Row → List What
row_findings files row = findings_of row.name (if row.filed then files (Entry row.name) else None) row.known

-- the looks that its check takes
abbrev pub row_looks : Files → Row → ℕ
row_looks files row = if row.filed then looks_at row.name (files (Entry row.name)) else 0

-- the findings of a row, unless its entry is being written
abbrev pub turn_findings : Files → Bool → Row → List Finding
turn_findings files written row = if written then [] else named row.name (row_findings files row)

-- its looks, unless its entry is being written
abbrev pub turn_looks : Files → Bool → Row → ℕ
turn_looks files written row = if written then 0 else row_looks files row
