-- The kinds of what stands as an index.
use Rattle.std.specs.Prelude.{List, None, Option, Some, if◌then◌else◌, is_none, ℕ}
use Rattle.index_theory.specs.declared.kinds.IndexKind.{IndexKind}
use Rattle.index_theory.specs.declared.kinds.IndexKind.TheVariants.{Missing, Invalid, Dirty, Clean}
use Rattle.index_file.specs.Checks.{index_fault, is_dirty_in}

-- none stands, it is none, or it is one whose flag is set or is not
abbrev pub index_kind : Option (List ℕ) → IndexKind
index_kind None = Missing
index_kind (Some c) = if is_none (index_fault c) then (if is_dirty_in c then Dirty else Clean) else Invalid
