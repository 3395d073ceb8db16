-- The files of entries that are not finished.
use Rattle.std.specs.Prelude.{ℕ, ◌≡◌, List, ◌++◌, false, Some}
use Rattle.chunk_store.specs.Stored.{stop_tail, unfinished_file}
use Rattle.entry_file.specs.EntryFile.{file_fault, fits}
use Rattle.entry_file.specs.declared.entry_read.Unfit.TheVariants as unfit

-- a content that ends in the stop tail, and fits under no name
pub record IsUnfinished (c : List ℕ) : Type 0 where
  pub front : List ℕ
  pub tail : c ≡ front ++ stop_tail
  pub unfit : (name : List ℕ) → fits name c ≡ false

-- a content that ends in the stop tail is too short for an entry's file
abbrev pub StopTailIsShort : Type 0
StopTailIsShort = (name front : List ℕ) → file_fault name (front ++ stop_tail) ≡ Some unfit.Short

-- and so is the file of any body that is not finished
abbrev pub UnfinishedIsShort : Type 0
UnfinishedIsShort = (name body : List ℕ) → file_fault name (unfinished_file body) ≡ Some unfit.Short
