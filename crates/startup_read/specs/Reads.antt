-- What the files of the index read as.
use Rattle.std.specs.Prelude.{Bool, List, Option, false, true, ℕ, ⊤, ◌≡◌}
use Rattle.index_record.specs.declared.record.IndexRecord.{IndexRecord}
use Rattle.index_theory.specs.Honest.{index_records, journal_records}
use Rattle.index_theory.specs.declared.kinds.IndexKind.{IndexKind}
use Rattle.index_theory.specs.IndexKind.{index_kind}
use Rattle.index_theory.specs.declared.kinds.IndexKind.TheVariants.{Missing, Invalid, Dirty, Clean}
use Rattle.index_theory.specs.declared.kinds.LogKind.{LogKind}
use Rattle.index_theory.specs.LogKind.{log_kind}
use Rattle.index_theory.specs.declared.kinds.LogKind.TheVariants.{Missing as NoLog, Invalid as BadLog, Valid}
use Rattle.index_theory.specs.Base.{BaseStands}

-- an index, be it dirty or clean
abbrev pub IsIndex : IndexKind → Type 0
IsIndex Missing = ⊥
IsIndex Invalid = ⊥
IsIndex Dirty = ⊤
IsIndex Clean = ⊤

-- a journal that is valid
abbrev pub IsJournal : LogKind → Type 0
IsJournal NoLog = ⊥
IsJournal BadLog = ⊥
IsJournal Valid = ⊤

-- whether it is an index that is dirty
abbrev pub is_dirty : IndexKind → Bool
is_dirty Missing = false
is_dirty Invalid = false
is_dirty Dirty = true
is_dirty Clean = false

-- this is the kind of what stands as the index, and these are its records where it is one
pub record ReadsIndex (file : Option (List ℕ)) (kind : IndexKind) (records : List IndexRecord)
    : Type 0 where
  pub is : kind ≡ index_kind file
  pub has : IsIndex kind → records ≡ index_records file
  pub stands : IsIndex kind → BaseStands file (is_dirty kind) records

-- so of the journal
pub record ReadsJournal (file : Option (List ℕ)) (kind : LogKind) (records : List IndexRecord)
    : Type 0 where
  pub is : kind ≡ log_kind file
  pub has : IsJournal kind → records ≡ journal_records file
