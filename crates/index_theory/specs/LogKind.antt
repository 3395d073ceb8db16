-- The kinds of what stands as a journal.
use Rattle.std.specs.Prelude.{List, None, Option, Some, if◌then◌else◌, is_none, ℕ}
use Rattle.index_theory.specs.declared.kinds.LogKind.{LogKind}
use Rattle.index_theory.specs.declared.kinds.LogKind.TheVariants.{Missing, Invalid, Valid}
use Rattle.index_journal.specs.Checks.{journal_fault}

-- none stands, it is none, or it is one
abbrev pub log_kind : Option (List ℕ) → LogKind
log_kind None = Missing
log_kind (Some c) = if is_none (journal_fault c) then Valid else Invalid
