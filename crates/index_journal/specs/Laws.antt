-- What follows from the definitions of a journal.
use Rattle.std.specs.Prelude.{List, None, ℕ, ◌↔◌, ◌≡◌}
use Rattle.cache_base.specs.Bytes.{AreBytes}
use Rattle.index_journal.specs.Checks.{journal_fault, journal_in}
use Rattle.index_journal.specs.Journal.{JournalSpells}
use Rattle.index_record.specs.declared.record.IndexRecord.{IndexRecord}

-- a journal that is spelled passes its checks, and is read back
abbrev pub JournalReadsBack : Type 0
JournalReadsBack = (bytes : List ℕ) (rs : List IndexRecord) → JournalSpells bytes rs → (journal_fault bytes ≡ None) × (journal_in bytes ≡ rs)

-- bytes pass the checks of a journal exactly where they spell one
abbrev pub JournalFitsExactly : Type 0
JournalFitsExactly = (bytes : List ℕ) → AreBytes bytes → (journal_fault bytes ≡ None) ↔ ((rs : List IndexRecord) × JournalSpells bytes rs)
