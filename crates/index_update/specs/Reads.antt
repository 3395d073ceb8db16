-- What the reading of entries makes of the records.
use Rattle.std.specs.Prelude.{Contains, List, take, ℕ, ◌≡◌}
use Rattle.cache_base.specs.declared.name.Name.{Name}
use Rattle.index_map.specs.Known.{Known}
use Rattle.index_record.specs.declared.record.IndexRecord.{IndexRecord}
use Rattle.index_theory.specs.Ever.{Entries}
use Rattle.index_theory.specs.Scan.{scanned}
use Rattle.record_list.specs.Lists.{record_at}

-- the record of each of these names is that of its entry, and those of all other names are unchanged
pub record ReadsIn (es : Entries) (names : List Name) (old new : List IndexRecord) : Type 0 where
  pub here : (name : Name) → Contains names name → record_at new name ≡ scanned es name
  pub others : (name : Name) → ¬ Contains names name → record_at new name ≡ record_at old name

-- so it is of the records now, and of those that were seen
pub record Reads (es : Entries) (names : List Name) (old new : Known) : Type 0 where
  pub records : ReadsIn es names old.records new.records
  pub seen : ReadsIn es names old.seen new.seen

-- so it is of some first of these names
abbrev pub ReadsSome : Entries → List Name → Known → Known → Type 0
ReadsSome es names old new = (k : ℕ) × Reads es (take k names) old new
