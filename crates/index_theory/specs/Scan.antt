-- The record of an entry, and the records of all entries.
use Rattle.std.specs.Prelude.{List, None, Option, Some, T, false, filter_map, if◌then◌else◌, length, option_and_then, ℕ, ◌≡◌}
use Rattle.std.specs.Cmp.Lexicographic.{slice_cmp}
use Rattle.std.specs.FinMap.{find, is_sorted}
use Rattle.std.specs.Ordering.{nat_cmp}
use Rattle.cache_base.specs.declared.name.Name.{Name}
use Rattle.entry_file.specs.EntryFile.{file_meta, fits}
use Rattle.entry_metadata.specs.Metadata.{Meta}
use Rattle.index_record.specs.Filling.{record_of_meta}
use Rattle.index_record.specs.Record.{is_removed}
use Rattle.index_record.specs.declared.record.IndexRecord.{IndexRecord}
use Rattle.index_theory.specs.Ever.{Entries}
use Rattle.record_list.specs.Lists.{AreSorted, record_at}
use Rattle.record_list.specs.Stored.{IsClean}

-- the record of an entry file, where its content fits under the name
abbrev pub record_of : Name → List ℕ → Option IndexRecord
record_of name c = if fits name.0 c then Some (record_of_meta name (file_meta c) (length c)) else None

-- the record of what stands under a name, if that fits there
abbrev pub scanned : Entries → Name → Option IndexRecord
scanned entries name = option_and_then (record_of name) (entries name.0)

-- the records, in any order, say under each name what a scan of the entries would
abbrev pub TellsScan : Entries → List IndexRecord → Type 0
TellsScan entries rs = (name : Name) → record_at rs name ≡ scanned entries name

-- the list is the scan of the entries: sorted by name, the record of each entry that fits, and no others
pub record IsScan (entries : Entries) (rs : List IndexRecord) : Type 0 where
  pub rising : AreSorted rs
  pub same : TellsScan entries rs

-- the scan of a list of names with their contents
abbrev pub scan : List (List ℕ × List ℕ) → List IndexRecord
scan contents = filter_map (λ e. record_of (record { 0 = e.0 }) e.1) contents

-- the entries have one scan
abbrev pub ScanIsOne : Type 0
ScanIsOne = (entries : Entries) (rs more : List IndexRecord) → IsScan entries rs → IsScan entries more → rs ≡ more

-- where a list is sorted by name, its scan is the scan of what it has under each name
abbrev pub TableIsScanned : Type 0
TableIsScanned = (contents : List (List ℕ × List ℕ)) → T (is_sorted (slice_cmp nat_cmp) contents)
    → IsScan (λ name. find (slice_cmp nat_cmp) name contents) (scan contents)

-- the record of an entry says neither that its name is gone nor that it is dirty or fresh
abbrev pub FilledIsPlain : Type 0
FilledIsPlain = (name : Name) (m : Meta) (size : ℕ) → (is_removed (record_of_meta name m size) ≡ false) × IsClean (record_of_meta name m size)
