-- What a check of all entries finds.
use Rattle.std.specs.Prelude.{List, None, Option, Some, [], filter, flat_map, if◌then◌else◌, map, not, option_and_then, take, ℕ, ◌++◌, ◌∷◌, ◌≡◌}
use Rattle.cache_base.specs.Names.{has_name}
use Rattle.cache_base.specs.declared.name.Name.{Name}
use Rattle.cache_check.specs.Table.{IsTable, Table, get, insert, keys, name_of}
use Rattle.cache_check.specs.declared.finding.Finding.{Finding}
use Rattle.cache_check.specs.declared.finding.What.{What}
use Rattle.cache_check.specs.declared.finding.What.TheVariants as what
use Rattle.chunk_store.specs.Chunks.{damages}
use Rattle.entry_file.specs.EntryFile.{file_fault, file_meta}
use Rattle.entry_file.specs.declared.entry_read.Unfit.{Unfit}
use Rattle.entry_metadata.specs.Metadata.{Meta}
use Rattle.index_record.specs.declared.record.IndexRecord.{IndexRecord}
use Rattle.index_theory.specs.Ever.{Entries}
use Rattle.index_theory.specs.Scan.{record_of}
use Rattle.record_list.specs.Change.{record_eq}
use Rattle.record_list.specs.Lists.{record_at}

-- each chunk that differs of the body before the offset of these metadata
abbrev pub damaged : Meta → List ℕ → List What
damaged m content = map (λ d. what.Damaged d) (damages m.hashes m.offset (take m.offset content))

-- a content by its first failing check: that, or each chunk that differs
abbrev pub content_findings : Option Unfit → List ℕ → List What
content_findings (Some check) content = what.Unfit check ∷ []
content_findings None content = damaged (file_meta content) content

-- the file of a name, if one stands
abbrev pub file_findings : Name → Option (List ℕ) → List What
file_findings name None = []
file_findings name (Some content) = content_findings (file_fault name.0 content) content

-- the record of the file of a name, if one that fits stands, beside the record that is known
abbrev pub record_findings : Option IndexRecord → Option IndexRecord → List What
record_findings None None = []
record_findings (Some filed) None = what.Missing ∷ []
record_findings None (Some known) = what.Extra ∷ []
record_findings (Some filed) (Some known) = if record_eq filed known then [] else what.Differs ∷ []

-- what is wrong with what stands under a name, and with the record that is known
abbrev pub findings_of : Name → Option (List ℕ) → Option IndexRecord → List What
findings_of name content known =
    file_findings name content ++ record_findings (option_and_then (record_of name) content) known

-- what is wrong under a name
unfoldable pub findings_at : Table (List ℕ) → List IndexRecord → Name → List What
findings_at files records name = findings_of name (get files name.0) (record_at records name)

-- the names of files, as a table
abbrev pub names_alone : Table (List ℕ) → Table (Unit {0})
names_alone files = map (λ file. (file.0, tt)) files

-- a table of names with those of records among them
abbrev pub with_names : Table (Unit {0}) → List IndexRecord → Table (Unit {0})
with_names t [] = t
with_names t (r ∷ rs) = insert (with_names t rs) r.name.0 tt

-- the names that have a file or a record, rising
abbrev pub names_of_both : Table (List ℕ) → List IndexRecord → List Name
names_of_both files records = map name_of (keys (with_names (names_alone files) records))

-- what is wrong under each name that has a file or a record and is not being written
unfoldable pub findings : Table (List ℕ) → List IndexRecord → List Name → List Finding
findings files records writing =
    flat_map (λ name. map (λ w. record { name = name; what = w }) (findings_at files records name))
    (filter (λ name. not (has_name writing name)) (names_of_both files records))

-- the entries as a table: it has under each name what stands there
pub record IsTableOf (es : Entries) (files : Table (List ℕ)) : Type 0 where
  pub table : IsTable files
  pub stands : (name : List ℕ) → es name ≡ get files name

-- the list is what is wrong, by the entries, these records and the names that are being written
abbrev pub AreFindings : Entries → List IndexRecord → List Name → List Finding → Type 0
AreFindings es records writing list = (files : Table (List ℕ)) → IsTableOf es files
    → list ≡ findings files records writing
