-- What follows from the definition of findings.
use Rattle.std.specs.Prelude.{Any, List, false, ℕ, ◌↔◌, ◌≡◌}
use Rattle.cache_base.specs.Names.{AreSorted, has_name}
use Rattle.cache_base.specs.declared.name.Name.{Name}
use Rattle.cache_check.specs.Findings.{IsTableOf, file_findings, findings, findings_at, names_of_both}
use Rattle.cache_check.specs.Table.{IsTable, Table, get}
use Rattle.cache_check.specs.declared.finding.Finding.{Finding}
use Rattle.index_record.specs.declared.record.IndexRecord.{IndexRecord}
use Rattle.index_theory.specs.Ever.{Entries}
use Rattle.index_theory.specs.Scan.{scanned}
use Rattle.record_list.specs.Lists.{record_at}

-- entries have no two tables
abbrev pub OnlyOneTable : Type 0
OnlyOneTable = (es : Entries) (one two : Table (List ℕ)) → IsTableOf es one → IsTableOf es two → one ≡ two

-- under each name that is not being written the same file stands, and the record is the same
pub record AgreeBeside (writing : List Name) (one two : Table (List ℕ)) (rs qs : List IndexRecord)
    : Type 0 where
  pub files : (name : Name) → has_name writing name ≡ false → get one name.0 ≡ get two name.0
  pub records : (name : Name) → has_name writing name ≡ false
      → record_at rs name ≡ record_at qs name

-- what is found depends on these alone
abbrev pub FindingsAgree : Type 0
FindingsAgree = (writing : List Name) (one two : Table (List ℕ)) (rs qs : List IndexRecord) → IsTable one → IsTable two
    → AgreeBeside writing one two rs qs → findings one rs writing ≡ findings two qs writing

-- a finding is in the list exactly where it is found under its name and the name is not being written
abbrev pub FindingsAreExact : Type 0
FindingsAreExact = (files : Table (List ℕ)) (records : List IndexRecord) (writing : List Name) (f : Finding)
    → Any (λ g. g ≡ f) (findings files records writing)
    ↔ ((has_name writing f.name ≡ false) × Any (λ w. w ≡ f.what) (findings_at files records f.name))

-- and findings are listed by rising names: those of a table rise
abbrev pub ListedNamesRise : Type 0
ListedNamesRise = (files : Table (List ℕ)) (records : List IndexRecord) → IsTable files
    → AreSorted (names_of_both files records)

-- under a name whose record is that of its file only the file is looked at
abbrev pub RightRecordsAreSilent : Type 0
RightRecordsAreSilent = (files : Table (List ℕ)) (records : List IndexRecord) (name : Name)
    → record_at records name ≡ scanned (get files) name
    → findings_at files records name ≡ file_findings name (get files name.0)
