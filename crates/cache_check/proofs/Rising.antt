-- What is found by records that are sorted.
use Rattle.std.proofs.Common.{◌≡◌, List, refl, ap, subst, ◌∙◌}
use Rattle.std.specs.Prelude.{Err, IfOk, Ok, Result}
use Rattle.cache_base.specs.Names.{AreSorted}
use Rattle.cache_base.specs.declared.name.Name.{Name}
use Rattle.cache_check.specs.Checks.{table_of}
use Rattle.cache_check.specs.Findings.{findings}
use Rattle.cache_check.specs.Table.{IsTable}
use Rattle.cache_check.specs.declared.finding.Finding.{Finding}
use Rattle.cache_check.proofs.Agreement.{findings_agree}
use Rattle.cache_check.proofs.Tables.{table_rises}
use Rattle.disk_theory.specs.Image.{Files}
use Rattle.disk_theory.specs.declared.disk.DiskFault.{DiskFault}
use Rattle.index_record.specs.declared.record.IndexRecord.{IndexRecord}
use Rattle.record_list.proofs.SortedLaws.{by_name_keeps}
use Rattle.record_list.specs.Lists.{HasNames, IsByName}

-- what is found does not hang on the order of the records
found_sorted : (files : Files) (names writing : List Name) (rs sorted : List IndexRecord) → AreSorted names → HasNames rs → IsByName rs sorted
    → findings (table_of files names) sorted writing ≡ findings (table_of files names) rs writing
found_sorted files names writing rs sorted rising distinct by =
    let t = table_of files names in
    let table : IsTable t = record { rising = table_rises files names rising } in
    findings_agree writing t t sorted rs table table
    (record { files = λ n unread. refl; records = λ n unread. by_name_keeps rs sorted distinct by n })

-- a copy of the records was sorted
pub record Sorts (rs copy sorted qs : List IndexRecord) : Type 0 where
  pub distinct : HasNames rs
  pub copied : copy ≡ rs
  pub by_name : IsByName copy sorted
  pub given : qs ≡ sorted

-- what was found by it is what is found by the records
pub found_in_order : (Tells : Type 0) (files : Files) (names writing : List Name) (rs copy sorted qs : List IndexRecord) (r : Result (List Finding) DiskFault)
    → AreSorted names → Sorts rs copy sorted qs
    → IfOk r (λ list. Tells → list ≡ findings (table_of files names) qs writing)
    → IfOk r (λ list. Tells → list ≡ findings (table_of files names) rs writing)
found_in_order Tells files names writing rs copy sorted qs (Err fault) rising sorts found = tt
found_in_order Tells files names writing rs copy sorted qs (Ok list) rising sorts found = λ told.
    found told
    ∙ ap (λ ps. findings (table_of files names) ps writing) sorts.given
    ∙ found_sorted files names writing rs sorted rising sorts.distinct (subst (λ (ps : List IndexRecord). IsByName ps sorted) sorts.copied sorts.by_name)
