-- What is wrong with the files that stand is what is wrong with those of the shelf.
use Rattle.std.proofs.Common.{◌≡◌, ◌∙◌, ℕ, List, refl, sym, ap}
use Rattle.cache_base.specs.declared.name.Name.{Name}
use Rattle.cache_check.specs.Findings.{AreFindings, IsTableOf, findings}
use Rattle.cache_check.specs.declared.finding.Finding.{Finding}
use Rattle.cache_check.proofs.Agreement.{findings_agree}
use Rattle.cache_theory.specs.Machine.{Machine, writing_names}
use Rattle.cache_theory.specs.Table.{Table}
use Rattle.file_handles.specs.Cache.{Cache}
use Rattle.file_handles.specs.Stands.{Represents}
use Rattle.handle_table.specs.Users.{AreWritingNames}
use Rattle.index_record.specs.declared.record.IndexRecord.{IndexRecord}
use Rattle.index_theory.specs.Ever.{entries_on}

module _ (at : Cache) (m : Machine) (is : Represents at m) where
  -- the findings by a table of what stands are those by the shelf
  pub found_on_shelf : (files : Table (List ℕ)) → IsTableOf (entries_on at.disk) files → (records : List IndexRecord) (writing : List Name)
      → AreWritingNames at.handles writing → (found : List Finding) → AreFindings (entries_on at.disk) records writing found
      → found ≡ findings m.shelf records (writing_names m)
  found_on_shelf files table records writing are found is_found =
      is_found files table
      ∙ ap (findings files records) (are m is.0 is.1.proper is.1.handles)
      ∙ findings_agree (writing_names m) files m.shelf records records table.table is.1.proper.shelf (record {
        files = λ name none. sym (table.stands name.0) ∙ is.1.entries name.0;
        records = λ name none. refl;
      })
