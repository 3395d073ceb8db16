-- The changes that finish an object: with its own header and elements, or with given ones.
use Rattle.std.proofs.Common.{◌≡◌, length, true, Option, Some, None, refl, ap, ◌∙◌}
use Rattle.cache_theory.specs.Machine.{Object as MachineObject}
use Rattle.entry_file.specs.NewEntry.{finished}
use Rattle.file_handles.specs.Finishing.{completed_by, parts_by}
use Rattle.handle_table.specs.Held.{IsDraftOf}
use Rattle.handle_table.specs.declared.object.Draft.{Draft}
use Rattle.handle_table.specs.declared.object.Parts.{Parts}

-- it finishes the object, and changes neither its key nor its body nor whether it is doomed
pub record IsCompletion (change : MachineObject → MachineObject) : Type 0 where
  pub done : (o : MachineObject) → (change o).finished ≡ true
  pub doomed : (o : MachineObject) → (change o).doomed ≡ o.doomed
  pub key : (o : MachineObject) → (change o).version.key ≡ o.version.key
  pub body : (o : MachineObject) → (change o).version.body ≡ o.version.body

pub completion : (given : Option Parts) → IsCompletion (completed_by given)
completion None = record { done = λ o. refl; doomed = λ o. refl; key = λ o. refl; body = λ o. refl }
completion (Some parts) = record { done = λ o. refl; doomed = λ o. refl; key = λ o. refl; body = λ o. refl }

-- the parts of a draft
abbrev pub own_parts : Draft → Parts
own_parts d = record { header = d.header; elements = d.elements }

-- what is written after the body of a draft makes the version that the object is finished to
version_by : (given : Option Parts) (d : Draft) (o : MachineObject) → IsDraftOf d o.version
    → finished (parts_by given d.key (own_parts d)).header d.key (parts_by given d.key (own_parts d)).elements o.version.body ≡ (completed_by given o).version
version_by None d o is = λ i. finished (is.header i) (is.key i) (is.elements i) o.version.body
version_by (Some parts) d o is = λ i. finished (record parts.header { version = 3; key_size = length (is.key i) }) (is.key i) parts.elements o.version.body

pub version_made : (given : Option Parts) (d : Draft) (parts : Parts) → parts ≡ parts_by given d.key (own_parts d) → (o : MachineObject) → IsDraftOf d o.version
    → finished parts.header d.key parts.elements o.version.body ≡ (completed_by given o).version
version_made given d parts same o is = ap (λ (p : Parts). finished p.header d.key p.elements o.version.body) same ∙ version_by given d o is
