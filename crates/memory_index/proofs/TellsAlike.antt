-- What tells of some entries tells of all that are scanned alike.
use Rattle.std.proofs.Common.{◌≡◌, ◌∙◌, sym}
use Rattle.cache_base.specs.declared.name.Name.{Name}
use Rattle.memory_index.specs.Records.{TellsOf}
use Rattle.memory_index.specs.declared.memory_index.MemoryIndex.{MemoryIndex}
use Rattle.index_theory.specs.Ever.{Entries}
use Rattle.index_theory.specs.Scan.{scanned}

pub tells_alike : (before now : Entries) (index : MemoryIndex) → ((name : Name) → scanned now name ≡ scanned before name) → TellsOf before index → TellsOf now index
tells_alike before now index same tells = record {
  seen = λ name out. tells.seen name out ∙ sym (same name);
  all = λ none name. tells.all none name ∙ sym (same name);
}
