-- What is learnt of one command: the record of a name, or that no entry stands under it any more.
use Rattle.std.proofs.Common.{◌≡◌, ◌∙◌, List, Option, None, Some, refl, sym, ap}
use Rattle.std.specs.Prelude.{ℕ}
use Rattle.cache_base.specs.declared.name.Name.{Name}
use Rattle.cache_theory.specs.Step.{without as without_bytes}
use Rattle.cache_store.specs.Records.{LearnsEffect, ScanChanges}
use Rattle.file_handles.specs.Effects.{rest_once}
use Rattle.file_handles.specs.declared.fault.Effect.{Effect}
use Rattle.file_handles.specs.declared.fault.Effect.TheVariants as effect
use Rattle.index_record.specs.declared.record.IndexRecord.{IndexRecord}
use Rattle.index_theory.specs.Ever.{Entries}
use Rattle.index_update.specs.Rest.{name_bytes}
use Rattle.index_update.proofs.ReadMore.{base_kept}
use Rattle.index_update.proofs.TellLaws.{bytes_without}
use Rattle.memory_index.specs.Records.{ScanSets, SetsRecord}
use Rattle.memory_index.specs.declared.memory_index.MemoryIndex.{MemoryIndex}
use Rattle.memory_index.proofs.TellsAlike.{tells_alike}

-- nothing is learnt
pub learns_nothing : (index : MemoryIndex) → LearnsEffect effect.Same index index
learns_nothing index = record {
  rest = refl;
  base = base_kept index.map;
  tells = λ before now changes tells. tells_alike before now index changes tells;
}

module _ (name : Name) (r : Option IndexRecord) (old new : MemoryIndex) (set : SetsRecord name r old new) where
  learns_one : (e : Effect) → ((rest : List (List ℕ)) → rest_once e rest ≡ without_bytes name.0 rest)
      → ((before now : Entries) → ScanChanges e before now → ScanSets name r before now) → LearnsEffect e old new
  learns_one e leaves changes = record {
    rest = ap name_bytes set.rest ∙ bytes_without name old.update ∙ sym (leaves (name_bytes old.update));
    base = set.base;
    tells = λ before now scans tells. set.tells before now (changes before now scans) tells;
  }

-- that no entry stands under a name any more
pub learns_gone : (name : Name) (old new : MemoryIndex) → SetsRecord name None old new → LearnsEffect (effect.Gone name) old new
learns_gone name old new set = learns_one name None old new set (effect.Gone name) (λ rest. refl) (λ before now scans. scans)

-- the record of an entry
pub learns_wrote : (r : IndexRecord) (old new : MemoryIndex) → SetsRecord r.name (Some r) old new → LearnsEffect (effect.Wrote r) old new
learns_wrote r old new set = learns_one r.name (Some r) old new set (effect.Wrote r) (λ rest. refl) (λ before now scans. scans)
