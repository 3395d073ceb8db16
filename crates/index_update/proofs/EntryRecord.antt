-- The record of what was read at an entry's place.
use Rattle.std.proofs.Common.{◌≡◌, ◌∙◌, ℕ, List, Option, Some, None, ap, cond, length, sym}
use Rattle.std.specs.Prelude.{is_none, option_and_then}
use Rattle.cache_base.specs.declared.name.Name.{Name}
use Rattle.entry_file.specs.EntryFile.{file_meta}
use Rattle.entry_file.specs.EntryRead.{ReadsAs}
use Rattle.entry_file.specs.declared.entry_read.EntryRead.TheVariants.{Fits}
use Rattle.entry_metadata.specs.Meta.{meta_of}
use Rattle.entry_metadata.specs.declared.meta.Meta.{Meta}
use Rattle.index_record.specs.Filling.{record_of_meta}
use Rattle.index_record.specs.declared.record.IndexRecord.{IndexRecord}
use Rattle.index_theory.specs.Scan.{record_of}

-- a file that was read as fitting has the record of its metadata
pub record_read : (name : Name) (o : Option (List ℕ)) (meta : Meta) (size : ℕ) (r : IndexRecord) → ReadsAs name.0 o (Fits meta size) → r ≡ record_of_meta name (meta_of meta) size
    → Some r ≡ option_and_then (record_of name) o
record_read name None meta size r reads is = absurd reads
record_read name (Some c) meta size r reads is =
    ap Some (is ∙ ap (λ m. record_of_meta name m size) reads.1 ∙ ap (λ n. record_of_meta name (file_meta c) n) reads.2)
    ∙ ap (λ f. cond (is_none f) (Some (record_of_meta name (file_meta c) (length c))) None) (sym reads.0)
