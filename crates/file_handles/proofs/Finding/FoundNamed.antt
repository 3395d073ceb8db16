-- What is found under a name, by what was read there.
use Rattle.std.proofs.Common.{◌≡◌, ◌∙◌, ℕ, List, Option, Some, None, refl, sym, ap}
use Rattle.std.specs.Prelude.{IfSome}
use Rattle.chunk_store.specs.declared.damage.Damage.{Damage}
use Rattle.entry_file.specs.Damages.{first_damage}
use Rattle.entry_file.specs.EntryFile.{whole_in}
use Rattle.entry_file.specs.EntryRead.{ReadsAs}
use Rattle.entry_file.specs.Rewriting.{StoresBody, rewritten, whole_or}
use Rattle.entry_file.specs.declared.entry_read.EntryRead.{EntryRead}
use Rattle.entry_file.specs.declared.entry_read.EntryRead.TheVariants as read
use Rattle.entry_file.proofs.StoredBody.{same_meta}
use Rattle.entry_metadata.specs.Meta.{meta_of}
use Rattle.entry_metadata.specs.declared.meta.Meta.{Meta}
use Rattle.file_handles.specs.Found.{IsFoundUnder}
use Rattle.file_handles.proofs.Finding.FoundFile.{reads_nothing}
use Rattle.file_handles.proofs.Finding.FoundLoad.{reads_first}

-- what does not fit is none
pub unfit_found : (name : List ℕ) (content : Option (List ℕ)) (r : EntryRead) → ((meta : Meta) (size : ℕ) → r ≡ read.Fits meta size → ⊥)
    → ReadsAs name content r → IsFoundUnder name content None
unfit_found name None r other reads = refl
unfit_found name (Some c) read.Absent other reads = absurd reads
unfit_found name (Some c) (read.Unfit f) other reads = ap whole_in (reads_nothing name c f reads)
unfit_found name (Some c) (read.Fits meta size) other reads = absurd (other meta size refl)

-- a file that fits is whole without a damage
pub whole_found : (name : List ℕ) (content : Option (List ℕ)) (meta : Meta) (size : ℕ) → ReadsAs name content (read.Fits meta size)
    → IfSome content (λ c. None ≡ first_damage (meta_of meta) c) → StoresBody content (meta_of meta) → IsFoundUnder name content (Some meta)
whole_found name None meta size reads none stores = absurd reads
whole_found name (Some c) meta size reads none stores = record {
  reads = reads_first name c (meta_of meta) reads.0 reads.1 ∙ ap (λ d. whole_or d (rewritten (meta_of meta) c)) (sym none);
  meta = same_meta (meta_of meta) c stores;
  long = stores.0;
}

-- and with one it is none
pub damaged_found : (name : List ℕ) (content : Option (List ℕ)) (meta : Meta) (size : ℕ) → ReadsAs name content (read.Fits meta size)
    → (d : Damage) → IfSome content (λ c. Some d ≡ first_damage (meta_of meta) c) → IsFoundUnder name content None
damaged_found name None meta size reads d some = absurd reads
damaged_found name (Some c) meta size reads d some =
    ap whole_in (reads_first name c (meta_of meta) reads.0 reads.1 ∙ ap (λ d. whole_or d (rewritten (meta_of meta) c)) (sym some))
