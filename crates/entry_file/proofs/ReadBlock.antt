-- What is read of a block.
use Rattle.std.proofs.Common.{◌≡◌, ℕ, List, Bool, true, false, refl, sym, ap, ◌∙◌}
use Rattle.std.specs.Prelude.{None}
use Rattle.std.specs.Str.{bytes_eq}
use Rattle.entry_name.specs.EntryName.{file_name}
use Rattle.entry_metadata.specs.declared.meta.Meta.{Meta}
use Rattle.entry_metadata.specs.Checks.{meta_in}
use Rattle.entry_metadata.specs.Meta.{meta_of}
use Rattle.entry_metadata.specs.Metadata.{Meta as Said, Spells}
use Rattle.entry_metadata.proofs.SpelledLaws.{Spells-passes, Spells-says}
use Rattle.entry_file.specs.declared.entry_read.EntryRead.TheVariants as reads
use Rattle.entry_file.specs.declared.entry_read.Unfit.TheVariants as unfit
use Rattle.entry_file.specs.EntryFile.{block_check, named_fault}
use Rattle.entry_file.specs.BlockRead.{BlockReadsAs}

-- what is spelled is what the block says
said : (block : List ℕ) (offset : ℕ) (m : Said) → Spells block offset m → m ≡ meta_in block offset
said block offset m s = sym (Spells-says block offset m s)

-- and its name decides
by_name : (name block : List ℕ) (offset : ℕ) (m : Said) (b : Bool) → Spells block offset m → bytes_eq (file_name m.key) name ≡ b → block_check name block offset ≡ named_fault None b
by_name name block offset m b s e =
    (λ i. named_fault (Spells-passes block offset m s i) (bytes_eq (file_name (sym (said block offset m s) i).key) name))
    ∙ ap (named_fault None) e

pub fits_block : (name block : List ℕ) (offset size : ℕ) (m : Meta) → Spells block offset (meta_of m) → bytes_eq (file_name m.key) name ≡ true → BlockReadsAs name block offset size (reads.Fits m size)
fits_block name block offset size m s e = (by_name name block offset (meta_of m) true s e, said block offset (meta_of m) s, refl)

pub other_name : (name block : List ℕ) (offset size : ℕ) (m : Said) → Spells block offset m → bytes_eq (file_name m.key) name ≡ false → BlockReadsAs name block offset size (reads.Unfit unfit.WrongName)
other_name name block offset size m s e = by_name name block offset m false s e

-- two names are compared
pub decided : (key name : List ℕ) {slice digest : List ℕ} {equal b : Bool} → slice ≡ key → digest ≡ file_name slice → equal ≡ bytes_eq digest name → equal ≡ b → bytes_eq (file_name key) name ≡ b
decided key name p q e is = ap (λ (n : List ℕ). bytes_eq n name) (sym (q ∙ ap file_name p)) ∙ sym e ∙ is
