-- What a file reads as, by its block.
use Rattle.std.specs.Prelude.{ℕ, ◌≡◌, List, None, Some}
use Rattle.entry_metadata.specs.Checks.{meta_in}
use Rattle.entry_metadata.specs.Meta.{meta_of}
use Rattle.entry_file.specs.EntryFile.{block_check}
use Rattle.entry_file.specs.declared.entry_read.EntryRead.{EntryRead}
use Rattle.entry_file.specs.declared.entry_read.EntryRead.TheVariants.{Absent, Unfit, Fits}

-- the file does not fit, with this check; or it fits, with what its block says and this length
abbrev pub BlockReadsAs : List ℕ → List ℕ → ℕ → ℕ → EntryRead → Type 0
BlockReadsAs name block offset size Absent = ⊥
BlockReadsAs name block offset size (Unfit check) = block_check name block offset ≡ Some check
BlockReadsAs name block offset size (Fits meta whole) = (block_check name block offset ≡ None) × (meta_of meta ≡ meta_in block offset) × (whole ≡ size)
