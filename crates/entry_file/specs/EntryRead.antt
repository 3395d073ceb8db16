-- What was read at an entry's place, by what stands there.
use Rattle.std.specs.Prelude.{ℕ, ◌≡◌, List, length, Option, None, Some}
use Rattle.entry_metadata.specs.Meta.{meta_of}
use Rattle.entry_metadata.specs.Metadata.{Meta}
use Rattle.entry_file.specs.EntryFile.{file_fault, file_meta, Fits as IsJoin}
use Rattle.entry_file.specs.declared.entry_read.EntryRead.{EntryRead}
use Rattle.entry_file.specs.declared.entry_read.EntryRead.TheVariants.{Absent, Unfit, Fits}

-- no file; a file that does not fit, with its first failing check; or one that fits, with its metadata and length
abbrev pub ReadsAs : List ℕ → Option (List ℕ) → EntryRead → Type 0
ReadsAs name None Absent = Unit {0}
ReadsAs name (Some c) (Unfit fault) = file_fault name c ≡ Some fault
ReadsAs name (Some c) (Fits meta size) = (file_fault name c ≡ None) × (meta_of meta ≡ file_meta c) × (size ≡ length c)
ReadsAs name content read = ⊥

-- where the file fits, this holds of its metadata
abbrev pub IfFits : EntryRead → (Meta → Type 0) → Type 0
IfFits Absent P = Unit {0}
IfFits (Unfit check) P = Unit {0}
IfFits (Fits meta size) P = P (meta_of meta)

-- what stands there is a body, a block that spells m, and the block's offset
abbrev pub Joins : List ℕ → Option (List ℕ) → Meta → Type 0
Joins name None m = ⊥
Joins name (Some c) m = IsJoin name c m
