-- What is read of the file of a key.
use Rattle.std.specs.Prelude.{Err, IsSomeAnd, List, Ok, Option, Result, true, ℕ, ⊤, ◌≡◌}
use Rattle.cache_theory.specs.declared.refusal.Refusal.TheVariants as refused
use Rattle.entry_file.specs.EntryFile.{Reading, file_meta, fits}
use Rattle.entry_file.specs.EntryFile.Reading.{Whole, Damaged, Nothing}
use Rattle.entry_file.specs.Version.{version_meta}
use Rattle.entry_metadata.specs.Meta.{meta_of}
use Rattle.entry_metadata.specs.declared.meta.Meta.{Meta}
use Rattle.entry_name.specs.EntryName.{file_name}
use Rattle.file_handles.specs.declared.fault.HandleFault.{HandleFault}
use Rattle.file_handles.specs.declared.fault.HandleFault.TheVariants as fault

-- these are the metadata of the file of the key that stands there, even if it is damaged
abbrev pub IsMetaFor : List ℕ → Option (List ℕ) → Meta → Type 0
IsMetaFor key file meta = IsSomeAnd file (λ c. (fits (file_name key) c ≡ true)
    × (((file_meta c).key ≡ key) × (meta_of meta ≡ file_meta c)))

-- the metadata of what is read, or why there is none
abbrev pub LoadsAs : Reading → Result Meta HandleFault → Type 0
LoadsAs (Whole v) (Ok meta) = meta_of meta ≡ version_meta v
LoadsAs (Whole v) (Err (fault.Refused r)) = ⊥
LoadsAs (Damaged d) (Ok meta) = ⊥
LoadsAs (Damaged d) (Err (fault.Refused r)) = r ≡ refused.Damaged d
LoadsAs Nothing (Ok meta) = ⊥
LoadsAs Nothing (Err (fault.Refused r)) = r ≡ refused.Absent
LoadsAs r (Err fault.Read) = ⊤
LoadsAs r (Err fault.Disk) = ⊤
LoadsAs r (Err fault.Memory) = ⊤
