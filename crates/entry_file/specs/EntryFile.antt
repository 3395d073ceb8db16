-- What a file is checked for, and what it reads as.
use Rattle.std.specs.Prelude.{ℕ, ◌≡◌, ◌↔◌, ◌==◌, ◌-◌, ◌++◌, nat_le, Bool, true, not, ◌&&◌, if◌then◌else◌, List, [], ◌∷◌, length, take, slice_range, Option, None, Some, is_none}
use Rattle.std.specs.Str.{bytes_eq}
use Rattle.cache_base.specs.Bytes.{AreBytes, be32, be32_at}
use Rattle.chunk_store.specs.Chunks.{damages}
use Rattle.chunk_store.specs.declared.damage.Damage.{Damage}
use Rattle.entry_name.specs.EntryName.{file_name}
use Rattle.entry_metadata.specs.Metadata.{Meta, Spells}
use Rattle.entry_metadata.specs.Checks.{block_fault, meta_in}
use Rattle.entry_metadata.specs.declared.fault.MetaFault.{MetaFault}
use Rattle.entry_metadata.specs.declared.fault.MetaFault.TheVariants as faults
use Rattle.entry_file.specs.Version.{Version, IsFileOf, IsVersion}
use Rattle.entry_file.specs.declared.entry_read.Unfit.{Unfit}
use Rattle.entry_file.specs.declared.entry_read.Unfit.TheVariants as unfit

-- the offset that a file ends in
abbrev pub offset_in : List ℕ → ℕ
offset_in c = be32_at c (length c - 4)

-- the block from the offset up to these last bytes
abbrev pub block_in : List ℕ → List ℕ
block_in c = slice_range c (offset_in c) (length c - 4)

-- the body before the offset
abbrev pub body_in : List ℕ → List ℕ
body_in c = take (offset_in c) c

-- the metadata of a file that fits
abbrev pub file_meta : List ℕ → Meta
file_meta c = meta_in (block_in c) (offset_in c)

-- the check that a fault of a block names; that memory ran out names none
abbrev pub unfit_of : MetaFault → Option Unfit
unfit_of faults.Short = Some unfit.Short
unfit_of faults.TooBig = Some unfit.TooBig
unfit_of faults.Version = Some unfit.Version
unfit_of faults.KeyEnd = Some unfit.KeyEnd
unfit_of faults.Hash = Some unfit.Hash
unfit_of faults.KeyForm = Some unfit.KeyForm
unfit_of faults.Elements = Some unfit.Elements
unfit_of faults.Memory = None

-- whether the file ends in an offset within it that is not that of an unfinished entry
abbrev pub has_offset : List ℕ → Bool
has_offset c = nat_le 4 (length c) && not (offset_in c == 0xFFFFFFFF) && nat_le (offset_in c) (length c - 4)

-- the fault of the block, if it has one, and else that of the name
abbrev pub named_fault : Option MetaFault → Bool → Option Unfit
named_fault (Some fault) is_named = unfit_of fault
named_fault None is_named = if is_named then None else Some unfit.WrongName

-- the first failing check of the block of a body of this length, and of the name
abbrev pub block_check : List ℕ → List ℕ → ℕ → Option Unfit
block_check name block offset = named_fault (block_fault block offset) (bytes_eq (file_name (meta_in block offset).key) name)

-- the first failing check of a file of this name
unfoldable pub file_fault : List ℕ → List ℕ → Option Unfit
file_fault name c =
    if has_offset c then block_check name (block_in c) (offset_in c) else Some unfit.Short

-- the content fits under the name
abbrev pub fits : List ℕ → List ℕ → Bool
fits name c = is_none (file_fault name c)

-- the same as a join of parts: a body, a block that spells m there, and the block's offset
pub record Fits (name c : List ℕ) (m : Meta) : Type 0 where
  pub body : List ℕ
  pub block : List ℕ
  pub spells : Spells block (length body) m
  pub bytes : c ≡ body ++ (block ++ be32 (length body))
  pub named : file_name m.key ≡ name

-- what a file reads as: a version, an entry whose first damaged chunk this is, or nothing
pub data Reading : Type 0 where
  Whole : Version → Reading
  Damaged : Damage → Reading
  Nothing : Reading

-- a file that fits, by the damages of its chunks
abbrev pub by_damages : Meta → List ℕ → List Damage → Reading
by_damages m body [] = Whole (record { header = m.header; key = m.key; elements = m.elements; body = body })
by_damages m body (d ∷ ds) = Damaged d

-- what a file reads as by its first failing check: nothing where one fails
abbrev pub by_fault : Option Unfit → List ℕ → Reading
by_fault None c = by_damages (file_meta c) (body_in c) (damages (file_meta c).hashes (file_meta c).offset (body_in c))
by_fault (Some f) c = Nothing

-- what the content reads as under the name
unfoldable pub read : List ℕ → List ℕ → Reading
read name c = by_fault (file_fault name c) c

-- what the content reads as for a key: nothing where it has another key
abbrev pub read_for : List ℕ → Option (List ℕ) → Reading
read_for key None = Nothing
read_for key (Some c) = if bytes_eq (file_meta c).key key then read (file_name key) c else Nothing

-- the version in a reading
abbrev pub whole_in : Reading → Option Version
whole_in (Whole v) = Some v
whole_in (Damaged d) = None
whole_in Nothing = None

-- the version that is found under a key, where `files` gives the content under each name
abbrev pub found : (List ℕ → Option (List ℕ)) → List ℕ → Option Version
found files key = whole_in (read_for key (files (file_name key)))

-- a file of a version reads as that version, whole
abbrev pub FileReadsWhole : Type 0
FileReadsWhole = (v : Version) (c : List ℕ) → IsVersion v → IsFileOf v c → read (file_name v.key) c ≡ Whole v

-- a content of bytes passes the checks of a file exactly where it is a join of a body, a block and the block's offset
abbrev pub FitsExactly : Type 0
FitsExactly = (name c : List ℕ) → AreBytes c → (fits name c ≡ true) ↔ ((m : Meta) × Fits name c m)

-- a content of bytes reads as a whole version exactly where it is a file of that version
abbrev pub ReadsWholeExactly : Type 0
ReadsWholeExactly = (name c : List ℕ) (v : Version) → AreBytes c → (read name c ≡ Whole v) ↔ (IsVersion v × (file_name v.key ≡ name) × IsFileOf v c)
