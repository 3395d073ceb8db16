-- What a `get` finds, and what is found under a name.
use Rattle.std.specs.Prelude.{IfOk, IsSomeAnd, List, None, Option, Result, Some, length, ℕ, ◌≡◌, ◌≤◌}
use Rattle.cache_base.specs.Limits.{chunks}
use Rattle.cache_base.specs.declared.name.Name.{Name}
use Rattle.cache_theory.specs.Command.Command.{Get}
use Rattle.cache_theory.specs.Command.Reply.{Found, Refused}
use Rattle.cache_theory.specs.Ever.{entries}
use Rattle.cache_theory.specs.Machine.{Machine}
use Rattle.cache_theory.specs.Step.{step}
use Rattle.disk_theory.specs.State.{State, standing}
use Rattle.disk_theory.specs.declared.place.Place.TheVariants.{Entry as EntryAt}
use Rattle.entry_file.specs.EntryFile.{read, whole_in}
use Rattle.entry_file.specs.EntryFile.Reading.{Whole}
use Rattle.entry_file.specs.Held.{IsLastOf}
use Rattle.entry_file.specs.Rewriting.{rewritten}
use Rattle.entry_file.specs.Version.{IsFileOf, IsVersion, Version, version_meta}
use Rattle.entry_metadata.specs.Meta.{meta_of}
use Rattle.entry_metadata.specs.declared.meta.Meta.{Meta}
use Rattle.entry_name.specs.EntryName.{file_name}
use Rattle.file_handles.specs.Answers.{OnRefused}
use Rattle.file_handles.specs.Cache.{Cache}
use Rattle.file_handles.specs.Stands.{Represents}
use Rattle.file_handles.specs.declared.fault.HandleFault.{HandleFault}

-- the machine finds this version, of these metadata, and a file of it stands
pub record IsFound (m : Machine) (key : List ℕ) (meta : Meta) (s : State) : Type 0 where
  pub version : Version
  pub fits : IsVersion version
  pub reply : (step m (Get key)).reply ≡ Found version
  pub of_meta : meta_of meta ≡ version_meta version
  pub file : IsSomeAnd (entries (standing s) (file_name key)) (IsFileOf version)

-- it finds what the machine finds
pub record FindsIn (key : List ℕ) (answer : Result Meta HandleFault) (s : State) (m : Machine)
    : Type 0 where
  pub some : IfOk answer (λ meta. IsFound m key meta s)
  pub none : OnRefused answer (λ r. (step m (Get key)).reply ≡ Refused r)

-- so it does, whatever machine is represented
pub record Finds (key : List ℕ) (answer : Result Meta HandleFault) (now : Cache) : Type 0 where
  pub finds : (m : Machine) → Represents now m → FindsIn key answer now.disk m

-- the bytes are the last chunk of the body of the file of a key, where the body has one
abbrev pub HoldsLast : State → List ℕ → ℕ → List ℕ → Type 0
HoldsLast s key offset bytes =
    (name : Name) → name.0 ≡ file_name key → IsLastOf (chunks offset) (standing s (EntryAt name)) offset bytes

-- the content is the file of a whole entry with these metadata under the name: the version whose body it begins with
pub record IsWholeOf (name c : List ℕ) (found : Meta) : Type 0 where
  pub reads : read name c ≡ Whole (rewritten (meta_of found) c)
  pub meta : version_meta (rewritten (meta_of found) c) ≡ meta_of found
  pub long : found.offset ≤ length c

-- what is found under a name, by what stands there
abbrev pub IsFoundUnder : List ℕ → Option (List ℕ) → Option Meta → Type 0
IsFoundUnder name None found = found ≡ None
IsFoundUnder name (Some c) None = whole_in (read name c) ≡ None
IsFoundUnder name (Some c) (Some meta) = IsWholeOf name c meta
