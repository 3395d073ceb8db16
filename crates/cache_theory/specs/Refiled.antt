-- What a command changes of the files of entries.
use Rattle.std.specs.Prelude.{List, None, Option, Some, if◌then◌else◌, option_and_then, ℕ, ⊤, ◌≡◌}
use Rattle.std.specs.Str.{bytes_eq}
use Rattle.cache_base.specs.Checks.{first_failing}
use Rattle.cache_theory.specs.Checks.{checks}
use Rattle.cache_theory.specs.Command.{Command}
use Rattle.cache_theory.specs.Command.Command.{Create, Doom, ListRecords, ListGiven, Evict, EvictNames, ClearOrigin, ClearNames, Resume, ResumeNames, StepUpdate, Verify, VerifyRecords, Rebuild, Dump}
use Rattle.cache_theory.specs.Machine.{Machine, Object, object}
use Rattle.cache_theory.specs.Marks.{rewritten}
use Rattle.cache_theory.specs.Proper.{IsProper}
use Rattle.cache_theory.specs.Step.{effect, step, without}
use Rattle.cache_theory.specs.Table.{get}
use Rattle.entry_file.specs.Version.{file_of}
use Rattle.entry_name.specs.EntryName.{file_name}

-- a name, and the content that the shelf has there now, if any
pub record Refiled : Type 0 where
  pub name : List ℕ
  pub content : Option (List ℕ)

-- where an object's file is written anew: under its name, unless it is doomed
abbrev pub refiled_by : Object → Option Refiled
refiled_by o =
    if o.doomed then None
    else Some (record { name = file_name o.version.key; content = Some (file_of o.version) })

-- what a command changes whose checks hold: nothing, or one name
abbrev pub refiled : Machine → Command → Option Refiled
refiled m (Create s key) = Some (record { name = file_name key; content = None })
refiled m (Doom key) = Some (record { name = file_name key; content = None })
refiled m c = option_and_then (λ i. refiled_by (object (effect m c).next i)) (rewritten m c)

-- the shelf and the rest are unchanged, but for this: the shelf has the content under the name, and
-- the name has left the rest
abbrev pub IsRefiled : Machine → Machine → Option Refiled → Type 0
IsRefiled m next None =
    ((name : List ℕ) → get next.shelf name ≡ get m.shelf name) × (next.rest ≡ m.rest)
IsRefiled m next (Some r) =
    ((name : List ℕ)
    → get next.shelf name ≡ (if bytes_eq name r.name then r.content else get m.shelf name))
    × (next.rest ≡ without r.name m.rest)

-- a command that has the update read no names
abbrev pub IsOfEntries : Command → Type 0
IsOfEntries ListRecords = ⊥
IsOfEntries (ListGiven records) = ⊥
IsOfEntries (Evict kb) = ⊥
IsOfEntries (EvictNames names) = ⊥
IsOfEntries (ClearOrigin origin) = ⊥
IsOfEntries (ClearNames names) = ⊥
IsOfEntries Resume = ⊥
IsOfEntries (ResumeNames names) = ⊥
IsOfEntries (StepUpdate n) = ⊥
IsOfEntries Verify = ⊥
IsOfEntries (VerifyRecords records) = ⊥
IsOfEntries Rebuild = ⊥
IsOfEntries Dump = ⊥
IsOfEntries _ = ⊤

-- it changes one name at most
abbrev pub EntriesAreRefiled : Type 0
EntriesAreRefiled = (m : Machine) (c : Command) → IsOfEntries c → IsProper m
    → first_failing (checks m c) ≡ None → IsRefiled m (step m c).next (refiled m c)
