-- What a crash may bring back of an origin that was cleared.
use Rattle.std.specs.List.{AllByRecursion}
use Rattle.std.specs.Prelude.{List, Some, false, length, slice_get, suc, true, ℕ, ◌<◌, ◌≡◌, ◌≤◌, ◌⊎◌}
use Rattle.cache_theory.specs.Command.{Command}
use Rattle.cache_theory.specs.Command.Command.{ClearOrigin, Resume}
use Rattle.cache_theory.specs.Covers.{covers, covers_object}
use Rattle.cache_theory.specs.Crash.{IsLeft, NoChance}
use Rattle.cache_theory.specs.Ever.{entries}
use Rattle.cache_theory.specs.Given.{IsGiven}
use Rattle.cache_theory.specs.Machine.{Machine, object}
use Rattle.cache_theory.specs.Marks.{Marks, is_in_place, is_touched}
use Rattle.cache_theory.specs.Proper.{IsProper}
use Rattle.cache_theory.specs.Session.{marks_between}
use Rattle.cache_theory.specs.Step.{step}
use Rattle.cache_theory.specs.Table.{get}
use Rattle.cache_theory.specs.Wording.{IsWrittenIn, state_at}
use Rattle.context_clear.specs.Mark.{mark_of}
use Rattle.disk_theory.specs.Image.{Files}
use Rattle.disk_theory.specs.State.{State}
use Rattle.entry_file.specs.EntryFile.{found}
use Rattle.entry_file.specs.Version.{Version}
use Rattle.entry_key.specs.Tags.{value_hash}
use Rattle.entry_name.specs.EntryName.{file_name}

-- a proper machine and commands as a program gives them: the first a are acknowledged, and those up to b have begun
pub record IsSession (m : Machine) (cs : List Command) (a b : ℕ) : Type 0 where
  pub proper : IsProper m
  pub given : AllByRecursion IsGiven cs
  pub acknowledged : a ≤ b
  pub begun : b ≤ length cs

-- the command of this number, counted from 0, clears the origin, and is one of the first a
pub record IsClearedAt (cs : List Command) (a : ℕ) (origin : List ℕ) (at : ℕ) : Type 0 where
  pub clears : slice_get cs at ≡ Some (ClearOrigin origin)
  pub acknowledged : at < a

-- the version is of the origin, and not pinned
abbrev pub IsCovered : List ℕ → Version → Type 0
IsCovered origin v = covers (value_hash origin) v.key v.header ≡ true

-- a crash leaves the version under the key; by no chance, where metadata were rewritten in place under its name
pub record IsBroughtBack (s : State) (w : Marks) (image : Files) (key : List ℕ) (v : Version)
    : Type 0 where
  pub left : IsLeft s w image
  pub found : found (entries image) key ≡ Some v
  pub no_chance : is_touched w (file_name key) ≡ true
      → (is_in_place w (file_name key) ≡ false) ⊎ NoChance s image (file_name key)

-- once a clearing of an origin is acknowledged, a crash brings back a covered version only where a command after the
-- clearing wrote it, through an object that was not doomed right after the clearing
abbrev pub ClearedStayGone : Type 0
ClearedStayGone = (m : Machine) (cs : List Command) (a b at : ℕ) (origin : List ℕ)
    → IsSession m cs a b → IsClearedAt cs a origin at
    → (s : State) (image : Files) (key : List ℕ) (v : Version)
    → IsBroughtBack s (marks_between m cs a b) image key v → IsCovered origin v
    → IsWrittenIn m cs (suc at) b (file_name key) v

-- once the clearing was resumed whose mark stood, no version of that origin is found that is not pinned
abbrev pub ResumedLeavesNone : Type 0
ResumedLeavesNone = (m : Machine) (origin : ℕ) (key : List ℕ) (v : Version) → mark_of m.mark ≡ Some origin
    → found (get (step m Resume).next.shelf) key ≡ Some v → covers origin v.key v.header ≡ false

-- the object of this number came later, or is not covered
abbrev pub IsSpared : Machine → List ℕ → ℕ → Type 0
IsSpared m origin i = i < length m.objects
    → covers_object (value_hash origin) (object m i) ≡ false

-- and each such object came after the clearing, or was not covered right after it
abbrev pub WrittenAreSpared : Type 0
WrittenAreSpared = (m : Machine) (cs : List Command) (a b at : ℕ) (origin : List ℕ)
    → IsSession m cs a b → IsClearedAt cs a origin at
    → (name : List ℕ) (v : Version) (w : IsWrittenIn m cs (suc at) b name v)
    → IsSpared (state_at m cs (suc at)) origin w.number
