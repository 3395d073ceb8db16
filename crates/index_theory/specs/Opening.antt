-- From the call of an opening to its sync: what was done, and that each crash leaves an honest directory.
use Rattle.std.specs.List.{AllByRecursion}
use Rattle.std.specs.Prelude.{Bool, List, None, Some, length, not, ℕ, ◌<◌, ◌==◌, ◌^◌, ◌≡◌, ◌⊎◌}
use Rattle.cache_base.specs.Bytes.{be32}
use Rattle.disk_theory.specs.Sound.{IsQuiet, IsSound, names_before}
use Rattle.disk_theory.specs.State.{File, State, Write, names_now, removed, renamed, settled, standing, written, wrote}
use Rattle.disk_theory.specs.State.Write.{End, Patch}
use Rattle.disk_theory.specs.declared.place.Place.TheVariants.{Doomed, Index, Log, Tmp}
use Rattle.index_file.specs.Index.{IndexSpells, flag_at}
use Rattle.index_record.specs.declared.record.IndexRecord.{IndexRecord}
use Rattle.index_theory.specs.Ever.{entry_place}
use Rattle.index_theory.specs.Honest.{Honest, LeavesHonest}
use Rattle.index_theory.specs.IndexKind.{index_kind}
use Rattle.index_theory.specs.declared.kinds.IndexKind.TheVariants.{Clean}
use Rattle.index_theory.specs.Unclean.{IsNotClean, IsUnclean}

-- a write of the four bytes of an index's flag alone
abbrev pub IsFlagWrite : Write → Type 0
IsFlagWrite (End from bytes) = ⊥
IsFlagWrite (Patch from bytes) = (from ≡ flag_at) × (length bytes ≡ 4)

-- a clean index, of which the flag alone was written
pub record IsFlagged (before now : File) : Type 0 where
  pub clean : index_kind (Some before.synced) ≡ Clean
  pub synced : now.synced ≡ before.synced
  pub writes : AllByRecursion IsFlagWrite now.writes

-- the journal is gone, or it stands where it stood, with what stood at `index.tmp` beside it
abbrev pub IsSetAside : State → State → ℕ → Type 0
IsSetAside s t left =
    (names_before t left Log ≡ None) ⊎ ((names_before t left Log ≡ names_now s Log) × (names_before t left Tmp ≡ names_now s Tmp))

-- what an opening of s has done, up to its sync: doomed files are gone, the journal may be set aside, and the flag of a
-- clean index may be written
pub record IsOpening (s t : State) : Type 0 where
  pub entries : (left : ℕ) (name : List ℕ)
      → names_before t left (entry_place name) ≡ names_now s (entry_place name)
  pub index : (left : ℕ) → names_before t left Index ≡ names_now s Index
  pub journal : (left : ℕ) → IsSetAside s t left
  pub files : (file : ℕ)
      → (t.files file ≡ s.files file)
      ⊎ ((names_now s Index ≡ Some file) × IsFlagged (s.files file) (t.files file))

-- it begins with nothing done
abbrev pub OpeningBegins : Type 0
OpeningBegins = (s : State) → IsQuiet s → IsOpening s s

-- doomed files are removed
abbrev pub OpeningClears : Type 0
OpeningClears = (s t : State) (number : ℕ) → IsOpening s t → IsOpening s (removed (Doomed number) t)

-- the journal is set aside
abbrev pub OpeningSetsAside : Type 0
OpeningSetsAside = (s t : State) → IsOpening s t → IsOpening s (renamed Log Tmp t)

-- the flag of a clean index is written
abbrev pub OpeningFlags : Type 0
OpeningFlags = (s t : State) (flag : List ℕ) → IsQuiet s → index_kind (standing t Index) ≡ Clean → length flag ≡ 4 → IsOpening s t
    → IsOpening s (wrote Index (Patch flag_at flag) t)

-- an index whose flag is written spells the same with that flag
abbrev pub FlaggedSpells : Type 0
FlaggedSpells = (c : List ℕ) (timestamp flag : ℕ) (dirty : Bool) (rs : List IndexRecord) → flag < 2 ^ 32 → IndexSpells c timestamp dirty rs
    → IndexSpells (written (Patch flag_at (be32 flag)) c) timestamp (not (flag == 0)) rs

-- at each of these moments a crash leaves an honest directory, where it was one
abbrev pub OpeningLeavesHonest : Type 0
OpeningLeavesHonest = (s t : State) → IsQuiet s → IsSound s → Honest (standing s) → IsOpening s t → LeavesHonest t

-- with the flag set, a clean index is clean no more
abbrev pub FlaggedIsNotClean : Type 0
FlaggedIsNotClean = (t : State) → IsSound t → index_kind (standing t Index) ≡ Clean
    → IsNotClean (standing (wrote Index (Patch flag_at (be32 1)) t) Index)

-- and so after the sync no crash leaves a trusted index
abbrev pub FlaggedIsUnclean : Type 0
FlaggedIsUnclean = (t : State) → IsSound t → index_kind (standing t Index) ≡ Clean
    → IsUnclean (settled (wrote Index (Patch flag_at (be32 1)) t))
