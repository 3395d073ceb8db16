-- What is done for a command: itself; but an eviction, a clearing, also one that is resumed, a check, a list, and
-- whether there is an entry, go by records, which may not be right.
use Rattle.std.specs.Prelude.{Bool, List, None, Option, Some, ℕ, ◌≡◌}
use Rattle.cache_theory.specs.Command.{Command}
use Rattle.cache_theory.specs.Command.Command.{ClearNames, ClearOrigin, Evict, EvictNames, HasEntry, HasGiven, ListGiven, ListRecords, Resume, ResumeNames, Verify, VerifyRecords}
use Rattle.cache_theory.specs.Covers.{cleared_by, covered_by}
use Rattle.cache_theory.specs.Machine.{Machine, open_names}
use Rattle.cache_theory.specs.Step.{step}
use Rattle.context_clear.specs.Mark.{mark_of}
use Rattle.evictor.specs.Evict.{victims}
use Rattle.index_record.specs.declared.record.IndexRecord.{IndexRecord}
use Rattle.index_theory.specs.Scan.{scan}

-- a clearing whose mark stands is resumed for the names that some records tell; where none stands, it is the command
-- itself
abbrev pub IsResumedBy : (List IndexRecord → Type 0) → Option ℕ → Machine → Command → Type 0
IsResumedBy Holds None m done = done ≡ Resume
IsResumedBy Holds (Some origin) m done =
    (records : List IndexRecord) × ((done ≡ ResumeNames (covered_by records m origin)) × Holds records)

-- an eviction is that of the victims among some records, a clearing is that of the names that some records tell, a
-- check is one against some records, and a list is one of some records, of which the first holds; there is an entry
-- or not, of which the second holds
abbrev pub IsDoneBy : (List IndexRecord → Type 0) → (List ℕ → Bool → Type 0) → Command → Machine → Command → Type 0
IsDoneBy Holds Says (Evict kb) m done =
    (records : List IndexRecord) × ((done ≡ EvictNames (victims records (open_names m) kb)) × Holds records)
IsDoneBy Holds Says (ClearOrigin origin) m done =
    (records : List IndexRecord) × ((done ≡ ClearNames (cleared_by records m origin)) × Holds records)
IsDoneBy Holds Says Resume m done = IsResumedBy Holds (mark_of m.mark) m done
IsDoneBy Holds Says Verify m done = (records : List IndexRecord) × ((done ≡ VerifyRecords records) × Holds records)
IsDoneBy Holds Says ListRecords m done = (records : List IndexRecord) × ((done ≡ ListGiven records) × Holds records)
IsDoneBy Holds Says (HasEntry key) m done = (there : Bool) × ((done ≡ HasGiven key there) × Says key there)
IsDoneBy Holds Says c m done = done ≡ c

-- the records are those of all entries where they are right
abbrev pub AreOfShelf : (right : Type 0) → Machine → List IndexRecord → Type 0
AreOfShelf right m records = right → records ≡ scan m.shelf

-- the answer whether there is an entry is the machine's own where they are right
abbrev pub IsOfShelf : (right : Type 0) → Machine → List ℕ → Bool → Type 0
IsOfShelf right m key there = right → step m (HasGiven key there) ≡ step m (HasEntry key)

-- what is done for the command follows from such records and such an answer
abbrev pub IsDoneFor : (right : Type 0) → Command → Machine → Command → Type 0
IsDoneFor right c m done = IsDoneBy (AreOfShelf right m) (IsOfShelf right m) c m done

-- this holds of what is done for the command, by such records
abbrev pub DoneBy : (List IndexRecord → Type 0) → (List ℕ → Bool → Type 0) → Command → Machine → (Command → Type 0) → Type 0
DoneBy Holds Says c m P = (done : Command) × (IsDoneBy Holds Says c m done × P done)

-- this holds of what is done for the command, by records that are right under the premise
abbrev pub DoneFor : (right : Type 0) → Command → Machine → (Command → Type 0) → Type 0
DoneFor right c m P = (done : Command) × (IsDoneFor right c m done × P done)
