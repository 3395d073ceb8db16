-- The commands of the machine, and what it answers.
use Rattle.std.specs.Prelude.{Bool, ℕ, List}
use Rattle.alt_data.specs.AltData.{Alt}
use Rattle.cache_base.specs.declared.name.Name.{Name}
use Rattle.cache_check.specs.declared.finding.Finding.{Finding}
use Rattle.cache_theory.specs.declared.refusal.Refusal.{Refusal}
use Rattle.entry_file.specs.Version.{Version}
use Rattle.entry_parts.specs.Elements.{Element}
use Rattle.entry_parts.specs.declared.header.Header.{Header}
use Rattle.index_record.specs.declared.record.IndexRecord.{IndexRecord}

-- what the machine is asked to do
pub data Command : Type 0 where
  At : (now : ℕ) → Command
  Create : (slot : ℕ) (key : List ℕ) → Command
  OpenKey : (slot : ℕ) (key : List ℕ) → Command
  Append : (slot : ℕ) (bytes : List ℕ) → Command
  Finish : (slot : ℕ) → Command
  -- the same with this header and these elements in place of its own; no script spells it
  FinishAs : (slot : ℕ) (header : Header) (elements : List Element) → Command
  SetElement : (slot : ℕ) (name value : List ℕ) → Command
  UnsetElement : (slot : ℕ) (name : List ℕ) → Command
  ElementOf : (slot : ℕ) (name : List ℕ) → Command
  UseEntry : (slot : ℕ) → Command
  -- the entry is pinned, so that neither an eviction nor a clearing takes it; or it is so no longer
  Pin : (slot : ℕ) → Command
  Unpin : (slot : ℕ) → Command
  -- these bytes are kept after the body as alternative data of this kind
  PutAlt : (slot : ℕ) (kind bytes : List ℕ) → Command
  ReadPart : (slot from len : ℕ) → Command
  Close : (slot : ℕ) → Command
  Doom : (key : List ℕ) → Command
  Get : (key : List ℕ) → Command
  GetAlt : (key : List ℕ) → Command
  MainBody : (key : List ℕ) → Command
  HasEntry : (key : List ℕ) → Command
  -- the same where there is an entry or not, whatever stands; no script spells it
  HasGiven : (key : List ℕ) (there : Bool) → Command
  ListRecords : Command
  -- a list of these records, whatever the files say; no script spells it
  ListGiven : (records : List IndexRecord) → Command
  Evict : (kb : ℕ) → Command
  -- an eviction of these names, whatever the records say; no script spells it
  EvictNames : (names : List Name) → Command
  -- the entries of this origin that are not pinned are doomed
  ClearOrigin : (origin : List ℕ) → Command
  -- a clearing of these names, whatever the files say; no script spells it
  ClearNames : (names : List Name) → Command
  -- a clearing that was stopped is done, if the mark of one stands; the first command of every run, and no script
  -- spells it
  Resume : Command
  -- the same of these names, where a mark stands, whatever the files say
  ResumeNames : (names : List Name) → Command
  Flush : Command
  StepUpdate : (n : ℕ) → Command
  UpdateState : Command
  Verify : Command
  -- a check against these records, whatever the files say; no script spells it
  VerifyRecords : (records : List IndexRecord) → Command
  Rebuild : Command
  -- all entries as one stream; no script spells it
  Dump : Command

-- what it answers
pub data Reply : Type 0 where
  Done : Reply
  Refused : (refusal : Refusal) → Reply
  -- no such element
  NoneThere : Reply
  -- an element's value
  Value : (value : List ℕ) → Reply
  -- a part of a body
  Part : (bytes : List ℕ) → Reply
  -- a whole entry
  Found : (version : Version) → Reply
  -- the alternative data of an entry, with where they begin and their kind
  AltData : (alt : Alt) (bytes : List ℕ) → Reply
  -- the main body of an entry
  Main : (bytes : List ℕ) → Reply
  -- whether there is an entry, which is unknown while the update of the index waits for the name
  Yes : Reply
  No : Reply
  Unknown : Reply
  -- the records of all entries
  Records : (records : List IndexRecord) → Reply
  -- the names of the entries that were evicted
  Evicted : (names : List Name) → Reply
  -- so many names were cleared
  Cleared : (names : ℕ) → Reply
  -- no clearing is left to be done
  Resumed : Reply
  -- the update of the index has ended, or it has still to read so many names
  Ready : Reply
  Updating : (names : ℕ) → Reply
  -- what is wrong with files and records
  Findings : (findings : List Finding) → Reply
  -- the index is written anew, with so many records
  Rebuilt : (records : ℕ) → Reply
  -- the entries of a dump
  Dumped : (versions : List Version) → Reply
