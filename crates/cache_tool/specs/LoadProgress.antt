-- How far a `load` came.
use Rattle.std.specs.Io.KnownBytes.{Consumes, IsAtEnd}
use Rattle.std.specs.Prelude.{Err, IfSome, List, None, Ok, Option, Result, Some, [], flat_map, length, suc, ℕ, ⊤, ◌++◌, ◌∷◌, ◌≡◌, ◌≤◌, ◌⊎◌}
use Rattle.cache_base.specs.declared.status.Status.{Status}
use Rattle.cache_base.specs.declared.status.Status.TheVariants as status
use Rattle.cache_export.specs.Dump.{AreItems, IsDump, head, item_bytes}
use Rattle.cache_export.specs.Joined.{parts_of}
use Rattle.cache_export.specs.Parts.{Part, Stage, lead}
use Rattle.cache_export.specs.Reader.{given_in, held_in, stage_in, used_in}
use Rattle.cache_export.specs.declared.limits.TheConstants.{DUMP_MAX}
use Rattle.cache_export.specs.declared.reader.DumpReader.{DumpReader}
use Rattle.cache_store.specs.Session.{Session}
use Rattle.cache_store.specs.declared.fault.StoreFault.{StoreFault}
use Rattle.cache_theory.specs.Command.{Command}
use Rattle.cache_theory.specs.Command.Command.{Append, Close, Create, FinishAs}
use Rattle.cache_tool.specs.FillProgress.{RunsAll}
use Rattle.cache_tool.specs.Load.{ArePartsTo, BeginsLoaded, GaveLoaded, IsBadBehind, IsNoDump, Loaded, bad_dump_line, begun_parts, loaded_commands, loaded_line}
use Rattle.cache_tool.specs.Statuses.{status_in}
use Rattle.cache_tool.specs.Syncs.{SyncsFor}
use Rattle.cache_tool.specs.declared.load.LoadEnd.{LoadEnd}
use Rattle.cache_tool.specs.declared.load.LoadEnd.TheVariants as ended
use Rattle.disk_theory.specs.Calls.{Counts}
use Rattle.entry_file.specs.Version.{Version}
use Rattle.entry_parts.specs.Elements.{Element}
use Rattle.entry_parts.specs.declared.header.Header.{Header}

-- ---- the commands of a part

-- an entry is finished with these
abbrev pub finish_commands : Header → List Element → List Command
finish_commands header elements = FinishAs 0 header elements ∷ (Close 0 ∷ [])

-- what is done for a part: an entry is made, gets a piece, or is finished
abbrev pub part_commands : Part → List Command
part_commands (Part.KeyPart key) = Create 0 key ∷ []
part_commands (Part.PiecePart piece) = Append 0 piece ∷ []
part_commands (Part.BlockPart said) = finish_commands said.header said.elements

-- ---- the bytes of what was read

-- the key of the last item, or the one before them
abbrev pub last_key : Option (List ℕ) → List Version → Option (List ℕ)
last_key before [] = before
last_key before (v ∷ vs) = last_key (Some v.key) vs

-- these bytes are those of whole items and of the beginning of one more, and this is due after them
pub record AreLoaded (l : Loaded) (own : List ℕ) (stage : Stage) : Type 0 where
  pub front : List ℕ
  pub tail : List ℕ
  pub both : own ≡ front ++ tail
  pub items : AreItems None l.items
  pub whole : ArePartsTo (Stage.AtItem None) (flat_map parts_of l.items) front
      (Stage.AtItem (last_key None l.items))
  pub begun : ArePartsTo (Stage.AtItem (last_key None l.items)) (begun_parts l.begun) tail stage
  -- with what stands before the next item they are the head of a dump and the items
  pub spelled : front ++ lead (last_key None l.items) ≡ head ++ flat_map item_bytes l.items

-- ---- the parts one after another

-- the reader, the items that were counted, what the source has left, and the session, at a moment
pub record Loading : Type 0 where
  pub stage : Stage
  pub held : List ℕ
  pub used : ℕ
  pub given : ℕ
  pub count : ℕ
  pub left : Option (List ℕ)
  pub session : Session
  -- the counts of the disk
  pub counts : Counts

-- how far a reader, a source and a session are in a load
abbrev pub loading : DumpReader → ℕ → Option (List ℕ) → Session → Counts → Loading
loading r count left session counts = record {
  stage = stage_in r;
  held = held_in r;
  used = used_in r;
  given = given_in r;
  count = count;
  left = left;
  session = session;
  counts = counts;
}

-- this was read of a source so far, and all of it was done, where the disk had counted this at the beginning
pub record HasLoaded (tells : Type 0) (from : Option (List ℕ)) (before : Session) (began : Counts)
    (now : Loading) : Type 0 where
  pub loaded : Loaded
  pub own : List ℕ
  pub are : AreLoaded loaded own now.stage
  pub read : List ℕ
  pub taken : Consumes from now.left read
  pub spelled : read ≡ own ++ now.held
  pub used : now.used ≡ length own
  pub short : length own ≤ DUMP_MAX
  pub given : now.given ≡ length loaded.items
  pub counted : now.count ≡ length loaded.items
  pub runs : tells → RunsAll {T = Unit {0}} (loaded_commands loaded) (Ok tt) before now.session
  pub syncs : tells → SyncsFor (loaded_commands loaded) began now.counts

-- what the bytes of a source are, by how a load of them ended: they begin with this
pub record ReadsLoaded (ended : Status) (from left : Option (List ℕ)) (l : Loaded) (bytes : List ℕ)
    : Type 0 where
  pub read : BeginsLoaded bytes l
  pub whole : ended ≡ status.Done → IsDump bytes l.items × ((l.begun ≡ None) × IsAtEnd left)
  pub bad : ended ≡ status.Script → IsNoDump bytes × IsBadBehind read
  pub broken : ended ≡ status.Source → GaveLoaded from left l

-- the status of an end
abbrev pub status_of_end : LoadEnd → Status
status_of_end (ended.Whole count) = status.Done
status_of_end (ended.Bad number) = status.Script
status_of_end ended.Failed = status.Source

-- the status of the parts' result
abbrev pub status_at_end : Result LoadEnd StoreFault → Status
status_at_end (Ok e) = status_of_end e
status_at_end (Err f) = status_in (Err f)

-- the parts ended, or there was a bad item, of which a line tells
abbrev pub IsLine : Status → Type 0
IsLine s = (s ≡ status.Done) ⊎ (s ≡ status.Script)

-- the number that it tells is that of so many whole items, or of the one after them
abbrev pub TellsNumber : Result LoadEnd StoreFault → ℕ → Type 0
TellsNumber (Ok (ended.Whole count)) n = count ≡ n
TellsNumber (Ok (ended.Bad number)) n = number ≡ suc n
TellsNumber (Ok ended.Failed) n = ⊤
TellsNumber (Err f) n = ⊤

-- this was read, and all of it was done as far as a fault let it
pub record EndsLoaded (tells : Type 0) (answer : Result LoadEnd StoreFault)
    (from left : Option (List ℕ))
    (before now : Session) (began counts : Counts) : Type 0 where
  pub loaded : Loaded
  pub reads : IfSome from (ReadsLoaded (status_at_end answer) from left loaded)
  pub over : status_at_end answer ≡ status.Done → IsAtEnd left
  pub number : TellsNumber answer (length loaded.items)
  pub runs : tells → RunsAll (loaded_commands loaded) answer before now
  pub syncs : tells → SyncsFor (loaded_commands loaded) began counts

-- the same after one turn, after which there may be more
abbrev pub LoadsSoFar :
    Type 0 → Result (Option LoadEnd) StoreFault → Option (List ℕ) → Session → Counts → Loading → Type 0
LoadsSoFar tells (Ok None) from before began now = HasLoaded tells from before began now
LoadsSoFar tells (Ok (Some e)) from before began now =
    EndsLoaded tells (Ok e) from now.left before now.session began now.counts
LoadsSoFar tells (Err f) from before began now =
    EndsLoaded tells (Err f) from now.left before now.session began now.counts

-- one turn, whatever the turns before it did
pub record LoadsNext (tells : Type 0) (answer : Result (Option LoadEnd) StoreFault)
    (mid now : Loading)
    : Type 0 where
  pub on : (from : Option (List ℕ)) (before : Session) (began : Counts)
      → HasLoaded tells from before began mid → LoadsSoFar tells answer from before began now

-- ---- the whole

-- the line that is to be printed, after so many whole items
pub record HoldsLine (ended : Status) (n : ℕ) (text : List ℕ) : Type 0 where
  pub done : ended ≡ status.Done → text ≡ loaded_line n
  pub bad : ended ≡ status.Script → text ≡ bad_dump_line (suc n)

-- a load was performed: what was read, what is printed, and what it did to the session
pub record PerformsLoad (tells : Type 0) (came : Result Status StoreFault)
    (from left : Option (List ℕ))
    (before now : Session) (began counts : Counts) (text : List ℕ) : Type 0 where
  pub loaded : Loaded
  pub reads : IfSome from (ReadsLoaded (status_in came) from left loaded)
  pub over : status_in came ≡ status.Done → IsAtEnd left
  pub line : HoldsLine (status_in came) (length loaded.items) text
  pub runs : tells → RunsAll (loaded_commands loaded) came before now
  pub syncs : tells → SyncsFor (loaded_commands loaded) began counts
