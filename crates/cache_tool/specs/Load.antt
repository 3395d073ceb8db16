-- The result of a `load`.
use Rattle.std.specs.Io.KnownBytes.{Appends, Consumes, IsAtEnd, Keeps}
use Rattle.std.specs.Prelude.{IfSome, IsSomeAnd, List, None, Option, Some, [], codes, decimal, flat_map, length, map, suc, ℕ, ◌++◌, ◌∷◌, ◌≡◌, ◌≢◌, ◌<◌, ◌≤◌, ◌+◌, ◌⊎◌}
use Rattle.cache_base.specs.Causes.{CountsFailure}
use Rattle.cache_base.specs.declared.status.Status.{Status}
use Rattle.cache_base.specs.declared.status.Status.TheVariants as status
use Rattle.cache_export.specs.Dump.{AreItems, IsDump}
use Rattle.cache_export.specs.Joined.{parts_of}
use Rattle.cache_export.specs.Parts.{NoPart, Part, Spells, Stage, after as due_after}
use Rattle.cache_export.specs.declared.limits.TheConstants.{DUMP_MAX}
use Rattle.cache_store.specs.Open.{StartsOn}
use Rattle.cache_replies.specs.Said.{IsCut}
use Rattle.cache_replies.specs.Saying.{IsPart}
use Rattle.cache_store.specs.Syncs.{all_syncs}
use Rattle.cache_theory.specs.Command.{Command}
use Rattle.cache_theory.specs.Loading.{FindsStock, IsStocked, item_begun, items_written}
use Rattle.cache_theory.specs.Machine.{Machine}
use Rattle.cache_theory.specs.Step.{step}
use Rattle.cache_theory.specs.Text.{line, with_number}
use Rattle.cache_tool.specs.Beginning.{DoneAtOpening}
use Rattle.cache_tool.specs.Syncs.{SyncsWithin, run_syncs}
use Rattle.cache_tool.specs.Verbs.{HasNotBegun, LeavesDisk, all_begun_none_acked}
use Rattle.cache_tool.specs.World.{World, output_of}
use Rattle.disk_theory.specs.Calls.{LastCallFails}
use Rattle.entry_file.specs.Version.{Version}

-- ---- what was read of a dump

-- the beginning of an item: its key, and pieces of its body
pub record Begun : Type 0 where
  pub key : List ℕ
  pub pieces : List (List ℕ)

-- whole items, and maybe the beginning of one more
pub record Loaded : Type 0 where
  pub items : List Version
  pub begun : Option Begun

-- the parts of the beginning of an item
abbrev pub begun_parts : Option Begun → List Part
begun_parts None = []
begun_parts (Some b) = Part.KeyPart b.key ∷ map (λ piece. Part.PiecePart piece) b.pieces

-- the parts of the items, and of the beginning after them
abbrev pub loaded_parts : Loaded → List Part
loaded_parts l = flat_map parts_of l.items ++ begun_parts l.begun

-- what is done for the beginning of an item: its entry is begun and not finished
abbrev pub begun_commands : Option Begun → List Command
begun_commands None = []
begun_commands (Some b) = item_begun b.key b.pieces

-- what is done for all: the entries of the items are written, and that of the last one is begun
abbrev pub loaded_commands : Loaded → List Command
loaded_commands l = items_written l.items ++ begun_commands l.begun

-- the bytes are those of these parts, each due after the one before, and this is due then
abbrev pub ArePartsTo : Stage → List Part → List ℕ → Stage → Type 0
ArePartsTo stage [] bytes end = (bytes ≡ []) × (end ≡ stage)
ArePartsTo stage (p ∷ ps) bytes end =
    (own : List ℕ) × ((rest : List ℕ) × (Spells stage p own × ((bytes ≡ own ++ rest)
    × ArePartsTo (due_after stage p own) ps rest end)))

-- so much of a dump these bytes begin with
pub record BeginsLoaded (bytes : List ℕ) (l : Loaded) : Type 0 where
  pub own : List ℕ
  pub more : List ℕ
  pub stage : Stage
  pub items : AreItems None l.items
  pub parts : ArePartsTo (Stage.AtItem None) (loaded_parts l) own stage
  pub spelled : bytes ≡ own ++ more
  pub short : length own ≤ DUMP_MAX

-- the bytes are no dump
abbrev pub IsNoDump : List ℕ → Type 0
IsNoDump bytes = (vs : List Version) → IsDump bytes vs → ⊥

-- where the source tells its bytes, they are a dump
abbrev pub HasDump : Option (List ℕ) → Type 0
HasDump left = IfSome left (λ bytes. (vs : List Version) × IsDump bytes vs)

-- where it tells them, they are none
abbrev pub HasNoDump : Option (List ℕ) → Type 0
HasNoDump left = IfSome left IsNoDump

-- it tells them, and they are a dump
abbrev pub IsDumpOf : Option (List ℕ) → Type 0
IsDumpOf left = IsSomeAnd left (λ bytes. (vs : List Version) × IsDump bytes vs)

-- they go on with no part that is due and keeps the dump within its length, and do not end it
abbrev pub IsBadBehind : {bytes : List ℕ} {l : Loaded} → BeginsLoaded bytes l → Type 0
IsBadBehind read = NoPart read.stage (length read.own) read.more

-- what a source gave before it failed are these parts, and no whole part more
pub record GaveLoaded (left now : Option (List ℕ)) (l : Loaded) : Type 0 where
  pub given : List ℕ
  pub taken : Consumes left now given
  pub read : BeginsLoaded given l
  pub no_more : (p : Part) (own rest : List ℕ) → Spells read.stage p own → read.more ≡ own ++ rest
      → DUMP_MAX < length read.own + length own

-- ---- what is printed

-- the line after the last of so many items
abbrev pub loaded_line : ℕ → List ℕ
loaded_line n = with_number (codes "loaded") n

-- the line that tells which item is bad, the first being 1
abbrev pub bad_dump_line : ℕ → List ℕ
bad_dump_line n = line (codes "bad" ∷ codes "dump" ∷ decimal n ∷ [])

-- the line tells what the bytes are, which begin with this
pub data IsLoadLine (bytes : List ℕ) (l : Loaded) (read : BeginsLoaded bytes l) (text : List ℕ)
    : Type 0 where
  -- they are a dump of these items, and all of it was loaded
  TellsDump : text ≡ loaded_line (length l.items) → IsDump bytes l.items → l.begun ≡ None
      → IsLoadLine bytes l read text
  -- they are none, and the item after these is bad
  TellsBad : text ≡ bad_dump_line (suc (length l.items)) → IsNoDump bytes → IsBadBehind read
      → IsLoadLine bytes l read text

-- the line is printed, or it is cut, or nothing is: with no status does any of a line go out that is not so
pub record PrintsLoadLine (bytes : List ℕ) (l : Loaded) (read : BeginsLoaded bytes l)
    (ended : Status)
    (before now : Option (List ℕ)) : Type 0 where
  pub part : Keeps before now
      ⊎ ((text : List ℕ) × (IsLoadLine bytes l read text × IsPart before now text))
  pub done : ended ≡ status.Done → Appends before now (loaded_line (length l.items))
  pub bad : ended ≡ status.Script → Appends before now (bad_dump_line (suc (length l.items)))
  -- where the sink failed all of the dump was loaded, or all before the bad item
  pub cut : ended ≡ status.Sink
      → (text : List ℕ) × (IsLoadLine bytes l read text × IsCut before now text)
  pub silent : (ended ≡ status.Source) ⊎ (ended ≡ status.Disk) → Keeps before now

-- ---- the verb

-- for a machine at an opening, and what was done for `Resume`: the entries of these items were written, and none of the
-- commands after it is acknowledged
pub record PrintsLoaded (m : Machine) (d : Command) (bytes : List ℕ) (ended : Status)
    (before now : World)
    : Type 0 where
  pub loaded : Loaded
  -- the source's bytes begin with them
  pub read : BeginsLoaded bytes loaded
  -- with `Done` they are a dump of these items, and the source was read to its end
  pub whole : ended ≡ status.Done → IsDump bytes loaded.items
      × ((loaded.begun ≡ None) × IsAtEnd now.source.left)
  -- with `Script` they are no dump, and the item after these is bad
  pub bad : ended ≡ status.Script → IsNoDump bytes × IsBadBehind read
  -- with `Source` it gave no whole part more
  pub broken : ended ≡ status.Source → GaveLoaded before.source.left now.source.left loaded
  -- no item is refused
  pub accepted : ended ≢ status.No
  -- each item's version is found then, and each key of another name as before, once the entries stand
  pub stocked : IsStocked (step m d).next loaded.items
  pub found : FindsStock (step m d).next.shelf loaded.items
  pub prints : PrintsLoadLine bytes loaded read ended before.taken now.taken
  -- one call of the disk failed, or none did
  pub cause : CountsFailure (ended ≡ status.Disk) before.disk_faults now.disk_faults
  -- no call follows one that failed, and no more syncs are made than the entries take
  pub last : ended ≡ status.Disk → LastCallFails now.disk_counts
  pub syncs : SyncsWithin (run_syncs (all_syncs (loaded_commands loaded)))
      before.disk_counts now.disk_counts
  pub leaves : LeavesDisk m
      (all_begun_none_acked m d (loaded_commands loaded)) ended before.disk now.disk

-- `load`, of a source that tells its bytes: the entries of a dump are written; or the run did not begin, and nothing
-- of it was read
abbrev pub LoadsDump : ℕ → Status → World → World → Type 0
LoadsDump moment ended before now = IfSome before.source.left (λ bytes.
    (m : Machine) → StartsOn moment before.disk m
    → DoneAtOpening before.disk m (λ d. PrintsLoaded m d bytes ended before now)
    ⊎ (HasNotBegun m ended (output_of before) (output_of now) × (now.source ≡ before.source)))
