-- The result of each verb, for every machine at an opening on what stands.
use Rattle.std.specs.Io.KnownBytes.{Appends, Keeps}
use Rattle.std.specs.Prelude.{IfSome, IsSome, List, Option, Some, [], length, min, slice_get, suc, take, ℕ, ◌+◌, ◌++◌, ◌<◌, ◌∷◌, ◌≡◌, ◌≢◌, ◌⊎◌}
use Rattle.cache_base.specs.Causes.{CountsFailure, Rose, RoseOnce, raised_by}
use Rattle.cache_base.specs.declared.status.Status.{Status}
use Rattle.cache_base.specs.declared.status.Status.TheVariants as status
use Rattle.cache_replies.specs.Answers.{outcome_of}
use Rattle.cache_store.specs.Faulting.{SendsReplyFront}
use Rattle.cache_store.specs.InUse.{HasShortJournal, IsSameIndex, StaysInUse}
use Rattle.cache_store.specs.Open.{IsHonest, IsShut, StartsOn}
use Rattle.cache_replies.specs.Said.{IsCut}
use Rattle.cache_replies.specs.Saying.{IsPart}
use Rattle.cache_store.specs.Syncs.{all_syncs}
use Rattle.cache_theory.specs.Command.{Command}
use Rattle.cache_theory.specs.Command.Command.{ClearOrigin, Evict, Flush, ListRecords}
use Rattle.cache_theory.specs.Crash.{IsCrashSafe}
use Rattle.cache_theory.specs.Machine.{Machine}
use Rattle.cache_theory.specs.Faulted.{AreFaults, fault_line, faulted, replies_but, unfaulted, with_next}
use Rattle.cache_theory.specs.Marks.{Marks, marks_of}
use Rattle.cache_theory.specs.Session.{BeginsWith, marks_between}
use Rattle.cache_theory.specs.Step.{after, step}
use Rattle.cache_theory.specs.Text.{CommandsIn, ScriptSpells, reply_text}
use Rattle.cache_tool.specs.Beginning.{DoneAtOpening, DoneOnResumed, FailsBeforeCommands, ReadsNoEntry, ReadsNone}
use Rattle.cache_tool.specs.Clearings.{KeepsClearing, LeavesNoneOrAll}
use Rattle.cache_tool.specs.Dated.{IsDatedIn}
use Rattle.cache_tool.specs.DoneFor.{AreDoneFor}
use Rattle.cache_tool.specs.MarkLeft.{LeavesMark}
use Rattle.cache_tool.specs.Put.{ArePut}
use Rattle.cache_tool.specs.Replies.{last_reply}
use Rattle.cache_tool.specs.Right.{ComesRight}
use Rattle.cache_tool.specs.Script.{AreTaken, bad_line, performed}
use Rattle.cache_tool.specs.Statuses.{IsAnswer, IsClosing, status_of}
use Rattle.cache_tool.specs.Staying.{EndsInUse, IsLeftUntrusted, StaysOverAll}
use Rattle.cache_tool.specs.Syncs.{SyncsWithin, opening_syncs, run_syncs}
use Rattle.cache_tool.specs.World.{Output, World, output_of}
use Rattle.disk_theory.specs.Calls.{LastCallFails, LastFails, LastLookFails}
use Rattle.disk_theory.specs.Sound.{IsQuiet}
use Rattle.disk_theory.specs.State.{State, standing}
use Rattle.disk_theory.specs.declared.place.Place.TheVariants.{Index}
use Rattle.index_theory.specs.Honest.{Honest, LeavesHonest, index_records}
use Rattle.index_theory.specs.Scan.{scan}
use Rattle.index_theory.specs.Start.{start_of}
use Rattle.index_theory.specs.declared.kinds.Start.{Start}
use Rattle.index_theory.specs.declared.kinds.Start.TheVariants.{Build, Ready}

-- Commands are performed one after the other, from the first on.

-- how far: those that were performed, and what a crash may undo of them
pub record Reach : Type 0 where
  pub done : List Command
  pub marks : Marks

-- None is: the store did not open, and no command has begun.
abbrev pub none_begun : Machine → Reach
none_begun m = record { done = []; marks = marks_of m }

-- In each run that begins this command comes first: what is done for `Resume`. It prints nothing, and so it counts as
-- acknowledged.

-- it alone
abbrev pub none_performed : Machine → Command → Reach
none_performed m d = record { done = d ∷ []; marks = marks_between m (d ∷ []) 1 1 }

-- it, and then all of these at once, with one answer to the last
abbrev pub all_begun_none_acked : Machine → Command → List Command → Reach
all_begun_none_acked m d cs =
    record { done = d ∷ cs; marks = marks_between m (d ∷ cs) 1 (length (d ∷ cs)) }

-- the marks where after it the first `a` of these are acknowledged, and those up to `b` have begun, but for those with
-- these numbers, which are answered `fault`; it is not counted among them
abbrev pub marks_behind : Machine → Command → List Command → List ℕ → ℕ → ℕ → Marks
marks_behind m d cs faults a b =
    let begun = unfaulted faults (take b cs) in
    marks_between m (d ∷ begun) (suc (length (unfaulted faults (take a cs)))) (suc (length begun))

-- of these, one by one: so many are acknowledged, and the next one may have begun, but for those with these numbers
abbrev pub begun_of : (acked : ℕ) (with_last : List ℕ) → List Command → List Command
begun_of acked with_last cs = unfaulted with_last (take (acked + 1) cs)

-- it, and then these one by one, each with an answer of its own: so many are acknowledged, and one more may have begun.
-- Those with these numbers are answered `fault`, or the last of them was to be: they have not begun.
abbrev pub one_begun_after :
    Machine → Command → (acked : ℕ) (with_last : List ℕ) → Status → List Command → Reach
one_begun_after m d acked with_last ended cs = record {
  done = d ∷ unfaulted with_last (take (performed ended acked (length cs)) cs);
  marks = marks_behind m d cs with_last acked (min (acked + 1) (length cs));
}

-- what a session over these commands leaves of an index that could be read, where it held s and holds t
pub record KeepsIndex (m : Machine) (cs : List Command) (s t : State) : Type 0 where
  -- in an honest directory it stays in use, where few records differ from it in the end
  pub in_use : Honest (standing s) → let base = index_records (standing s Index) in
      StaysOverAll base m cs → EndsInUse base (after m cs)
      → StaysInUse base (scan (after m cs).shelf) s t
  -- in any directory it is the same, but for its flag, where the update has not ended
  pub unended : (after m cs).rest ≢ [] → IsSameIndex s t

-- what they leave on a disk that held s and holds t
pub record LeavesDisk (m : Machine) (r : Reach) (ended : Status) (s t : State) : Type 0 where
  -- where the store was closed nothing is pending, no doomed file stands, and the entries are those of the machine, as
  -- is the mark of a clearing: there is none
  pub shut : IsClosing ended → IsShut t (after m r.done)
  -- then the directory is honest where it was so, or all entries were read anew, and where the update has ended its
  -- index is trusted
  pub honest : IsClosing ended → ComesRight s r.done → IsHonest t (after m r.done)
  -- with nothing pending at the call, a crash leaves no image but those that the marks allow
  pub crash : IsQuiet s → IsCrashSafe t r.marks
  -- and each is honest, where the directory was
  pub images : IsQuiet s → Honest (standing s) → LeavesHonest t
  -- where the store was closed and the update has ended, the journal has few records
  pub journal : IsClosing ended → (after m r.done).rest ≡ [] → HasShortJournal (standing t)
  -- and of an index that could be read this is left
  pub index : IsClosing ended → start_of (standing s) ≢ Build → KeepsIndex m r.done s t
  -- where it has not ended no index is trusted
  pub untrusted : IsClosing ended → (after m r.done).rest ≢ [] → IsLeftUntrusted t
  -- none is written but by a `rebuild`, and by a `flush` and the closing once the update has ended; it has the moment of
  -- the machine then
  pub dated : IsClosing ended → IsDatedIn m r.done s t

-- the text of the last reply is printed, or it is cut
pub record PrintsText (text : List ℕ) (ended : Status) (before now : Output) : Type 0 where
  pub printed : IsAnswer ended → Appends before.taken now.taken text
  pub part : IsPart before.taken now.taken text
  pub cut : ended ≡ status.Sink → IsCut before.taken now.taken text

-- The run did not begin: the store did not open, or what is done for `Resume` failed. Nothing is printed.
pub record HasNotBegun (m : Machine) (ended : Status) (before now : Output) : Type 0 where
  pub failed : (ended ≡ status.Disk) ⊎ (ended ≡ status.Memory)
  pub cause : CountsFailure (ended ≡ status.Disk) before.disk_faults now.disk_faults
  -- no call of the disk follows one that failed
  pub last : ended ≡ status.Disk → LastCallFails now.disk_counts
  -- that one was a change or a sync, or a look of the opening or of what is done for `Resume`
  pub opening : ended ≡ status.Disk → FailsBeforeCommands
      before.disk now.disk before.disk_counts now.disk_counts
  -- and none looked at an entry, where no mark of an origin stood or the index is trusted
  pub no_entry : ReadsNone before.disk before.disk_counts now.disk_counts
  pub silent : Keeps before.taken now.taken
  pub mark : LeavesMark [] before.disk now.disk
  -- a clearing that was stopped before goes on to have its mark, or is done whole
  pub clearing : KeepsClearing before.disk now.disk
  pub syncs : SyncsWithin opening_syncs before.disk_counts now.disk_counts
  -- no command has begun, or that one alone
  pub leaves : LeavesDisk m (none_begun m) ended before.disk now.disk
      ⊎ DoneAtOpening before.disk m
      (λ d. LeavesDisk m (none_performed m d) ended before.disk now.disk)

-- the disk failed for good: its last call was a change or a sync that failed; or it was a look that failed, these are
-- one command, and its reply is out up to the end of a first chunk
abbrev pub StopsForGood : Machine → List Command → Output → Output → Type 0
StopsForGood m (c ∷ []) before now = LastFails now.disk_counts
    ⊎ (LastLookFails now.disk_counts × SendsReplyFront c m before.taken now.taken)
StopsForGood m cs before now = LastFails now.disk_counts

-- It began, and this was done for `Resume`. Then these commands were performed for words other than `run`, and the last
-- reply is what is printed. None of them is acknowledged, and all may have begun.
pub record PrintsLast (m : Machine) (d : Command) (cs : List Command) (ended : Status)
    (before now : Output)
    : Type 0 where
  -- with an answer the status is that of the last reply
  pub answer : IsAnswer ended → ended ≡ status_of (outcome_of (last_reply (step m d).next cs))
  -- what is printed is its text
  pub text : PrintsText (reply_text (last_reply (step m d).next cs)) ended before now
  pub silent : ended ≡ status.Source → Keeps before.taken now.taken
  -- one call of the disk failed, or none did
  pub cause : CountsFailure (ended ≡ status.Disk) before.disk_faults now.disk_faults
  -- a look that failed before anything of a reply was out does not end it so
  pub for_good : ended ≡ status.Disk → StopsForGood (step m d).next cs before now
  pub leaves : LeavesDisk m (all_begun_none_acked m d cs) ended before.disk now.disk

-- the store was closed with no command performed, and no change and no sync failed
abbrev pub ClosesFaulted : Machine → Command → Output → Output → Type 0
ClosesFaulted m d before now = LeavesDisk m (none_performed m d) status.No before.disk now.disk
    × (now.disk_counts.failed ≡ before.disk_counts.failed)

-- It began so, and then a look at the disk failed before anything of the reply was said: the line that tells it is
-- printed, or a part of it where the sink failed or memory ran out, and no command was performed.
pub record PrintsFault (m : Machine) (d : Command) (ended : Status) (before now : Output)
    : Type 0 where
  pub failed : (ended ≡ status.Disk) ⊎ (ended ≡ status.Memory)
  pub part : IsPart before.taken now.taken fault_line
  pub said : ended ≡ status.Disk → Appends before.taken now.taken fault_line
      ⊎ Rose before.sink_faults now.sink_faults
  pub leaves : LeavesDisk m (none_performed m d) ended before.disk now.disk
  pub mark : LeavesMark [] before.disk now.disk
  -- no other call failed, and the store was closed unless memory ran out; or a change or a sync of the closing did
  pub closed : (RoseOnce before.disk_faults now.disk_faults
      × (ended ≡ status.Disk → ClosesFaulted m d before now))
      ⊎ ((now.disk_faults ≡ raised_by 2 before.disk_faults) × LastFails now.disk_counts)

-- a clearing, in an honest directory: a crash leaves nothing of it, or its mark, or all of it
abbrev pub ClearsWhole : Machine → Command → Command → State → State → Type 0
ClearsWhole m d c s t = (origin : List ℕ) → c ≡ ClearOrigin origin → Honest (standing s)
    → LeavesNoneOrAll origin (marks_between m (d ∷ []) 1 1) t

-- words other than `run` and `put`: the command is performed, and its reply is printed; or the line `fault` is, or
-- the run did not begin
abbrev pub AnswersCommand : ℕ → Command → Status → Output → Output → Type 0
AnswersCommand moment c ended before now = (m : Machine) → StartsOn moment before.disk m
    → DoneAtOpening before.disk m (λ d.
    DoneOnResumed before.disk m d c (λ e.
    PrintsLast m d (e ∷ []) ended before now × ClearsWhole m d c before.disk now.disk)
    ⊎ PrintsFault m d ended before now)
    ⊎ HasNotBegun m ended before now

-- the words look at no entry: `list`, `evict` and `clear` do not where the index is trusted, and `flush` does not
-- either where no mark of an origin stands
abbrev pub LooksAtNone : Command → Option ℕ → Start → Type 0
LooksAtNone Flush mark start = ReadsNoEntry mark start
LooksAtNone ListRecords mark start = start ≡ Ready
LooksAtNone (Evict kb) mark start = start ≡ Ready
LooksAtNone (ClearOrigin origin) mark start = start ≡ Ready
LooksAtNone _ mark start = ⊥

-- `put`, of a source that tells its bytes: the entry gets them as its body; or the line `fault` is printed, and nothing
-- of them was read, as where the run did not begin
abbrev pub StoresEntry : ℕ → List ℕ → Status → World → World → Type 0
StoresEntry moment key ended before now =
    IsSome before.source.left
    → (m : Machine) → StartsOn moment before.disk m
    → let at = output_of before in let end = output_of now in
    DoneAtOpening before.disk m (λ d.
    ((cs : List Command) × (ArePut (step m d).next key before.source now.source ended cs
    × PrintsLast m d cs ended at end))
    ⊎ (PrintsFault m d ended at end × (now.source ≡ before.source)))
    ⊎ (HasNotBegun m ended at end × (now.source ≡ before.source))

-- What went out are the answers to what was done for commands. It tells how many are answered, and which of them by
-- `fault`. The command after them may have been answered so, too, with an answer that was cut.
pub record TellsReplies (m : Machine) (bytes : List ℕ) (cs done : List Command) (ended : Status)
    (acked : ℕ) (faults with_last : List ℕ) (before now : Option (List ℕ)) : Type 0 where
  pub out : List ℕ
  pub printed : Appends before now out
  pub told : faulted m done out ≡ record { answered = acked; faults = faults }
  -- in any case a prefix of the answers, and of the line that names a bad command where there is one
  pub front : BeginsWith (replies_but m done with_last ++ bad_line (length cs + 1)) out
  pub no_line : ScriptSpells bytes cs → BeginsWith (replies_but m done with_last) out
  -- all of them, by the status
  pub all : ended ≡ status.Done → out ≡ replies_but m done faults
  pub script : ended ≡ status.Script → out ≡ replies_but m done faults ++ bad_line (length cs + 1)
  -- with a source that failed the answers to the commands that it gave whole
  pub source : ended ≡ status.Source → out ≡ replies_but m (take acked done) faults
  -- with a sink that failed not all of them, nor that line whole
  pub cut : ended ≡ status.Sink
      → length out < length (replies_but m done with_last ++ bad_line (length cs + 1))
  pub no_line_cut : ended ≡ status.Sink → ScriptSpells bytes cs
      → length out < length (replies_but m done with_last)

-- the first commands are answered, and of the reply to the next one all is out up to the end of a first chunk
pub record SendsNextFront (m : Machine) (done : List Command) (acked : ℕ) (faults : List ℕ)
    (before now : Option (List ℕ))
    : Type 0 where
  pub next : Command
  pub is_next : slice_get done acked ≡ Some next
  pub mid : Option (List ℕ)
  pub answers : Appends before mid (replies_but m (take acked done) faults)
  pub front : SendsReplyFront next (after m (unfaulted faults (take acked done))) mid now

-- the numbers of the commands that are answered `fault`, and maybe of the next one, whose line was cut. The disk failed
-- once for each of them, and once more where it ended the run; no failure is without such an answer.
pub record CountsFaults (ended : Status) (acked : ℕ) (faults with_last : List ℕ) (before now : ℕ)
    : Type 0 where
  pub numbers : AreFaults acked faults
  pub last : (with_last ≡ faults) ⊎ (with_last ≡ with_next acked faults)
  pub counted : ended ≢ status.Disk → now ≡ raised_by (length with_last) before
  pub disk : ended ≡ status.Disk → now ≡ raised_by (suc (length with_last)) before

-- there is a command after those that are answered, and its line was cut, where memory ran out or the sink failed
abbrev pub MayBeCut : List Command → ℕ → Status → World → World → Type 0
MayBeCut cs acked ended before now = (acked < length cs)
    × ((ended ≡ status.Memory)
    ⊎ (((ended ≡ status.Sink) ⊎ (ended ≡ status.Disk)) × Rose before.sink_faults now.sink_faults))

-- These are the commands of a script, and what was done for them after what was done for `Resume`: some are
-- acknowledged, and one more may have begun. A command that is answered `fault` is left out, as if it had not been
-- there; and so is the next one, where it was to be answered so. All others are done for those of the script.
pub record PrintsReplies (m : Machine) (d : Command) (bytes : List ℕ) (cs : List Command)
    (ended : Status)
    (before now : World) : Type 0 where
  pub done : List Command
  pub as_many : length done ≡ length cs
  pub acked : ℕ
  pub faults : List ℕ
  pub with_last : List ℕ
  pub counts : CountsFaults ended acked faults with_last before.disk_faults now.disk_faults
  pub line_cut : with_last ≢ faults → MayBeCut cs acked ended before now
  pub are_done : AreDoneFor (Honest (standing before.disk)) (step m d).next
      (unfaulted with_last cs) (unfaulted with_last done)
  -- all of them are acknowledged, where none failed
  pub all : (ended ≡ status.Done) ⊎ (ended ≡ status.Script) → acked ≡ length cs
  -- what is printed are their answers, and tells how many are acknowledged
  pub replies : TellsReplies
      (step m d).next bytes cs done ended acked faults with_last before.taken now.taken
  -- a source that failed gave these commands whole
  pub source : ended ≡ status.Source
      → AreTaken before.source.left now.source.left (take acked cs)
  -- a look that failed before anything of a reply was out does not end it, and no call follows the one that ends it
  pub for_good : ended ≡ status.Disk → LastFails now.disk_counts
      ⊎ (LastLookFails now.disk_counts
      × SendsNextFront (step m d).next done acked faults before.taken now.taken)
  pub leaves : LeavesDisk m
      (one_begun_after m d acked with_last ended done) ended before.disk now.disk
  -- where the next command is a clearing, a crash leaves nothing of it, or its mark, or all of it, if the directory was
  -- honest or all entries were read anew
  pub clearing : (origin : List ℕ) → slice_get cs acked ≡ Some (ClearOrigin origin)
      → ComesRight before.disk (unfaulted faults (take acked done))
      → LeavesNoneOrAll origin (marks_behind m d done faults acked acked) now.disk
  pub mark : LeavesMark (begun_of acked with_last cs) before.disk now.disk
  -- no more syncs are made than an opening, these commands and a closing take
  pub syncs : SyncsWithin (run_syncs (all_syncs (take (acked + 1) cs)))
      before.disk_counts now.disk_counts

-- `run`, of a source that tells its bytes: the commands that these spell are performed; or the run did not begin, and
-- nothing of them was read
abbrev pub RunsScript : ℕ → Status → World → World → Type 0
RunsScript moment ended before now = IfSome before.source.left (λ bytes.
    (m : Machine) (cs : List Command) → StartsOn moment before.disk m → CommandsIn bytes cs
    → DoneAtOpening before.disk m (λ d. PrintsReplies m d bytes cs ended before now)
    ⊎ (HasNotBegun m ended (output_of before) (output_of now) × (now.source ≡ before.source)))
