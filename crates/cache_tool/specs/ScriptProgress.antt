-- How far a script was performed.
use Rattle.std.specs.Io.KnownBytes.{Appends, Consumes, IsAtEnd}
use Rattle.std.specs.List.{AllByRecursion}
use Rattle.std.specs.Prelude.{Bool, Err, IfSome, IsTrue, List, None, Ok, Option, Result, Some, [], drop, length, min, slice_get, take, suc, ℕ, ◌+◌, ◌++◌, ◌<◌, ◌∷◌, ◌≡◌, ◌≢◌, ◌≤◌, ◌⊎◌}
use Rattle.cache_base.specs.Causes.{raised_by}
use Rattle.cache_base.specs.declared.limits.TheConstants.{SCRIPT_MAX}
use Rattle.cache_base.specs.declared.status.Status.{Status}
use Rattle.cache_base.specs.declared.status.Status.TheVariants as status
use Rattle.cache_script.specs.Reader.{given_in, held_in, used_in}
use Rattle.cache_script.specs.declared.reader.Reader.{Reader}
use Rattle.cache_store.specs.Open.{KeepsTo, Tells}
use Rattle.cache_store.specs.Session.{Session}
use Rattle.cache_store.specs.declared.fault.StoreFault.{StoreFault}
use Rattle.cache_store.specs.declared.fault.StoreFault.TheVariants as fault
use Rattle.cache_theory.specs.Command.{Command}
use Rattle.cache_theory.specs.Command.Command.{ClearOrigin}
use Rattle.cache_theory.specs.Crash.{IsSafe}
use Rattle.cache_theory.specs.Faulted.{AreFaults, fault_line, replies_but, unfaulted}
use Rattle.cache_theory.specs.History.{History, begun, unanswered}
use Rattle.cache_theory.specs.Machine.{Machine}
use Rattle.cache_theory.specs.Marks.{Marks, all_acked, all_begun}
use Rattle.cache_theory.specs.Step.{after, step}
use Rattle.cache_theory.specs.Text.{AreSpoken, CommandsIn, IsCommand, ScriptSpells, SpellsFront, reply_text, script_bytes}
use Rattle.cache_tool.specs.Clearings.{MayHaveCleared}
use Rattle.cache_tool.specs.DoneFor.{AreDoneFor}
use Rattle.cache_tool.specs.MarkLeft.{ChangeMark}
use Rattle.cache_tool.specs.Right.{AreRight, LeadTo}
use Rattle.cache_tool.specs.Script.{AreTaken, performed}
use Rattle.cache_tool.specs.Statuses.{IsClosing, status_in}
use Rattle.cache_tool.specs.Syncs.{SyncsFor}
use Rattle.cache_tool.specs.Verbs.{CountsFaults, Reach, begun_of, SendsNextFront, TellsReplies}
use Rattle.cache_tool.specs.World.{Progress}
use Rattle.cache_tool.specs.declared.script.ScriptEnd.{ScriptEnd}
use Rattle.cache_tool.specs.declared.script.ScriptEnd.TheVariants as ended
use Rattle.disk_theory.specs.Calls.{LastFails, LastLookFails}
use Rattle.disk_theory.specs.State.{State}

-- these commands were read from a source, and after them these bytes
pub record AreRead (left now : Option (List ℕ)) (cs : List Command) (held : List ℕ) : Type 0 where
  pub commands : AllByRecursion IsCommand cs
  pub short : length (script_bytes cs) ≤ SCRIPT_MAX
  pub read : List ℕ
  pub taken : Consumes left now read
  pub spelled : read ≡ script_bytes cs ++ held

-- Commands that were performed one after the other.

-- the history after them, each of them acknowledged
abbrev pub all_answered : List Command → History → History
all_answered cs h = record { machine = after h.machine cs; marks = all_acked h.machine cs h.marks }

-- For a history: those that are not answered `fault` were performed, and all answers are out.
pub record ArePerformed (cs : List Command) (faults : List ℕ) (h : History) (before now : Progress)
    : Type 0 where
  pub stands : let kept = unfaulted faults cs in
      LeadTo kept before.session h.machine now.session (all_answered kept h)
  pub out : Appends before.taken now.taken (replies_but h.machine cs faults)

-- this is done for so many commands, and for each of those that are kept
pub record DoneForKept (before : Session) (m : Machine) (cs done : List Command) (faults : List ℕ)
    : Type 0 where
  pub as_many : length done ≡ length cs
  pub spoken : AreSpoken cs → AreSpoken done
  pub are_done : AreDoneFor (Tells before m) m (unfaulted faults cs) (unfaulted faults done)

-- For a history: what is done for these commands was performed.
pub record SomePerformed (cs : List Command) (faults : List ℕ) (h : History) (before now : Progress)
    : Type 0 where
  pub done : List Command
  pub is_done : DoneForKept before.session h.machine cs done faults
  pub performed : ArePerformed done faults h before now

-- whatever history the disk kept to
pub record PerformsAll (cs : List Command) (faults : List ℕ) (before now : Progress) : Type 0 where
  pub each : (h : History) → KeepsTo before.session h → SomePerformed cs faults h before now

-- the disk failed so often in between, and no more often
abbrev pub FailedTimes : ℕ → Progress → Progress → Type 0
FailedTimes times before now = now.disk_faults ≡ raised_by times before.disk_faults

-- the numbers of the answers `fault` among those to the first commands, and that the disk failed as often
pub record AreCounted (p : ℕ) (faults : List ℕ) (before now : Progress) : Type 0 where
  pub numbers : AreFaults p faults
  pub counted : FailedTimes (length faults) before now

-- One command more was begun, and failed: a part of its reply went out.
pub record IsCutIn (cs : List Command) (faults : List ℕ) (c : Command) (m : Machine)
    (before now : Progress)
    : Type 0 where
  pub cut : ℕ
  pub short : cut < length (reply_text (step (after m (unfaulted faults cs)) c).reply)
  pub out : Appends before.taken now.taken (replies_but m cs faults
      ++ take cut (reply_text (step (after m (unfaulted faults cs)) c).reply))

-- For a history: one command more was begun and failed, and this is what it left.
pub record IsCutOff (cs : List Command) (faults : List ℕ) (c : Command) (f : StoreFault)
    (h : History)
    (before now : Progress) : Type 0 where
  pub safe : IsSafe now.session.disk (begun c (all_answered (unfaulted faults cs) h)).marks
  pub cut : IsCutIn cs faults c h.machine before now
  pub effect : f ≡ fault.Sink → LeadTo (unfaulted faults cs ++ c ∷ []) before.session h.machine
      now.session (unanswered c (all_answered (unfaulted faults cs) h))
  -- whatever commands come after it
  pub for_good : (more : List Command) → f ≡ fault.Disk → LastFails now.disk_counts
      ⊎ (LastLookFails now.disk_counts
      × SendsNextFront h.machine (cs ++ c ∷ more) (length cs) faults before.taken now.taken)

-- of what is done for some commands
pub record SomeCutOff (cs : List Command) (faults : List ℕ) (c : Command) (f : StoreFault)
    (h : History)
    (before now : Progress) : Type 0 where
  pub done : List Command
  pub last : Command
  pub is_done : DoneForKept before.session h.machine (cs ++ c ∷ []) (done ++ last ∷ []) faults
  pub as_long : length done ≡ length cs
  pub cut_off : IsCutOff done faults last f h before now
  -- where it is a clearing, and the records were right
  pub clearing : (origin : List ℕ) → c ≡ ClearOrigin origin
      → AreRight (unfaulted faults done) before.session h.machine
      → MayHaveCleared origin (all_answered (unfaulted faults done) h).marks
      (status_in (Err f)) now.session

-- One command more was to be answered `fault`: a part of that line went out, and all else is as before.
pub record SomeFaultCut (cs : List Command) (faults : List ℕ) (h : History) (before now : Progress)
    : Type 0 where
  pub done : List Command
  pub is_done : DoneForKept before.session h.machine cs done faults
  pub stands : let kept = unfaulted faults done in
      LeadTo kept before.session h.machine now.session (all_answered kept h)
  pub cut : (n : ℕ) × ((n < length fault_line)
      × Appends before.taken now.taken (replies_but h.machine done faults ++ take n fault_line))

-- whatever history the disk kept to
pub record FailsAfter (cs : List Command) (faults : List ℕ) (c : Command) (f : StoreFault)
    (before now : Progress)
    : Type 0 where
  pub each : (h : History) → KeepsTo before.session h → SomeCutOff cs faults c f h before now

-- the same of a line `fault` that was cut
pub record FaultsAfter (cs : List Command) (faults : List ℕ) (before now : Progress) : Type 0 where
  pub each : (h : History) → KeepsTo before.session h → SomeFaultCut cs faults h before now

-- what those of these commands that are not answered `fault` may change at `clear`
abbrev pub ChangeMarkBut : List ℕ → List Command → Progress → Progress → Type 0
ChangeMarkBut faults cs before now =
    ChangeMark (unfaulted faults cs) before.session.disk now.session.disk

-- Turns of the loop that reads and performs commands.

-- all that was read was performed, and the reader stands after it
pub record HasPerformed (tells : Bool) (r : Reader) (before now : Progress) : Type 0 where
  pub commands : List Command
  pub read : AreRead before.source.left now.source.left commands (held_in r)
  pub given : given_in r ≡ length commands
  pub used : used_in r ≡ length (script_bytes commands)
  pub faults : List ℕ
  pub counts : AreCounted (length commands) faults before now
  pub performs : IsTrue tells → PerformsAll commands faults before now
  pub mark : IsTrue tells → ChangeMarkBut faults commands before now
  pub syncs : IsTrue tells → SyncsFor commands before.disk_counts now.disk_counts

-- what the source has, by how the commands ended
abbrev pub EndsScript : ScriptEnd → Option (List ℕ) → Option (List ℕ) → List Command → Type 0
EndsScript ended.Whole left now cs = IsAtEnd now × IfSome left (λ bytes. ScriptSpells bytes cs)
EndsScript ended.Failed left now cs = AreTaken left now cs
EndsScript (ended.Bad number) left now cs =
    (number ≡ length cs + 1)
    × IfSome left (λ bytes. CommandsIn bytes cs × ¬ (ScriptSpells bytes cs))

-- all commands that there are were performed
pub record PerformsToEnd (tells : Bool) (e : ScriptEnd) (before now : Progress) : Type 0 where
  pub commands : List Command
  pub ends : EndsScript e before.source.left now.source.left commands
  pub faults : List ℕ
  pub counts : AreCounted (length commands) faults before now
  pub performs : IsTrue tells → PerformsAll commands faults before now
  pub mark : IsTrue tells → ChangeMarkBut faults commands before now
  pub syncs : IsTrue tells → SyncsFor commands before.disk_counts now.disk_counts

-- The line `fault` was cut: the disk failed once more than there are such answers, and not for good.
pub record FailsInLine (tells : Bool) (cs : List Command) (faults : List ℕ) (f : StoreFault)
    (before now : Progress)
    : Type 0 where
  pub no_disk : f ≢ fault.Disk
  pub counted : FailedTimes (suc (length faults)) before now
  pub each : IsTrue tells → FaultsAfter cs faults before now
  pub mark : IsTrue tells → ChangeMarkBut faults cs before now

-- A command failed in its reply: this is what it left. Where the disk ended it, it failed once in it, and else it did
-- not.
pub record FailsInReply (tells : Bool) (cs : List Command) (faults : List ℕ) (c : Command)
    (f : StoreFault) (before now : Progress)
    : Type 0 where
  pub disk : f ≡ fault.Disk → FailedTimes (suc (length faults)) before now
  pub calm : f ≢ fault.Disk → FailedTimes (length faults) before now
  pub each : IsTrue tells → FailsAfter cs faults c f before now
  pub mark : IsTrue tells → ChangeMarkBut faults (cs ++ c ∷ []) before now

-- a command failed after those that were performed, or the line `fault` that was its answer did
pub record FailsMidway (tells : Bool) (f : StoreFault) (before now : Progress) : Type 0 where
  pub commands : List Command
  pub last : Command
  pub front : IfSome before.source.left (λ bytes.
      (rest : List ℕ) × SpellsFront bytes (commands ++ last ∷ []) rest)
  pub faults : List ℕ
  pub numbers : AreFaults (length commands) faults
  pub fails : FailsInReply tells commands faults last f before now
      ⊎ FailsInLine tells commands faults f before now
  pub syncs : IsTrue tells → SyncsFor (commands ++ last ∷ []) before.disk_counts now.disk_counts

-- how the loop over the commands ended: all were performed, or one failed
abbrev pub PerformsCommands : Bool → Result ScriptEnd StoreFault → Progress → Progress → Type 0
PerformsCommands tells (Ok e) before now = PerformsToEnd tells e before now
PerformsCommands tells (Err f) before now = FailsMidway tells f before now

-- the same after one turn, after which there may be more
abbrev pub PerformsSoFar :
    Bool → Result (Option ScriptEnd) StoreFault → Reader → Progress → Progress → Type 0
PerformsSoFar tells (Ok None) r before now = HasPerformed tells r before now
PerformsSoFar tells (Ok (Some e)) r before now = PerformsToEnd tells e before now
PerformsSoFar tells (Err f) r before now = FailsMidway tells f before now

-- one turn, whatever the turns before it performed
pub record PerformsNext (tells : Bool) (answer : Result (Option ScriptEnd) StoreFault)
    (old new : Reader) (mid now : Progress) : Type 0 where
  pub on : (before : Progress) → HasPerformed tells old before mid
      → PerformsSoFar tells answer new before now

-- The whole script, for a history and the commands of the source's bytes.

-- what went out, which acknowledges what was done for `a` commands
pub record TellsAcked (m : Machine) (bytes : List ℕ) (cs done : List Command) (ended : Status)
    (a : ℕ)
    (faults with_last : List ℕ) (before now : Progress) : Type 0 where
  pub all : (ended ≡ status.Done) ⊎ (ended ≡ status.Script) → a ≡ length cs
  pub replies : TellsReplies m bytes cs done ended a faults with_last before.taken now.taken
  pub source : ended ≡ status.Source → AreTaken before.source.left now.source.left (take a cs)

-- they lead to a history, and what may be undone there may be undone by these marks
pub record LeadsWithin (r : Reach) (m : Machine) (before now : Session) : Type 0 where
  pub history : History
  pub leads : LeadTo r.done before m now history
  pub machine : history.machine ≡ after m r.done
  pub within : (s : State) → IsSafe s history.marks → IsSafe s r.marks

-- the store and the disk then
pub record LeavesScript (m : Machine) (r : Reach) (ended : Status) (before now : Session)
    : Type 0 where
  pub safe : IsSafe now.disk r.marks
  pub stands : IsClosing ended → LeadsWithin r m before now

-- One by one after a history: of these commands so many are acknowledged, and one more may have begun, but for those
-- that are answered `fault`.
abbrev pub marks_on : History → List Command → List ℕ → ℕ → ℕ → Marks
marks_on h cs faults a b =
    let begun = unfaulted faults (take b cs) in
    let kept = length (unfaulted faults (take a cs)) in
    all_begun (after h.machine (take kept begun)) (drop kept (take (length begun) begun))
    (all_acked h.machine (take kept begun) h.marks)

-- what was done for a script that ended so, and the marks of the commands that were acknowledged or begun
abbrev pub one_begun_on : History → (acked : ℕ) (with_last : List ℕ) → Status → List Command → Reach
one_begun_on h acked with_last ended cs = record {
  done = unfaulted with_last (take (performed ended acked (length cs)) cs);
  marks = marks_on h cs with_last acked (min (acked + 1) (length cs));
}

-- For a history: these commands of the bytes were run, with these replies and this effect.
pub record ScriptIsRun (h : History) (bytes : List ℕ) (cs : List Command) (ended : Status)
    (before now : Progress) : Type 0 where
  pub done : List Command
  pub acked : ℕ
  pub faults : List ℕ
  pub with_last : List ℕ
  pub counts : CountsFaults ended acked faults with_last before.disk_faults now.disk_faults
  pub line_cut : with_last ≢ faults
      → (acked < length cs) × ((ended ≡ status.Memory) ⊎ (ended ≡ status.Sink))
  pub is_done : DoneForKept before.session h.machine cs done with_last
  pub tells : TellsAcked h.machine bytes cs done ended acked faults with_last before now
  pub for_good : ended ≡ status.Disk → LastFails now.disk_counts
      ⊎ (LastLookFails now.disk_counts
      × SendsNextFront h.machine done acked faults before.taken now.taken)
  pub leaves : LeavesScript h.machine
      (one_begun_on h acked with_last ended done) ended before.session now.session
  -- where the next one is a clearing, and the records were right
  pub clearing : (origin : List ℕ) → slice_get cs acked ≡ Some (ClearOrigin origin)
      → AreRight (unfaulted faults (take acked done)) before.session h.machine
      → MayHaveCleared origin (marks_on h done faults acked acked) ended now.session
  pub mark : ChangeMark (begun_of acked with_last cs) before.session.disk now.session.disk
  pub syncs : SyncsFor (take (acked + 1) cs) before.disk_counts now.disk_counts

-- whatever history the disk kept to
pub record PerformsScript (came : Result Status StoreFault) (before now : Progress) : Type 0 where
  pub each : IfSome before.source.left (λ bytes. (h : History) (cs : List Command)
      → KeepsTo before.session h → CommandsIn bytes cs
      → ScriptIsRun h bytes cs (status_in came) before now)
