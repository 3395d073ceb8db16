-- What one command does.
use Rattle.std.specs.Prelude.{Bool, Err, IfErr, IfOk, IfSome, IsTrue, List, Ok, OnErr, OnOk, Option, Result, false, true, ℕ, ⊤, ◌≡◌, ◌⊎◌}
use Rattle.std.specs.Io.KnownBytes.{Appends}
use Rattle.cache_store.specs.Answering.{AnswersTo}
use Rattle.cache_replies.specs.Completing.{IsReplyCut}
use Rattle.cache_replies.specs.Answers.{outcome_of}
use Rattle.cache_store.specs.DoneFor.{AreOfShelf, DoneBy, IsOfShelf}
use Rattle.cache_store.specs.Open.{KeepsTo, KeepsWhere, Represents, Tells}
use Rattle.memory_index.specs.Records.{AreAtEnd}
use Rattle.cache_store.specs.Records.{has_record}
use Rattle.cache_store.specs.Replied.{replied}
use Rattle.cache_replies.specs.Said.{Saying}
use Rattle.cache_store.specs.Session.{Session}
use Rattle.cache_replies.specs.declared.answered.Answered.{Answered}
use Rattle.cache_replies.specs.declared.verdict.Verdict.{Verdict}
use Rattle.cache_store.specs.declared.fault.StoreFault.{StoreFault}
use Rattle.cache_store.specs.declared.fault.StoreFault.TheVariants as fault
use Rattle.cache_theory.specs.Command.{Command}
use Rattle.cache_theory.specs.Command.Command.{ClearOrigin, HasEntry, ListRecords, Evict, Resume, Verify, Rebuild}
use Rattle.cache_theory.specs.Crash.{IsCrashSafe, IsSafe}
use Rattle.cache_theory.specs.History.{History, acked, begun, unanswered as left_unanswered}
use Rattle.cache_theory.specs.Machine.{Machine}
use Rattle.cache_theory.specs.Step.{step}
use Rattle.cache_theory.specs.Text.{reply_text}
use Rattle.index_record.specs.declared.record.IndexRecord.{IndexRecord}
use Rattle.index_theory.specs.Ever.{entries_on}

-- the reply follows from the records in memory
abbrev pub goes_by_records : Command → Bool
goes_by_records (HasEntry key) = true
goes_by_records ListRecords = true
goes_by_records (Evict kb) = true
goes_by_records (ClearOrigin origin) = true
goes_by_records Resume = true
goes_by_records Verify = true
goes_by_records _ = false

-- the records are right afterwards: they were so before, or they are read anew
abbrev pub ComesToTell : Command → Session → Machine → Type 0
ComesToTell c now m = Tells now m ⊎ (c ≡ Rebuild)

-- an eviction, a clearing, a check or a list uses these records: those in memory once the update has ended, which
-- are those of all entries where they were right
pub record GoesBy (before : Session) (m : Machine) (records : List IndexRecord) : Type 0 where
  pub in_memory : AreAtEnd (entries_on before.disk) before.open_store.index records
  pub right : AreOfShelf (Tells before m) m records

-- there is an entry as the records in memory have it
pub record SaysThere (before : Session) (m : Machine) (key : List ℕ) (there : Bool) : Type 0 where
  pub in_memory : there ≡ has_record before.open_store.index key
  pub right : IsOfShelf (Tells before m) m key there

-- what is done for the command by what is in memory
abbrev pub DoneInMemory : Session → Command → Machine → (Command → Type 0) → Type 0
DoneInMemory before c m P = DoneBy (GoesBy before m) (SaysThere before m) c m P

-- the command has had its effect: there is an outcome, or the sink failed
abbrev pub HadEffect : {T : Type 0} → Result T StoreFault → Type 0
HadEffect (Ok outcome) = ⊤
HadEffect (Err f) = f ≡ fault.Sink

-- for a machine: the result of the whole command
pub record Performs (c : Command) (m : Machine) (answer : Result Verdict StoreFault)
    (before after : Session) (taken now : Option (List ℕ)) : Type 0 where
  -- with an answer the reply is out, it is the machine's, and the store stands for the machine's next state
  pub printed : OnOk answer (Appends taken now (reply_text (step m c).reply))
  pub outcome : IfOk answer (λ o. o ≡ outcome_of (step m c).reply)
  pub next : OnOk answer (Represents after (step m c).next)
  -- otherwise a part of it is, and where the sink failed the command has had its effect
  pub cut : OnErr answer (IsReplyCut (step m c).reply taken now)
  pub effect : IfErr answer (λ f. f ≡ fault.Sink → Represents after (step m c).next)
  -- the records go on to be right
  pub tells : HadEffect answer → ComesToTell c before m → Tells after (step m c).next

-- for a history: what the disk keeps
pub record KeepsHistory (c : Command) (h : History) (answer : Result Verdict StoreFault)
    (after : Session) : Type 0 where
  -- at every exit a crash loses no more than the marks of the begun command allow, and once it has had its effect no
  -- more than those of the acknowledged one
  pub crash : IsCrashSafe after.disk (begun c h).marks
  pub acked_crash : HadEffect answer → IsCrashSafe after.disk (acked c h).marks
  -- and so it stays, whatever the next commands change
  pub safe : IsSafe after.disk (begun c h).marks
  pub next : OnOk answer (KeepsTo after (acked c h))
  -- where the sink failed the command has had its effect on the disk too, as one that is acknowledged
  pub effect : IfErr answer (λ f. f ≡ fault.Sink → KeepsTo after (acked c h))
  -- and for whoever saw no reply it has begun
  pub unanswered : IfErr answer (λ f. f ≡ fault.Sink → KeepsTo after (left_unanswered c h))

-- for a history: both
pub record PerformsAndKeeps (c : Command) (h : History) (answer : Result Verdict StoreFault)
    (before after : Session) (taken now : Option (List ℕ)) : Type 0 where
  pub performs : Performs c h.machine answer before after taken now
  pub keeps : KeepsHistory c h answer after

-- whatever machine the store stands for, and whatever history the disk keeps to
pub record PerformsFor (c : Command) (answer : Result Verdict StoreFault) (before after : Session)
    (taken now : Option (List ℕ)) : Type 0 where
  pub answers : (m : Machine) → Represents before m
      → DoneInMemory before c m (λ d. Performs d m answer before after taken now)
  pub crash : (h : History) → KeepsTo before h
      → DoneInMemory before c h.machine (λ d. PerformsAndKeeps d h answer before after taken now)

-- for a history: what a command does of whose reply nothing is said yet, with and without a crash
pub record Achieves (crash : Bool) (c : Command) (h : History) (answer : Result Answered StoreFault)
    (before after : Session) : Type 0 where
  pub safe : IsTrue crash → IsSafe after.disk (begun c h).marks
  pub replies : IfSome (replied answer) (λ r. r ≡ (step h.machine c).reply)
  pub next : OnOk answer (KeepsWhere crash after (acked c h))
  pub tells : OnOk answer (ComesToTell c before h.machine → Tells after (step h.machine c).next)

-- whatever the history that the session keeps to
abbrev pub AchievesFor : Command → Result Answered StoreFault → Session → Session → Type 0
AchievesFor c answer before after =
    (crash : Bool) (h : History) → KeepsWhere crash before h → Achieves crash c h answer before after

-- the same of what is done for the command
abbrev pub AchievesWhatIsDone : Command → Result Answered StoreFault → Session → Session → Type 0
AchievesWhatIsDone c answer before after =
    (crash : Bool) (h : History) → KeepsWhere crash before h
    → DoneInMemory before c h.machine (λ d. Achieves crash d h answer before after)

-- for a history: what the command does before its reply is out whole, with and without a crash
pub record DoesCommand (crash : Bool) (c : Command) (h : History)
    (answer : Result Answered StoreFault)
    (before after : Session) (taken : Option (List ℕ)) (now : Saying) : Type 0 where
  pub safe : IsTrue crash → IsSafe after.disk (begun c h).marks
  pub answers : AnswersTo (step h.machine c).reply answer taken now
  pub next : OnOk answer (KeepsWhere crash after (acked c h))
  pub effect : IfErr answer (λ f. f ≡ fault.Sink → KeepsWhere crash after (acked c h))
  pub tells : HadEffect answer → ComesToTell c before h.machine
      → Tells after (step h.machine c).next

-- whatever the history that the session keeps to
abbrev pub DoesFor : Command → Result Answered StoreFault → Session → Session
    → Option (List ℕ) → Saying → Type 0
DoesFor c answer before after taken now =
    (crash : Bool) (h : History) → KeepsWhere crash before h → DoesCommand crash c h answer before after taken now

-- the same of what is done for the command
abbrev pub DoesWhatIsDone : Command → Result Answered StoreFault → Session → Session
    → Option (List ℕ) → Saying → Type 0
DoesWhatIsDone c answer before after taken now =
    (crash : Bool) (h : History) → KeepsWhere crash before h
    → DoneInMemory before c h.machine (λ d. DoesCommand crash d h answer before after taken now)
