-- How far a `put` came.
use Rattle.std.specs.Io.KnownBytes.{Consumes}
use Rattle.std.specs.Prelude.{Err, IfOk, IsSome, List, None, Ok, OnOk, Option, Result, Some, [], false, length, true, ℕ, ⊤, ◌+◌, ◌++◌, ◌<◌, ◌≡◌, ◌∷◌, ◌⊎◌}
use Rattle.cache_base.specs.declared.limits.TheConstants.{BODY_MAX}
use Rattle.cache_base.specs.declared.status.Status.{Status}
use Rattle.cache_base.specs.declared.status.Status.TheVariants as status
use Rattle.cache_replies.specs.Answers.{outcome_of}
use Rattle.cache_store.specs.DoneFor.{DoneFor}
use Rattle.cache_store.specs.Faulting.{reply_front}
use Rattle.cache_store.specs.Open.{KeepsTo, Tells}
use Rattle.cache_store.specs.Session.{Session}
use Rattle.cache_replies.specs.declared.verdict.Verdict.{Verdict}
use Rattle.cache_replies.specs.declared.verdict.Verdict.TheVariants as outcome
use Rattle.cache_store.specs.declared.fault.StoreFault.{StoreFault}
use Rattle.cache_theory.specs.Command.{Command, Reply}
use Rattle.cache_theory.specs.Command.Command.{Append}
use Rattle.cache_theory.specs.Crash.{IsSafe}
use Rattle.cache_theory.specs.History.{History, acked, begun}
use Rattle.cache_theory.specs.Machine.{Machine, Slot, object}
use Rattle.cache_theory.specs.Marks.{all_begun}
use Rattle.cache_theory.specs.Step.{after, step}
use Rattle.cache_theory.specs.Text.{reply_text}
use Rattle.cache_tool.specs.MarkLeft.{KeepsMark, MayMark}
use Rattle.cache_tool.specs.Put.{ArePut, GivesPart, GivesWhole, appends}
use Rattle.cache_tool.specs.Replies.{is_done, last_reply, until_refused}
use Rattle.cache_tool.specs.Right.{LeadTo}
use Rattle.cache_tool.specs.Statuses.{IsAnswer, IsClosing, status_in, status_of}
use Rattle.cache_tool.specs.World.{Supply}

-- the reply to the command has no bytes of a body
abbrev pub HasNoFront : Command → Type 0
HasNoFront c = (r : Reply) → reply_front c r ≡ None

-- One command, whose reply is held.

-- for a history
pub record IsSent (c : Command) (h : History) (answer : Result Verdict StoreFault)
    (before now : Session) (said : List ℕ) : Type 0 where
  pub safe : IsSafe now.disk (begun c h).marks
  pub next : OnOk answer (LeadTo (c ∷ []) before h.machine now (acked c h))
  pub outcome : IfOk answer (λ r. r ≡ outcome_of (step h.machine c).reply)
  pub replied : OnOk answer (said ≡ reply_text (step h.machine c).reply)

-- whatever history the disk kept to, of what is done for it
pub record SendsCommand (c : Command) (answer : Result Verdict StoreFault) (before now : Session)
    (said : List ℕ) : Type 0 where
  pub each : (h : History) → KeepsTo before h
      → DoneFor (Tells before h.machine) c h.machine (λ d. IsSent d h answer before now said)
  pub mark : MayMark c before.disk now.disk

-- Commands one after the other.

-- the history after them, none of them acknowledged
abbrev pub all_unanswered : List Command → History → History
all_unanswered cs h =
    record { machine = after h.machine cs; marks = all_begun h.machine cs h.marks }

-- the reply to each of them is `ok`
abbrev pub AreDone : Machine → List Command → Type 0
AreDone m [] = ⊤
AreDone m (c ∷ cs) = (is_done (step m c).reply ≡ true) × AreDone (step m c).next cs

-- a command is refused, with this reply
pub record IsRefused (m : Machine) (c : Command) (said : List ℕ) : Type 0 where
  pub not_done : is_done (step m c).reply ≡ false
  pub refused : outcome_of (step m c).reply ≡ outcome.Refused
  pub replied : said ≡ reply_text (step m c).reply

-- one of them is, and those before it are done
abbrev pub StopsWith : Machine → List Command → List ℕ → Type 0
StopsWith m [] said = ⊥
StopsWith m (c ∷ cs) said =
    IsRefused m c said ⊎ ((is_done (step m c).reply ≡ true) × StopsWith (step m c).next cs said)

-- they were performed up to the first that is refused, or as far as a fault let them
pub record AreSent (cs : List Command) (h : History) (answer : Result Verdict StoreFault)
    (before now : Session) (said : List ℕ) : Type 0 where
  pub safe : IsSafe now.disk (all_unanswered (until_refused h.machine cs) h).marks
  pub stands : let sent = until_refused h.machine cs in
      OnOk answer (LeadTo sent before h.machine now (all_unanswered sent h))
  pub done : answer ≡ Ok outcome.Ok → AreDone h.machine cs
  pub refused : answer ≡ Ok outcome.Refused → StopsWith h.machine cs said

-- The pieces of a body.

-- the slot 0 is the writer of an unfinished entry that has this body so far
pub record IsWriting (m : Machine) (body : List ℕ) : Type 0 where
  pub slot : Slot
  pub at : m.slots 0 ≡ Some slot
  pub writes : slot.writes ≡ true
  pub there : slot.object < length m.objects
  pub unfinished : (object m slot.object).finished ≡ false
  pub body_is : (object m slot.object).version.body ≡ body

-- a piece is appended, and an empty one is not
abbrev pub piece_commands : List ℕ → List Command
piece_commands [] = []
piece_commands (x ∷ xs) = Append 0 (x ∷ xs) ∷ []

-- for a history: a piece was appended to this body, or was refused
pub record PieceIsSent (body piece : List ℕ) (h : History) (answer : Result Verdict StoreFault)
    (before now : Session) (said : List ℕ) : Type 0 where
  pub sent : AreSent (piece_commands piece) h answer before now said
  pub writes : answer ≡ Ok outcome.Ok
      → IsWriting (after h.machine (piece_commands piece)) (body ++ piece)

-- whatever history the disk kept to, and whatever body there is, which has room for so many bytes more
pub record AppendsPiece (piece : List ℕ) (room : ℕ) (answer : Result Verdict StoreFault)
    (before now : Session) (said : List ℕ) : Type 0 where
  pub each : (h : History) (body : List ℕ) → KeepsTo before h → IsWriting h.machine body
      → room + length body ≡ BODY_MAX → PieceIsSent body piece h answer before now said
  pub mark : KeepsMark before.disk now.disk

-- for a history: so far these commands were done, which append this body
pub record BodyIsSent (body : List ℕ) (cs : List Command) (h : History)
    (before now : Session) : Type 0 where
  pub stands : LeadTo cs before h.machine now (all_unanswered cs h)
  pub done : AreDone h.machine cs
  pub writes : IsWriting (after h.machine cs) body

-- the source gave this body so far, and what it has left completes the commands
pub record AppendsSoFar (tells : Type 0) (room : ℕ) (left left_now : Option (List ℕ))
    (before now : Session) : Type 0 where
  pub body : List ℕ
  pub commands : List Command
  pub read : Consumes left left_now body
  pub leads : (rest : List ℕ) → appends (body ++ rest) ≡ commands ++ appends rest
  pub room_is : room + length body ≡ BODY_MAX
  pub sent : tells → (h : History) → KeepsTo before h → IsWriting h.machine []
      → BodyIsSent body commands h before now
  pub mark : tells → KeepsMark before.disk now.disk

-- The whole body.

-- the source's bytes, or what it gave before it failed, by the result of the appending
abbrev pub BodyOf : Result Status StoreFault → Supply → Supply → List ℕ → Type 0
BodyOf (Ok status.Done) before now body = GivesWhole before now body
BodyOf (Ok status.No) before now body = GivesWhole before now body
BodyOf (Ok status.Source) before now body = GivesPart before now body
BodyOf (Ok status.Memory) before now body = ⊥
BodyOf (Ok status.Words) before now body = ⊥
BodyOf (Ok status.Script) before now body = ⊥
BodyOf (Ok status.Sink) before now body = ⊥
BodyOf (Ok status.Disk) before now body = ⊥
BodyOf (Err f) before now body = GivesWhole before now body ⊎ GivesPart before now body

-- and what the last command answered
abbrev pub AgreesWith : Result Status StoreFault → Result Verdict StoreFault → Type 0
AgreesWith (Ok status.Done) answer = answer ≡ Ok outcome.Ok
AgreesWith (Ok status.No) answer = answer ≡ Ok outcome.Refused
AgreesWith (Ok status.Source) answer = (o : Verdict) × (answer ≡ Ok o)
AgreesWith (Ok status.Memory) answer = ⊥
AgreesWith (Ok status.Words) answer = ⊥
AgreesWith (Ok status.Script) answer = ⊥
AgreesWith (Ok status.Sink) answer = ⊥
AgreesWith (Ok status.Disk) answer = ⊥
AgreesWith (Err f) answer = answer ≡ Err f

-- for a history: the body was appended to an entry without one
pub record BodyIsAppended (h : History) (from to : Supply) (came : Result Status StoreFault)
    (before now : Session) (said : List ℕ) : Type 0 where
  pub body : List ℕ
  pub body_of : BodyOf came from to body
  pub answer : Result Verdict StoreFault
  pub sent : AreSent (appends body) h answer before now said
  pub same : AgreesWith came answer

-- whatever history the disk kept to, where the source tells its bytes
pub record AppendsBody (from to : Supply) (came : Result Status StoreFault) (before now : Session)
    (said : List ℕ) : Type 0 where
  pub each : IsSome from.left → (h : History) → KeepsTo before h → IsWriting h.machine []
      → BodyIsAppended h from to came before now said
  pub mark : KeepsMark before.disk now.disk

-- The whole put.

-- the status is that of the last reply, which is held
pub record IsLastReply (m : Machine) (cs : List Command) (ended : Status) (said : List ℕ)
    : Type 0 where
  pub status : ended ≡ status_of (outcome_of (last_reply m cs))
  pub replied : said ≡ reply_text (last_reply m cs)

-- for a history
pub record PutIsPerformed (key : List ℕ) (h : History) (from to : Supply) (ended : Status)
    (before now : Session) (said : List ℕ) : Type 0 where
  pub commands : List Command
  pub are_put : ArePut h.machine key from to ended commands
  pub safe : IsSafe now.disk (all_unanswered commands h).marks
  pub stands : IsClosing ended
      → LeadTo commands before h.machine now (all_unanswered commands h)
  pub last : IsAnswer ended → IsLastReply h.machine commands ended said

-- whatever history the disk kept to, where the source tells its bytes
pub record PerformsPut (key : List ℕ) (from to : Supply) (came : Result Status StoreFault)
    (before now : Session) (said : List ℕ) : Type 0 where
  pub each : IsSome from.left → (h : History) → KeepsTo before h
      → PutIsPerformed key h from to (status_in came) before now said
  pub mark : KeepsMark before.disk now.disk
