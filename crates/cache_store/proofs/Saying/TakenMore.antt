-- What was said of a reply is bytes more that the sink took.
use Rattle.std.proofs.Common.{◌≡◌, ◌≢◌, ◌++◌, List, ℕ, [], take, Option, Result, Ok, Err, refl}
use Rattle.std.specs.Prelude.{OnErr, OnOk}
use Rattle.std.proofs.KnownBytes.{Appends-nil}
use Rattle.cache_theory.specs.Command.{Command, Reply}
use Rattle.cache_theory.specs.Command.Reply.{Resumed}
use Rattle.cache_theory.specs.Text.{IsSpoken}
use Rattle.cache_theory.proofs.Faults.RepliesApart.{step_spoken}
use Rattle.cache_store.specs.Answering.{AnswersFor, AnswersTo}
use Rattle.cache_replies.specs.Completing.{CutsRest, SaysOf, SendsRest}
use Rattle.cache_store.specs.Open.{IsOpen}
use Rattle.cache_replies.specs.Said.{IsCut, Said, Saying}
use Rattle.cache_replies.specs.Saying.{CutsIn, SaysMore, TakesMore}
use Rattle.cache_store.specs.Session.{Session, cache_of}
use Rattle.cache_replies.specs.declared.answered.Answered.{Answered}
use Rattle.cache_replies.specs.declared.verdict.Verdict.{Verdict}
use Rattle.cache_store.specs.declared.fault.StoreFault.{StoreFault}
use Rattle.cache_replies.proofs.SayingLaws.{said_nothing}

pub takes_none : (taken : Option (List ℕ)) → TakesMore taken taken
takes_none taken = ([], Appends-nil taken)

pub said_takes : (before : Option (List ℕ)) (now : Saying) (text : List ℕ) → Said before now text → TakesMore before now.taken
said_takes before now text said = (said.front, said.out)

pub cut_takes : (before now : Option (List ℕ)) (text : List ℕ) → IsCut before now text → TakesMore before now
cut_takes before now text cut = (take cut.0 text, cut.1.1)

-- with nothing said before
pub says_takes : (was now : Saying) (more : List ℕ) → was.held ≡ [] → SaysMore was now more → TakesMore was.taken now.taken
says_takes was now more none says = said_takes was.taken now _ (says was.taken [] (said_nothing was none))

pub cuts_takes : (was : Saying) (now : Option (List ℕ)) (more : List ℕ) → was.held ≡ [] → CutsIn was now more → TakesMore was.taken now
cuts_takes was now more none cuts = cut_takes was.taken now _ (cuts was.taken [] (said_nothing was none))

-- an answer, as far as it was said
pub answer_takes : (r : Reply) → r ≢ Resumed → (answer : Result Answered StoreFault) (before : Option (List ℕ)) (now : Saying) → AnswersTo r answer before now → TakesMore before now.taken
answer_takes r some (Ok a) before now answers = said_takes before now _ answers.says.said
answer_takes r some (Err f) before now answers = cut_takes before now.taken _ (answers.cut some)

pub open_takes : (c : Command) → IsSpoken c → (answer : Result Answered StoreFault) (before : Session) (taken : Option (List ℕ)) (now : Saying) → IsOpen before → AnswersFor (cache_of before) c answer taken now → TakesMore taken now.taken
open_takes c spoken answer before taken now (m, is) answers = answer_takes _ (step_spoken m c spoken) answer taken now (answers m is.stands)

-- and what is left to say goes out after it, or is cut
pub rest_takes : (rest : List ℕ) (before : Option (List ℕ)) (was : Saying) (now : Option (List ℕ)) (answer : Result Verdict StoreFault) → TakesMore before was.taken
    → OnOk answer (SendsRest rest was now) → OnErr answer (CutsRest rest was now) → TakesMore before now
rest_takes rest before was now answer (out, appends) sends cuts = go answer sends cuts
  where
    text : List ℕ
    text = (out ++ was.held) ++ rest

    says : SaysOf text rest before was
    says = record { front = out ++ was.held; said = record { front = out; out = appends; is = refl }; whole = refl }

    go : (a : Result Verdict StoreFault) → OnOk a (SendsRest rest was now) → OnErr a (CutsRest rest was now) → TakesMore before now
    go (Ok o) sends cuts = (text, sends text before says)
    go (Err f) sends cuts = cut_takes before now text (cuts text before says)
