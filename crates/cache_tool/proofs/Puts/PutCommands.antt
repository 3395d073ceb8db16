-- Commands that are performed one after the other, up to the first that is refused.
use Rattle.std.proofs.Common.{◌≡◌, ◌≢◌, inl, inr, ℕ, List, [], ◌∷◌, ◌++◌, Bool, true, false, cond, refl, sym, ap, subst, ◌∙◌}
use Rattle.std.specs.Prelude.{Err, Ok, OnOk, Result, ◌⊎◌}
use Rattle.std.proofs.lemmas.Result.{on_ok_weaker}
use Rattle.cache_theory.specs.Command.{Command}
use Rattle.cache_theory.specs.Crash.{IsSafe}
use Rattle.cache_theory.specs.History.{History, unanswered}
use Rattle.cache_theory.specs.Machine.{Machine}
use Rattle.cache_theory.specs.Marks.{all_begun, begun}
use Rattle.cache_theory.specs.Step.{after, step}
use Rattle.cache_theory.specs.Text.{reply_text}
use Rattle.cache_replies.specs.Answers.{outcome_of}
use Rattle.cache_store.specs.Open.{KeepsTo}
use Rattle.cache_store.specs.Session.{Session}
use Rattle.cache_replies.specs.declared.verdict.Verdict.{Verdict}
use Rattle.cache_replies.specs.declared.verdict.Verdict.TheVariants as outcome
use Rattle.cache_store.specs.declared.fault.StoreFault.{StoreFault}
use Rattle.cache_tool.specs.PutProgress.{AreDone, AreSent, IsRefused, StopsWith, all_unanswered}
use Rattle.cache_tool.specs.Replies.{is_done, last_reply, until_refused}
use Rattle.cache_tool.specs.Right.{LeadTo}
use Rattle.cache_tool.proofs.Begun.{all_begin_keep}
use Rattle.cache_tool.proofs.RightLaws.{leads_none, leads_on}

-- the history after commands one after the other
pub unanswered-append : (cs ds : List Command) (h : History) → all_unanswered (cs ++ ds) h ≡ all_unanswered ds (all_unanswered cs h)
unanswered-append [] ds h = refl
unanswered-append (c ∷ cs) ds h = unanswered-append cs ds (unanswered c h)

-- after a command that is done the others follow, and after one that is not none does
pub until_done : (m : Machine) (c : Command) (cs : List Command) → is_done (step m c).reply ≡ true → until_refused m (c ∷ cs) ≡ c ∷ until_refused (step m c).next cs
until_done m c cs done = ap (λ b. c ∷ cond b (until_refused (step m c).next cs) []) done

pub until_not : (m : Machine) (c : Command) (cs : List Command) → is_done (step m c).reply ≡ false → until_refused m (c ∷ cs) ≡ c ∷ []
until_not m c cs not_done = ap (λ b. c ∷ cond b (until_refused (step m c).next cs) []) not_done

until_one : (m : Machine) (c : Command) → until_refused m (c ∷ []) ≡ c ∷ []
until_one m c = go (is_done (step m c).reply)
  where
    go : (b : Bool) → (c ∷ cond b [] []) ≡ c ∷ []
    go true = refl
    go false = refl

-- where all are done, all are performed
pub until_append : (m : Machine) (cs ds : List Command) → AreDone m cs → until_refused m (cs ++ ds) ≡ cs ++ until_refused (after m cs) ds
until_append m [] ds done = refl
until_append m (c ∷ cs) ds done = until_done m c (cs ++ ds) done.0 ∙ ap (λ l. c ∷ l) (until_append (step m c).next cs ds done.1)

pub until_all : (m : Machine) (cs : List Command) → AreDone m cs → until_refused m cs ≡ cs
until_all m [] done = refl
until_all m (c ∷ cs) done = until_done m c cs done.0 ∙ ap (λ l. c ∷ l) (until_all (step m c).next cs done.1)

-- where one is refused, none that follows is
pub until_stopped : (m : Machine) (cs ds : List Command) (said : List ℕ) → StopsWith m cs said → until_refused m (cs ++ ds) ≡ until_refused m cs
until_stopped m [] ds said stops = absurd stops
until_stopped m (c ∷ cs) ds said (inl here) = until_not m c (cs ++ ds) here.not_done ∙ sym (until_not m c cs here.not_done)
until_stopped m (c ∷ cs) ds said (inr later) =
    until_done m c (cs ++ ds) later.0 ∙ ap (λ l. c ∷ l) (until_stopped (step m c).next cs ds said later.1) ∙ sym (until_done m c cs later.0)

-- in any case those of a prefix come first
until_front : (m : Machine) (cs ds : List Command) → (more : List Command) × (until_refused m (cs ++ ds) ≡ until_refused m cs ++ more)
until_front m [] ds = (until_refused m ds, refl)
until_front m (c ∷ cs) ds = go (is_done (step m c).reply) (until_front (step m c).next cs ds)
  where
    go : (b : Bool) → ((more : List Command) × (until_refused (step m c).next (cs ++ ds) ≡ until_refused (step m c).next cs ++ more))
        → (more : List Command) × ((c ∷ cond b (until_refused (step m c).next (cs ++ ds)) []) ≡ (c ∷ cond b (until_refused (step m c).next cs) []) ++ more)
    go true rest = (rest.0, ap (λ l. c ∷ l) rest.1)
    go false rest = ([], refl)

pub done-append : (m : Machine) (cs ds : List Command) → AreDone m cs → AreDone (after m cs) ds → AreDone m (cs ++ ds)
done-append m [] ds first second = second
done-append m (c ∷ cs) ds first second = (first.0, done-append (step m c).next cs ds first.1 second)

stops-append : (m : Machine) (cs ds : List Command) (said : List ℕ) → AreDone m cs → StopsWith (after m cs) ds said → StopsWith m (cs ++ ds) said
stops-append m [] ds said first second = second
stops-append m (c ∷ cs) ds said first second = inr (first.0, stops-append (step m c).next cs ds said first.1 second)

stops_before : (m : Machine) (cs ds : List Command) (said : List ℕ) → StopsWith m cs said → StopsWith m (cs ++ ds) said
stops_before m [] ds said stops = absurd stops
stops_before m (c ∷ cs) ds said (inl here) = inl here
stops_before m (c ∷ cs) ds said (inr later) = inr (later.0, stops_before (step m c).next cs ds said later.1)

-- the same commands by another name
pub sent_same : (h : History) (cs ds : List Command) (answer : Result Verdict StoreFault) (before now : Session) (said : List ℕ) → cs ≡ ds
    → AreSent cs h answer before now said → AreSent ds h answer before now said
sent_same h cs ds answer before now said same ran = subst (λ l. AreSent l h answer before now said) same ran

-- no command
pub sent_none : (h : History) (now : Session) (said : List ℕ) → KeepsTo now h → AreSent [] h (Ok outcome.Ok) now now said
sent_none h now said keeps = record {
  safe = keeps.stands.crash_kept.safe;
  stands = leads_none now h keeps;
  done = λ e. tt;
  refused = λ e. absurd (cc);
}

-- one command
pub sent_one_of : (h : History) (c : Command) (answer : Result Verdict StoreFault) (before now : Session) (said : List ℕ) → IsSafe now.disk (begun h.machine c h.marks)
    → OnOk answer (LeadTo (c ∷ []) before h.machine now (unanswered c h)) → (answer ≡ Ok outcome.Ok → is_done (step h.machine c).reply ≡ true)
    → (answer ≡ Ok outcome.Refused → IsRefused h.machine c said) → AreSent (c ∷ []) h answer before now said
sent_one_of h c answer before now said safe stands done refused = record {
  safe = subst (λ l. IsSafe now.disk (all_begun h.machine l h.marks)) (sym (until_one h.machine c)) safe;
  stands = subst (λ l. OnOk answer (LeadTo l before h.machine now (all_unanswered l h))) (sym (until_one h.machine c)) stands;
  done = λ e. (done e, tt);
  refused = λ e. inl (refused e);
}

-- more commands, of which none was performed: the last was refused, or there was a fault
stopped_or_fault : (answer : Result Verdict StoreFault) → answer ≢ Ok outcome.Ok → (answer ≡ Ok outcome.Refused) ⊎ ((f : StoreFault) × (answer ≡ Err f))
stopped_or_fault (Ok outcome.Ok) other = absurd (other refl)
stopped_or_fault (Ok outcome.Refused) other = inl refl
stopped_or_fault (Err f) other = inr (f, refl)

pub sent_more : (h : History) (cs ds : List Command) (answer : Result Verdict StoreFault) (before now : Session) (said : List ℕ) → answer ≢ Ok outcome.Ok
    → AreSent cs h answer before now said → AreSent (cs ++ ds) h answer before now said
sent_more h cs ds answer before now said other ran = record {
  safe = safe;
  stands = stands answer refl other;
  done = λ e. absurd (other e);
  refused = λ e. stops_before h.machine cs ds said (ran.refused e);
}
  where
    safe : IsSafe now.disk (all_begun h.machine (until_refused h.machine (cs ++ ds)) h.marks)
    safe =
        let front = until_front h.machine cs ds in
        subst (λ (x : History). IsSafe now.disk x.marks) (sym (ap (λ l. all_unanswered l h) front.1 ∙ unanswered-append (until_refused h.machine cs) front.0 h))
        (all_begin_keep now.disk (after h.machine (until_refused h.machine cs)) front.0 (all_begun h.machine (until_refused h.machine cs) h.marks) ran.safe)

    stands : (a : Result Verdict StoreFault) → answer ≡ a → a ≢ Ok outcome.Ok
        → OnOk a (LeadTo (until_refused h.machine (cs ++ ds)) before h.machine now (all_unanswered (until_refused h.machine (cs ++ ds)) h))
    stands (Ok outcome.Ok) e not_ok = absurd (not_ok refl)
    stands (Ok outcome.Refused) e not_ok =
        let same = until_stopped h.machine cs ds said (ran.refused e) in
        subst (λ l. LeadTo l before h.machine now (all_unanswered l h)) (sym same)
        (subst (λ a. OnOk a (LeadTo (until_refused h.machine cs) before h.machine now (all_unanswered (until_refused h.machine cs) h))) e ran.stands)
    stands (Err f) e not_ok = tt

-- more commands after all were done
pub sent_then : (h : History) (cs ds : List Command) (answer : Result Verdict StoreFault) (before mid now : Session) (said : List ℕ) → AreDone h.machine cs → LeadTo cs before h.machine mid (all_unanswered cs h)
    → AreSent ds (all_unanswered cs h) answer mid now said → AreSent (cs ++ ds) h answer before now said
sent_then h cs ds answer before mid now said first led second =
    let rest : List Command = until_refused (after h.machine cs) ds in
    let all : until_refused h.machine (cs ++ ds) ≡ cs ++ rest = until_append h.machine cs ds first in
    let same : all_unanswered (cs ++ rest) h ≡ all_unanswered rest (all_unanswered cs h) = unanswered-append cs rest h in
    record {
      safe = subst (λ (x : History). IsSafe now.disk x.marks) (sym (ap (λ l. all_unanswered l h) all ∙ same)) second.safe;
      stands = on_ok_weaker answer
          (λ on. subst (λ l. LeadTo l before h.machine now (all_unanswered l h)) (sym all)
          (subst (λ x. LeadTo (cs ++ rest) before h.machine now x) (sym same)
          (leads_on cs rest before h.machine mid (all_unanswered cs h) now (all_unanswered rest (all_unanswered cs h)) refl led on))) second.stands;
      done = λ e. done-append h.machine cs ds first (second.done e);
      refused = λ e. stops-append h.machine cs ds said first (second.refused e);
    }

-- the reply to the last of commands, the others of which are done
pub last_of : (m : Machine) (cs : List Command) (c : Command) → last_reply m (cs ++ c ∷ []) ≡ (step (after m cs) c).reply
last_of m [] c = refl
last_of m (b ∷ []) c = refl
last_of m (b ∷ (d ∷ cs)) c = last_of (step m b).next (d ∷ cs) c

-- the reply with which commands stop
pub last_stopped : (m : Machine) (cs : List Command) (said : List ℕ) → StopsWith m cs said
    → (outcome_of (last_reply m (until_refused m cs)) ≡ outcome.Refused) × (said ≡ reply_text (last_reply m (until_refused m cs)))
last_stopped m [] said stops = absurd stops
last_stopped m (c ∷ cs) said (inl here) =
    let is = until_not m c cs here.not_done in
    (ap (λ l. outcome_of (last_reply m l)) is ∙ here.refused, here.replied ∙ sym (ap (λ l. reply_text (last_reply m l)) is))
last_stopped m (c ∷ []) said (inr later) = absurd later.1
last_stopped m (c ∷ (d ∷ cs)) said (inr later) =
    let is = until_done m c (d ∷ cs) later.0 in
    let rest = last_stopped (step m c).next (d ∷ cs) said later.1 in
    (ap (λ l. outcome_of (last_reply m l)) is ∙ rest.0, rest.1 ∙ sym (ap (λ l. reply_text (last_reply m l)) is))
