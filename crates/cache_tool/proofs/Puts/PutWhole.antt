-- The whole put: an entry is made, gets its body and is closed.
use Rattle.std.proofs.Common.{◌≡◌, ◌≢◌, inl, inr, ℕ, List, [], ◌∷◌, ◌++◌, true, Some, None, refl, sym, ap, subst, ◌∙◌}
use Rattle.std.specs.Prelude.{Err, IsSome, Ok, Option, Result}
use Rattle.cache_base.specs.declared.status.Status.{Status}
use Rattle.cache_base.specs.declared.status.Status.TheVariants as status
use Rattle.cache_replies.specs.Answers.{outcome_of}
use Rattle.cache_store.specs.Open.{KeepsTo}
use Rattle.cache_store.specs.Session.{Session}
use Rattle.cache_replies.specs.declared.verdict.Verdict.{Verdict}
use Rattle.cache_replies.specs.declared.verdict.Verdict.TheVariants as outcome
use Rattle.cache_store.specs.declared.fault.StoreFault.{StoreFault}
use Rattle.cache_store.specs.declared.fault.StoreFault.TheVariants as fault
use Rattle.cache_theory.specs.Command.{Command}
use Rattle.cache_theory.specs.Command.Command.{Close, Create}
use Rattle.cache_theory.specs.History.{History, unanswered}
use Rattle.cache_theory.specs.Step.{after, step}
use Rattle.cache_theory.specs.Text.{reply_text}
use Rattle.cache_tool.specs.Put.{GivesPart, GivesWhole, appends, broken_commands, put_commands}
use Rattle.cache_tool.specs.Put.ArePut.{Broken, Whole}
use Rattle.cache_tool.specs.PutProgress.{AreDone, AreSent, BodyIsAppended, IsSent, IsWriting, PutIsPerformed, SendsCommand, all_unanswered}
use Rattle.cache_tool.specs.Replies.{is_done, last_reply}
use Rattle.cache_tool.specs.Right.{LeadTo}
use Rattle.cache_tool.specs.Statuses.{IsAnswer, IsClosing, status_in, status_of}
use Rattle.cache_tool.specs.World.{Supply}
use Rattle.cache_tool.proofs.Begun.{all_begin_keep}
use Rattle.cache_tool.proofs.Puts.PutMachine.{close_is_plain, create_is_plain, create_writes, sent_one, sent_done}
use Rattle.cache_tool.proofs.Puts.PutReplies.{sent_itself}
use Rattle.cache_tool.proofs.Puts.PutCommands.{last_of, last_stopped, sent_more, sent_then, until_all}

-- a fault is no answer, and but for that of a sink the store is not closed
pub fault_is_none : (f : StoreFault) → ¬ (IsAnswer (status_in (Err f)))
fault_is_none fault.Memory (inl e) = absurd (cc)
fault_is_none fault.Memory (inr e) = absurd (cc)
fault_is_none fault.Disk (inl e) = absurd (cc)
fault_is_none fault.Disk (inr e) = absurd (cc)
fault_is_none fault.Sink (inl e) = absurd (cc)
fault_is_none fault.Sink (inr e) = absurd (cc)

pub not_closing : (f : StoreFault) → f ≢ fault.Sink → ¬ (IsClosing (status_in (Err f)))
not_closing fault.Memory other closing = closing
not_closing fault.Disk other closing = closing
not_closing fault.Sink other closing = other refl

source_is_none : ¬ (IsAnswer status.Source)
source_is_none (inl e) = absurd (cc)
source_is_none (inr e) = absurd (cc)

module _ (h : History) (key : List ℕ) (from to : Supply) (start now : Session) (said : List ℕ) (body : List ℕ) where
  -- the commands of a whole body, with a fault, with a refusal, and all done
  whole_failed : (f : StoreFault) → f ≢ fault.Sink → GivesWhole from to body → AreSent (Create 0 key ∷ (appends body ++ Close 0 ∷ [])) h (Err f) start now said
      → PutIsPerformed key h from to (status_in (Err f)) start now said
  whole_failed f other whole ran = record {
    commands = put_commands h.machine key body;
    are_put = Whole body whole refl;
    safe = ran.safe;
    stands = λ closing. absurd (not_closing f other closing);
    last = λ answer. absurd (fault_is_none f answer);
  }

  whole_refused : GivesWhole from to body → AreSent (Create 0 key ∷ (appends body ++ Close 0 ∷ [])) h (Ok outcome.Refused) start now said
      → PutIsPerformed key h from to status.No start now said
  whole_refused whole ran =
      let last = last_stopped h.machine (Create 0 key ∷ (appends body ++ Close 0 ∷ [])) said (ran.refused refl) in
      record {
        commands = put_commands h.machine key body;
        are_put = Whole body whole refl;
        safe = ran.safe;
        stands = λ closing. ran.stands;
        last = λ answer. record { status = ap status_of (sym last.0); replied = last.1 };
      }

  whole_done : GivesWhole from to body → AreSent (Create 0 key ∷ (appends body ++ Close 0 ∷ [])) h (Ok outcome.Ok) start now said
      → outcome_of (step (after h.machine (Create 0 key ∷ appends body)) (Close 0)).reply ≡ outcome.Ok → said ≡ reply_text (step (after h.machine (Create 0 key ∷ appends body)) (Close 0)).reply
      → PutIsPerformed key h from to status.Done start now said
  whole_done whole ran is replied =
      let all = until_all h.machine (Create 0 key ∷ (appends body ++ Close 0 ∷ [])) (ran.done refl) in
      let last : last_reply h.machine (put_commands h.machine key body) ≡ (step (after h.machine (Create 0 key ∷ appends body)) (Close 0)).reply =
      ap (last_reply h.machine) all ∙ last_of h.machine (Create 0 key ∷ appends body) (Close 0) in
      record {
        commands = put_commands h.machine key body;
        are_put = Whole body whole refl;
        safe = ran.safe;
        stands = λ closing. ran.stands;
        last = λ answer. record { status = ap status_of (sym is) ∙ ap (λ r. status_of (outcome_of r)) (sym last); replied = replied ∙ ap reply_text (sym last) };
      }

  -- those of what came before the source failed
  broken_failed : (f : StoreFault) → f ≢ fault.Sink → GivesPart from to body → AreSent (Create 0 key ∷ appends body) h (Err f) start now said
      → PutIsPerformed key h from to (status_in (Err f)) start now said
  broken_failed f other broken ran = record {
    commands = broken_commands h.machine key body;
    are_put = Broken body broken (fault_is_none f) refl;
    safe = ran.safe;
    stands = λ closing. absurd (not_closing f other closing);
    last = λ answer. absurd (fault_is_none f answer);
  }

  broken_went : (r : Verdict) → GivesPart from to body → AreSent (Create 0 key ∷ appends body) h (Ok r) start now said → PutIsPerformed key h from to status.Source start now said
  broken_went r broken ran = record {
    commands = broken_commands h.machine key body;
    are_put = Broken body broken source_is_none refl;
    safe = ran.safe;
    stands = λ closing. ran.stands;
    last = λ answer. absurd (source_is_none answer);
  }

-- the bytes of a source that tells them
pub some_body : (from to : Supply) → to.faults ≡ from.faults → IsSome from.left → (body : List ℕ) × GivesWhole from to body
some_body from to calm some = go from.left refl some
  where
    go : (left : Option (List ℕ)) → from.left ≡ left → IsSome left → (body : List ℕ) × GivesWhole from to body
    go None is some = absurd (cc)
    go (Some body) is some = (body, record { calm = calm; whole = is })

-- nothing was done
pub nothing_went : (h : History) (key : List ℕ) (from to : Supply) (now : Session) (said : List ℕ) → to.faults ≡ from.faults → IsSome from.left → KeepsTo now h
    → PutIsPerformed key h from to status.Memory now now said
nothing_went h key from to now said calm some stands =
    let body = some_body from to calm some in
    record {
      commands = put_commands h.machine key body.0;
      are_put = Whole body.0 body.1 refl;
      safe = all_begin_keep now.disk h.machine (put_commands h.machine key body.0) h.marks stands.stands.crash_kept.safe;
      stands = λ closing. absurd closing;
      last = λ answer. absurd (fault_is_none fault.Memory answer);
    }

-- no entry was made
module _ (h : History) (key : List ℕ) (from to : Supply) (start now : Session) (said : List ℕ) (calm : to.faults ≡ from.faults) (some : IsSome from.left) where
  pub create_failed : (f : StoreFault) → f ≢ fault.Sink → IsSent (Create 0 key) h (Err f) start now said → PutIsPerformed key h from to (status_in (Err f)) start now said
  create_failed f other sends =
      let body = some_body from to calm some in
      whole_failed h key from to start now said body.0 f other body.1
      (sent_more h (Create 0 key ∷ []) (appends body.0 ++ Close 0 ∷ []) (Err f) start now said (λ e. absurd (cc)) (sent_one (Create 0 key) h (Err f) start now said (create_is_plain 0 key) sends))

  pub create_refused : IsSent (Create 0 key) h (Ok outcome.Refused) start now said → PutIsPerformed key h from to status.No start now said
  create_refused sends =
      let body = some_body from to calm some in
      whole_refused h key from to start now said body.0 body.1
      (sent_more h (Create 0 key ∷ []) (appends body.0 ++ Close 0 ∷ []) (Ok outcome.Refused) start now said (λ e. absurd (cc))
      (sent_one (Create 0 key) h (Ok outcome.Refused) start now said (create_is_plain 0 key) sends))

-- an entry was made
pub record Created (key : List ℕ) (h : History) (start now : Session) : Type 0 where
  pub done : is_done (step h.machine (Create 0 key)).reply ≡ true
  pub stands : LeadTo (Create 0 key ∷ []) start h.machine now (unanswered (Create 0 key) h)
  pub writes : IsWriting (step h.machine (Create 0 key)).next []

pub created : (h : History) (key : List ℕ) (start now : Session) (said : List ℕ) → IsSent (Create 0 key) h (Ok outcome.Ok) start now said → Created key h start now
created h key start now said sends =
    let done = sent_done (Create 0 key) h (Ok outcome.Ok) start now said (create_is_plain 0 key) sends refl in
    record { done = done; stands = sends.next; writes = create_writes h.machine key done }

module _ (h : History) (key : List ℕ) (from to : Supply) (start made_at : Session) (made : Created key h start made_at) where
  -- what follows the making
  after_made : (cs : List Command) (answer : Result Verdict StoreFault) (now : Session) (said : List ℕ)
      → AreSent cs (unanswered (Create 0 key) h) answer made_at now said → AreSent (Create 0 key ∷ cs) h answer start now said
  after_made cs answer now said ran = sent_then h (Create 0 key ∷ []) cs answer start made_at now said (made.done, tt) made.stands ran

  -- the body was not appended whole
  pub appended_failed : (f : StoreFault) (now : Session) (said : List ℕ) → f ≢ fault.Sink
      → BodyIsAppended (unanswered (Create 0 key) h) from to (Err f) made_at now said → PutIsPerformed key h from to (status_in (Err f)) start now said
  appended_failed f now said other went =
      let ran : AreSent (Create 0 key ∷ appends went.body) h (Err f) start now said =
      subst (λ a. AreSent (Create 0 key ∷ appends went.body) h a start now said) went.same (after_made (appends went.body) went.answer now said went.sent) in
      elim went.body_of [
        | inl whole ↦ whole_failed h key from to start now said went.body f other whole (sent_more h (Create 0 key ∷ appends went.body) (Close 0 ∷ []) (Err f) start now said (λ e. absurd (cc)) ran)
        | inr broken ↦ broken_failed h key from to start now said went.body f other broken ran
      ]

  pub appended_refused : (now : Session) (said : List ℕ)
      → BodyIsAppended (unanswered (Create 0 key) h) from to (Ok status.No) made_at now said → PutIsPerformed key h from to status.No start now said
  appended_refused now said went =
      let ran : AreSent (Create 0 key ∷ appends went.body) h (Ok outcome.Refused) start now said =
      subst (λ a. AreSent (Create 0 key ∷ appends went.body) h a start now said) went.same (after_made (appends went.body) went.answer now said went.sent) in
      whole_refused h key from to start now said went.body went.body_of (sent_more h (Create 0 key ∷ appends went.body) (Close 0 ∷ []) (Ok outcome.Refused) start now said (λ e. absurd (cc)) ran)

  pub appended_broken : (now : Session) (said : List ℕ)
      → BodyIsAppended (unanswered (Create 0 key) h) from to (Ok status.Source) made_at now said → PutIsPerformed key h from to status.Source start now said
  appended_broken now said went =
      let ran : AreSent (Create 0 key ∷ appends went.body) h (Ok went.same.0) start now said =
      subst (λ a. AreSent (Create 0 key ∷ appends went.body) h a start now said) went.same.1 (after_made (appends went.body) went.answer now said went.sent) in
      broken_went h key from to start now said went.body went.same.0 went.body_of ran

  pub appended_other : (ended : Status) (now : Session) (said : List ℕ) → ended ≢ status.Done
      → BodyIsAppended (unanswered (Create 0 key) h) from to (Ok ended) made_at now said → PutIsPerformed key h from to ended start now said
  appended_other status.Done now said other went = absurd (other refl)
  appended_other status.No now said other went = appended_refused now said went
  appended_other status.Source now said other went = appended_broken now said went
  appended_other status.Memory now said other went = absurd went.body_of
  appended_other status.Words now said other went = absurd went.body_of
  appended_other status.Script now said other went = absurd went.body_of
  appended_other status.Sink now said other went = absurd went.body_of
  appended_other status.Disk now said other went = absurd went.body_of

  -- it was, and the entry was closed
  module _ (now : Session) (before : List ℕ) (went : BodyIsAppended (unanswered (Create 0 key) h) from to (Ok status.Done) made_at now before) where
    appended : AreSent (Create 0 key ∷ appends went.body) h (Ok outcome.Ok) start now before
    appended = subst (λ a. AreSent (Create 0 key ∷ appends went.body) h a start now before) went.same (after_made (appends went.body) went.answer now before went.sent)

    appended_done : AreDone h.machine (Create 0 key ∷ appends went.body)
    appended_done = appended.done refl

    appended_stands : LeadTo (Create 0 key ∷ appends went.body) start h.machine now (all_unanswered (Create 0 key ∷ appends went.body) h)
    appended_stands =
        subst (λ l. LeadTo l start h.machine now (all_unanswered l h)) (until_all h.machine (Create 0 key ∷ appends went.body) appended_done) appended.stands

    module _ (later : Session) (said : List ℕ) where
      closed_ran : (r : Result Verdict StoreFault) → IsSent (Close 0) (all_unanswered (Create 0 key ∷ appends went.body) h) r now later said
          → AreSent (Create 0 key ∷ (appends went.body ++ Close 0 ∷ [])) h r start later said
      closed_ran r sends =
          sent_then h (Create 0 key ∷ appends went.body) (Close 0 ∷ []) r start now later said appended_done appended_stands
          (sent_one (Close 0) (all_unanswered (Create 0 key ∷ appends went.body) h) r now later said (close_is_plain 0) sends)

      pub close_failed : (f : StoreFault) → f ≢ fault.Sink → SendsCommand (Close 0) (Err f) now later said → PutIsPerformed key h from to (status_in (Err f)) start later said
      close_failed f other sends =
          whole_failed h key from to start later said went.body f other went.body_of (closed_ran (Err f) (sent_itself (Close 0) (Err f) now later said refl sends _ appended_stands.keeps))

      pub close_went : (r : Verdict) → SendsCommand (Close 0) (Ok r) now later said → PutIsPerformed key h from to (status_of r) start later said
      close_went outcome.Refused sends = whole_refused h key from to start later said went.body went.body_of (closed_ran (Ok outcome.Refused) (sent_itself (Close 0) (Ok outcome.Refused) now later said refl sends _ appended_stands.keeps))
      close_went outcome.Ok sends =
          let sent = sent_itself (Close 0) (Ok outcome.Ok) now later said refl sends _ appended_stands.keeps in
          whole_done h key from to start later said went.body went.body_of (closed_ran (Ok outcome.Ok) sent) (sym sent.outcome) sent.replied

-- an outcome that is no refusal
pub other_outcome : (r : Verdict) → r ≢ outcome.Refused → r ≡ outcome.Ok
other_outcome outcome.Ok other = refl
other_outcome outcome.Refused other = absurd (other refl)
