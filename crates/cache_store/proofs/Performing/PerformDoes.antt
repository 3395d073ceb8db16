-- What a command does before its reply is out.
use Rattle.std.proofs.Common.{Bool, ◌≡◌, ◌≢◌, ℕ, ◌<◌, ◌^◌, List, [], Option, Some, Result, Ok, Err, ⊎_elim, refl, sym, subst, ap, ◌∙◌}
use Rattle.std.specs.Prelude.{IfErr, IfSome}
use Rattle.cache_theory.specs.Checks.{checks}
use Rattle.cache_theory.specs.Command.{Command, Reply}
use Rattle.cache_theory.specs.Command.Command.{At, HasEntry, HasGiven, UpdateState}
use Rattle.cache_theory.specs.History.{History, acked, begun}
use Rattle.cache_theory.specs.Machine.{Machine}
use Rattle.cache_theory.specs.Marks.{Marks, begun as begun_marks}
use Rattle.cache_theory.specs.Proper.{IsProper}
use Rattle.cache_theory.specs.Step.{effect, state_reply, step}
use Rattle.cache_theory.proofs.Proper.{stays_proper}
use Rattle.disk_theory.specs.State.{State}
use Rattle.file_handles.specs.Cache.{cache_at}
use Rattle.handle_table.specs.Kept.{Kept}
use Rattle.file_handles.specs.Stands.{KeepsWhere as CacheKeepsWhere}
use Rattle.file_handles.proofs.Begun.{begun_in}
use Rattle.index_update.specs.Rest.{name_bytes}
use Rattle.cache_store.specs.Answering.{AnswersFor, AnswersTo}
use Rattle.cache_store.specs.DoneFor.{IsDoneBy}
use Rattle.cache_store.specs.Open.{KeepsWhere, Tells}
use Rattle.cache_store.specs.Performing.{GoesBy, SaysThere, Achieves, AchievesFor, AchievesWhatIsDone, ComesToTell, DoesCommand, DoesFor, DoesWhatIsDone}
use Rattle.cache_store.specs.Records.{AnswersHas, has_record}
use Rattle.cache_replies.specs.Answers.{reply_of}
use Rattle.cache_replies.specs.Said.{Saying}
use Rattle.cache_store.specs.Session.{Open, Session, cache_of}
use Rattle.cache_replies.specs.declared.answered.Answered.{Answered}
use Rattle.cache_replies.specs.declared.answered.Answered.TheVariants as answered
use Rattle.cache_store.specs.declared.fault.StoreFault.{StoreFault}
use Rattle.cache_store.specs.declared.fault.StoreFault.TheVariants as fault
use Rattle.cache_store.proofs.Records.HasEntry.{has_is_right}
use Rattle.cache_store.proofs.Performing.PerformStands.{at_moment, moment_in}
use Rattle.cache_store.proofs.Performing.PerformSteps.{IsReading, reading_acked, reading_next}
use Rattle.cache_store.proofs.Performing.Represented.{represented}
use Rattle.cache_replies.proofs.SaidMore.{when_ok}
use Rattle.cache_store.proofs.Saying.Unsaid.{unsaid_answers, unsaid_by, unsaid_effect, unsaid_had}

-- for a history, a command of whose reply nothing is said yet does what it achieves
unsaid_at : (c : Command) (answer : Result Answered StoreFault) (before after : Session) (now : Saying) → answer ≢ Ok answered.All → answer ≢ Err fault.Sink → now.held ≡ []
    → (b : Bool) (h : History) → Achieves b c h answer before after → DoesCommand b c h answer before after now.taken now
unsaid_at c answer before after now not_said no_sink none b h done =
    let unsaid = unsaid_by answer not_said no_sink in
    let reply = (step h.machine c).reply in
    record {
      safe = done.safe;
      answers = unsaid_answers answer unsaid reply done.replies now none;
      next = done.next;
      effect = unsaid_effect answer unsaid (KeepsWhere b after (acked c h));
      tells = λ had. unsaid_had answer unsaid (ComesToTell c before h.machine → Tells after (step h.machine c).next) had done.tells;
    }

-- and so for all
pub unsaid_does : (c : Command) (answer : Result Answered StoreFault) (before after : Session) (now : Saying) → answer ≢ Ok answered.All → answer ≢ Err fault.Sink → now.held ≡ []
    → AchievesFor c answer before after → DoesFor c answer before after now.taken now
unsaid_does c answer before after now not_said no_sink none achieves b h is =
    unsaid_at c answer before after now not_said no_sink none b h (achieves b h is)

-- also where what is done for it is another command
pub unsaid_done : (c : Command) (answer : Result Answered StoreFault) (before after : Session) (now : Saying) → answer ≢ Ok answered.All → answer ≢ Err fault.Sink → now.held ≡ []
    → AchievesWhatIsDone c answer before after → DoesWhatIsDone c answer before after now.taken now
unsaid_done c answer before after now not_said no_sink none achieves b h is =
    let done = achieves b h is in
    (done.0, (done.1.0, unsaid_at done.0 answer before after now not_said no_sink none b h done.1.1))

-- ---- a command that only reads

-- what holds in any case holds where the sink failed
if_sink : (a : Result Answered StoreFault) {P : Type 0} → P → IfErr a (λ f. f ≡ fault.Sink → P)
if_sink (Ok x) p = tt
if_sink (Err f) p = λ same. p

module _ (c : Command) (reads : IsReading c) where
  reading_keeps : {b : Bool} (h : History) (before : Session) → KeepsWhere b before h → KeepsWhere b before (acked c h)
  reading_keeps {b} h before is =
      subst (λ (v : Marks). KeepsWhere b before (record { machine = (step h.machine c).next; marks = v })) (sym (reading_acked h.machine c h.marks reads))
      (subst (λ (n : Machine). KeepsWhere b before (record { machine = n; marks = begun_marks h.machine c h.marks })) (sym (reading_next h.machine c reads)) (record {
        stands = begun_in before.disk before.open_store.handles h.machine c h.marks is.stands;
        matches = is.matches;
      }))

  reading_tells : (m : Machine) (before : Session) → ComesToTell c before m → Tells before (step m c).next
  reading_tells m before comes = subst (Tells before) (sym (reading_next m c reads)) (⊎_elim (λ tells. tells) (λ same. absurd (subst IsReading same reads)) comes)

  -- one whose handles then stand for what they stood for
  pub reading_does_with : (answer : Result Answered StoreFault) (before after : Session) (handles : Kept) (out : Option (List ℕ)) (now : Saying) → after.disk ≡ before.disk
      → after.open_store ≡ record before.open_store { handles = handles } → ((b : Bool) (h : History) → CacheKeepsWhere b (cache_of before) h → CacheKeepsWhere b (cache_at handles before.disk) h)
      → AnswersFor (cache_of before) c answer out now → DoesFor c answer before after out now
  reading_does_with answer before after handles out now same_disk same_open goes_on answers b h is =
      subst (λ (s : State). DoesCommand b c h answer before (record { open_store = after.open_store; disk = s }) out now) (sym same_disk)
      (subst (λ (o : Open). DoesCommand b c h answer before (record { open_store = o; disk = before.disk }) out now) (sym same_open) (record {
        safe = λ on. (begun_is.crash_kept on).safe;
        answers = said;
        next = when_ok answer _ (reading_keeps h then then_is);
        effect = if_sink answer (reading_keeps h then then_is);
        tells = λ had. reading_tells h.machine before;
      }))
    where
      then : Session
      then = record { open_store = record before.open_store { handles = handles }; disk = before.disk }

      then_is : KeepsWhere b then h
      then_is = record {
        stands = goes_on b h is.stands;
        matches = record { moment = is.matches.moment; rest = is.matches.rest; mark = is.matches.mark; holds = is.matches.holds };
      }

      begun_is : CacheKeepsWhere b (cache_of before) (begun c h)
      begun_is = begun_in before.disk before.open_store.handles h.machine c h.marks is.stands

      said : AnswersTo (step h.machine c).reply answer out now
      said = answers h.machine (represented is).stands

  pub reading_does : (answer : Result Answered StoreFault) (before after : Session) (out : Option (List ℕ)) (now : Saying) → after.disk ≡ before.disk → after.open_store ≡ before.open_store
      → AnswersFor (cache_of before) c answer out now → DoesFor c answer before after out now
  reading_does answer before after out now same_disk same_open =
      reading_does_with answer before after before.open_store.handles out now same_disk same_open (λ b h is. is)

  -- one that only reads the index in memory
  index_achieves : (a : Answered) (before : Session) → ((b : Bool) (h : History) → KeepsWhere b before h → IfSome (reply_of a) (λ r. r ≡ (step h.machine c).reply)) → AchievesFor c (Ok a) before before
  index_achieves a before replies b h is = record {
    safe = λ on. ((begun_in before.disk before.open_store.handles h.machine c h.marks is.stands).crash_kept on).safe;
    replies = replies b h is;
    next = reading_keeps h before is;
    tells = reading_tells h.machine before;
  }

-- the reply is this one
pub is_reply : (o : Option Reply) (r : Reply) → o ≡ Some r → IfSome o (λ q. q ≡ r)
is_reply o r is = subst (λ (p : Option Reply). IfSome p (λ q. q ≡ r)) (sym is) refl

-- whether there is an entry
pub has_does : (key : List ℕ) (a : Answered) (before : Session) (now : Saying) → a ≢ answered.All → now.held ≡ [] → AnswersHas key before.open_store.index a
    → DoesWhatIsDone (HasEntry key) (Ok a) before before now.taken now
has_does key a before now not_said none answers b h is =
    let there = has_record before.open_store.index key in
    let done : Command = HasGiven key there in (
      done,
      (
        (there, (refl, record { in_memory = refl; right = λ told. has_is_right key before.open_store.index h.machine told })),
        unsaid_does done (Ok a) before before now (λ same. not_said (cc)) (λ same. cc) none
            (index_achieves done tt a before (λ crash g stands. is_reply (reply_of a) (step g.machine done).reply (answers g.machine stands.matches.rest))) b h is,
      ),
    )

-- how far the update is
state_reply_is : (a : Answered) (m : Machine) → reply_of a ≡ Some (state_reply m.rest) → IfSome (reply_of a) (λ r. r ≡ (step m UpdateState).reply)
unfolding checks effect
state_reply_is a m is = is_reply (reply_of a) (step m UpdateState).reply is

pub state_does : (a : Answered) (before : Session) (now : Saying) → a ≢ answered.All → now.held ≡ [] → reply_of a ≡ Some (state_reply (name_bytes before.open_store.index.update))
    → DoesFor UpdateState (Ok a) before before now.taken now
state_does a before now not_said none is =
    unsaid_does UpdateState (Ok a) before before now (λ same. not_said (cc)) (λ same. cc) none
    (index_achieves UpdateState tt a before (λ b h stands. state_reply_is a h.machine (is ∙ ap (λ names. Some (state_reply names)) (sym stands.matches.rest))))

-- ---- the moment is set

at_achieves : (now : ℕ) (before : Session) → now < 2 ^ 32
    → AchievesFor (At now) (Ok answered.Done) before (record { open_store = record { handles = before.open_store.handles; moment = now; index = before.open_store.index }; disk = before.disk })
unfolding checks effect
at_achieves now before small b h is =
    let proper : IsProper (at_moment now h.machine) = stays_proper h.machine (At now) small is.stands.stands.proper in
    let begun_is = begun_in before.disk before.open_store.handles h.machine (At now) h.marks is.stands in
    record {
      safe = λ on. (begun_is.crash_kept on).safe;
      replies = refl;
      next = record {
        stands = moment_in now (cache_of before) (begun (At now) h) proper begun_is;
        matches = record { moment = refl; rest = is.matches.rest; mark = is.matches.mark; holds = is.matches.holds };
      };
      tells = ⊎_elim (λ tells. record { rest = tells.rest; tells = tells.tells }) (λ same. absurd (cc));
    }

pub at_does : (now : ℕ) (before : Session) (reply : Saying) → now < 2 ^ 32 → reply.held ≡ []
    → DoesFor (At now) (Ok answered.Done) before (record { open_store = record { handles = before.open_store.handles; moment = now; index = before.open_store.index }; disk = before.disk }) reply.taken reply
at_does now before reply small none = unsaid_does (At now) (Ok answered.Done) before _ reply (λ same. cc) (λ same. cc) none (at_achieves now before small)

-- ---- what is done for a command

-- a command by another name
pub by_name : (c d : Command) (answer : Result Answered StoreFault) (before after : Session) (out : Option (List ℕ)) (now : Saying) → c ≡ d
    → DoesWhatIsDone d answer before after out now → DoesWhatIsDone c answer before after out now
by_name c d answer before after out now same does = subst (λ (k : Command). DoesWhatIsDone k answer before after out now) (sym same) does

-- for one whose reply does not go by the records it is the command itself
pub as_command : (c d : Command) (answer : Result Answered StoreFault) (before after : Session) (out : Option (List ℕ)) (now : Saying) → c ≡ d
    → ((m : Machine) → IsDoneBy (GoesBy before m) (SaysThere before m) d m d) → DoesFor d answer before after out now → DoesWhatIsDone c answer before after out now
as_command c d answer before after out now same own does = by_name c d answer before after out now same (λ b h is. (d, (own h.machine, does b h is)))
