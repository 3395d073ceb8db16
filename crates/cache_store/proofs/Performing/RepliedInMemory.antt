-- Replies that only what is in memory tells, and lines that are cut, on any disk.
use Rattle.std.proofs.Common.{◌≡◌, ◌≢◌, ◌∙◌, inl, inr, ℕ, List, [], ◌∷◌, Option, Some, Result, Ok, Err, IsErrAnd, refl, sym, ap, subst, arith}
use Rattle.std.specs.Prelude.{OnErr, OnOk, codes}
use Rattle.std.proofs.KnownBytes.{Appends-nil}
use Rattle.cache_theory.specs.Checks.{checks}
use Rattle.cache_theory.specs.Command.{Command}
use Rattle.cache_theory.specs.Command.Command.{At, ElementOf, HasEntry, HasGiven, UpdateState}
use Rattle.cache_theory.specs.Command.Reply.{Done}
use Rattle.cache_theory.specs.Step.{effect, state_reply, step}
use Rattle.cache_theory.specs.Text.{line}
use Rattle.index_update.specs.Rest.{name_bytes}
use Rattle.cache_store.specs.Answering.{AnswersOver}
use Rattle.cache_replies.specs.Completing.{CutsRest, SendsRest}
use Rattle.cache_replies.specs.Answers.{left_to_say}
use Rattle.cache_store.specs.Faulting.{LooksAtNothing}
use Rattle.cache_store.specs.InMemory.{AnswersInMemory, CutsPlainLine, RepliesInMemory}
use Rattle.cache_store.specs.IndexCalls.{MakesNoCall}
use Rattle.cache_replies.specs.Printed.{IsPlainAnswer}
use Rattle.cache_store.specs.Records.{AnswersHas, has_record}
use Rattle.cache_replies.specs.Answers.{reply_of}
use Rattle.cache_replies.specs.Said.{Saying}
use Rattle.cache_store.specs.Session.{Open}
use Rattle.cache_replies.specs.declared.answered.Answered.{Answered}
use Rattle.cache_replies.specs.declared.answered.Answered.TheVariants as answered
use Rattle.cache_store.specs.declared.fault.StoreFault.{StoreFault}
use Rattle.cache_replies.specs.declared.verdict.Verdict.{Verdict}
use Rattle.cache_store.proofs.Performing.PerformDoes.{is_reply}
use Rattle.cache_store.proofs.Saying.PrintedLaws.{said_rest}
use Rattle.cache_store.proofs.Saying.Unsaid.{unsaid_answers, unsaid_by}

-- ---- the four commands

-- a command by another name
by_name : (o : Open) (c d : Command) (answer : Result Answered StoreFault) (before : Option (List ℕ)) (now : Saying) → c ≡ d → AnswersInMemory o d answer before now → AnswersInMemory o c answer before now
by_name o c d answer before now is = subst (λ (k : Command). AnswersInMemory o k answer before now) (sym is)

pub at_in_memory : (o : Open) (c : Command) (moment : ℕ) (now : Saying) → c ≡ At moment → now.held ≡ [] → AnswersInMemory o c (Ok answered.Done) now.taken now
unfolding checks effect
at_in_memory o c moment now is none =
    by_name o c (At moment) (Ok answered.Done) now.taken now is (λ s m stands. unsaid_answers (Ok answered.Done) tt Done refl now none)

pub state_in_memory : (o : Open) (c : Command) (a : Answered) (now : Saying) → c ≡ UpdateState → a ≢ answered.All → now.held ≡ [] → reply_of a ≡ Some (state_reply (name_bytes o.index.update))
    → AnswersInMemory o c (Ok a) now.taken now
unfolding checks effect
state_in_memory o c a now is unsaid none reply =
    by_name o c UpdateState (Ok a) now.taken now is
    (λ s m stands. unsaid_answers (Ok a) (unsaid_by (Ok a) (λ e. unsaid (cc)) (λ e. cc)) (state_reply m.rest)
    (is_reply (reply_of a) (state_reply m.rest) (reply ∙ ap (λ names. Some (state_reply names)) (sym stands.matches.rest))) now none)

pub has_in_memory : (o : Open) (c : Command) (key : List ℕ) (a : Answered) (now : Saying) → c ≡ HasEntry key → a ≢ answered.All → now.held ≡ [] → AnswersHas key o.index a → AnswersInMemory o c (Ok a) now.taken now
has_in_memory o c key a now is unsaid none answers =
    by_name o c (HasEntry key) (Ok a) now.taken now is
    (λ s m stands.
    let r = (step m (HasGiven key (has_record o.index key))).reply in
    unsaid_answers (Ok a) (unsaid_by (Ok a) (λ e. unsaid (cc)) (λ e. cc)) r (is_reply (reply_of a) r (answers m stands.matches.rest)) now none)

pub element_in_memory : (o : Open) (c : Command) (slot : ℕ) (name : List ℕ) (answer : Result Answered StoreFault) (before : Option (List ℕ)) (now : Saying) → c ≡ ElementOf slot name
    → AnswersOver o.handles (ElementOf slot name) answer before now → AnswersInMemory o c answer before now
element_in_memory o c slot name answer before now is answers = by_name o c (ElementOf slot name) answer before now is (λ s m stands. answers s m stands.stands)

-- they make no look, either
pub makes_no_look : (c : Command) → MakesNoCall c → LooksAtNothing c
makes_no_look (At now) none = tt
makes_no_look (ElementOf s name) none = tt
makes_no_look (HasEntry key) none = tt
makes_no_look UpdateState none = tt
makes_no_look c none = absurd none

-- ---- what goes out

pub out_in_memory : (o : Open) (c : Command) (a : Answered) (final : Result Verdict StoreFault) (before : Option (List ℕ)) (mid : Saying) (now : Option (List ℕ))
    → OnOk final (SendsRest (left_to_say a) mid now) → OnErr final (CutsRest (left_to_say a) mid now) → AnswersInMemory o c (Ok a) before mid → RepliesInMemory o c final before now
out_in_memory o c a (Ok v) before mid now sends cuts answers = λ s m stands. record { out = sends _ before (answers s m stands).says; cut = tt }
out_in_memory o c a (Err f) before mid now sends cuts answers = λ s m stands. record { out = tt; cut = λ some. cuts _ before (answers s m stands).says }

pub cut_in_memory : (o : Open) (c : Command) (f : StoreFault) (final : Result Verdict StoreFault) (P : StoreFault → Type 0) (before : Option (List ℕ)) (now : Saying) → IsErrAnd final P
    → AnswersInMemory o c (Err f) before now → RepliesInMemory o c final before now.taken
cut_in_memory o c f (Ok v) P before now failed answers = absurd failed
cut_in_memory o c f (Err e) P before now failed answers = λ s m stands. record { out = tt; cut = (answers s m stands).cut }

-- ---- a plain line that is cut

-- nothing of it went out
pub none_of_line : (before : Option (List ℕ)) → CutsPlainLine before before
none_of_line before = (line (codes "ok" ∷ []), (inl refl, (0, (omega arith, Appends-nil before))))

-- or a part
pub part_of_line : (a : Answered) (before : Option (List ℕ)) (mid : Saying) (now : Option (List ℕ)) → IsPlainAnswer a → mid.taken ≡ before → mid.held ≡ [] → CutsRest (left_to_say a) mid now → CutsPlainLine before now
part_of_line answered.Done before mid now plain same none cuts =
    (line (codes "ok" ∷ []), (inl refl, cuts _ before (said_rest answered.Done before mid same none)))
part_of_line (answered.Refused r) before mid now plain same none cuts =
    (left_to_say (answered.Refused r), (inr (r, refl), cuts _ before (said_rest (answered.Refused r) before mid same none)))
part_of_line a before mid now plain same none cuts = absurd plain

-- all of a plain line is still to be said
pub plain_unsaid : (a : Answered) → IsPlainAnswer a → a ≢ answered.All
plain_unsaid answered.Done plain e = cc
plain_unsaid (answered.Refused r) plain e = cc
plain_unsaid a plain e = absurd plain

-- what holds at all, and what follows where it failed, hold where it failed
pub when_err : {T E : Type 0} (r : Result T E) (P : Type 0) → P → OnErr r P
when_err (Ok v) P p = tt
when_err (Err e) P p = p

pub cut_of : {T E P Q : Type 0} (r : Result T E) → (P → Q) → OnErr r P → OnErr r Q
cut_of (Ok v) so is = tt
cut_of (Err e) so is = so is
