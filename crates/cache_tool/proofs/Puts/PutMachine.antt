-- What the machine does with the commands of a put.
use Rattle.std.proofs.Common.{◌≡◌, Bool, ℕ, ◌+◌, ◌<◌, ◌≤◌, List, [], ◌∷◌, ◌++◌, length, true, false, true≢false, Some, None, refl, sym, ap, subst, ◌∙◌, arith}
use Rattle.std.specs.Prelude.{IfOk, Ok, OnOk, Option, Result, is_some, nat_le, not, option_map, unwrap_or}
use Rattle.std.proofs.lemmas.Bool.{leb-true}
use Rattle.std.proofs.lemmas.List.{append-nil}
use Rattle.cache_base.specs.Checks.{first_failing}
use Rattle.cache_base.specs.declared.limits.TheConstants.{BODY_MAX}
use Rattle.cache_base.proofs.CheckLaws.{all_hold}
use Rattle.cache_theory.specs.Checks.{checks}
use Rattle.cache_theory.specs.Command.{Command, Reply}
use Rattle.cache_theory.specs.Command.Command.{Append, Close, Create}
use Rattle.cache_theory.specs.Command.Reply.{Done, Findings, Refused}
use Rattle.cache_theory.specs.History.{History}
use Rattle.cache_theory.specs.Machine.{Machine, Object, Slot, is_slot, is_writer, number_of, object, object_of}
use Rattle.cache_theory.specs.Marks.{Marks, acked, begun}
use Rattle.cache_theory.specs.Step.{changed, doomed_under, effect, entered, fresh, step, stepped}
use Rattle.cache_theory.specs.Text.{reply_text}
use Rattle.cache_theory.specs.declared.refusal.Refusal.{Refusal}
use Rattle.cache_theory.specs.declared.refusal.Refusal.TheVariants as refused
use Rattle.cache_theory.proofs.ObjectLaws.Objects.{length_more, nth-append_new, nth-set_same}
use Rattle.cache_theory.proofs.ObjectLaws.Slots.{with_slot_same}
use Rattle.std.proofs.Common.{length-set}
use Rattle.entry_file.specs.Version.{Version}
use Rattle.entry_name.specs.EntryName.{file_name}
use Rattle.cache_replies.specs.Answers.{outcome_of}
use Rattle.cache_store.specs.Open.{KeepsTo}
use Rattle.cache_store.specs.Performing.{goes_by_records}
use Rattle.cache_store.specs.Session.{Session}
use Rattle.cache_replies.specs.declared.verdict.Verdict.{Verdict}
use Rattle.cache_replies.specs.declared.verdict.Verdict.TheVariants as outcome
use Rattle.cache_store.specs.declared.fault.StoreFault.{StoreFault}
use Rattle.cache_tool.specs.AnyDisk.{too_large_line}
use Rattle.cache_tool.specs.PutProgress.{AreSent, IsRefused, IsSent, IsWriting, PieceIsSent}
use Rattle.cache_tool.specs.Replies.{is_done}
use Rattle.cache_tool.specs.Right.{LeadTo}
use Rattle.cache_tool.proofs.Puts.PutCommands.{sent_none, sent_one_of}

-- a command whose reply is `ok` where no check fails, and which is acknowledged as it begins
pub record IsPlain (c : Command) : Type 0 where
  pub done : (m : Machine) → (effect m c).reply ≡ Done
  pub marks : (m : Machine) (w : Marks) → acked m c w ≡ begun m c w
  -- and which does not go by the records
  pub bare : goes_by_records c ≡ false

pub create_is_plain : (s : ℕ) (key : List ℕ) → IsPlain (Create s key)
unfolding effect
create_is_plain s key = record { done = λ m. refl; marks = λ m w. refl; bare = refl }

pub append_is_plain : (s : ℕ) (bytes : List ℕ) → IsPlain (Append s bytes)
unfolding effect
append_is_plain s bytes = record { done = λ m. refl; marks = λ m w. refl; bare = refl }

pub close_is_plain : (s : ℕ) → IsPlain (Close s)
unfolding effect
close_is_plain s = record { done = λ m. refl; marks = λ m w. refl; bare = refl }

-- where the reply is `ok`, no check fails
passes : (m : Machine) (c : Command) → is_done (step m c).reply ≡ true → first_failing (checks m c) ≡ None
passes m c = go (first_failing (checks m c))
  where
    go : (r : Option Refusal) → is_done (stepped m c r).reply ≡ true → r ≡ None
    go None done = refl
    go (Some r) done = absurd (cc)

-- and the machine does what the command says
pub does : (m : Machine) (c : Command) → is_done (step m c).reply ≡ true → (step m c).next ≡ (effect m c).next
does m c done = ap (λ r. (stepped m c r).next) (passes m c done)

-- the reply to such a command is `ok`, or it is refused
pub done_by : (m : Machine) (c : Command) → IsPlain c → outcome_of (step m c).reply ≡ outcome.Ok → is_done (step m c).reply ≡ true
done_by m c plain = go (first_failing (checks m c))
  where
    go : (r : Option Refusal) → outcome_of (stepped m c r).reply ≡ outcome.Ok → is_done (stepped m c r).reply ≡ true
    go None is = ap is_done (plain.done m)
    go (Some r) is = absurd (cc)

not_done_by : (m : Machine) (c : Command) → outcome_of (step m c).reply ≡ outcome.Refused → is_done (step m c).reply ≡ false
not_done_by m c = go (step m c).reply
  where
    go : (r : Reply) → outcome_of r ≡ outcome.Refused → is_done r ≡ false
    go Done is = absurd (cc)
    go (Refused f) is = refl
    go (Findings more) is = refl
    go r is = absurd (cc)

module _ (c : Command) (h : History) (answer : Result Verdict StoreFault) (before now : Session) (said : List ℕ) (plain : IsPlain c) (sends : IsSent c h answer before now said) where
  -- the outcome is that of the machine's reply
  pub sent_outcome : (r : Verdict) → answer ≡ Ok r → r ≡ outcome_of (step h.machine c).reply
  sent_outcome r e = subst (λ a. IfOk a (λ x. x ≡ outcome_of (step h.machine c).reply)) e sends.outcome

  pub sent_done : answer ≡ Ok outcome.Ok → is_done (step h.machine c).reply ≡ true
  sent_done e = done_by h.machine c plain (sym (sent_outcome outcome.Ok e))

  pub sent_refused : answer ≡ Ok outcome.Refused → IsRefused h.machine c said
  sent_refused e =
      let is : outcome_of (step h.machine c).reply ≡ outcome.Refused = sym (sent_outcome outcome.Refused e) in
      record { not_done = not_done_by h.machine c is; refused = is; replied = subst (λ a. OnOk a (said ≡ reply_text (step h.machine c).reply)) e sends.replied }

  -- and so the command was performed
  pub sent_one : AreSent (c ∷ []) h answer before now said
  sent_one = sent_one_of h c answer before now said sends.safe (subst (λ x. OnOk answer (LeadTo (c ∷ []) before h.machine now (record { machine = (step h.machine c).next; marks = x }))) (plain.marks h.machine h.marks) sends.next) sent_done sent_refused

-- An entry is made.

made_by : (m : Machine) (key : List ℕ) → IsWriting (effect m (Create 0 key)).next []
unfolding effect
made_by m key =
    let before = doomed_under m (file_name key) in
    let o : Object = fresh m.moment key in
    let same : object (entered before 0 true o) (length before.objects) ≡ o = nth-append_new before.objects o (length before.objects) refl in
    record {
      slot = record { object = length before.objects; writes = true };
      at = with_slot_same before.slots 0 0 (Some (record { object = length before.objects; writes = true })) refl;
      writes = refl;
      there = (let l = length_more before.objects o in omega (arith, l));
      unfinished = ap (λ (x : Object). x.finished) same;
      body_is = ap (λ (x : Object). x.version.body) same;
    }

pub create_writes : (m : Machine) (key : List ℕ) → is_done (step m (Create 0 key)).reply ≡ true → IsWriting (step m (Create 0 key)).next []
create_writes m key done = subst (λ n. IsWriting n []) (sym (does m (Create 0 key) done)) (made_by m key)

-- A piece is appended.

append_fits : (m : Machine) (bytes : List ℕ) → first_failing (checks m (Append 0 bytes)) ≡ None → length (object_of m 0).version.body + length bytes ≤ BODY_MAX
unfolding checks
append_fits m bytes none = let h = all_hold (checks m (Append 0 bytes)) none in leb-true _ _ h.1.1.1.0

module _ (m : Machine) (body bytes : List ℕ) (writes : IsWriting m body) where
  number_here : number_of m 0 ≡ writes.slot.object
  number_here = ap (λ x. unwrap_or (option_map (λ (slot : Slot). slot.object) x) (length m.objects)) writes.at

  object_here : object_of m 0 ≡ object m writes.slot.object
  object_here = ap (object m) number_here

  body_here : (object_of m 0).version.body ≡ body
  body_here = ap (λ (o : Object). o.version.body) object_here ∙ writes.body_is

  -- it is not too long
  pub append_within : is_done (step m (Append 0 bytes)).reply ≡ true → length body + length bytes ≤ BODY_MAX
  append_within done = let fits = append_fits m bytes (passes m (Append 0 bytes) done) in let same = ap length body_here in omega (arith, fits, same)

  longer : Version → Version
  longer v = record v { body = v.body ++ bytes }

  new_object : Object
  new_object = record (object_of m 0) { version = longer (object_of m 0).version }

  object_after : object (changed m 0 longer) writes.slot.object ≡ new_object
  unfolding new_object
  object_after = nth-set_same m.objects (number_of m 0) writes.slot.object new_object (let there = writes.there in omega (arith, there, number_here)) (sym number_here)

  changed_writes : IsWriting (changed m 0 longer) (body ++ bytes)
  unfolding new_object longer
  changed_writes = record {
    slot = writes.slot;
    at = writes.at;
    writes = writes.writes;
    there = (let there = writes.there in let l = length-set m.objects (number_of m 0) new_object in omega (arith, there, l));
    unfinished = ap (λ (x : Object). x.finished) object_after ∙ ap (λ (x : Object). x.finished) object_here ∙ writes.unfinished;
    body_is = ap (λ (x : Object). x.version.body) object_after ∙ ap (λ l. l ++ bytes) body_here;
  }

  effect_writes : IsWriting (effect m (Append 0 bytes)).next (body ++ bytes)
  unfolding effect longer
  effect_writes = changed_writes

  pub append_writes : is_done (step m (Append 0 bytes)).reply ≡ true → IsWriting (step m (Append 0 bytes)).next (body ++ bytes)
  append_writes done = subst (λ n. IsWriting n (body ++ bytes)) (sym (does m (Append 0 bytes) done)) effect_writes

-- No piece, a piece, and a piece that is too long.

pub piece_none : (h : History) (body : List ℕ) (now : Session) (said : List ℕ) → KeepsTo now h → IsWriting h.machine body
    → PieceIsSent body [] h (Ok outcome.Ok) now now said
piece_none h body now said stands writes = record {
  sent = sent_none h now said stands;
  writes = λ e. subst (λ x. IsWriting h.machine x) (sym (append-nil body)) writes;
}

pub piece_sent : (h : History) (body : List ℕ) (x : ℕ) (xs : List ℕ) (answer : Result Verdict StoreFault) (before now : Session) (said : List ℕ)
    → IsWriting h.machine body → IsSent (Append 0 (x ∷ xs)) h answer before now said → PieceIsSent body (x ∷ xs) h answer before now said
piece_sent h body x xs answer before now said writes sends =
    let plain = append_is_plain 0 (x ∷ xs) in
    record {
      sent = sent_one (Append 0 (x ∷ xs)) h answer before now said plain sends;
      writes = λ e. append_writes h.machine body (x ∷ xs) writes (sent_done (Append 0 (x ∷ xs)) h answer before now said plain sends e);
    }

-- a piece with which the body is too long is refused
pub piece_over : (h : History) (body bytes : List ℕ) (r : Verdict) (before now : Session) (said : List ℕ)
    → IsWriting h.machine body → BODY_MAX < length body + length bytes → IsSent (Append 0 bytes) h (Ok r) before now said → r ≡ outcome.Refused
piece_over h body bytes outcome.Refused before now said writes long sends = refl
piece_over h body bytes outcome.Ok before now said writes long sends =
    let done = sent_done (Append 0 bytes) h (Ok outcome.Ok) before now said (append_is_plain 0 bytes) sends refl in
    let within = append_within h.machine body bytes writes done in
    absurd (omega (arith, within, long))

-- and so it is refused, whatever is said
not_within : (a b : ℕ) → b < a → nat_le a b ≡ false
not_within a b lt = go (nat_le a b) refl
  where
    go : (c : Bool) → nat_le a b ≡ c → nat_le a b ≡ false
    go true e = absurd (let within = leb-true a b e in omega (arith, lt, within))
    go false e = e

long_reply : (m : Machine) (bytes : List ℕ) (slot writes draft room : Bool) → slot ≡ true → writes ≡ true → draft ≡ true → room ≡ false
    → first_failing ((slot, refused.NoSlot) ∷ (writes, refused.NotWriter) ∷ (draft, refused.Finished) ∷ (room, refused.TooLarge) ∷ []) ≡ Some refused.TooLarge
long_reply m bytes true true true false a b c d = refl
long_reply m bytes false writes draft room a b c d = absurd (true≢false (sym a))
long_reply m bytes true false draft room a b c d = absurd (true≢false (sym b))
long_reply m bytes true true false room a b c d = absurd (true≢false (sym c))
long_reply m bytes true true true true a b c d = absurd (true≢false d)

pub piece_too_large : (m : Machine) (body bytes : List ℕ) → IsWriting m body → BODY_MAX < length body + length bytes → reply_text (step m (Append 0 bytes)).reply ≡ too_large_line
unfolding checks reply_text
piece_too_large m body bytes writes long =
    let here = body_here m body bytes writes in
    ap (λ r. reply_text (stepped m (Append 0 bytes) r).reply)
    (long_reply m bytes (is_slot m 0) (is_writer m 0) (not (object_of m 0).finished) (nat_le (length (object_of m 0).version.body + length bytes) BODY_MAX)
    (ap is_some writes.at)
    (ap (λ x. unwrap_or (option_map (λ (slot : Slot). slot.writes) x) false) writes.at ∙ writes.writes)
    (ap (λ (o : Object). not o.finished) (object_here m body bytes writes) ∙ ap not writes.unfinished)
    (not_within (length (object_of m 0).version.body + length bytes) BODY_MAX (let same = ap length here in omega (arith, long, same))))
