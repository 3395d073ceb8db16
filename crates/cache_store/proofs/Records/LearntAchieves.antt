-- A command on entries that the handles carried out, of which the index has learnt.
use Rattle.std.proofs.Common.{◌≡◌, ◌≢◌, ◌∙◌, Bool, true, false, ℕ, List, Option, Some, None, Result, Ok, Err, inl, inr, refl, sym, ap, subst}
use Rattle.std.specs.Prelude.{IfOk, IfSome, OnOk, if◌then◌else◌, is_none}
use Rattle.std.proofs.lemmas.Option.{IfSome_then}
use Rattle.std.proofs.lemmas.Result.{IfOk-weaker}
use Rattle.cache_base.specs.Checks.{first_failing}
use Rattle.cache_theory.specs.Checks.{checks}
use Rattle.cache_theory.specs.Command.{Command, Reply}
use Rattle.cache_theory.specs.Command.Command.{Create, OpenKey, Append, ClearNames, ClearOrigin, Finish, Resume, ResumeNames, SetElement, UnsetElement, UseEntry, Pin, Unpin, PutAlt, Close, Doom, FinishAs}
use Rattle.cache_theory.specs.Command.Reply.{Done, Refused, NoneThere}
use Rattle.cache_theory.specs.History.{History}
use Rattle.cache_theory.specs.Laws.{KeepsMark}
use Rattle.cache_theory.specs.Machine.{Machine, object_of}
use Rattle.cache_theory.specs.Proper.{IsProper}
use Rattle.cache_theory.specs.Refiled.{IsOfEntries}
use Rattle.cache_theory.specs.Step.{Answer, answer, changed, effect, step, stepped}
use Rattle.cache_theory.specs.Table.{get}
use Rattle.cache_theory.specs.declared.refusal.Refusal.{Refusal}
use Rattle.cache_theory.proofs.Clears.MarkStays.{mark_stays}
use Rattle.entry_parts.specs.Elements.{element, Element}
use Rattle.entry_parts.specs.Setting.{without_element}
use Rattle.file_handles.specs.Answers.{done_or, done_or_none}
use Rattle.file_handles.specs.Carries.{CarriesOut, CarriesOutAt}
use Rattle.file_handles.specs.Effects.{HasEffect, HasEffectAt, learnt, rest_once}
use Rattle.handle_table.specs.Kept.{Kept}
use Rattle.handle_table.specs.Standing.{HandlesStand}
use Rattle.file_handles.specs.declared.fault.Effect.{Effect}
use Rattle.file_handles.specs.declared.fault.Effect.TheVariants as effects
use Rattle.file_handles.specs.declared.fault.HandleFault.{HandleFault}
use Rattle.file_handles.specs.declared.fault.HandleFault.TheVariants as handle
use Rattle.file_handles.proofs.LearntLaws.{learnt_scanned}
use Rattle.file_handles.proofs.LearntRest.{learnt_rest}
use Rattle.file_handles.proofs.Where.{LeavesWhere, at_moment, carried_out_at}
use Rattle.index_map.specs.Known.{Known, SameBase}
use Rattle.index_theory.specs.Leaves.{LeavesBeside, LeavesIndex}
use Rattle.index_theory.specs.Scan.{scanned}
use Rattle.index_update.specs.Rest.{name_bytes}
use Rattle.startup_read.proofs.KeptLaws.{left_keeps_index, same_base_keeps_index}
use Rattle.disk_theory.specs.State.{State}
use Rattle.cache_store.specs.Kept.{HoldsIndex}
use Rattle.cache_store.specs.Learnt.{IsLearnt, effect_of, effect_of_some}
use Rattle.cache_store.specs.Open.{KeepsWhere}
use Rattle.cache_store.specs.Performing.{Achieves, AchievesFor}
use Rattle.cache_store.specs.Records.{LearnsEffect, ScanChanges}
use Rattle.cache_store.specs.Replied.{replied}
use Rattle.cache_replies.specs.Answers.{reply_of}
use Rattle.cache_store.specs.Session.{Session, cache_of}
use Rattle.cache_replies.specs.declared.answered.Answered.{Answered}
use Rattle.cache_replies.specs.declared.answered.Answered.TheVariants as answered
use Rattle.cache_store.specs.declared.fault.StoreFault.{StoreFault}
use Rattle.cache_store.specs.declared.fault.StoreFault.TheVariants as fault
use Rattle.cache_store.proofs.Records.OneLearnt.{learns_nothing}
use Rattle.cache_store.proofs.Performing.PerformSteps.{KeepsMoment, step_moment}
use Rattle.entry_parts.specs.declared.header.Header.{Header}

-- What a step of the machine changes of the rest and of the scan.

-- this is learnt of the step
pub record Teaches (m : Machine) (c : Command) (e : Effect) : Type 0 where
  pub rest : (step m c).next.rest ≡ rest_once e m.rest
  pub scan : ScanChanges e (get m.shelf) (get (step m c).next.shelf)

passes_teaches : (m : Machine) (c : Command) → IsOfEntries c → IsProper m → first_failing (checks m c) ≡ None → Teaches m c (learnt m c)
passes_teaches m c of proper passes = record { rest = learnt_rest m c of proper passes; scan = learnt_scanned m c of proper passes }

stays_teaches : (m : Machine) (c : Command) → (step m c).next ≡ m → Teaches m c effects.Same
stays_teaches m c same = record {
  rest = ap (λ (n : Machine). n.rest) same;
  scan = λ name. ap (λ (n : Machine). scanned (get n.shelf) name) same;
}

-- where the command is done it is not refused
done_passes : (m : Machine) (c : Command) (o : Option Refusal) → Done ≡ (stepped m c o).reply → o ≡ None
done_passes m c None is = refl
done_passes m c (Some r) is = absurd (cc)

-- a command that changes nothing where its reply is not `ok`
StaysUnlessDone : Command → Type 0
StaysUnlessDone c = (m : Machine) → (effect m c).reply ≢ Done → (effect m c).next ≡ m

refused_stays : (m : Machine) (c : Command) → StaysUnlessDone c → (r : Reply) → r ≢ Done → (o : Option Refusal) → r ≡ (stepped m c o).reply → (stepped m c o).next ≡ m
unfolding StaysUnlessDone
refused_stays m c stays r other None is = stays m (λ done. other (is ∙ done))
refused_stays m c stays r other (Some refusal) is = refl

-- whatever machine of this moment the handles stand for: where the reply is its own, this is learnt of its step
abbrev pub TeachesAt : ℕ → Kept → Command → Option Reply → Effect → Type 0
TeachesAt now k c reply e =
    (m : Machine) (number : ℕ → ℕ) → m.moment ≡ now → IsProper m → HandlesStand k m number → IfSome reply (λ r. r ≡ (step m c).reply) → IfSome reply (λ r. Teaches m c e)

module _ (now : ℕ) (k : Kept) (c : Command) (of : IsOfEntries c) where
  -- what the handles say of a command that was done
  done_teaches : (e : Effect) → HasEffectAt now k c e → TeachesAt now k c (Some Done) e
  done_teaches e has m number moment proper stand is =
      subst (Teaches m c) (sym (has m number moment proper stand)) (passes_teaches m c of proper (done_passes m c (first_failing (checks m c)) is))

  -- and that nothing is learnt where it was not
  other_teaches : StaysUnlessDone c → (r : Reply) → r ≢ Done → TeachesAt now k c (Some r) effects.Same
  other_teaches stays r other m number moment proper stand is = stays_teaches m c (refused_stays m c stays r other (first_failing (checks m c)) is)

  in_fault : StaysUnlessDone c → (f : HandleFault) → TeachesAt now k c (done_or {T = Unit {0}} (Err f)) effects.Same
  in_fault stays (handle.Refused r) m number moment proper stand is = other_teaches stays (Refused r) (λ e. cc) m number moment proper stand is
  in_fault stays handle.Read m number moment proper stand is = tt
  in_fault stays handle.Disk m number moment proper stand is = tt
  in_fault stays handle.Memory m number moment proper stand is = tt

  handled_teaches : StaysUnlessDone c → (r : Result Effect HandleFault) → IfOk r (HasEffectAt now k c) → TeachesAt now k c (done_or r) (effect_of r)
  handled_teaches stays (Ok e) has = done_teaches e has
  handled_teaches stays (Err f) has = in_fault stays f

  some_teaches : StaysUnlessDone c → (r : Result (Option Effect) HandleFault) → IfOk r (λ some. IfSome some (HasEffectAt now k c)) → TeachesAt now k c (done_or_none r) (effect_of_some r)
  some_teaches stays (Ok (Some e)) has = done_teaches e has
  some_teaches stays (Ok None) has = other_teaches stays NoneThere (λ e. cc)
  some_teaches stays (Err f) has = in_fault stays f

  -- nothing is ever learnt of the command
  same_teaches : ((m : Machine) → learnt m c ≡ effects.Same) → (reply : Option Reply) → TeachesAt now k c reply effects.Same
  same_teaches never None m number moment proper stand is = tt
  same_teaches never (Some r) m number moment proper stand is = go (first_failing (checks m c)) refl
    where
      go : (o : Option Refusal) → first_failing (checks m c) ≡ o → Teaches m c effects.Same
      go None passes = subst (Teaches m c) (never m) (passes_teaches m c of proper passes)
      go (Some refusal) fails = stays_teaches m c (ap (λ (o : Option Refusal). (stepped m c o).next) fails)

unset_stays : (s : ℕ) (name : List ℕ) → StaysUnlessDone (UnsetElement s name)
unfolding effect StaysUnlessDone
unset_stays s name m other = go (is_none (element name (object_of m s).version.elements)) other
  where
    done : Answer
    done = answer (changed m s (λ v. record v { elements = without_element name v.elements })) Done

    go : (b : Bool) → (if b then answer m NoneThere else done).reply ≢ Done → (if b then answer m NoneThere else done).next ≡ m
    go true other = refl
    go false other = absurd (other refl)

-- What an open store keeps.

pub holds_on : (s t : State) (old new : Known) → LeavesIndex s t → SameBase old new → HoldsIndex s old → HoldsIndex t new
holds_on s t old new leaves same holds = record {
  files = same_base_keeps_index t old new same (left_keeps_index s t old leaves holds.files);
  apart = leaves.apart holds.apart;
  unclean = leaves.unclean holds.apart holds.unclean;
}

-- a command on entries leaves the mark alone
entries_keep_mark : (c : Command) → IsOfEntries c → KeepsMark c
entries_keep_mark (ClearOrigin origin) of = absurd of
entries_keep_mark (ClearNames names) of = absurd of
entries_keep_mark Resume of = absurd of
entries_keep_mark (ResumeNames names) of = absurd of
entries_keep_mark c of = tt

-- an answer that is still to be said has a reply
unsaid_reply : (a : Answered) → a ≢ answered.All → (r : Reply) × (reply_of a ≡ Some r)
unsaid_reply answered.Done unsaid = (_, refl)
unsaid_reply answered.All unsaid = absurd (unsaid refl)
unsaid_reply answered.NoneThere unsaid = (_, refl)
unsaid_reply answered.Yes unsaid = (_, refl)
unsaid_reply answered.No unsaid = (_, refl)
unsaid_reply answered.Unknown unsaid = (_, refl)
unsaid_reply answered.Ready unsaid = (_, refl)
unsaid_reply (answered.Updating n) unsaid = (_, refl)
unsaid_reply (answered.Rebuilt n) unsaid = (_, refl)
unsaid_reply (answered.Cleared n) unsaid = (_, refl)
unsaid_reply answered.Resumed unsaid = (_, refl)
unsaid_reply (answered.Checked found) unsaid = (_, refl)
unsaid_reply (answered.Refused r) unsaid = (_, refl)

-- The command is achieved.

module _ {b : Bool} {c : Command} {h : History} {before after : Session} {e : Effect} (keeps : KeepsMoment c) (of : IsOfEntries c) (same : after.open_store.moment ≡ before.open_store.moment)
    (is : KeepsWhere b before h) (leaves : LeavesBeside before.disk after.disk) (learns : LearnsEffect e before.open_store.index after.open_store.index) where
  achieved : (answer : Result Answered StoreFault) (r : Reply) → replied answer ≡ Some r → LeavesWhere b c h (Some r) (cache_of after) → Teaches h.machine c e → Achieves b c h answer before after
  achieved answer r said left taught = record {
    safe = left.safe;
    replies = subst (λ (o : Option Reply). IfSome o (λ q. q ≡ (step h.machine c).reply)) (sym said) left.replies;
    next = on_ok answer (record {
      stands = left.next;
      matches = record {
        moment = step_moment h.machine c keeps ∙ is.matches.moment ∙ sym same;
        rest = rest is.matches.rest;
        mark = mark_stays h.machine c (entries_keep_mark c of) ∙ is.matches.mark ∙ sym leaves.mark;
        holds = holds_on before.disk after.disk before.open_store.index.map after.open_store.index.map leaves.index learns.base is.matches.holds;
      };
    });
    tells = on_ok answer (λ comes. elim comes [
      | inl tells ↦ record { rest = rest tells.rest; tells = learns.tells (get h.machine.shelf) (get (step h.machine c).next.shelf) taught.scan tells.tells }
      | inr rebuilds ↦ absurd (subst IsOfEntries rebuilds of)
    ]);
  }
    where
      rest : h.machine.rest ≡ name_bytes before.open_store.index.update → (step h.machine c).next.rest ≡ name_bytes after.open_store.index.update
      rest was = taught.rest ∙ ap (rest_once e) was ∙ sym learns.rest

      on_ok : (a : Result Answered StoreFault) {P : Type 0} → P → OnOk a P
      on_ok (Ok x) p = p
      on_ok (Err f) p = tt

-- so it is where the call has left the history
module _ {b : Bool} {c : Command} {h : History} {before after : Session} {e : Effect} (keeps : KeepsMoment c) (of : IsOfEntries c) (same : after.open_store.moment ≡ before.open_store.moment)
    (is : KeepsWhere b before h) (leaves : LeavesBeside before.disk after.disk) where
  left_achieves : (answer : Result Answered StoreFault) (reply : Option Reply) → LeavesWhere b c h reply (cache_of after) → IfSome reply (λ r. Teaches h.machine c e)
      → IsLearnt reply e answer before.open_store.index after.open_store.index → Achieves b c h answer before after
  left_achieves (Ok a) reply left taught learnt =
      let has = unsaid_reply a (λ all. learnt.not_said (ap Ok all)) in
      let gives : reply ≡ Some has.0 = sym learnt.is_reply ∙ has.1 in
      achieved keeps of same is leaves learnt.learns (Ok a) has.0 has.1 (subst (λ (o : Option Reply). LeavesWhere b c h o (cache_of after)) gives left)
      (subst (λ (o : Option Reply). IfSome o (λ r. Teaches h.machine c e)) gives taught)
  left_achieves (Err f) reply left taught learnt = record { safe = left.safe; replies = tt; next = tt; tells = tt }

-- a command on entries that the handles carried out at this moment, of which the index has learnt
pub learnt_achieves : (c : Command) (reply : Option Reply) (e : Effect) (answer : Result Answered StoreFault) (before after : Session) → KeepsMoment c → IsOfEntries c
    → after.open_store.moment ≡ before.open_store.moment → CarriesOutAt before.open_store.moment c reply (cache_of before) (cache_of after)
    → TeachesAt before.open_store.moment before.open_store.handles c reply e
    → IsLearnt reply e answer before.open_store.index after.open_store.index → LeavesBeside before.disk after.disk → AchievesFor c answer before after
learnt_achieves c reply e answer before after keeps of same carried teaches learnt leaves b h is =
    let left = carried_out_at carried b h.machine h.marks is.matches.moment is.stands in
    left_achieves keeps of same is leaves answer reply left (teaches h.machine is.stands.number is.matches.moment is.stands.stands.proper is.stands.stands.handles left.replies) learnt

-- For each command.

-- what it has as effect in each machine it has in those of a moment
effect_at : (now : ℕ) (k : Kept) (c : Command) (e : Effect) → HasEffect k c e → HasEffectAt now k c e
effect_at now k c e has m number moment = has m number

create_done : (s : ℕ) (key : List ℕ) → StaysUnlessDone (Create s key)
unfolding effect StaysUnlessDone
create_done s key m other = absurd (other refl)

use_done : (s : ℕ) → StaysUnlessDone (UseEntry s)
unfolding effect StaysUnlessDone
use_done s m other = absurd (other refl)

finish_done : (s : ℕ) → StaysUnlessDone (Finish s)
unfolding effect StaysUnlessDone
finish_done s m other = absurd (other refl)

finish_as_done : (s : ℕ) (header : Header) (elements : List Element) → StaysUnlessDone (FinishAs s header elements)
unfolding effect StaysUnlessDone
finish_as_done s header elements m other = absurd (other refl)

set_done : (s : ℕ) (name value : List ℕ) → StaysUnlessDone (SetElement s name value)
unfolding effect StaysUnlessDone
set_done s name value m other = absurd (other refl)

pin_done : (s : ℕ) → StaysUnlessDone (Pin s)
unfolding effect StaysUnlessDone
pin_done s m other = absurd (other refl)

unpin_done : (s : ℕ) → StaysUnlessDone (Unpin s)
unfolding effect StaysUnlessDone
unpin_done s m other = absurd (other refl)

put_done : (s : ℕ) (kind bytes : List ℕ) → StaysUnlessDone (PutAlt s kind bytes)
unfolding effect StaysUnlessDone
put_done s kind bytes m other = absurd (other refl)

close_done : (s : ℕ) → StaysUnlessDone (Close s)
unfolding effect StaysUnlessDone
close_done s m other = absurd (other refl)

doom_done : (key : List ℕ) → StaysUnlessDone (Doom key)
unfolding effect StaysUnlessDone
doom_done key m other = absurd (other refl)

module _ (r : Result Effect HandleFault) (answer : Result Answered StoreFault) (before after : Session) (same : after.open_store.moment ≡ before.open_store.moment)
    (learns : IsLearnt (done_or r) (effect_of r) answer before.open_store.index after.open_store.index) (leaves : LeavesBeside before.disk after.disk) where
  at_now : (c : Command) → IfOk r (HasEffect before.open_store.handles c) → IfOk r (HasEffectAt before.open_store.moment before.open_store.handles c)
  at_now c =
      let now = before.open_store.moment in
      let k = before.open_store.handles in
      IfOk-weaker r (HasEffect k c) (HasEffectAt now k c) (effect_at now k c)

  handled_at : (c : Command) → KeepsMoment c → IsOfEntries c → StaysUnlessDone c → CarriesOutAt before.open_store.moment c (done_or r) (cache_of before) (cache_of after)
      → IfOk r (HasEffectAt before.open_store.moment before.open_store.handles c) → AchievesFor c answer before after
  handled_at c keeps of stays carried has =
      learnt_achieves c (done_or r) (effect_of r) answer before after keeps of same carried (handled_teaches before.open_store.moment before.open_store.handles c of stays r has) learns leaves

  handled_achieves : (c : Command) → KeepsMoment c → IsOfEntries c → StaysUnlessDone c → CarriesOut c (done_or r) (cache_of before) (cache_of after)
      → IfOk r (HasEffect before.open_store.handles c) → AchievesFor c answer before after
  handled_achieves c keeps of stays carried has = handled_at c keeps of stays (at_moment carried) (at_now c has)

  pub create_achieves : (s : ℕ) (key : List ℕ) → CarriesOutAt before.open_store.moment (Create s key) (done_or r) (cache_of before) (cache_of after)
      → IfOk r (HasEffect before.open_store.handles (Create s key)) → AchievesFor (Create s key) answer before after
  create_achieves s key carried has = handled_at (Create s key) tt tt (create_done s key) carried (at_now (Create s key) has)

  pub use_achieves : (s : ℕ) → CarriesOutAt before.open_store.moment (UseEntry s) (done_or r) (cache_of before) (cache_of after)
      → IfOk r (HasEffectAt before.open_store.moment before.open_store.handles (UseEntry s)) → AchievesFor (UseEntry s) answer before after
  use_achieves s = handled_at (UseEntry s) tt tt (use_done s)

  pub finish_achieves : (s : ℕ) → CarriesOut (Finish s) (done_or r) (cache_of before) (cache_of after)
      → IfOk r (HasEffect before.open_store.handles (Finish s)) → AchievesFor (Finish s) answer before after
  finish_achieves s = handled_achieves (Finish s) tt tt (finish_done s)

  pub finish_as_achieves : (s : ℕ) (header : Header) (elements : List Element) → CarriesOut (FinishAs s header elements) (done_or r) (cache_of before) (cache_of after)
      → IfOk r (HasEffect before.open_store.handles (FinishAs s header elements)) → AchievesFor (FinishAs s header elements) answer before after
  finish_as_achieves s header elements = handled_achieves (FinishAs s header elements) tt tt (finish_as_done s header elements)

  pub set_achieves : (s : ℕ) (name value : List ℕ) → CarriesOut (SetElement s name value) (done_or r) (cache_of before) (cache_of after)
      → IfOk r (HasEffect before.open_store.handles (SetElement s name value)) → AchievesFor (SetElement s name value) answer before after
  set_achieves s name value = handled_achieves (SetElement s name value) tt tt (set_done s name value)

  pub pin_achieves : (s : ℕ) → CarriesOut (Pin s) (done_or r) (cache_of before) (cache_of after)
      → IfOk r (HasEffect before.open_store.handles (Pin s)) → AchievesFor (Pin s) answer before after
  pin_achieves s = handled_achieves (Pin s) tt tt (pin_done s)

  pub unpin_achieves : (s : ℕ) → CarriesOut (Unpin s) (done_or r) (cache_of before) (cache_of after)
      → IfOk r (HasEffect before.open_store.handles (Unpin s)) → AchievesFor (Unpin s) answer before after
  unpin_achieves s = handled_achieves (Unpin s) tt tt (unpin_done s)

  pub put_achieves : (s : ℕ) (kind bytes : List ℕ) → CarriesOut (PutAlt s kind bytes) (done_or r) (cache_of before) (cache_of after)
      → IfOk r (HasEffect before.open_store.handles (PutAlt s kind bytes)) → AchievesFor (PutAlt s kind bytes) answer before after
  put_achieves s kind bytes = handled_achieves (PutAlt s kind bytes) tt tt (put_done s kind bytes)

  pub close_achieves : (s : ℕ) → CarriesOut (Close s) (done_or r) (cache_of before) (cache_of after)
      → IfOk r (HasEffect before.open_store.handles (Close s)) → AchievesFor (Close s) answer before after
  close_achieves s = handled_achieves (Close s) tt tt (close_done s)

  pub doom_achieves : (key : List ℕ) → CarriesOut (Doom key) (done_or r) (cache_of before) (cache_of after)
      → IfOk r (HasEffect before.open_store.handles (Doom key)) → AchievesFor (Doom key) answer before after
  doom_achieves key = handled_achieves (Doom key) tt tt (doom_done key)

pub unset_achieves : (r : Result (Option Effect) HandleFault) (answer : Result Answered StoreFault) (before after : Session) → after.open_store.moment ≡ before.open_store.moment
    → IsLearnt (done_or_none r) (effect_of_some r) answer before.open_store.index after.open_store.index → LeavesBeside before.disk after.disk → (s : ℕ) (name : List ℕ)
    → CarriesOut (UnsetElement s name) (done_or_none r) (cache_of before) (cache_of after)
    → IfOk r (λ some. IfSome some (HasEffect before.open_store.handles (UnsetElement s name))) → AchievesFor (UnsetElement s name) answer before after
unset_achieves r answer before after same learns leaves s name carried has =
    let c : Command = UnsetElement s name in
    let now = before.open_store.moment in
    let k = before.open_store.handles in
    learnt_achieves c (done_or_none r) (effect_of_some r) answer before after tt tt same (at_moment carried)
    (some_teaches now k c tt (unset_stays s name) r
    (IfOk-weaker r (λ some. IfSome some (HasEffect k c)) (λ some. IfSome some (HasEffectAt now k c)) (λ some has. IfSome_then some has (effect_at now k c)) has)) learns leaves

-- nothing is learnt of the command
module _ {T : Type 0} (r : Result T HandleFault) (answer : Result Answered StoreFault) (before after : Session) (same : after.open_store.moment ≡ before.open_store.moment)
    (index : after.open_store.index ≡ before.open_store.index) (replies : replied answer ≡ done_or r) (not_said : answer ≢ Ok answered.All) (no_sink : answer ≢ Err fault.Sink)
    (leaves : LeavesBeside before.disk after.disk) where
  unlearnt : IsLearnt (done_or r) effects.Same answer before.open_store.index after.open_store.index
  unlearnt = record {
    is_reply = go answer replies;
    learns = go answer (subst (LearnsEffect effects.Same before.open_store.index) (sym index) (learns_nothing before.open_store.index));
    not_said = not_said;
    no_sink = no_sink;
  }
    where
      go : (a : Result Answered StoreFault) {P : Type 0} → P → OnOk a P
      go (Ok x) p = p
      go (Err f) p = tt

  unlearnt_achieves : (c : Command) → KeepsMoment c → IsOfEntries c → ((m : Machine) → learnt m c ≡ effects.Same) → CarriesOut c (done_or r) (cache_of before) (cache_of after)
      → AchievesFor c answer before after
  unlearnt_achieves c keeps of never carried =
      learnt_achieves c (done_or r) effects.Same answer before after keeps of same (at_moment carried)
      (same_teaches before.open_store.moment before.open_store.handles c of never (done_or r)) unlearnt leaves

  pub open_achieves : (s : ℕ) (key : List ℕ) → CarriesOut (OpenKey s key) (done_or r) (cache_of before) (cache_of after) → AchievesFor (OpenKey s key) answer before after
  open_achieves s key carried = unlearnt_achieves (OpenKey s key) tt tt (λ m. refl) carried

  pub append_achieves : (s : ℕ) (bytes : List ℕ) → CarriesOut (Append s bytes) (done_or r) (cache_of before) (cache_of after) → AchievesFor (Append s bytes) answer before after
  append_achieves s bytes carried = unlearnt_achieves (Append s bytes) tt tt (λ m. refl) carried
