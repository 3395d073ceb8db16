-- The marks of a session say in words what its commands touched and wrote since the last acknowledged flush.
use Rattle.std.proofs.Common.{◌≡◌, ◌↔◌, inl, inr, ℕ, suc, ◌+◌, ◌-◌, ◌<◌, ◌≤◌, List, [], ◌∷◌, take, drop, true, Some, None, refl, sym, ap, subst, ◌∙◌, arith}
use Rattle.std.specs.Prelude.{slice_get}
use Rattle.cache_base.specs.Checks.{first_failing}
use Rattle.cache_theory.specs.Checks.{checks}
use Rattle.cache_theory.specs.Command.{Command}
use Rattle.cache_theory.specs.Machine.{Machine, object}
use Rattle.cache_theory.specs.Marks.{IsSince, Marks, all_begun, is_in_place, is_touched, marks_of}
use Rattle.cache_theory.specs.Session.{marks_between}
use Rattle.cache_theory.specs.Step.{after, step}
use Rattle.cache_theory.specs.Wording.{IsDoneAt, IsRewrittenIn, IsTouchedIn, IsWrittenIn, MarksAreWorded, state_at}
use Rattle.cache_theory.proofs.InTurn.{after-append}
use Rattle.cache_theory.proofs.Wording.WordedSettled.{marks_from_settled}
use Rattle.cache_theory.proofs.Wording.WordedFronts.{front_is, slice_get-drop, slice_get-take, take_next, taken_below}
use Rattle.cache_theory.proofs.Wording.WordedInPlace.{Rewrites, in_place_of_commands}
use Rattle.cache_theory.proofs.Wording.WordedNames.{Touches, touched_of_commands}
use Rattle.cache_theory.proofs.Wording.WordedSteps.{IsDoneBy, IsOfCommands, all_marked, done_from, from_done}
use Rattle.cache_theory.proofs.Wording.WordedVersions.{Writes, since_of_commands}
use Rattle.entry_file.specs.Version.{Version}

-- one of the commands after the first f and up to b is done and has a property
record IsDoneIn (P : Machine → Command → Type 0) (m : Machine) (cs : List Command) (f b : ℕ) : Type 0 where
  pub at : ℕ
  pub command : Command
  pub behind : f ≤ at
  pub before : at < b
  pub done : IsDoneAt m cs at command
  pub has : P (state_at m cs at) command

module _ (m : Machine) (cs : List Command) (b f : ℕ) where
  -- the commands after the first f
  abbrev rest : List Command
  rest = drop f (take b cs)

  -- the states and the commands there
  state_behind : (i j : ℕ) → i ≡ f + j → i ≤ b → state_at m cs i ≡ after (state_at m cs f) (take j rest)
  state_behind i j sum most = ap (after m) (front_is cs b f i j sum most) ∙ after-append m (take f cs) (take j rest)

  command_behind : (i j : ℕ) → i ≡ f + j → i < b → slice_get cs i ≡ slice_get rest j
  command_behind i j sum lt = sym (slice_get-take b cs i lt) ∙ ap (slice_get (take b cs)) sum ∙ sym (slice_get-drop f (take b cs) j)

  -- which of them are done, by their place in the session
  done_in : (P : Machine → Command → Type 0) → IsDoneBy P (state_at m cs f) rest → IsDoneIn P m cs f b
  done_in P by =
      let i : ℕ = f + by.at in
      let before : i < b = taken_below b cs i by.command (sym (slice_get-drop f (take b cs) by.at) ∙ by.is) in
      let state : after (state_at m cs f) (take by.at rest) ≡ state_at m cs i = sym (state_behind i by.at refl (omega arith)) in
      record {
        at = i;
        command = by.command;
        behind = omega arith;
        before = before;
        done = record {
          is = command_behind i by.at refl before ∙ by.is;
          passes = subst (λ n. first_failing (checks n by.command) ≡ None) state by.done.passes;
        };
        has = subst (λ n. P n by.command) state by.done.has;
      }

  in_done : (P : Machine → Command → Type 0) → IsDoneIn P m cs f b → IsDoneBy P (state_at m cs f) rest
  in_done P d =
      let j : ℕ = d.at - f in
      let behind : f ≤ d.at = d.behind in
      let before : d.at < b = d.before in
      let sum : d.at ≡ f + j = omega arith in
      let state : state_at m cs d.at ≡ after (state_at m cs f) (take j rest) = state_behind d.at j sum (omega arith) in
      record {
        at = j;
        command = d.command;
        is = sym (command_behind d.at j sum before) ∙ d.done.is;
        done = record {
          passes = subst (λ n. first_failing (checks n d.command) ≡ None) state d.done.passes;
          has = subst (λ n. P n d.command) state d.has;
        };
      }

  -- a fact of marks that begin anew at the first f is one of the commands after them
  in_words : (P : Machine → Command → Type 0) (Q : Marks → Type 0) → IsOfCommands (state_at m cs f) P Q → (Q (marks_of (state_at m cs f)) → IsDoneIn P m cs f b)
      → Q (all_begun (state_at m cs f) rest (marks_of (state_at m cs f))) ↔ IsDoneIn P m cs f b
  in_words P Q of anew = (
    λ q. elim (done_from (state_at m cs f) P Q of (state_at m cs f) rest (marks_of (state_at m cs f)) refl q) [ inl was ↦ anew was | inr by ↦ done_in P by ],
    λ d. from_done (state_at m cs f) P Q of (state_at m cs f) rest (marks_of (state_at m cs f)) refl (in_done P d),
  )

-- the state after a command
pub state_next : (m : Machine) (cs : List Command) (i : ℕ) (c : Command) → slice_get cs i ≡ Some c → state_at m cs (suc i) ≡ (step (state_at m cs i) c).next
state_next m cs i c at = ap (after m) (take_next cs i c at) ∙ after-append m (take i cs) (c ∷ [])

-- a command that touches, and one that writes
touched_in : (m : Machine) (cs : List Command) (f b : ℕ) (name : List ℕ) → IsDoneIn (Touches name) m cs f b ↔ IsTouchedIn m cs f b name
touched_in m cs f b name = (
  λ d. record { at = d.at; command = d.command; behind = d.behind; before = d.before; done = d.done; touched = d.has },
  λ t. record { at = t.at; command = t.command; behind = t.behind; before = t.before; done = t.done; has = t.touched },
)

written_in : (m : Machine) (cs : List Command) (f b : ℕ) (name : List ℕ) (v : Version) → IsDoneIn (Writes (state_at m cs f) name v) m cs f b ↔ IsWrittenIn m cs f b name v
written_in m cs f b name v = (
  λ d. record {
    at = d.at;
    command = d.command;
    behind = d.behind;
    before = d.before;
    done = d.done;
    number = d.has.number;
    rewrites = d.has.rewrites;
    version = ap (λ n. (object n d.has.number).version) (state_next m cs d.at d.command d.done.is) ∙ d.has.version;
    named = d.has.named;
    undoomed = d.has.undoomed;
  },
  λ w. record {
    at = w.at;
    command = w.command;
    behind = w.behind;
    before = w.before;
    done = w.done;
    has = record {
      number = w.number;
      rewrites = w.rewrites;
      version = sym (ap (λ n. (object n w.number).version) (state_next m cs w.at w.command w.done.is)) ∙ w.version;
      named = w.named;
      undoomed = w.undoomed;
    };
  },
)

rewritten_in : (m : Machine) (cs : List Command) (f b : ℕ) (name : List ℕ) → IsDoneIn (Rewrites (state_at m cs f) name) m cs f b ↔ IsRewrittenIn m cs f b name
rewritten_in m cs f b name = (
  λ d. record {
    at = d.at;
    command = d.command;
    behind = d.behind;
    before = d.before;
    done = d.done;
    number = d.has.number;
    rewrites = d.has.rewrites;
    named = d.has.named;
    undoomed = d.has.undoomed;
  },
  λ w. record {
    at = w.at;
    command = w.command;
    behind = w.behind;
    before = w.before;
    done = w.done;
    has = record { number = w.number; rewrites = w.rewrites; named = w.named; undoomed = w.undoomed };
  },
)

both_ways : {A B C : Type 0} → A ↔ B → B ↔ C → A ↔ C
both_ways ab bc = (λ a. bc.0 (ab.0 a), λ c. ab.1 (bc.1 c))

pub marks_are_worded : MarksAreWorded
marks_are_worded m cs a b f most within last = record {
  marked = ap (λ (w : Marks). w.marked) marks ∙ all_marked flushed (drop f (take b cs)) (marks_of flushed);
  touched = λ name. subst (λ w. (is_touched w name ≡ true) ↔ IsTouchedIn m cs f b name) (sym marks) (
      both_ways (in_words m cs b f (Touches name) (λ w. is_touched w name ≡ true) (touched_of_commands flushed name) (λ was. absurd (cc)))
      (touched_in m cs f b name));
  since = λ name v. subst (λ w. IsSince w name v ↔ IsWrittenIn m cs f b name v) (sym marks) (
      both_ways (in_words m cs b f (Writes flushed name v) (λ w. IsSince w name v) (since_of_commands flushed name v) (λ was. absurd (let lt = was.2 in omega (arith, lt))))
      (written_in m cs f b name v));
  in_place = λ name. subst (λ w. (is_in_place w name ≡ true) ↔ IsRewrittenIn m cs f b name) (sym marks) (
      both_ways (in_words m cs b f (Rewrites flushed name) (λ w. is_in_place w name ≡ true) (in_place_of_commands flushed name) (λ was. absurd (cc)))
      (rewritten_in m cs f b name));
}
  where
    flushed : Machine
    flushed = state_at m cs f

    marks : marks_between m cs a b ≡ all_begun flushed (drop f (take b cs)) (marks_of flushed)
    marks = marks_from_settled m cs a b f most last
