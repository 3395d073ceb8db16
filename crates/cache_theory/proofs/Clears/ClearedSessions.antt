-- The states of a session: each is proper, what is doomed stays doomed, and one of the acknowledged commands settles
-- last.
use Rattle.std.proofs.Common.{◌≡◌, inl, inr, ℕ, zero, suc, ◌-◌, ◌<◌, ◌≤◌, List, [], ◌∷◌, take, drop, true, false, Option, Some, None, refl, sym, ap, subst, ◌∙◌, arith}
use Rattle.std.specs.List.{AllByRecursion}
use Rattle.std.specs.Prelude.{IfSome, IsSomeAnd, slice_get}
use Rattle.std.proofs.lemmas.Bool.{cases_Bool, cases_lt}
use Rattle.cache_theory.specs.Command.{Command}
use Rattle.cache_theory.specs.Given.{IsGiven}
use Rattle.cache_theory.specs.Machine.{Machine}
use Rattle.cache_theory.specs.Proper.{IsProper}
use Rattle.cache_theory.specs.Step.{after, step}
use Rattle.cache_theory.specs.Wording.{IsLastSettled, IsWrittenIn, settles, state_at}
use Rattle.cache_theory.proofs.ObjectLaws.DoomedObjects.{Grow, objects_grow, undoomed_before}
use Rattle.cache_theory.proofs.InTurn.{after-append}
use Rattle.cache_theory.proofs.Proper.{stays_proper}
use Rattle.cache_theory.proofs.Wording.WordedFronts.{front_is}
use Rattle.entry_file.specs.Version.{Version}

-- each state is proper
pub proper_at : (m : Machine) (cs : List Command) (n : ℕ) → AllByRecursion IsGiven cs → IsProper m → IsProper (state_at m cs n)
proper_at m cs zero given proper = proper
proper_at m [] (suc n) given proper = proper
proper_at m (c ∷ cs) (suc n) given proper = proper_at (step m c).next cs n given.1 (stays_proper m c given.0 proper)

-- the objects of a later state
pub grow_between : (m : Machine) (cs : List Command) (f n : ℕ) → f ≤ n → Grow (state_at m cs f).objects (state_at m cs n).objects
grow_between m cs f n later =
    let rest : List Command = take (n - f) (drop f (take n cs)) in
    let state : after (state_at m cs f) rest ≡ state_at m cs n =
    sym (ap (after m) (front_is cs n f n (n - f) (omega arith) (omega arith)) ∙ after-append m (take f cs) rest) in
    subst (λ (t : Machine). Grow (state_at m cs f).objects t.objects) state (objects_grow (state_at m cs f) rest)

-- what is written among some commands is written among more of them
pub written_among_more : (m : Machine) (cs : List Command) (g f n k : ℕ) (name : List ℕ) (v : Version) → g ≤ f → n ≤ k
    → IsWrittenIn m cs f n name v → IsWrittenIn m cs g k name v
written_among_more m cs g f n k name v before later w = record {
  at = w.at;
  command = w.command;
  behind = (let behind = w.behind in omega (arith, behind, before));
  before = (let below = w.before in omega (arith, below, later));
  done = w.done;
  number = w.number;
  rewrites = w.rewrites;
  version = w.version;
  named = w.named;
  undoomed = undoomed_before (state_at m cs g).objects (state_at m cs f).objects (grow_between m cs g f before) w.number w.undoomed;
}

-- the last command that settles, where there is one
pub record LastSettled (cs : List Command) (a : ℕ) : Type 0 where
  pub number : ℕ
  pub last : IsLastSettled cs a number

-- one acknowledged command more, which does not settle
not_this : (cs : List Command) (a : ℕ) → IfSome (slice_get cs a) (λ c. settles c ≡ false) → LastSettled cs a → LastSettled cs (suc a)
not_this cs a other l = record {
  number = l.number;
  last = record {
    within = (let within = l.last.within in omega (arith, within));
    settled = l.last.settled;
    last = λ i from below. elim (cases_lt i a) [
      | inl lt ↦ l.last.last i from lt
      | inr ge ↦ let same : a ≡ i = omega arith in subst (λ j. IfSome (slice_get cs j) (λ c. settles c ≡ false)) same other
    ];
  };
}

-- one that does
this_one : (cs : List Command) (a : ℕ) → IsSomeAnd (slice_get cs a) (λ c. settles c ≡ true) → LastSettled cs (suc a)
this_one cs a does = record {
  number = suc a;
  last = record {
    within = omega arith;
    settled = inr (a, (refl, does));
    last = λ i from below. absurd (omega (arith, from, below));
  };
}

pub last_settled : (cs : List Command) (a : ℕ) → LastSettled cs a
last_settled cs zero = record { number = 0; last = record { within = omega arith; settled = inl refl; last = λ i from below. absurd (omega (arith, below)) } }
last_settled cs (suc a) = go (slice_get cs a) refl (last_settled cs a)
  where
    go : (o : Option Command) → slice_get cs a ≡ o → LastSettled cs a → LastSettled cs (suc a)
    go None at l = not_this cs a (subst (λ o. IfSome o (λ c. settles c ≡ false)) (sym at) tt) l
    go (Some c) at l = elim (cases_Bool (settles c)) [
      | inl does ↦ this_one cs a (subst (λ o. IsSomeAnd o (λ d. settles d ≡ true)) (sym at) does)
      | inr other ↦ not_this cs a (subst (λ o. IfSome o (λ d. settles d ≡ false)) (sym at) other) l
    ]

-- an acknowledged one that settles is the last one, or before it
pub before_last : (cs : List Command) (a f i : ℕ) (c : Command) → IsLastSettled cs a f → slice_get cs i ≡ Some c → settles c ≡ true → i < a → suc i ≤ f
before_last cs a f i c last at does below = elim (cases_lt i f) [
  | inl lt ↦ omega (arith, lt)
  | inr ge ↦
      let other : settles c ≡ false = subst (λ o. IfSome o (λ d. settles d ≡ false)) at (last.last i ge below) in absurd (cc)
]
