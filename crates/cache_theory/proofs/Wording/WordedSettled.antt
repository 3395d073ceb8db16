-- The marks of a session begin at its last acknowledged flush or clearing.
use Rattle.std.proofs.Common.{◌≡◌, inl, inr, ℕ, zero, suc, ◌+◌, ◌-◌, ◌<◌, ◌≤◌, List, [], ◌∷◌, ◌++◌, take, drop, Some, None, refl, sym, ap, subst, ◌∙◌, arith, take-append-drop}
use Rattle.std.specs.Prelude.{IfSome, IsSomeAnd, Option, false, slice_get, true}
use Rattle.std.proofs.lemmas.List.{drop-drop}
use Rattle.cache_theory.specs.Checks.{checks}
use Rattle.cache_theory.specs.Command.{Command}
use Rattle.cache_theory.specs.Command.Command.{ClearNames, ClearOrigin, Flush}
use Rattle.cache_theory.specs.Machine.{Machine}
use Rattle.cache_theory.specs.Marks.{Marks, acked, all_acked, all_begun, begun, marks_of}
use Rattle.cache_theory.specs.Session.{marks_between}
use Rattle.cache_theory.specs.Step.{after, effect, step}
use Rattle.cache_theory.specs.Wording.{EndsSettled, IsLastSettled, settles, state_at}
use Rattle.cache_theory.proofs.InTurn.{after-append}
use Rattle.cache_theory.proofs.Wording.WordedFronts.{front_is, slice_get-drop, slice_get-take, take_next, taken_below}

-- a command that does not settle is acknowledged as it begins
acked_begun : (m : Machine) (c : Command) (w : Marks) → settles c ≡ false → acked m c w ≡ begun m c w
acked_begun m Flush w other = absurd (cc)
acked_begun m (ClearOrigin origin) w other = absurd (cc)
acked_begun m (ClearNames names) w other = absurd (cc)
acked_begun m c w other = refl

-- commands with none among them that settles
abbrev NoneSettles : List Command → Type 0
NoneSettles cs = (i : ℕ) → IfSome (slice_get cs i) (λ c. settles c ≡ false)

-- and so are these commands
all_acked_begun : (m : Machine) (cs : List Command) (w : Marks) → NoneSettles cs → all_acked m cs w ≡ all_begun m cs w
all_acked_begun m [] w none = refl
all_acked_begun m (c ∷ cs) w none =
    ap (all_acked (step m c).next cs) (acked_begun m c w (none zero))
    ∙ all_acked_begun (step m c).next cs (begun m c w) (λ i. none (suc i))

-- the marks of commands one after another
all_acked-append : (m : Machine) (cs ds : List Command) (w : Marks) → all_acked m (cs ++ ds) w ≡ all_acked (after m cs) ds (all_acked m cs w)
all_acked-append m [] ds w = refl
all_acked-append m (c ∷ cs) ds w = all_acked-append (step m c).next cs ds (acked m c w)

all_begun-append : (m : Machine) (cs ds : List Command) (w : Marks) → all_begun m (cs ++ ds) w ≡ all_begun (after m cs) ds (all_begun m cs w)
all_begun-append m [] ds w = refl
all_begun-append m (c ∷ cs) ds w = all_begun-append (step m c).next cs ds (begun m c w)

-- one that settles begins the marks anew
settles_at : (m : Machine) (c : Command) (w : Marks) → settles c ≡ true → acked m c w ≡ marks_of (step m c).next
unfolding checks effect
settles_at m Flush w does = refl
settles_at m (ClearOrigin origin) w does = refl
settles_at m (ClearNames names) w does = refl
settles_at m c w does = absurd (cc)

-- there the marks begin anew
at_settled : (m : Machine) (cs : List Command) (f : ℕ) → EndsSettled cs f → all_acked m (take f cs) (marks_of m) ≡ marks_of (state_at m cs f)
at_settled m cs f ends = elim ends [
  | inl none ↦ subst (λ n. all_acked m (take n cs) (marks_of m) ≡ marks_of (state_at m cs n)) (sym none) refl
  | inr last ↦ go last.0 last.1.0 (slice_get cs last.0) refl last.1.1
]
  where
    go : (i : ℕ) → f ≡ suc i → (found : Option Command) → slice_get cs i ≡ found → IsSomeAnd found (λ c. settles c ≡ true)
        → all_acked m (take f cs) (marks_of m) ≡ marks_of (state_at m cs f)
    go i next None at does = absurd does
    go i next (Some c) at does =
        let before : Machine = state_at m cs i in
        let front : take f cs ≡ take i cs ++ c ∷ [] = ap (λ n. take n cs) next ∙ take_next cs i c at in
        let now : state_at m cs f ≡ (step before c).next = ap (after m) front ∙ after-append m (take i cs) (c ∷ []) in
        ap (λ ds. all_acked m ds (marks_of m)) front ∙ all_acked-append m (take i cs) (c ∷ []) (marks_of m)
        ∙ settles_at before c (all_acked m (take i cs) (marks_of m)) does ∙ ap marks_of (sym now)

-- and what follows has begun
behind_settled : (m : Machine) (front cs ds : List Command) → NoneSettles cs → all_acked m front (marks_of m) ≡ marks_of (after m front)
    → all_begun (after m (front ++ cs)) ds (all_acked m (front ++ cs) (marks_of m)) ≡ all_begun (after m front) (cs ++ ds) (marks_of (after m front))
behind_settled m front cs ds none marks =
    let at : Machine = after m front in
    let first : all_acked m (front ++ cs) (marks_of m) ≡ all_begun at cs (marks_of at) =
    all_acked-append m front cs (marks_of m) ∙ ap (all_acked at cs) marks ∙ all_acked_begun at cs (marks_of at) none in
    ap (λ n. all_begun n ds (all_acked m (front ++ cs) (marks_of m))) (after-append m front cs)
    ∙ ap (all_begun (after at cs) ds) first ∙ sym (all_begun-append at cs ds (marks_of at))

-- after the last one there is none
none_between : (cs : List Command) (a b f j : ℕ) → a ≡ f + j → a ≤ b → IsLastSettled cs a f → NoneSettles (take j (drop f (take b cs)))
none_between cs a b f j sum most last i = go (slice_get (take j (drop f (take b cs))) i) refl
  where
    go : (found : Option Command) → slice_get (take j (drop f (take b cs))) i ≡ found → IfSome found (λ c. settles c ≡ false)
    go None at = tt
    go (Some c) at =
        let below : i < j = taken_below j (drop f (take b cs)) i c at in
        let there : slice_get cs (f + i) ≡ Some c =
        sym (slice_get-take b cs (f + i) (omega arith)) ∙ sym (slice_get-drop f (take b cs) i) ∙ sym (slice_get-take j (drop f (take b cs)) i below) ∙ at in
        subst (λ (o : Option Command). IfSome o (λ d. settles d ≡ false)) there (last.last (f + i) (omega arith) (omega arith))

-- and so the marks of a session are those of the commands after the last one
pub marks_from_settled : (m : Machine) (cs : List Command) (a b f : ℕ) → a ≤ b → IsLastSettled cs a f
    → marks_between m cs a b ≡ all_begun (state_at m cs f) (drop f (take b cs)) (marks_of (state_at m cs f))
marks_from_settled m cs a b f most last =
    let j : ℕ = a - f in
    let within : f ≤ a = last.within in
    let sum : a ≡ f + j = omega arith in
    let rest : List Command = drop f (take b cs) in
    let behind : drop a (take b cs) ≡ drop j rest = ap (λ n. drop n (take b cs)) sum ∙ sym (drop-drop j f (take b cs)) in
    ap (λ ds. all_begun (state_at m cs a) ds (all_acked m (take a cs) (marks_of m))) behind
    ∙ ap (λ ds. all_begun (after m ds) (drop j rest) (all_acked m ds (marks_of m))) (front_is cs b f a j sum most)
    ∙ behind_settled m (take f cs) (take j rest) (drop j rest) (none_between cs a b f j sum most last) (at_settled m cs f last.settled)
    ∙ ap (λ ds. all_begun (state_at m cs f) ds (marks_of (state_at m cs f))) (take-append-drop j rest)
