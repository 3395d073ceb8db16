-- Commands one after the other, of which some are answered `fault`.
use Rattle.std.proofs.Common.{◌≡◌, ℕ, suc, ◌+◌, ◌≤◌, List, [], ◌∷◌, ◌++◌, length, refl, sym, ap, subst, ◌∙◌, arith, append_assoc, append-nil}
use Rattle.cache_theory.specs.Command.{Command}
use Rattle.cache_theory.specs.Faulted.{AreSortedIn, FaultsAreInFront, FaultsAreWithin, KeptAreCounted, NextIsNumbered, NextMayFault, fault_line, replies_from, unfaulted_from}
use Rattle.cache_theory.specs.Machine.{Machine}
use Rattle.cache_theory.specs.Step.{after, step}
use Rattle.cache_theory.specs.Text.{replies_text, reply_text}
use Rattle.cache_theory.proofs.Faults.FaultedSteps.{begins_at, replies_fault, replies_reply, unfaulted_fault, unfaulted_reply}
use Rattle.cache_theory.proofs.Faults.FaultedSteps.BeginsSteps.{Here, Later}

-- Numbers.

-- below a later end
rising_within : (first end later : ℕ) (faults : List ℕ) → end ≤ later → AreSortedIn first end faults → AreSortedIn first later faults
rising_within first end later [] within rising = tt
rising_within first end later (f ∷ faults) within rising =
    (rising.0, (let below = rising.1.0 in omega (arith, below, within), rising_within (suc f) end later faults within rising.1.1))

pub faults_are_within : FaultsAreWithin
faults_are_within p q faults within rising = rising_within 1 (suc p) (suc q) faults (omega (arith, within)) rising

-- the end is one more
rising_more : (first end : ℕ) (faults : List ℕ) → first ≤ end → AreSortedIn first end faults → AreSortedIn first (suc end) (faults ++ end ∷ [])
rising_more first end [] within rising = (within, (omega arith, tt))
rising_more first end (f ∷ faults) within rising =
    (rising.0, (let below = rising.1.0 in omega (arith, below), rising_more (suc f) end faults (let below = rising.1.0 in omega (arith, below)) rising.1.1))

-- none are below the first
none_within : (n : ℕ) (faults : List ℕ) → AreSortedIn n n faults → faults ≡ []
none_within n [] rising = refl
none_within n (f ∷ faults) rising = absurd (let least = rising.0 in let below = rising.1.0 in omega (arith, least, below))

-- Commands none of which is answered `fault`.

replies_none : (n : ℕ) (m : Machine) (cs : List Command) → replies_from n [] m cs ≡ replies_text m cs
replies_none n m [] = refl
replies_none n m (c ∷ cs) = ap (λ text. reply_text (step m c).reply ++ text) (replies_none (suc n) (step m c).next cs)

unfaulted_none : (n : ℕ) (cs : List Command) → unfaulted_from n [] cs ≡ cs
unfaulted_none n [] = refl
unfaulted_none n (c ∷ cs) = ap (λ ds. c ∷ ds) (unfaulted_none (suc n) cs)

-- Commands after others.

replies_on : (n end : ℕ) (faults : List ℕ) (m : Machine) (cs more : List Command) → end ≡ n + length cs → AreSortedIn n end faults
    → replies_from n faults m (cs ++ more) ≡ replies_from n faults m cs ++ replies_text (after m (unfaulted_from n faults cs)) more
replies_on n end faults m [] more is_end rising =
    let same : end ≡ n = omega (arith, is_end) in
    ap (λ fs. replies_from n fs m more) (none_within n faults (subst (λ e. AreSortedIn n e faults) same rising)) ∙ replies_none n m more
replies_on n end faults m (c ∷ cs) more is_end rising = elim (begins_at n end faults rising) [
  | Here later is rising_later ↦
      ap (λ fs. replies_from n fs m (c ∷ (cs ++ more))) is
      ∙ replies_fault n later m c (cs ++ more)
      ∙ ap (λ text. fault_line ++ text) (replies_on (suc n) end later m cs more (omega (arith, is_end)) rising_later)
      ∙ sym (append_assoc fault_line (replies_from (suc n) later m cs) (replies_text (after m (unfaulted_from (suc n) later cs)) more))
      ∙ ap (λ text. text ++ replies_text (after m (unfaulted_from (suc n) later cs)) more) (sym (ap (λ fs. replies_from n fs m (c ∷ cs)) is ∙ replies_fault n later m c cs))
      ∙ ap (λ ds. replies_from n faults m (c ∷ cs) ++ replies_text (after m ds) more) (sym (ap (λ fs. unfaulted_from n fs (c ∷ cs)) is ∙ unfaulted_fault n later c cs))
  | Later rising_later ↦
      let text : List ℕ = reply_text (step m c).reply in
      let next : Machine = (step m c).next in
      let rest : List ℕ = replies_text (after next (unfaulted_from (suc n) faults cs)) more in
      replies_reply n end faults m c (cs ++ more) rising_later
      ∙ ap (λ out. text ++ out) (replies_on (suc n) end faults next cs more (omega (arith, is_end)) rising_later)
      ∙ sym (append_assoc text (replies_from (suc n) faults next cs) rest)
      ∙ ap (λ out. out ++ rest) (sym (replies_reply n end faults m c cs rising_later))
      ∙ ap (λ ds. replies_from n faults m (c ∷ cs) ++ replies_text (after m ds) more) (sym (unfaulted_reply n end faults c cs rising_later))
]

pub unfaulted_on : (n end : ℕ) (faults : List ℕ) (cs more : List Command) → end ≡ n + length cs → AreSortedIn n end faults
    → unfaulted_from n faults (cs ++ more) ≡ unfaulted_from n faults cs ++ more
unfaulted_on n end faults [] more is_end rising =
    let same : end ≡ n = omega (arith, is_end) in
    ap (λ fs. unfaulted_from n fs more) (none_within n faults (subst (λ e. AreSortedIn n e faults) same rising)) ∙ unfaulted_none n more
unfaulted_on n end faults (c ∷ cs) more is_end rising = elim (begins_at n end faults rising) [
  | Here later is rising_later ↦
      ap (λ fs. unfaulted_from n fs (c ∷ (cs ++ more))) is
      ∙ unfaulted_fault n later c (cs ++ more)
      ∙ unfaulted_on (suc n) end later cs more (omega (arith, is_end)) rising_later
      ∙ ap (λ ds. ds ++ more) (sym (ap (λ fs. unfaulted_from n fs (c ∷ cs)) is ∙ unfaulted_fault n later c cs))
  | Later rising_later ↦
      unfaulted_reply n end faults c (cs ++ more) rising_later
      ∙ ap (λ ds. c ∷ ds) (unfaulted_on (suc n) end faults cs more (omega (arith, is_end)) rising_later)
      ∙ ap (λ ds. ds ++ more) (sym (unfaulted_reply n end faults c cs rising_later))
]

pub faults_are_in_front : FaultsAreInFront
faults_are_in_front m cs more faults rising = record {
  replies = replies_on 1 (suc (length cs)) faults m cs more (omega arith) rising;
  kept = unfaulted_on 1 (suc (length cs)) faults cs more (omega arith) rising;
}

-- One command more, which is answered `fault`.

replies_next : (n end : ℕ) (faults : List ℕ) (m : Machine) (cs : List Command) (c : Command) → end ≡ n + length cs → AreSortedIn n end faults
    → replies_from n (faults ++ end ∷ []) m (cs ++ c ∷ []) ≡ replies_from n faults m cs ++ fault_line
replies_next n end faults m [] c is_end rising =
    let same : end ≡ n = omega (arith, is_end) in
    let none : faults ≡ [] = none_within n faults (subst (λ e. AreSortedIn n e faults) same rising) in
    ap (λ fs. replies_from n (fs ++ end ∷ []) m (c ∷ [])) none
    ∙ ap (λ e. replies_from n (e ∷ []) m (c ∷ [])) same
    ∙ replies_fault n [] m c []
    ∙ append-nil fault_line
replies_next n end faults m (d ∷ cs) c is_end rising = elim (begins_at n end faults rising) [
  | Here later is rising_later ↦
      ap (λ fs. replies_from n (fs ++ end ∷ []) m (d ∷ (cs ++ c ∷ []))) is
      ∙ replies_fault n (later ++ end ∷ []) m d (cs ++ c ∷ [])
      ∙ ap (λ text. fault_line ++ text) (replies_next (suc n) end later m cs c (omega (arith, is_end)) rising_later)
      ∙ sym (append_assoc fault_line (replies_from (suc n) later m cs) fault_line)
      ∙ ap (λ text. text ++ fault_line) (sym (ap (λ fs. replies_from n fs m (d ∷ cs)) is ∙ replies_fault n later m d cs))
  | Later rising_later ↦
      let text : List ℕ = reply_text (step m d).reply in
      let more : AreSortedIn (suc n) (suc end) (faults ++ end ∷ []) = rising_more (suc n) end faults (omega (arith, is_end)) rising_later in
      replies_reply n (suc end) (faults ++ end ∷ []) m d (cs ++ c ∷ []) more
      ∙ ap (λ out. text ++ out) (replies_next (suc n) end faults (step m d).next cs c (omega (arith, is_end)) rising_later)
      ∙ sym (append_assoc text (replies_from (suc n) faults (step m d).next cs) fault_line)
      ∙ ap (λ out. out ++ fault_line) (sym (replies_reply n end faults m d cs rising_later))
]

pub unfaulted_next : (n end : ℕ) (faults : List ℕ) (cs : List Command) (c : Command) → end ≡ n + length cs → AreSortedIn n end faults
    → unfaulted_from n (faults ++ end ∷ []) (cs ++ c ∷ []) ≡ unfaulted_from n faults cs
unfaulted_next n end faults [] c is_end rising =
    let same : end ≡ n = omega (arith, is_end) in
    let none : faults ≡ [] = none_within n faults (subst (λ e. AreSortedIn n e faults) same rising) in
    ap (λ fs. unfaulted_from n (fs ++ end ∷ []) (c ∷ [])) none
    ∙ ap (λ e. unfaulted_from n (e ∷ []) (c ∷ [])) same
    ∙ unfaulted_fault n [] c []
unfaulted_next n end faults (d ∷ cs) c is_end rising = elim (begins_at n end faults rising) [
  | Here later is rising_later ↦
      ap (λ fs. unfaulted_from n (fs ++ end ∷ []) (d ∷ (cs ++ c ∷ []))) is
      ∙ unfaulted_fault n (later ++ end ∷ []) d (cs ++ c ∷ [])
      ∙ unfaulted_next (suc n) end later cs c (omega (arith, is_end)) rising_later
      ∙ sym (ap (λ fs. unfaulted_from n fs (d ∷ cs)) is ∙ unfaulted_fault n later d cs)
  | Later rising_later ↦
      let more : AreSortedIn (suc n) (suc end) (faults ++ end ∷ []) = rising_more (suc n) end faults (omega (arith, is_end)) rising_later in
      unfaulted_reply n (suc end) (faults ++ end ∷ []) d (cs ++ c ∷ []) more
      ∙ ap (λ ds. d ∷ ds) (unfaulted_next (suc n) end faults cs c (omega (arith, is_end)) rising_later)
      ∙ sym (unfaulted_reply n end faults d cs rising_later)
]

pub next_is_numbered : NextIsNumbered
next_is_numbered p faults rising = rising_more 1 (suc p) faults (omega arith) rising

pub next_may_fault : NextMayFault
next_may_fault m cs c faults rising = record {
  replies = replies_next 1 (suc (length cs)) faults m cs c (omega arith) rising;
  kept = unfaulted_next 1 (suc (length cs)) faults cs c (omega arith) rising;
}

-- Counts.

kept_counted : (n end : ℕ) (faults : List ℕ) (cs : List Command) → end ≡ n + length cs → AreSortedIn n end faults → length (unfaulted_from n faults cs) + length faults ≡ length cs
kept_counted n end faults [] is_end rising =
    let same : end ≡ n = omega (arith, is_end) in
    let none : length faults ≡ 0 = ap length (none_within n faults (subst (λ e. AreSortedIn n e faults) same rising)) in
    omega (arith, none)
kept_counted n end faults (c ∷ cs) is_end rising = elim (begins_at n end faults rising) [
  | Here later is rising_later ↦
      let more = kept_counted (suc n) end later cs (omega (arith, is_end)) rising_later in
      let kept : length (unfaulted_from n faults (c ∷ cs)) ≡ length (unfaulted_from (suc n) later cs) = ap length (ap (λ fs. unfaulted_from n fs (c ∷ cs)) is ∙ unfaulted_fault n later c cs) in
      let one : length faults ≡ suc (length later) = ap length is in
      omega (arith, more, kept, one)
  | Later rising_later ↦
      let more = kept_counted (suc n) end faults cs (omega (arith, is_end)) rising_later in
      let kept : length (unfaulted_from n faults (c ∷ cs)) ≡ suc (length (unfaulted_from (suc n) faults cs)) = ap length (unfaulted_reply n end faults c cs rising_later) in
      omega (arith, more, kept)
]

pub kept_are_counted : KeptAreCounted
kept_are_counted cs faults rising = kept_counted 1 (suc (length cs)) faults cs (omega arith) rising
