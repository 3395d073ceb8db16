-- Commands of which the next one is answered `fault`, and more commands after it.
use Rattle.std.proofs.Common.{◌≡◌, ◌<◌, ◌≤◌, ◌+◌, ◌||◌, ◌==◌, List, [], ◌∷◌, ◌++◌, cond, false, length, refl, sym, ap, subst, suc, ℕ, ◌∙◌, append_assoc, arith, ne_eqb}
use Rattle.cache_theory.specs.Command.{Command}
use Rattle.cache_theory.specs.Faulted.{AreFaults, fault_line, is_faulted, replies_but, unfaulted, unfaulted_from, with_next}
use Rattle.cache_theory.specs.Machine.{Machine}
use Rattle.cache_theory.specs.Step.{after}
use Rattle.cache_theory.specs.Text.{replies_text}
use Rattle.cache_theory.proofs.Faults.FaultedOn.{faults_are_in_front, next_is_numbered, next_may_fault}

pub one_longer : {X : Type 0} (ds : List X) (d : X) → suc (length ds) ≡ length (ds ++ d ∷ [])
one_longer [] d = refl
one_longer (e ∷ ds) d = ap suc (one_longer ds d)

-- a number after the others does not matter before it
same_before : (faults : List ℕ) (last n : ℕ) → n < last → is_faulted (faults ++ last ∷ []) n ≡ is_faulted faults n
same_before [] last n before = ap (λ b. b || false) (ne_eqb last n (λ e. omega (arith, e, before)))
same_before (f ∷ faults) last n before = ap (λ b. (f == n) || b) (same_before faults last n before)

pub kept_before_from : (n : ℕ) (faults : List ℕ) (last : ℕ) (ds : List Command) → n + length ds ≤ last → unfaulted_from n (faults ++ last ∷ []) ds ≡ unfaulted_from n faults ds
kept_before_from n faults last [] within = refl
kept_before_from n faults last (c ∷ ds) within =
    ap (λ b. cond b (unfaulted_from (suc n) (faults ++ last ∷ []) ds) (c ∷ unfaulted_from (suc n) (faults ++ last ∷ []) ds)) (same_before faults last n (omega (arith, within)))
    ∙ ap (λ l. cond (is_faulted faults n) l (c ∷ l)) (kept_before_from (suc n) faults last ds (omega (arith, within)))

-- nor among the first commands that of the next one
pub kept_before : (ds : List Command) (faults : List ℕ) → unfaulted (with_next (length ds) faults) ds ≡ unfaulted faults ds
kept_before ds faults = kept_before_from 1 faults (suc (length ds)) ds (omega arith)

module _ (ds : List Command) (d : Command) (faults : List ℕ) (numbers : AreFaults (length ds) faults) where
  abbrev with_d : List ℕ
  with_d = with_next (length ds) faults

  -- the numbers are the same whatever the machine
  pub next_numbers : AreFaults (length (ds ++ d ∷ [])) (with_next (length ds) faults)
  next_numbers = subst (λ n. AreFaults n with_d) (one_longer ds d) (next_is_numbered (length ds) faults numbers)

  -- those that are kept are the others
  pub next_kept : (m : Machine) (more : List Command) → unfaulted (with_next (length ds) faults) (ds ++ d ∷ more) ≡ unfaulted faults ds ++ more
  next_kept m more =
      ap (unfaulted with_d) (sym (append_assoc ds (d ∷ []) more)) ∙ (faults_are_in_front m (ds ++ d ∷ []) more with_d next_numbers).kept
      ∙ ap (λ l. l ++ more) (next_may_fault m ds d faults numbers).kept

  -- and the line stands in the place of its reply
  pub next_replies : (m : Machine) (more : List Command) → replies_but m (ds ++ d ∷ more) (with_next (length ds) faults) ≡ replies_but m ds faults ++ (fault_line ++ replies_text (after m (unfaulted faults ds)) more)
  next_replies m more =
      ap (λ l. replies_but m l with_d) (sym (append_assoc ds (d ∷ []) more)) ∙ (faults_are_in_front m (ds ++ d ∷ []) more with_d next_numbers).replies
      ∙ ap (λ l. l ++ replies_text (after m (unfaulted with_d (ds ++ d ∷ []))) more) (next_may_fault m ds d faults numbers).replies
      ∙ ap (λ l. (replies_but m ds faults ++ fault_line) ++ replies_text (after m l) more) (next_may_fault m ds d faults numbers).kept
      ∙ append_assoc (replies_but m ds faults) fault_line (replies_text (after m (unfaulted faults ds)) more)
