-- One command more at the beginning: what is printed, what is kept, and what is read of it.
use Rattle.std.proofs.Common.{◌≡◌, inl, inr, ℕ, suc, ◌<◌, ◌||◌, List, [], ◌∷◌, ◌++◌, cond, length, true, false, refl, ap, ap₂, subst, ◌∙◌, arith, drop_at, eq-eqb, ne_eqb}
use Rattle.std.proofs.lemmas.Bool.{cases_lt, cond-true, cond-false}
use Rattle.cache_theory.specs.Command.{Command}
use Rattle.cache_theory.specs.Faulted.{AreSortedIn, begins_with, fault_before, fault_line, faulted_from, is_faulted, none_answered, replies_from, reply_before, unfaulted_from}
use Rattle.cache_theory.specs.Machine.{Machine}
use Rattle.cache_theory.specs.Step.{step}
use Rattle.cache_theory.specs.Text.{reply_text, IsSpoken}
use Rattle.cache_theory.proofs.Faults.TextsApart.{other_never_begins, text_begins}
use Rattle.cache_theory.proofs.Faults.RepliesApart.{reply_differs, step_spoken}

-- Numbers that rise.

-- later numbers are none of these
pub none_before : (faults : List ℕ) (first end n : ℕ) → AreSortedIn first end faults → n < first → is_faulted faults n ≡ false
none_before [] first end n rising before = refl
none_before (f ∷ faults) first end n rising before =
    let least = rising.0 in
    ap₂ ◌||◌ (ne_eqb f n (λ e. omega (arith, e, least, before))) (none_before faults (suc f) end n rising.1.1 (omega (arith, least, before)))

-- the first number is the first of these, or is before all of them
pub data BeginsSteps (n end : ℕ) (faults : List ℕ) : Type 0 where
  Here : (more : List ℕ) → faults ≡ n ∷ more → AreSortedIn (suc n) end more → BeginsSteps n end faults
  Later : AreSortedIn (suc n) end faults → BeginsSteps n end faults

pub begins_at : (n end : ℕ) (faults : List ℕ) → AreSortedIn n end faults → BeginsSteps n end faults
begins_at n end [] rising = Later tt
begins_at n end (f ∷ faults) rising = elim (cases_lt n f) [
  | inl later ↦ Later (later, rising.1)
  | inr not_later ↦
      let same : f ≡ n = let least = rising.0 in omega (arith, least, not_later) in
      Here faults (ap (λ x. x ∷ faults) same) (subst (λ x. AreSortedIn (suc x) end faults) same rising.1.1)
]

-- one number more at the beginning
in_front : (n : ℕ) (more : List ℕ) → is_faulted (n ∷ more) n ≡ true
in_front n more = ap (λ b. b || is_faulted more n) (eq-eqb n n refl)

skipped : (n k : ℕ) (more : List ℕ) → n < k → is_faulted (n ∷ more) k ≡ is_faulted more k
skipped n k more lt = ap (λ b. b || is_faulted more k) (ne_eqb n k (λ e. omega (arith, e, lt)))

-- What is printed and what is kept of the commands from a number on.

-- earlier numbers do not matter
replies_skip : (n k : ℕ) (more : List ℕ) (m : Machine) (cs : List Command) → n < k → replies_from k (n ∷ more) m cs ≡ replies_from k more m cs
replies_skip n k more m [] lt = refl
replies_skip n k more m (c ∷ cs) lt =
    ap (λ b. cond b (fault_line ++ replies_from (suc k) (n ∷ more) m cs) (reply_text (step m c).reply ++ replies_from (suc k) (n ∷ more) (step m c).next cs)) (skipped n k more lt)
    ∙ ap₂ (λ xs ys. cond (is_faulted more k) (fault_line ++ xs) (reply_text (step m c).reply ++ ys)) (replies_skip n (suc k) more m cs (omega (arith, lt))) (replies_skip n (suc k) more (step m c).next cs (omega (arith, lt)))

unfaulted_skip : (n k : ℕ) (more : List ℕ) (cs : List Command) → n < k → unfaulted_from k (n ∷ more) cs ≡ unfaulted_from k more cs
unfaulted_skip n k more [] lt = refl
unfaulted_skip n k more (c ∷ cs) lt =
    ap (λ b. cond b (unfaulted_from (suc k) (n ∷ more) cs) (c ∷ unfaulted_from (suc k) (n ∷ more) cs)) (skipped n k more lt)
    ∙ ap (λ xs. cond (is_faulted more k) xs (c ∷ xs)) (unfaulted_skip n (suc k) more cs (omega (arith, lt)))

-- the first command is answered `fault`
pub replies_fault : (n : ℕ) (more : List ℕ) (m : Machine) (c : Command) (cs : List Command) → replies_from n (n ∷ more) m (c ∷ cs) ≡ fault_line ++ replies_from (suc n) more m cs
replies_fault n more m c cs =
    cond-true (is_faulted (n ∷ more) n) _ _ (in_front n more) ∙ ap (λ xs. fault_line ++ xs) (replies_skip n (suc n) more m cs (omega arith))

pub unfaulted_fault : (n : ℕ) (more : List ℕ) (c : Command) (cs : List Command) → unfaulted_from n (n ∷ more) (c ∷ cs) ≡ unfaulted_from (suc n) more cs
unfaulted_fault n more c cs = cond-true (is_faulted (n ∷ more) n) _ _ (in_front n more) ∙ unfaulted_skip n (suc n) more cs (omega arith)

-- or it is not
pub replies_reply : (n end : ℕ) (faults : List ℕ) (m : Machine) (c : Command) (cs : List Command) → AreSortedIn (suc n) end faults
    → replies_from n faults m (c ∷ cs) ≡ reply_text (step m c).reply ++ replies_from (suc n) faults (step m c).next cs
replies_reply n end faults m c cs rising = cond-false (is_faulted faults n) _ _ (none_before faults (suc n) end n rising (omega arith))

pub unfaulted_reply : (n end : ℕ) (faults : List ℕ) (c : Command) (cs : List Command) → AreSortedIn (suc n) end faults
    → unfaulted_from n faults (c ∷ cs) ≡ c ∷ unfaulted_from (suc n) faults cs
unfaulted_reply n end faults c cs rising = cond-false (is_faulted faults n) _ _ (none_before faults (suc n) end n rising (omega arith))

-- What is read.

pub read_fault : (n : ℕ) (m : Machine) (c : Command) (cs : List Command) (more : List ℕ)
    → faulted_from n m (c ∷ cs) (fault_line ++ more) ≡ fault_before n (faulted_from (suc n) m cs more)
read_fault n m c cs more =
    cond-true (begins_with fault_line (fault_line ++ more)) _ _ (text_begins fault_line more) ∙ ap (λ bytes. fault_before n (faulted_from (suc n) m cs bytes)) (drop_at fault_line more (length fault_line) refl)

pub read_reply : (n : ℕ) (m : Machine) (c : Command) (cs : List Command) (more : List ℕ) → IsSpoken c
    → faulted_from n m (c ∷ cs) (reply_text (step m c).reply ++ more) ≡ reply_before (faulted_from (suc n) (step m c).next cs more)
read_reply n m c cs more spoken =
    let text : List ℕ = reply_text (step m c).reply in
    cond-false (begins_with fault_line (text ++ more)) _ _ (other_never_begins text fault_line more (reply_differs (step m c).reply (step_spoken m c spoken)))
    ∙ cond-true (begins_with text (text ++ more)) _ _ (text_begins text more)
    ∙ ap (λ bytes. reply_before (faulted_from (suc n) (step m c).next cs bytes)) (drop_at text more (length text) refl)

pub read_none : (n : ℕ) (m : Machine) (c : Command) (cs : List Command) (bytes : List ℕ)
    → begins_with fault_line bytes ≡ false → begins_with (reply_text (step m c).reply) bytes ≡ false → faulted_from n m (c ∷ cs) bytes ≡ none_answered
read_none n m c cs bytes no_fault no_reply = cond-false (begins_with fault_line bytes) _ _ no_fault ∙ cond-false (begins_with (reply_text (step m c).reply) bytes) _ _ no_reply
