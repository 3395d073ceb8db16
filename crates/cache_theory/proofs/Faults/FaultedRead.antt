-- What is read of an output is what it begins with.
use Rattle.std.proofs.Common.{◌≡◌, inl, inr, ℕ, suc, ◌+◌, ◌≤◌, List, [], ◌∷◌, ◌++◌, length, take, drop, Some, true, false, refl, sym, ap, subst, ◌∙◌, arith, append_assoc, take-append-drop}
use Rattle.std.specs.Prelude.{slice_get}
use Rattle.std.proofs.lemmas.Bool.{cases_Bool, cond-false, cond-true}
use Rattle.std.proofs.lemmas.Slice.Eq.{bytes_eq-Decides}
use Rattle.cache_theory.specs.Command.{Command}
use Rattle.cache_theory.specs.Faulted.{AreSortedIn, Faulted, FaultedIsRead, begins_with, fault_before, fault_line, faulted_from, none_answered, replies_from, reply_before, unfaulted_from}
use Rattle.cache_theory.specs.Machine.{Machine}
use Rattle.cache_theory.specs.Step.{after, step}
use Rattle.cache_theory.specs.Text.{reply_text}
use Rattle.cache_theory.proofs.Faults.FaultedSteps.{read_none, replies_fault, replies_reply, unfaulted_fault, unfaulted_reply}

-- the bytes go on with the text, and with what is left after it
whole : (text bytes : List ℕ) → begins_with text bytes ≡ true → bytes ≡ text ++ drop (length text) bytes
whole text bytes begins =
    sym (take-append-drop (length text) bytes) ∙ ap (λ front. front ++ drop (length text) bytes) ((bytes_eq-Decides (take (length text) bytes) text).0 begins)

-- the same as in the law, where the first command has the number n
record IsReadFrom (n : ℕ) (m : Machine) (cs : List Command) (bytes : List ℕ) (r : Faulted) : Type 0 where
  within : r.answered ≤ length cs
  numbers : AreSortedIn n (n + r.answered) r.faults
  left : List ℕ
  begins : bytes ≡ replies_from n r.faults m (take r.answered cs) ++ left
  ends : (c : Command) → slice_get cs r.answered ≡ Some c
      → (begins_with fault_line left ≡ false) × (begins_with (reply_text (step (after m (unfaulted_from n r.faults (take r.answered cs))) c).reply) left ≡ false)

same_some : (d e : Command) → Some d ≡ Some e → d ≡ e
same_some d e is = cc

-- one command more at the beginning
with_fault : (n : ℕ) (m : Machine) (c : Command) (cs : List Command) (bytes : List ℕ) (r : Faulted) → IsReadFrom (suc n) m cs bytes r
    → IsReadFrom n m (c ∷ cs) (fault_line ++ bytes) (fault_before n r)
with_fault n m c cs bytes r is = record {
  within = let within = is.within in omega (arith, within);
  numbers = (omega arith, (omega arith, subst (λ end. AreSortedIn (suc n) end r.faults) sum is.numbers));
  left = is.left;
  begins = ap (λ more. fault_line ++ more) is.begins ∙ sym (append_assoc fault_line (replies_from (suc n) r.faults m (take r.answered cs)) is.left)
      ∙ ap (λ text. text ++ is.left) (sym (replies_fault n r.faults m c (take r.answered cs)));
  ends = λ d at. subst (λ ds. (begins_with fault_line is.left ≡ false) × (begins_with (reply_text (step (after m ds) d).reply) is.left ≡ false))
      (sym (unfaulted_fault n r.faults c (take r.answered cs))) (is.ends d at);
}
  where
    sum : suc n + r.answered ≡ n + suc r.answered
    sum = omega arith

with_reply : (n : ℕ) (m : Machine) (c : Command) (cs : List Command) (bytes : List ℕ) (r : Faulted) → IsReadFrom (suc n) (step m c).next cs bytes r
    → IsReadFrom n m (c ∷ cs) (reply_text (step m c).reply ++ bytes) (reply_before r)
with_reply n m c cs bytes r is = record {
  within = let within = is.within in omega (arith, within);
  numbers = wider r.faults (subst (λ end. AreSortedIn (suc n) end r.faults) sum is.numbers);
  left = is.left;
  begins = ap (λ more. text ++ more) is.begins ∙ sym (append_assoc text (replies_from (suc n) r.faults (step m c).next (take r.answered cs)) is.left)
      ∙ ap (λ out. out ++ is.left) (sym (replies_reply n (suc n + r.answered) r.faults m c (take r.answered cs) is.numbers));
  ends = λ d at. subst (λ ds. (begins_with fault_line is.left ≡ false) × (begins_with (reply_text (step (after m ds) d).reply) is.left ≡ false))
      (sym (unfaulted_reply n (suc n + r.answered) r.faults c (take r.answered cs) is.numbers)) (is.ends d at);
}
  where
    text : List ℕ
    text = reply_text (step m c).reply

    sum : suc n + r.answered ≡ n + suc r.answered
    sum = omega arith

    wider : (faults : List ℕ) → AreSortedIn (suc n) (n + suc r.answered) faults → AreSortedIn n (n + suc r.answered) faults
    wider [] rising = tt
    wider (f ∷ faults) rising = (let least = rising.0 in omega (arith, least), rising.1)

read_from : (n : ℕ) (m : Machine) (cs : List Command) (bytes : List ℕ) → IsReadFrom n m cs bytes (faulted_from n m cs bytes)
read_from n m [] bytes = record { within = omega arith; numbers = tt; left = bytes; begins = refl; ends = λ c at. absurd (let none = at in cc) }
read_from n m (c ∷ cs) bytes = elim (cases_Bool (begins_with fault_line bytes)) [
  | inl fault ↦
      let rest : List ℕ = drop (length fault_line) bytes in
      let is : bytes ≡ fault_line ++ rest = whole fault_line bytes fault in
      let reading : faulted_from n m (c ∷ cs) bytes ≡ fault_before n (faulted_from (suc n) m cs rest) = cond-true (begins_with fault_line bytes) _ _ fault in
      subst (IsReadFrom n m (c ∷ cs) bytes) (sym reading)
      (subst (λ b. IsReadFrom n m (c ∷ cs) b (fault_before n (faulted_from (suc n) m cs rest))) (sym is) (with_fault n m c cs rest _ (read_from (suc n) m cs rest)))
  | inr no_fault ↦ elim (cases_Bool (begins_with (reply_text (step m c).reply) bytes)) [
    | inl reply ↦
        let text : List ℕ = reply_text (step m c).reply in
        let rest : List ℕ = drop (length text) bytes in
        let is : bytes ≡ text ++ rest = whole text bytes reply in
        let reading : faulted_from n m (c ∷ cs) bytes ≡ reply_before (faulted_from (suc n) (step m c).next cs rest) =
        cond-false (begins_with fault_line bytes) _ _ no_fault ∙ cond-true (begins_with text bytes) _ _ reply in
        subst (IsReadFrom n m (c ∷ cs) bytes) (sym reading)
        (subst (λ b. IsReadFrom n m (c ∷ cs) b (reply_before (faulted_from (suc n) (step m c).next cs rest))) (sym is) (with_reply n m c cs rest _ (read_from (suc n) (step m c).next cs rest)))
    | inr no_reply ↦ subst (IsReadFrom n m (c ∷ cs) bytes) (sym (read_none n m c cs bytes no_fault no_reply)) (none c bytes no_fault no_reply)
  ]
]
  where
    none : (d : Command) (left : List ℕ) → begins_with fault_line left ≡ false → begins_with (reply_text (step m d).reply) left ≡ false → IsReadFrom n m (d ∷ cs) left none_answered
    none d left no_fault no_reply = record {
      within = omega arith;
      numbers = tt;
      left = left;
      begins = refl;
      ends = λ e at. subst (λ x. (begins_with fault_line left ≡ false) × (begins_with (reply_text (step m x).reply) left ≡ false)) (same_some d e at) (no_fault, no_reply);
    }

pub faulted_is_read : FaultedIsRead
faulted_is_read m cs bytes = let is = read_from 1 m cs bytes in record { within = is.within; numbers = subst (λ end. AreSortedIn 1 end (faulted_from 1 m cs bytes).faults) (let e : 1 + (faulted_from 1 m cs bytes).answered ≡ suc (faulted_from 1 m cs bytes).answered = omega arith in e) is.numbers; left = is.left; begins = is.begins; ends = is.ends }
