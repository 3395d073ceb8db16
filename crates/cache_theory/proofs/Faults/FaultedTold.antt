-- What went out tells how many commands are answered, and which of them by `fault`.
use Rattle.std.proofs.Common.{◌≡◌, ◌⊎◌, inl, inr, ⊎_elim, ℕ, zero, suc, ◌+◌, ◌<◌, ◌≤◌, List, [], ◌∷◌, ◌++◌, length, take, Some, refl, sym, ap, subst, ◌∙◌, arith, append_assoc, false}
use Rattle.std.specs.Prelude.{slice_get}
use Rattle.cache_theory.specs.Command.{Command}
use Rattle.cache_theory.specs.Faulted.{AreSortedIn, FaultedIsTold, IsCutOf, begins_with, fault_before, fault_line, faulted_from, replies_from, reply_before, unfaulted_from}
use Rattle.cache_theory.specs.Machine.{Machine}
use Rattle.cache_theory.specs.Step.{after, step}
use Rattle.cache_theory.specs.Text.{AreSpoken, reply_text}
use Rattle.cache_theory.proofs.Faults.TextsApart.{Differ, cut_never_begins, differ_back, own_cut_never_begins}
use Rattle.cache_theory.proofs.Faults.FaultedSteps.{begins_at, read_fault, read_none, read_reply, replies_fault, replies_reply, unfaulted_fault, unfaulted_reply}
use Rattle.cache_theory.proofs.Faults.FaultedSteps.BeginsSteps.{Here, Later}
use Rattle.cache_theory.proofs.Faults.RepliesApart.{reply_differs, step_spoken}

-- what may have gone out of an answer to a command whose reply is the text: nothing, or a cut
abbrev OfNext : List ℕ → List ℕ → Type 0
OfNext text x = (x ≡ []) ⊎ (IsCutOf fault_line x ⊎ IsCutOf text x)

-- the same as in the law, where the first command has the number n
abbrev FollowsFrom : ℕ → Machine → List Command → ℕ → List ℕ → List ℕ → Type 0
FollowsFrom n m cs p faults x = (c : Command) → slice_get cs p ≡ Some c → OfNext (reply_text (step (after m (unfaulted_from n faults (take p cs))) c).reply) x

fault_line_long : 0 < length fault_line
unfolding fault_line
fault_line_long = omega arith

-- nothing is a cut, too
cut_of : (text x : List ℕ) → OfNext text x → IsCutOf fault_line x ⊎ IsCutOf text x
cut_of text x of_next = ⊎_elim (λ none. inl (0, (fault_line_long, none))) (λ cut. cut) of_next

-- such bytes begin with neither answer
begins_neither : (text x : List ℕ) → Differ text fault_line → OfNext text x → (begins_with fault_line x ≡ false) × (begins_with text x ≡ false)
begins_neither text x apart of_next = elim (cut_of text x of_next) [
  | inl of_fault ↦ (own_cut_never_begins fault_line x of_fault, cut_never_begins fault_line text x (differ_back text fault_line apart) of_fault)
  | inr of_reply ↦ (cut_never_begins text fault_line x apart of_reply, own_cut_never_begins text x of_reply)
]

told_from : (n end : ℕ) (m : Machine) (cs : List Command) (p : ℕ) (faults x : List ℕ) → AreSpoken cs → end ≡ n + p → p ≤ length cs → AreSortedIn n end faults → FollowsFrom n m cs p faults x
    → faulted_from n m cs (replies_from n faults m (take p cs) ++ x) ≡ record { answered = p; faults = faults }
told_from n end m cs zero (f ∷ faults) x spoken is_end within rising follows = absurd (let least = rising.0 in let below = rising.1.0 in omega (arith, least, below, is_end))
told_from n end m [] zero [] x spoken is_end within rising follows = refl
told_from n end m (c ∷ cs) zero [] x spoken is_end within rising follows =
    let neither = begins_neither (reply_text (step m c).reply) x (reply_differs (step m c).reply (step_spoken m c spoken.0)) (follows c refl) in
    read_none n m c cs x neither.0 neither.1
told_from n end m [] (suc p) faults x spoken is_end within rising follows = absurd (omega (arith, within))
told_from n end m (c ∷ cs) (suc p) faults x spoken is_end within rising follows = elim (begins_at n end faults rising) [
  | Here more is later ↦
      let printed : replies_from n faults m (c ∷ take p cs) ≡ fault_line ++ replies_from (suc n) more m (take p cs) =
      ap (λ fs. replies_from n fs m (c ∷ take p cs)) is ∙ replies_fault n more m c (take p cs) in
      let kept : unfaulted_from n faults (c ∷ take p cs) ≡ unfaulted_from (suc n) more (take p cs) =
      ap (λ fs. unfaulted_from n fs (c ∷ take p cs)) is ∙ unfaulted_fault n more c (take p cs) in
      let rest : FollowsFrom (suc n) m cs p more x = λ d at. subst (λ ds. OfNext (reply_text (step (after m ds) d).reply) x) kept (follows d at) in
      ap (λ text. faulted_from n m (c ∷ cs) (text ++ x)) printed
      ∙ ap (faulted_from n m (c ∷ cs)) (append_assoc fault_line (replies_from (suc n) more m (take p cs)) x)
      ∙ read_fault n m c cs (replies_from (suc n) more m (take p cs) ++ x)
      ∙ ap (fault_before n) (told_from (suc n) end m cs p more x spoken.1 (omega (arith, is_end)) (omega (arith, within)) later rest)
      ∙ ap (λ fs. record { answered = suc p; faults = fs }) (sym is)
  | Later later ↦
      let text : List ℕ = reply_text (step m c).reply in
      let printed : replies_from n faults m (c ∷ take p cs) ≡ text ++ replies_from (suc n) faults (step m c).next (take p cs) =
      replies_reply n end faults m c (take p cs) later in
      let kept : unfaulted_from n faults (c ∷ take p cs) ≡ c ∷ unfaulted_from (suc n) faults (take p cs) = unfaulted_reply n end faults c (take p cs) later in
      let rest : FollowsFrom (suc n) (step m c).next cs p faults x = λ d at. subst (λ ds. OfNext (reply_text (step (after m ds) d).reply) x) kept (follows d at) in
      ap (λ out. faulted_from n m (c ∷ cs) (out ++ x)) printed
      ∙ ap (faulted_from n m (c ∷ cs)) (append_assoc text (replies_from (suc n) faults (step m c).next (take p cs)) x)
      ∙ read_reply n m c cs (replies_from (suc n) faults (step m c).next (take p cs) ++ x) spoken.0
      ∙ ap reply_before (told_from (suc n) end (step m c).next cs p faults x spoken.1 (omega (arith, is_end)) (omega (arith, within)) later rest)
]

pub faulted_is_told : FaultedIsTold
faulted_is_told m cs p faults x spoken within rising follows = told_from 1 (suc p) m cs p faults x spoken (omega arith) within rising follows
