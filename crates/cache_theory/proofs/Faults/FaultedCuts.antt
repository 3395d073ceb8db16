-- What went out tells, at each end of a session, how many commands are answered, and which of them by `fault`.
use Rattle.std.proofs.Common.{◌≡◌, inl, inr, ℕ, ◌<◌, List, [], ◌∷◌, ◌++◌, length, take, Some, refl, sym, ap, subst, ◌∙◌, arith, append-nil, length-append, take_all}
use Rattle.std.specs.Prelude.{slice_get}
use Rattle.std.proofs.Math.Seq.{take-append_seam}
use Rattle.std.proofs.lemmas.Option.{slice_get_within}
use Rattle.cache_theory.specs.Command.{Command}
use Rattle.cache_theory.specs.Faulted.{AreFaults, CutIsTold, FaultCutIsTold, FrontIsTold, MayFollow, WholeIsTold, fault_line, faulted, replies_but, reply_behind, unfaulted}
use Rattle.cache_theory.specs.Machine.{Machine}
use Rattle.cache_theory.specs.Step.{after, step}
use Rattle.cache_theory.specs.Text.{AreSpoken, reply_text}
use Rattle.cache_theory.proofs.Faults.FaultedTold.{faulted_is_told}

-- no command stands after the last
none_behind : (cs : List Command) (c : Command) → slice_get cs (length cs) ≡ Some c → ⊥
none_behind cs c at = let within = slice_get_within cs (length cs) c at in omega (arith, within)

pub whole_is_told : WholeIsTold
whole_is_told m cs faults x spoken numbers =
    ap (λ ds. faulted m cs (replies_but m ds faults ++ x)) (sym (take_all (length cs) cs (omega arith)))
    ∙ faulted_is_told m cs (length cs) faults x spoken (omega arith) numbers (λ c at. absurd (none_behind cs c at))

-- the answers to the first, and what follows
module _ (m : Machine) (cs more : List Command) (faults x : List ℕ) (spoken : AreSpoken (cs ++ more)) (numbers : AreFaults (length cs) faults) where
  told_behind : MayFollow m (cs ++ more) (length cs) faults x → faulted m (cs ++ more) (replies_but m cs faults ++ x) ≡ record { answered = length cs; faults = faults }
  told_behind follows =
      ap (λ ds. faulted m (cs ++ more) (replies_but m ds faults ++ x)) (sym (take-append_seam cs more))
      ∙ faulted_is_told m (cs ++ more) (length cs) faults x spoken (let joined = length-append cs more in omega (arith, joined)) numbers follows

pub front_is_told : FrontIsTold
front_is_told m cs more faults spoken numbers =
    ap (faulted m (cs ++ more)) (sym (append-nil (replies_but m cs faults))) ∙ told_behind m cs more faults [] spoken numbers (λ c at. inl refl)

-- the command after the first
behind_is : (cs more : List Command) (c d : Command) → slice_get (cs ++ c ∷ more) (length cs) ≡ Some d → c ≡ d
behind_is [] more c d at = let is : Some c ≡ Some d = at in cc
behind_is (b ∷ cs) more c d at = behind_is cs more c d at

pub cut_is_told : CutIsTold
cut_is_told m cs more c faults n spoken numbers short =
    told_behind m cs (c ∷ more) faults _ spoken numbers (λ d at. inr (inr (
      n,
      (
        subst (λ ds. n < length (reply_text (step (after m (unfaulted faults ds)) d).reply)) (sym (take-append_seam cs (c ∷ more))) (subst (λ e. n < length (reply_text (step (after m (unfaulted faults cs)) e).reply)) (behind_is cs more c d at) short),
        ap (λ ds. take n (reply_text (step (after m (unfaulted faults ds)) c).reply)) (sym (take-append_seam cs (c ∷ more))) ∙ ap (λ e. take n (reply_behind m (cs ++ c ∷ more) (length cs) faults e)) (behind_is cs more c d at),
      ),
    )))

pub fault_cut_is_told : FaultCutIsTold
fault_cut_is_told m cs more c faults n spoken numbers short =
    told_behind m cs (c ∷ more) faults (take n fault_line) spoken numbers (λ d at. inr (inl (n, (short, refl))))
