-- What is done for the commands of a session, and for more after them.
use Rattle.std.proofs.Common.{◌≡◌, ◌⊎◌, IsTrue, List, [], ◌∷◌, ◌++◌, length, subst, sym, ap, ℕ, ◌∙◌, length-append, arith}
use Rattle.cache_store.specs.Open.{Tells}
use Rattle.cache_store.specs.Session.{Session}
use Rattle.cache_theory.specs.Command.{Command}
use Rattle.cache_theory.specs.Faulted.{AreFaults, unfaulted, with_next}
use Rattle.cache_theory.specs.Machine.{Machine}
use Rattle.cache_theory.specs.Step.{after}
use Rattle.cache_theory.proofs.Faults.FaultedOn.{faults_are_in_front, next_may_fault}
use Rattle.cache_tool.specs.DoneFor.{AreDoneFor}
use Rattle.cache_tool.specs.Right.{has_rebuild}
use Rattle.cache_tool.specs.ScriptProgress.{DoneForKept}
use Rattle.cache_tool.proofs.DoneLaws.{all_done, done_are_spoken, done_as_long, done_joined, spoken_joined, spoken_parts}

module _ (before : Session) (m : Machine) (cs ds : List Command) (faults : List ℕ) (so : DoneForKept before m cs ds faults) (numbers : AreFaults (length ds) faults) where
  -- where the records are right after them
  abbrev pub RightAfter : Type 0
  RightAfter = Tells before m ⊎ IsTrue (has_rebuild (unfaulted faults cs))

  numbers_given : AreFaults (length cs) faults
  numbers_given = subst (λ n. AreFaults n faults) so.as_many numbers

  -- and this for more
  pub done_kept_on : (more others : List Command) → length others ≡ length more → AreDoneFor RightAfter (after m (unfaulted faults ds)) more others → DoneForKept before m (cs ++ more) (ds ++ others) faults
  done_kept_on more others same rest = record {
    as_many = omega (arith, so.as_many, same, length-append ds others, length-append cs more);
    spoken = λ all. let parts = spoken_parts cs more all in spoken_joined ds others (so.spoken parts.0) (done_are_spoken RightAfter (after m (unfaulted faults ds)) more others rest parts.1);
    are_done = subst (λ l. AreDoneFor (Tells before m) m l (unfaulted faults (ds ++ others))) (sym (faults_are_in_front m cs more faults numbers_given).kept)
        (subst (λ l. AreDoneFor (Tells before m) m (unfaulted faults cs ++ more) l) (sym (faults_are_in_front m ds others faults numbers).kept)
        (done_joined (Tells before m) m (unfaulted faults cs) (unfaulted faults ds) more others so.are_done rest));
  }

  -- something can be done for more
  pub done_kept_rest : (more : List Command) → (others : List Command) × (DoneForKept before m (cs ++ more) (ds ++ others) faults × (length more ≡ length others))
  done_kept_rest more =
      let rest = all_done RightAfter (after m (unfaulted faults ds)) more in
      let same = done_as_long RightAfter (after m (unfaulted faults ds)) more rest.0 rest.1 in
      (rest.0, (done_kept_on more rest.0 (sym same) rest.1, same))

  -- nothing is done for the next one, which is answered `fault`
  pub done_kept_but : (c : Command) → DoneForKept before m (cs ++ c ∷ []) (ds ++ c ∷ []) (with_next (length ds) faults)
  done_kept_but c = record {
    as_many = omega (arith, so.as_many, length-append ds (c ∷ []), length-append cs (c ∷ []));
    spoken = λ all. let parts = spoken_parts cs (c ∷ []) all in spoken_joined ds (c ∷ []) (so.spoken parts.0) parts.1;
    are_done = subst (λ l. AreDoneFor (Tells before m) m l (unfaulted (with_next (length ds) faults) (ds ++ c ∷ [])))
        (sym (ap (λ n. unfaulted (with_next n faults) (cs ++ c ∷ [])) so.as_many ∙ (next_may_fault m cs c faults numbers_given).kept))
        (subst (λ l. AreDoneFor (Tells before m) m (unfaulted faults cs) l) (sym (next_may_fault m ds c faults numbers).kept) so.are_done);
  }
