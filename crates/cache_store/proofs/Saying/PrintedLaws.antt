-- What goes out tells the outcome, on any disk.
use Rattle.std.proofs.Common.{◌≡◌, ◌≢◌, ℕ, List, [], ◌∷◌, true, false, Option, Result, Ok, Err, OnOk, IfOk, refl, sym, subst, ◌∙◌}
use Rattle.std.specs.Io.KnownBytes.{Appends}
use Rattle.cache_replies.specs.Completing.{SaysOf, SendsRest}
use Rattle.cache_replies.specs.Answers.{outcome_in, left_to_say}
use Rattle.cache_replies.specs.Printed.{IsPlainAnswer, Prints, PrintsFindings, PrintsNo, PrintsRefusal, is_check, is_plain, lists_findings}
use Rattle.cache_replies.specs.Said.{Saying}
use Rattle.cache_store.specs.Session.{Session}
use Rattle.cache_store.specs.Verifying.{IsFoundIn, PrintsFound}
use Rattle.cache_replies.specs.declared.answered.Answered.{Answered}
use Rattle.cache_replies.specs.declared.answered.Answered.TheVariants as answered
use Rattle.cache_replies.specs.declared.verdict.Verdict.{Verdict}
use Rattle.cache_replies.specs.declared.verdict.Verdict.TheVariants as outcome
use Rattle.cache_store.specs.declared.fault.StoreFault.{StoreFault}
use Rattle.cache_theory.specs.Command.{Command}
use Rattle.cache_theory.specs.Command.Command.{Verify}
use Rattle.index_map.specs.Known.{Known}
use Rattle.cache_replies.proofs.SayingLaws.{said_nothing}

-- of an answer of which nothing is said yet, the rest is all
pub said_rest : (a : Answered) (before : Option (List ℕ)) (mid : Saying) → mid.taken ≡ before → mid.held ≡ [] → SaysOf (left_to_say a) (left_to_say a) before mid
said_rest a before mid same none =
    subst (λ (o : Option (List ℕ)). SaysOf (left_to_say a) (left_to_say a) o mid) same (record { front = []; said = said_nothing mid none; whole = refl })

-- and goes out
goes_out : (a : Answered) (before : Option (List ℕ)) (mid : Saying) (now : Option (List ℕ)) → mid.taken ≡ before → mid.held ≡ [] → SendsRest (left_to_say a) mid now → Appends before now (left_to_say a)
goes_out a before mid now same none sends =
    sends (left_to_say a) before (said_rest a before mid same none)

-- a refusal goes out where nothing is checked, and findings where it is
refusal_out : (c : Command) (before now : Option (List ℕ)) → false ≡ is_check c → PrintsRefusal before now → PrintsNo c before now
refusal_out Verify before now checks out = absurd (cc)
refusal_out c before now checks out = out

findings_out : (c : Command) (before now : Option (List ℕ)) → true ≡ is_check c → PrintsFindings before now → PrintsNo c before now
findings_out Verify before now checks out = out
findings_out c before now checks out = absurd (let never : true ≡ false = checks in cc)

pub prints_outcome : (c : Command) (a : Answered) (r : Result Verdict StoreFault) (before : Option (List ℕ)) (mid : Saying) (now : Option (List ℕ))
    → (a ≢ answered.All → mid.taken ≡ before) → (a ≢ answered.All → mid.held ≡ []) → (is_plain c ≡ true → IsPlainAnswer a) → lists_findings a ≡ is_check c
    → OnOk r (SendsRest (left_to_say a) mid now)
    → IfOk r (λ o. o ≡ outcome_in a) → IfOk r (λ o. Prints c o before now)
prints_outcome c a (Err f) before mid now same empty plain lists prints is = tt
prints_outcome c answered.Done (Ok o) before mid now same empty plain lists prints is = record {
  refused = λ e. absurd (let never : outcome.Ok ≡ outcome.Refused = sym is ∙ e in cc);
  done = λ e p. goes_out answered.Done before mid now (same (λ n. cc)) (empty (λ n. cc)) prints;
}
prints_outcome c (answered.Refused refusal) (Ok o) before mid now same empty plain lists prints is = record {
  refused = λ e. refusal_out c before now lists (refusal, goes_out (answered.Refused refusal) before mid now (same (λ n. cc)) (empty (λ n. cc)) prints);
  done = λ e p. absurd (let never : outcome.Refused ≡ outcome.Ok = sym is ∙ e in cc);
}
prints_outcome c (answered.Checked (f ∷ more)) (Ok o) before mid now same empty plain lists prints is = record {
  refused = λ e. findings_out c before now lists (f, (more, goes_out (answered.Checked (f ∷ more)) before mid now (same (λ n. cc)) (empty (λ n. cc)) prints));
  done = λ e p. absurd (plain p);
}
prints_outcome c a (Ok o) before mid now same empty plain lists prints is = record {
  refused = λ e. absurd (let never : outcome.Ok ≡ outcome.Refused = sym is ∙ e in cc);
  done = λ e p. absurd (plain p);
}

-- what is found goes out
pub prints_found : (before : Session) (map : Known) (a : Answered) → IsFoundIn before map a → (taken : Option (List ℕ)) (mid : Saying) (now : Option (List ℕ))
    → (a ≢ answered.All → mid.taken ≡ taken) → (a ≢ answered.All → mid.held ≡ []) → SendsRest (left_to_say a) mid now → PrintsFound before map taken now
prints_found before map a (found, (is, are)) taken mid now same empty sends =
    let unsaid : a ≢ answered.All = λ e. (let never : answered.Checked found ≡ answered.All = sym is ∙ e in cc) in
    (found, (are, subst (λ (x : Answered). Appends taken now (left_to_say x)) is (goes_out a taken mid now (same unsaid) (empty unsaid) sends)))
