-- How half of all entries is evicted.
use Rattle.std.proofs.Common.{◌≡◌, ◌∙◌, inl, inr, ℕ, List, [], ◌∷◌, Result, Ok, Err, IsErrAnd, true≢false, refl, sym, ap, subst}
use Rattle.cache_base.specs.declared.name.Name.{Name}
use Rattle.cache_store.specs.DoneFor.{IsDoneFor}
use Rattle.cache_store.specs.EndsUpdate.{EndsUpdate, IsTotal, update_over}
use Rattle.cache_store.specs.InUse.{IsSameIndex}
use Rattle.cache_store.specs.Open.{KeepsTo, Tells}
use Rattle.cache_store.specs.Session.{Session}
use Rattle.cache_replies.specs.declared.verdict.Verdict.{Verdict}
use Rattle.cache_store.specs.declared.fault.StoreFault.{StoreFault}
use Rattle.cache_store.proofs.Performing.Represented.{represents}
use Rattle.cache_theory.specs.Checks.{checks}
use Rattle.cache_theory.specs.Command.{Command}
use Rattle.cache_theory.specs.Command.Command.{Evict, EvictNames}
use Rattle.cache_theory.specs.Crash.{IsSafe}
use Rattle.cache_theory.specs.History.{History, acked, unanswered}
use Rattle.cache_theory.specs.Machine.{Machine, open_names}
use Rattle.cache_theory.specs.Step.{effect, step, update_ended}
use Rattle.cache_theory.specs.Text.{reply_text}
use Rattle.cache_theory.proofs.Begins.{begin_keeps}
use Rattle.cache_tool.specs.Fill.{half_of}
use Rattle.cache_tool.specs.FillProgress.{EvictsHalf, HalfIsEvicted}
use Rattle.cache_tool.specs.PutProgress.{IsSent, SendsCommand}
use Rattle.cache_tool.specs.Right.{LeadTo}
use Rattle.cache_tool.specs.Dated.{AreDatedBy}
use Rattle.cache_tool.proofs.DoneLaws.{done_where, some_done}
use Rattle.cache_tool.proofs.Fills.FillRuns.{ok_then}
use Rattle.cache_tool.proofs.MarkLeft.{others_keep, stays_mark, then_stays}
use Rattle.disk_theory.specs.State.{State}
use Rattle.evictor.specs.Evict.{total_kb, victims}
use Rattle.index_map.specs.Known.{SameBase}
use Rattle.index_theory.specs.Scan.{scan}

-- names are evicted as if the update had not been ended before
over_is : (names : List Name) (h : History) → acked (EvictNames names) (update_over h) ≡ unanswered (EvictNames names) h
unfolding checks effect
over_is names h = refl

over_reply : (names : List Name) (m : Machine) → (step (update_ended m) (EvictNames names)).reply ≡ (step m (EvictNames names)).reply
unfolding checks effect
over_reply names m = refl

module _ (before mid now : Session) (answer : Result Verdict StoreFault) (said : List ℕ) (base : SameBase before.open_store.index.map mid.open_store.index.map) (looked : mid.disk ≡ before.disk) where
  leads_over : (names : List Name) (h : History) → (Tells before h.machine → Tells mid (update_ended h.machine)) → LeadTo (EvictNames names ∷ []) mid (update_ended h.machine) now (acked (EvictNames names) (update_over h))
      → LeadTo (EvictNames names ∷ []) before h.machine now (unanswered (EvictNames names) h)
  leads_over names h so leads = record {
    keeps = subst (KeepsTo now) (over_is names h) leads.keeps;
    tells = λ right. subst (λ (g : History). Tells now g.machine) (over_is names h) (leads.tells (elim right [
      | inl told ↦ inl (so told)
      | inr rebuilt ↦ absurd (true≢false (sym rebuilt))
    ]));
    in_use = λ records told holds over.
        let used = leads.in_use records (so told) (record { has_base = base.has_base ∙ holds.has_base; same = λ name. base.records name ∙ holds.same name }) (tt, tt) in
        record { base = used.base; same = subst (λ (s : State). IsSameIndex s now.disk) looked used.same };
    unended = λ spared. subst (λ (s : State). IsSameIndex s now.disk) looked (leads.unended (tt, tt));
    dated = subst (λ (s : State). AreDatedBy h.machine (EvictNames names ∷ []) s now.disk) looked leads.dated;
  }

  sent_over : (names : List Name) (h : History) (kb : ℕ) → (Tells before h.machine → kb ≡ total_kb (scan h.machine.shelf)) → (Tells before h.machine → Tells mid (update_ended h.machine))
      → (d : Command) → d ≡ EvictNames names → IsDoneFor (Tells before h.machine) (Evict (half_of kb)) h.machine d → IsSent d (update_over h) answer mid now said → HalfIsEvicted h answer before now said
  sent_over names h kb summed so d is are sent =
      let named : IsSent (EvictNames names) (update_over h) answer mid now said = subst (λ (c : Command). IsSent c (update_over h) answer mid now said) is sent in
      record {
        kb = kb;
        summed = summed;
        done = EvictNames names;
        is_done = subst (λ (c : Command). IsDoneFor (Tells before h.machine) (Evict (half_of kb)) h.machine c) is are;
        safe = subst (λ (g : History). IsSafe now.disk g.marks) (over_is names h) named.safe;
        stands = ok_then _ _ answer (leads_over names h so) named.next;
        replied = ok_then _ _ answer (λ replied. replied ∙ ap reply_text (over_reply names h.machine)) named.replied;
      }

  pub half_evicted : (kb limit : ℕ) → EndsUpdate (Ok kb) before mid → IsTotal before kb → limit ≡ half_of kb → SendsCommand (Evict limit) answer mid now said → EvictsHalf answer before now said
  half_evicted kb limit ends total half sends = record {
    each = λ h keeps.
        let stand = represents keeps in
        let m = h.machine in
        let so : Tells before m → Tells mid (update_ended m) = λ told. ends.tells m stand told in
        let does = (subst (λ (n : ℕ). SendsCommand (Evict n) answer mid now said) half sends).each (update_over h) (ends.keeps h keeps) in
        sent_over (victims does.1.0.0 (open_names m) (half_of kb)) h kb (total m stand) so does.0 does.1.0.1.0
        (done_where so (Evict (half_of kb)) (update_ended m) does.0 does.1.0) does.1.1;
    mark = then_stays before.disk mid.disk now.disk (stays_mark looked) (others_keep (Evict limit) mid.disk now.disk (λ stood file never. never) sends.mark);
  }

-- the sum could not be told
pub half_fails : {T U : Type 0} (failed : Result T StoreFault) (answer : Result U StoreFault) (P : StoreFault → Type 0) (before mid : Session) (said : List ℕ) → IsErrAnd answer P
    → EndsUpdate failed before mid → mid.disk ≡ before.disk → EvictsHalf answer before mid said
half_fails failed (Ok x) P before mid said is ends looked = absurd is
half_fails failed (Err f) P before mid said is ends looked = record {
  each = λ h keeps.
      let m = h.machine in
      let kb = total_kb (scan m.shelf) in
      let some = some_done (Tells before m) (Evict (half_of kb)) m in
      record {
        kb = kb;
        summed = λ told. refl;
        done = some.0;
        is_done = some.1;
        safe = begin_keeps mid.disk m some.0 h.marks (ends.safe h keeps);
        stands = tt;
        replied = tt;
      };
  mark = stays_mark looked;
}

-- the answer is handed on
pub half_handed : {T U : Type 0} (answer : Result T StoreFault) (given : Result U StoreFault) (P : StoreFault → Type 0) (before now : Session) (said : List ℕ) → IsErrAnd given P
    → EvictsHalf answer before now said → EvictsHalf given before now said
half_handed answer (Ok x) P before now said failed half = absurd failed
half_handed answer (Err f) P before now said failed half = record {
  each = λ h keeps.
      let one = half.each h keeps in
      record { kb = one.kb; summed = one.summed; done = one.done; is_done = one.is_done; safe = one.safe; stands = tt; replied = tt };
  mark = half.mark;
}

pub half_ok : {T U : Type 0} (x : T) (y : U) (before now : Session) (said : List ℕ) → EvictsHalf (Ok x) before now said → EvictsHalf (Ok y) before now said
half_ok x y before now said half = record {
  each = λ h keeps.
      let one = half.each h keeps in
      record { kb = one.kb; summed = one.summed; done = one.done; is_done = one.is_done; safe = one.safe; stands = one.stands; replied = one.replied };
  mark = half.mark;
}
