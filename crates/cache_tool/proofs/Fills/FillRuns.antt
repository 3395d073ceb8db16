-- Commands of a `fill`, one after the other.
use Rattle.std.proofs.Common.{◌≡◌, ◌∙◌, false, ℕ, zero, suc, ◌+◌, ◌-◌, ◌≤◌, List, [], ◌∷◌, ◌++◌, Result, Ok, Err, IsErrAnd, append-nil, append_assoc, arith, refl, sym, ap, subst}
use Rattle.std.specs.Prelude.{OnOk}
use Rattle.cache_store.specs.Performing.{goes_by_records}
use Rattle.cache_store.specs.Session.{Session}
use Rattle.cache_replies.specs.declared.verdict.Verdict.{Verdict}
use Rattle.cache_store.specs.declared.fault.StoreFault.{StoreFault}
use Rattle.cache_theory.specs.Command.{Command}
use Rattle.cache_theory.specs.Command.Command.{Append, At, Close, Create}
use Rattle.cache_theory.specs.Crash.{IsSafe}
use Rattle.cache_theory.specs.History.{History}
use Rattle.cache_theory.specs.Marks.{all_begun}
use Rattle.cache_theory.specs.Step.{after}
use Rattle.cache_tool.specs.Fill.{body_of, entries_commands, entry_commands, key_of, moment_of, next_number, number_at}
use Rattle.cache_tool.specs.FillProgress.{RunsAll}
use Rattle.cache_tool.specs.PutProgress.{SendsCommand, all_unanswered}
use Rattle.cache_tool.specs.Right.{LeadTo}
use Rattle.cache_tool.proofs.Begun.{all_begin_keep}
use Rattle.cache_tool.proofs.MarkLeft.{stays_mark, then_stays}
use Rattle.cache_tool.proofs.Puts.PutCommands.{unanswered-append}
use Rattle.cache_tool.proofs.Puts.PutReplies.{sent_itself, sent_keeps}
use Rattle.cache_tool.proofs.RightLaws.{leads_begun, leads_none, leads_on}

-- what holds with an answer, and what follows from it
pub ok_then : {T : Type 0} (P Q : Type 0) (answer : Result T StoreFault) → (P → Q) → OnOk answer P → OnOk answer Q
ok_then P Q (Ok x) so is = so is
ok_then P Q (Err f) so is = tt

-- no command
pub run_none : (now : Session) → RunsAll {T = Unit {0}} [] (Ok tt) now now
run_none now = record { each = λ h keeps. record { safe = keeps.stands.crash_kept.safe; stands = leads_none now h keeps }; mark = stays_mark refl }

-- one, which does not go by the records
pub run_one : (c : Command) (answer : Result Verdict StoreFault) (before now : Session) (said : List ℕ) → goes_by_records c ≡ false → SendsCommand c answer before now said
    → RunsAll (c ∷ []) answer before now
run_one c answer before now said bare sends = record {
  each = λ h keeps.
      let is = sent_itself c answer before now said bare sends h keeps in
      record { safe = is.safe; stands = ok_then _ _ answer (leads_begun c h before now keeps is.safe) is.next };
  mark = sent_keeps c answer before now said bare sends;
}

-- some, and then more
pub run_then : {T U : Type 0} (cs ds : List Command) (x : T) (answer : Result U StoreFault) (before mid now : Session) → RunsAll cs (Ok x) before mid → RunsAll ds answer mid now
    → RunsAll (cs ++ ds) answer before now
run_then cs ds x answer before mid now first second = record {
  each = λ h keeps.
      let one = first.each h keeps in
      let more = second.each (all_unanswered cs h) one.stands.keeps in
      let same = unanswered-append cs ds h in
      record {
        safe = subst (λ (g : History). IsSafe now.disk g.marks) (sym same) more.safe;
        stands = ok_then _ _ answer (λ on. subst (LeadTo (cs ++ ds) before h.machine now) (sym same)
            (leads_on cs ds before h.machine mid (all_unanswered cs h) now (all_unanswered ds (all_unanswered cs h)) refl one.stands on)) more.stands;
      };
  mark = then_stays before.disk mid.disk now.disk first.mark second.mark;
}

-- more commands, of which none was performed after a fault
pub run_fails : {T U : Type 0} (cs ds : List Command) (answer : Result T StoreFault) (given : Result U StoreFault) (P : StoreFault → Type 0) (before now : Session) → IsErrAnd given P
    → RunsAll cs answer before now → RunsAll (cs ++ ds) given before now
run_fails cs ds answer (Ok x) P before now failed runs = absurd failed
run_fails cs ds answer (Err f) P before now failed runs = record {
  each = λ h keeps. record {
    safe = subst (λ (g : History). IsSafe now.disk g.marks) (sym (unanswered-append cs ds h))
        (all_begin_keep now.disk (after h.machine cs) ds (all_begun h.machine cs h.marks) (runs.each h keeps).safe);
    stands = tt;
  };
  mark = runs.mark;
}

-- none was performed at all
pub run_never : {T : Type 0} (cs : List Command) (given : Result T StoreFault) (P : StoreFault → Type 0) (now : Session) → IsErrAnd given P → RunsAll cs given now now
run_never cs given P now failed = run_fails [] cs (Ok tt) given P now now failed (run_none now)

-- the same commands by another name
pub run_same : {T : Type 0} (cs ds : List Command) (answer : Result T StoreFault) (before now : Session) → cs ≡ ds → RunsAll cs answer before now → RunsAll ds answer before now
run_same cs ds answer before now same runs = subst (λ (l : List Command). RunsAll l answer before now) same runs

-- a fault is handed on
pub run_handed : {T U : Type 0} (cs : List Command) (answer : Result T StoreFault) (given : Result U StoreFault) (P : StoreFault → Type 0) (before now : Session) → IsErrAnd given P
    → RunsAll cs answer before now → RunsAll cs given before now
run_handed cs answer (Ok x) P before now failed runs = absurd failed
run_handed cs answer (Err f) P before now failed runs = record { each = λ h keeps. record { safe = (runs.each h keeps).safe; stands = tt }; mark = runs.mark }

-- another answer of the same kind
pub run_ok : {T U : Type 0} (cs : List Command) (x : T) (y : U) (before now : Session) → RunsAll cs (Ok x) before now → RunsAll cs (Ok y) before now
run_ok cs x y before now runs = record {
  each = λ h keeps. let one = runs.each h keeps in record { safe = one.safe; stands = one.stands };
  mark = runs.mark;
}

-- ---- the commands of one entry

pub entry_is : (now i x a : ℕ) (k b : List ℕ) → a ≡ moment_of now i → k ≡ key_of i → b ≡ body_of i x
    → ◌≡◌ {A = List Command} (At a ∷ (Create 0 k ∷ (Append 0 b ∷ (Close 0 ∷ [])))) (entry_commands now i x)
entry_is now i x a k b at key body j = At (at j) ∷ (Create 0 (key j) ∷ (Append 0 (body j) ∷ (Close 0 ∷ [])))

module _ (now i x a : ℕ) (k b : List ℕ) (at : a ≡ moment_of now i) (key : k ≡ key_of i) (body : b ≡ body_of i x) where
  abbrev its : List Command
  its = At a ∷ (Create 0 k ∷ (Append 0 b ∷ (Close 0 ∷ [])))

  named : {T : Type 0} (answer : Result T StoreFault) (before after : Session) → RunsAll its answer before after → RunsAll (entry_commands now i x) answer before after
  named answer before after runs = run_same its (entry_commands now i x) answer before after (entry_is now i x a k b at key body) runs

  module _ {T : Type 0} (given : Result T StoreFault) (P : StoreFault → Type 0) (failed : IsErrAnd given P) (s0 s1 : Session) (said : List ℕ) where
    pub timing_fails : (r : Result Verdict StoreFault) → SendsCommand (At a) r s0 s1 said → RunsAll (entry_commands now i x) given s0 s1
    timing_fails r timed = named given s0 s1
        (run_fails (At a ∷ []) (Create 0 k ∷ (Append 0 b ∷ (Close 0 ∷ []))) r given P s0 s1 failed (run_one (At a) r s0 s1 said refl timed))

  module _ (s0 s1 : Session) (said1 : List ℕ) (o1 : Verdict) (timed : SendsCommand (At a) (Ok o1) s0 s1 said1) (s2 : Session) (said2 : List ℕ) where
    two : (r : Result Verdict StoreFault) → SendsCommand (Create 0 k) r s1 s2 said2 → RunsAll (At a ∷ (Create 0 k ∷ [])) r s0 s2
    two r created = run_then (At a ∷ []) (Create 0 k ∷ []) o1 r s0 s1 s2 (run_one (At a) (Ok o1) s0 s1 said1 refl timed) (run_one (Create 0 k) r s1 s2 said2 refl created)

    pub creating_fails : {T : Type 0} (given : Result T StoreFault) (P : StoreFault → Type 0) → IsErrAnd given P → (r : Result Verdict StoreFault) → SendsCommand (Create 0 k) r s1 s2 said2
        → RunsAll (entry_commands now i x) given s0 s2
    creating_fails given P failed r created = named given s0 s2 (run_fails (At a ∷ (Create 0 k ∷ [])) (Append 0 b ∷ (Close 0 ∷ [])) r given P s0 s2 failed (two r created))

    module _ (o2 : Verdict) (created : SendsCommand (Create 0 k) (Ok o2) s1 s2 said2) (s3 : Session) (said3 : List ℕ) where
      three : (r : Result Verdict StoreFault) → SendsCommand (Append 0 b) r s2 s3 said3 → RunsAll (At a ∷ (Create 0 k ∷ (Append 0 b ∷ []))) r s0 s3
      three r appended = run_then (At a ∷ (Create 0 k ∷ [])) (Append 0 b ∷ []) o2 r s0 s2 s3 (two (Ok o2) created) (run_one (Append 0 b) r s2 s3 said3 refl appended)

      pub appending_fails : {T : Type 0} (given : Result T StoreFault) (P : StoreFault → Type 0) → IsErrAnd given P → (r : Result Verdict StoreFault) → SendsCommand (Append 0 b) r s2 s3 said3
          → RunsAll (entry_commands now i x) given s0 s3
      appending_fails given P failed r appended = named given s0 s3 (run_fails (At a ∷ (Create 0 k ∷ (Append 0 b ∷ []))) (Close 0 ∷ []) r given P s0 s3 failed (three r appended))

      module _ (o3 : Verdict) (appended : SendsCommand (Append 0 b) (Ok o3) s2 s3 said3) (s4 : Session) (said4 : List ℕ) where
        four : (r : Result Verdict StoreFault) → SendsCommand (Close 0) r s3 s4 said4 → RunsAll its r s0 s4
        four r closed = run_then (At a ∷ (Create 0 k ∷ (Append 0 b ∷ []))) (Close 0 ∷ []) o3 r s0 s3 s4 (three (Ok o3) appended) (run_one (Close 0) r s3 s4 said4 refl closed)

        pub closing_fails : {T : Type 0} (given : Result T StoreFault) (P : StoreFault → Type 0) → IsErrAnd given P → (r : Result Verdict StoreFault) → SendsCommand (Close 0) r s3 s4 said4
            → RunsAll (entry_commands now i x) given s0 s4
        closing_fails given P failed r closed = named given s0 s4 (run_handed its r given P s0 s4 failed (four r closed))

        pub entry_made : (o4 : Verdict) → SendsCommand (Close 0) (Ok o4) s3 s4 said4 → RunsAll {T = Unit {0}} (entry_commands now i x) (Ok tt) s0 s4
        entry_made o4 closed = named (Ok tt) s0 s4 (run_ok its o4 tt s0 s4 (four (Ok o4) closed))

-- ---- the entries so far

-- the first of all entries, and the others
pub entries_front : (now first d i n : ℕ) → n ≡ i + d → (rest : List Command) × (entries_commands now first n ≡ entries_commands now first i ++ rest)
entries_front now first zero i n e = let same : n ≡ i = omega (arith, e) in ([], ap (entries_commands now first) same ∙ sym (append-nil (entries_commands now first i)))
entries_front now first (suc d) i zero e = absurd (omega (arith, e))
entries_front now first (suc d) i (suc n) e =
    let front = entries_front now first d i n (omega (arith, e)) in
    let last = entry_commands now n (number_at first (suc n)) in
    (front.0 ++ last, ap (λ l. l ++ last) front.1 ∙ append_assoc (entries_commands now first i) front.0 last)

entries_next : (now first i : ℕ) → entries_commands now first (i + 1) ≡ entries_commands now first i ++ entry_commands now i (number_at first (i + 1))
entries_next now first i = let on : i + 1 ≡ suc i = omega arith in ap (entries_commands now first) on ∙ ap (λ k. entries_commands now first i ++ entry_commands now i (number_at first k)) (sym on)

pub number_next : (first i : ℕ) → number_at first (i + 1) ≡ next_number (number_at first i)
number_next first i = let on : i + 1 ≡ suc i = omega arith in ap (number_at first) on

-- one entry more
pub entries_then : {T : Type 0} (now first i x : ℕ) (answer : Result T StoreFault) (s0 s1 s2 : Session) → x ≡ number_at first (i + 1) → RunsAll {T = Unit {0}} (entries_commands now first i) (Ok tt) s0 s1
    → RunsAll (entry_commands now i x) answer s1 s2 → RunsAll (entries_commands now first (i + 1)) answer s0 s2
entries_then now first i x answer s0 s1 s2 is so more =
    run_same (entries_commands now first i ++ entry_commands now i x) (entries_commands now first (i + 1)) answer s0 s2
    (ap (λ y. entries_commands now first i ++ entry_commands now i y) is ∙ sym (entries_next now first i))
    (run_then (entries_commands now first i) (entry_commands now i x) tt answer s0 s1 s2 so more)

-- the others have not begun
pub entries_fail : {T U : Type 0} (now first i n : ℕ) (answer : Result T StoreFault) (given : Result U StoreFault) (P : StoreFault → Type 0) (s0 s1 : Session) → i ≤ n → IsErrAnd given P
    → RunsAll (entries_commands now first i) answer s0 s1 → RunsAll (entries_commands now first n) given s0 s1
entries_fail now first i n answer given P s0 s1 le failed runs =
    let front = entries_front now first (n - i) i n (omega (arith, le)) in
    run_same (entries_commands now first i ++ front.0) (entries_commands now first n) given s0 s1 (sym front.1)
    (run_fails (entries_commands now first i) front.0 answer given P s0 s1 failed runs)
