-- The commands of a whole `fill`.
use Rattle.std.proofs.Common.{◌≡◌, ◌⊎◌, ◌∙◌, false, inl, inr, ℕ, List, [], ◌∷◌, ◌++◌, Result, Ok, Err, IsErrAnd, append_assoc, true≢false, refl, sym, ap, subst}
use Rattle.std.specs.Prelude.{IsTrue, codes}
use Rattle.cache_base.specs.declared.status.Status.{Status}
use Rattle.cache_store.specs.DoneFor.{DoneFor, IsDoneFor}
use Rattle.cache_store.specs.Open.{KeepsTo, Tells}
use Rattle.cache_store.specs.Session.{Session}
use Rattle.cache_replies.specs.declared.verdict.Verdict.{Verdict}
use Rattle.cache_store.specs.declared.fault.StoreFault.{StoreFault}
use Rattle.cache_theory.specs.Command.{Command}
use Rattle.cache_theory.specs.Command.Command.{Evict, ListRecords, Verify}
use Rattle.cache_theory.specs.Crash.{IsSafe}
use Rattle.cache_theory.specs.History.{History, unanswered}
use Rattle.cache_theory.specs.Step.{step}
use Rattle.cache_theory.specs.Text.{with_number}
use Rattle.cache_tool.specs.Fill.{half_of, making_commands}
use Rattle.cache_tool.specs.Filled.{AreFilled, lines_in, status_in_check}
use Rattle.cache_tool.specs.FillProgress.{FillIsPerformed, HalfIsEvicted}
use Rattle.cache_tool.specs.FirstLine.{first_line}
use Rattle.cache_tool.specs.PutProgress.{IsSent, all_unanswered}
use Rattle.cache_tool.specs.Right.{LeadTo}
use Rattle.cache_tool.specs.Statuses.{status_of}
use Rattle.cache_tool.proofs.Begun.{all_begin_keep}
use Rattle.cache_tool.proofs.DoneLaws.{done_where, some_done}
use Rattle.cache_tool.proofs.Puts.PutCommands.{unanswered-append}
use Rattle.cache_tool.proofs.RightLaws.{leads_begun, leads_on}
use Rattle.evictor.specs.Evict.{total_kb}
use Rattle.index_theory.specs.Scan.{scan}

-- no eviction, no check and no list reads all entries anew
right_still : (right other : Type 0) → (right → other) → right ⊎ (IsTrue false) → other
right_still right other so (inl is) = so is
right_still right other so (inr none) = absurd (true≢false (sym none))

module _ (moment count first : ℕ) (h : History) (start : Session) where
  abbrev making : List Command
  making = making_commands moment count first

  abbrev made : History
  made = all_unanswered making h

  abbrev right : Type 0
  right = Tells start h.machine

  -- what is done, by its parts
  module _ (kb : ℕ) (summed : right → kb ≡ total_kb (scan made.machine.shelf)) (d : Command) (evicts : IsDoneFor right (Evict (half_of kb)) made.machine d) where
    module _ (e : Command) (checks : IsDoneFor right Verify (step made.machine d).next e) (l : Command)
        (lists : IsDoneFor right ListRecords (step (step made.machine d).next e).next l) where
      abbrev filled : AreFilled right moment count first h.machine
      filled = record {
        kb = kb;
        summed = summed;
        evicts = d;
        checks = e;
        lists = l;
        are_done = (
          evicts,
          (
            done_where (right_still right right (λ is. is)) Verify (step made.machine d).next e checks,
            (
              done_where (right_still (right ⊎ IsTrue false) right (right_still right right (λ is. is))) ListRecords (step (step made.machine d).next e).next l lists,
              tt,
            ),
          ),
        );
      }

      whole_same : all_unanswered (making ++ (d ∷ (e ∷ (l ∷ [])))) h ≡ all_unanswered (d ∷ (e ∷ (l ∷ []))) made
      whole_same = unanswered-append making (d ∷ (e ∷ (l ∷ []))) h

      -- a fault after which a crash loses no more than this
      failed_with : (came : Result Status StoreFault) (P : StoreFault → Type 0) (now : Session) (lines : List ℕ) → IsErrAnd came P
          → IsSafe now.disk (all_unanswered (d ∷ (e ∷ (l ∷ []))) made).marks → FillIsPerformed moment count first h came start now lines
      failed_with (Ok s) P now lines failed safe = absurd failed
      failed_with (Err f) P now lines failed safe = record {
        filled = filled;
        safe = subst (λ (g : History). IsSafe now.disk g.marks) (sym whole_same) safe;
        stands = tt;
        status = tt;
        printed = tt;
      }

      performed_with : (s : Status) (now : Session) (lines : List ℕ) → IsSafe now.disk (all_unanswered (d ∷ (e ∷ (l ∷ []))) made).marks
          → LeadTo (making ++ (d ∷ (e ∷ (l ∷ [])))) start h.machine now (all_unanswered (d ∷ (e ∷ (l ∷ []))) made)
          → s ≡ status_in_check filled → lines ≡ lines_in filled → FillIsPerformed moment count first h (Ok s) start now lines
      performed_with s now lines safe leads status printed = record {
        filled = filled;
        safe = subst (λ (g : History). IsSafe now.disk g.marks) (sym whole_same) safe;
        stands = subst (LeadTo (making ++ (d ∷ (e ∷ (l ∷ [])))) start h.machine now) (sym whole_same) leads;
        status = status;
        printed = printed;
      }

    -- the check and what follows has not begun
    unchecked_fails : (came : Result Status StoreFault) (P : StoreFault → Type 0) (now : Session) (lines : List ℕ) → IsErrAnd came P
        → IsSafe now.disk (all_unanswered (d ∷ []) made).marks → FillIsPerformed moment count first h came start now lines
    unchecked_fails came P now lines failed safe =
        let m = (step made.machine d).next in
        let some = some_done right Verify m in
        let last = some_done right ListRecords (step m some.0).next in
        failed_with some.0 some.1 last.0 last.1 came P now lines failed
        (all_begin_keep now.disk m (some.0 ∷ (last.0 ∷ [])) (all_unanswered (d ∷ []) made).marks safe)

  -- the eviction and what follows has not begun
  pub unevicted_fails : (came : Result Status StoreFault) (P : StoreFault → Type 0) (now : Session) (lines : List ℕ) → IsErrAnd came P
      → IsSafe now.disk made.marks → FillIsPerformed moment count first h came start now lines
  unevicted_fails came P now lines failed safe =
      let m = made.machine in
      let kb = total_kb (scan m.shelf) in
      let some = some_done right (Evict (half_of kb)) m in
      unchecked_fails kb (λ told. refl) some.0 some.1 came P now lines failed (all_begin_keep now.disk m (some.0 ∷ []) made.marks safe)

  -- nothing has begun
  pub nothing_fails : (came : Result Status StoreFault) (P : StoreFault → Type 0) (now : Session) (lines : List ℕ) → IsErrAnd came P
      → IsSafe now.disk h.marks → FillIsPerformed moment count first h came start now lines
  nothing_fails came P now lines failed safe = unevicted_fails came P now lines failed (all_begin_keep now.disk h.machine making h.marks safe)

  -- the entries are made
  module _ (mid : Session) (leads : LeadTo making start h.machine mid made) where
    told_made : right → Tells mid made.machine
    told_made told = leads.tells (inl told)

    -- the eviction was begun
    module _ {T : Type 0} (answer : Result T StoreFault) (later : Session) (said : List ℕ) (half : HalfIsEvicted made answer mid later said) where
      evicted_summed : right → half.kb ≡ total_kb (scan made.machine.shelf)
      evicted_summed told = half.summed (told_made told)

      evicted_is : IsDoneFor right (Evict (half_of half.kb)) made.machine half.done
      evicted_is = done_where told_made (Evict (half_of half.kb)) made.machine half.done half.is_done

      pub evicted_fails : (came : Result Status StoreFault) (P : StoreFault → Type 0) (lines : List ℕ) → IsErrAnd came P → FillIsPerformed moment count first h came start later lines
      evicted_fails came P lines failed = unchecked_fails half.kb evicted_summed half.done evicted_is came P later lines failed half.safe

    module _ {T : Type 0} (x : T) (later : Session) (said : List ℕ) (half : HalfIsEvicted made (Ok x) mid later said) where
      abbrev d : Command
      d = half.done

      abbrev evicted : History
      evicted = all_unanswered (d ∷ []) made

      told_evicted : right → Tells later evicted.machine
      told_evicted told = half.stands.tells (inl (told_made told))

      module _ (r : Result Verdict StoreFault) (further : Session) (found : List ℕ) (check : DoneFor (Tells later evicted.machine) Verify evicted.machine (λ c. IsSent c evicted r later further found)) where
        abbrev e : Command
        e = check.0

        checked_is : IsDoneFor right Verify evicted.machine e
        checked_is = done_where told_evicted Verify evicted.machine e check.1.0

        abbrev checked : History
        checked = unanswered e evicted

        pub checked_fails : (came : Result Status StoreFault) (P : StoreFault → Type 0) (lines : List ℕ) → IsErrAnd came P → FillIsPerformed moment count first h came start further lines
        checked_fails came P lines failed =
            let last = some_done right ListRecords checked.machine in
            failed_with half.kb (evicted_summed (Ok x) later said half) d (evicted_is (Ok x) later said half) e checked_is
            last.0 last.1 came P further lines failed
            (all_begin_keep further.disk checked.machine (last.0 ∷ []) checked.marks check.1.1.safe)

      module _ (o : Verdict) (further : Session) (found : List ℕ) (check : DoneFor (Tells later evicted.machine) Verify evicted.machine (λ c. IsSent c evicted (Ok o) later further found)) where
        lead_checked : LeadTo (check.0 ∷ []) later evicted.machine further (unanswered check.0 evicted)
        lead_checked = leads_begun check.0 evicted later further half.stands.keeps check.1.1.safe check.1.1.next

        pub checked_keeps : KeepsTo further (unanswered check.0 evicted)
        checked_keeps = lead_checked.keeps

        told_checked : right → Tells further (unanswered check.0 evicted).machine
        told_checked told = lead_checked.tells (inl (told_evicted told))

        module _ (r : Result Verdict StoreFault) (last : Session) (text : List ℕ)
            (list : DoneFor (Tells further (unanswered check.0 evicted).machine) ListRecords (unanswered check.0 evicted).machine (λ c. IsSent c (unanswered check.0 evicted) r further last text)) where
          listed_is : IsDoneFor right ListRecords (unanswered check.0 evicted).machine list.0
          listed_is = done_where told_checked ListRecords (unanswered check.0 evicted).machine list.0 list.1.0

          pub listed_fails : (came : Result Status StoreFault) (P : StoreFault → Type 0) (lines : List ℕ) → IsErrAnd came P → FillIsPerformed moment count first h came start last lines
          listed_fails came P lines failed =
              failed_with half.kb (evicted_summed (Ok x) later said half) d (evicted_is (Ok x) later said half) check.0 (checked_is (Ok o) further found check)
              list.0 listed_is came P last lines failed list.1.1.safe

        module _ (q : Verdict) (last : Session) (text : List ℕ)
            (list : DoneFor (Tells further (unanswered check.0 evicted).machine) ListRecords (unanswered check.0 evicted).machine (λ c. IsSent c (unanswered check.0 evicted) (Ok q) further last text)) where
          lead_listed : LeadTo (list.0 ∷ []) further (unanswered check.0 evicted).machine last (unanswered list.0 (unanswered check.0 evicted))
          lead_listed = leads_begun list.0 (unanswered check.0 evicted) further last checked_keeps list.1.1.safe list.1.1.next

          pub fill_performed : (s : Status) (lines : List ℕ) → s ≡ status_of o
              → lines ≡ (((with_number (codes "made") count) ++ first_line said) ++ first_line found) ++ first_line text → FillIsPerformed moment count first h (Ok s) start last lines
          fill_performed s lines status printed =
              performed_with half.kb (evicted_summed (Ok x) later said half) d (evicted_is (Ok x) later said half) check.0 (checked_is (Ok o) further found check) list.0
              (listed_is (Ok q) last text list) s last lines list.1.1.safe
              (leads_on making (d ∷ (check.0 ∷ (list.0 ∷ []))) start h.machine mid made last (unanswered list.0 (unanswered check.0 evicted)) refl leads
              (leads_on (d ∷ []) (check.0 ∷ (list.0 ∷ [])) mid made.machine later evicted last (unanswered list.0 (unanswered check.0 evicted)) refl half.stands
              (leads_on (check.0 ∷ []) (list.0 ∷ []) later evicted.machine further (unanswered check.0 evicted) last (unanswered list.0 (unanswered check.0 evicted)) refl lead_checked lead_listed)))
              (status ∙ ap status_of check.1.1.outcome)
              (printed ∙ joined (with_number (codes "made") count) (first_line said) (first_line found) (first_line text)
              ∙ (λ i. (with_number (codes "made") count) ++ (first_line (half.replied i) ++ (first_line (check.1.1.replied i) ++ first_line (list.1.1.replied i)))))
            where
              joined : (a b c d : List ℕ) → ((a ++ b) ++ c) ++ d ≡ a ++ (b ++ (c ++ d))
              joined a b c d = append_assoc (a ++ b) c d ∙ append_assoc a b (c ++ d)
