-- What the store and the disk come to after the commands of a script.
use Rattle.std.proofs.Common.{◌≡◌, ℕ, ◌+◌, List, [], ◌∷◌, ◌++◌, length, take, drop, Err, refl, sym, ap, subst, ◌∙◌, arith, append-nil, length-append}
use Rattle.std.specs.Prelude.{min}
use Rattle.std.proofs.Math.Seq.{take-append-add, take-append_seam}
use Rattle.std.proofs.lemmas.List.{drop_at, take_all}
use Rattle.cache_base.specs.declared.status.Status.{Status}
use Rattle.cache_store.specs.Session.{Session}
use Rattle.cache_store.specs.declared.fault.StoreFault.{StoreFault}
use Rattle.cache_store.specs.declared.fault.StoreFault.TheVariants as fault
use Rattle.cache_theory.specs.Command.{Command}
use Rattle.cache_theory.specs.Crash.{IsSafe}
use Rattle.cache_theory.specs.Faulted.{AreFaults, unfaulted, with_next}
use Rattle.cache_theory.specs.History.{History, begun, unanswered}
use Rattle.cache_theory.specs.Machine.{Machine}
use Rattle.cache_theory.specs.Marks.{Marks, all_acked, all_begun}
use Rattle.cache_theory.specs.Step.{after}
use Rattle.cache_theory.proofs.Faults.FaultedOn.{faults_are_in_front}
use Rattle.cache_tool.specs.Right.{LeadTo}
use Rattle.cache_tool.specs.Script.{performed}
use Rattle.cache_tool.specs.ScriptProgress.{LeadsWithin, LeavesScript, all_answered, marks_on, one_begun_on}
use Rattle.cache_tool.specs.Statuses.{IsClosing, status_in}
use Rattle.cache_tool.proofs.Begun.{all_begin_keep}
use Rattle.cache_tool.proofs.FaultedParts.{kept_before, next_kept}
use Rattle.cache_tool.proofs.Scripts.ScriptTurns.{after_more}
use Rattle.disk_theory.specs.State.{State}

-- of these commands the first are acknowledged, and the others have begun
abbrev pub between : History → List Command → ℕ → Marks
between h cs k = all_begun (after h.machine (take k cs)) (drop k (take (length cs) cs)) (all_acked h.machine (take k cs) h.marks)

pub between_joined : (h : History) (ds xs : List Command) → between h (ds ++ xs) (length ds) ≡ all_begun (after h.machine ds) xs (all_acked h.machine ds h.marks)
between_joined h ds xs =
    ap (λ l. all_begun (after h.machine l) (drop (length ds) (take (length (ds ++ xs)) (ds ++ xs))) (all_acked h.machine l h.marks)) (take-append_seam ds xs)
    ∙ ap (λ l. all_begun (after h.machine ds) l (all_acked h.machine ds h.marks)) (ap (drop (length ds)) (take_all (length (ds ++ xs)) (ds ++ xs) (omega arith)) ∙ drop_at ds xs (length ds) refl)

module _ (h : History) (ds more : List Command) (faults : List ℕ) (numbers : AreFaults (length ds) faults) where
  -- those of the first that are kept
  abbrev pub kept : List Command
  kept = unfaulted faults ds

  -- the first are acknowledged, and these after them have begun
  pub marks_at : (b : ℕ) (xs : List Command) → take b (ds ++ more) ≡ ds ++ xs → marks_on h (ds ++ more) faults (length ds) b ≡ all_begun (after h.machine kept) xs (all_acked h.machine kept h.marks)
  marks_at b xs is =
      ap (λ l. between h l (length (unfaulted faults (take (length ds) (ds ++ more))))) (ap (unfaulted faults) is ∙ (faults_are_in_front h.machine ds xs faults numbers).kept)
      ∙ ap (λ l. between h (kept ++ xs) (length (unfaulted faults l))) (take-append_seam ds more) ∙ between_joined h kept xs

  -- and no more has begun
  pub acked_on : marks_on h (ds ++ more) faults (length ds) (length ds) ≡ (all_answered (unfaulted faults ds) h).marks
  acked_on = marks_at (length ds) [] (take-append_seam ds more ∙ sym (append-nil ds))

  -- where they are acknowledged, and the marks allow no less
  pub all_within : (b : ℕ) (xs : List Command) → take b (ds ++ more) ≡ ds ++ xs → (s : State) → IsSafe s (all_acked h.machine kept h.marks) → IsSafe s (marks_on h (ds ++ more) faults (length ds) b)
  all_within b xs is s safe = subst (IsSafe s) (sym (marks_at b xs is)) (all_begin_keep s (after h.machine kept) xs (all_acked h.machine kept h.marks) safe)

-- one more may have begun, if there is one
pub begun_next : (ds more : List Command) → take (min (length ds + 1) (length (ds ++ more))) (ds ++ more) ≡ ds ++ take 1 more
begun_next ds [] =
    ap (λ n. take n (ds ++ [])) (let joined = length-append ds [] in omega (arith, joined)) ∙ take-append_seam ds [] ∙ sym (append-nil ds)
begun_next ds (c ∷ more) =
    ap (λ n. take n (ds ++ c ∷ more)) (let joined = length-append ds (c ∷ more) in omega (arith, joined)) ∙ take-append-add ds (c ∷ more) 1

-- they lead to a history that goes no further than these marks
within : (m : Machine) (done : List Command) (w : Marks) (before now : Session) (h : History) → LeadTo done before m now h → h.machine ≡ after m done → ((s : State) → IsSafe s h.marks → IsSafe s w)
    → LeadsWithin (record { done = done; marks = w }) m before now
within m done w before now h leads same allows = record { history = h; leads = leads; machine = same; within = allows }

-- the commands were performed, and no more
pub keeps_front : (h : History) (ds more : List Command) (faults : List ℕ) (ended : Status) (before now : Session) → AreFaults (length ds) faults
    → LeadTo (unfaulted faults ds) before h.machine now (all_answered (unfaulted faults ds) h)
    → performed ended (length ds) (length (ds ++ more)) ≡ length ds → LeavesScript h.machine (one_begun_on h (length ds) faults ended (ds ++ more)) ended before now
keeps_front h ds more faults ended before now numbers leads same =
    let kept : List Command = unfaulted faults ds in
    let cs : List Command = ds ++ more in
    let marks : Marks = marks_on h cs faults (length ds) (min (length ds + 1) (length cs)) in
    let allows = all_within h ds more faults numbers (min (length ds + 1) (length cs)) (take 1 more) (begun_next ds more) in
    record {
      safe = allows now.disk leads.keeps.stands.crash_kept.safe;
      stands = λ closing.
          subst (λ l. LeadsWithin (record { done = unfaulted faults l; marks = marks }) h.machine before now) (sym (ap (λ n. take n cs) same ∙ take-append_seam ds more))
          (within h.machine kept marks before now (all_answered kept h) leads refl allows);
    }

-- one more was begun
module _ (h : History) (ds more : List Command) (c : Command) (faults : List ℕ) (numbers : AreFaults (length ds) faults) where
  abbrev first : List Command
  first = unfaulted faults ds

  abbrev all : List Command
  all = ds ++ c ∷ more

  -- the marks where it has begun
  abbrev marks : Marks
  marks = marks_on h all faults (length ds) (min (length ds + 1) (length all))

  marks_next : marks ≡ all_begun (after h.machine first) (c ∷ []) (all_acked h.machine first h.marks)
  marks_next = marks_at h ds (c ∷ more) faults numbers (min (length ds + 1) (length all)) (c ∷ []) (begun_next ds (c ∷ more))

  pub keeps_cut : (f : StoreFault) (before now : Session) → IsSafe now.disk (begun c (all_answered (unfaulted faults ds) h)).marks
      → (f ≡ fault.Sink → LeadTo (unfaulted faults ds ++ c ∷ []) before h.machine now (unanswered c (all_answered (unfaulted faults ds) h)))
      → LeavesScript h.machine (one_begun_on h (length ds) faults (status_in (Err f)) (ds ++ c ∷ more)) (status_in (Err f)) before now
  keeps_cut f before now safe effect = record { safe = subst (IsSafe now.disk) (sym marks_next) safe; stands = closed f effect }
    where
      closed : (f : StoreFault) → (f ≡ fault.Sink → LeadTo (first ++ c ∷ []) before h.machine now (unanswered c (all_answered first h))) → IsClosing (status_in (Err f))
          → LeadsWithin (one_begun_on h (length ds) faults (status_in (Err f)) all) h.machine before now
      closed fault.Memory has closing = absurd closing
      closed fault.Disk has closing = absurd closing
      closed fault.Sink has closing =
          subst (λ l. LeadsWithin (record { done = l; marks = marks }) h.machine before now)
          (sym (ap (unfaulted faults) (begun_next ds (c ∷ more)) ∙ (faults_are_in_front h.machine ds (c ∷ []) faults numbers).kept))
          (within h.machine (first ++ c ∷ []) marks before now (unanswered c (all_answered first h)) (has refl) (sym (after_more h.machine first c)) (λ s safe. subst (IsSafe s) (sym marks_next) safe))

  -- and answered `fault`: so it was not performed
  pub keeps_fault_cut : (f : StoreFault) (before now : Session) → LeadTo (unfaulted faults ds) before h.machine now (all_answered (unfaulted faults ds) h)
      → LeavesScript h.machine (one_begun_on h (length ds) (with_next (length ds) faults) (status_in (Err f)) (ds ++ c ∷ more)) (status_in (Err f)) before now
  keeps_fault_cut f before now leads = record { safe = allows now.disk leads.keeps.stands.crash_kept.safe; stands = closed f }
    where
      -- the marks are those where the others are acknowledged
      left_out : Marks
      left_out = marks_on h all (with_next (length ds) faults) (length ds) (min (length ds + 1) (length all))

      none_more : left_out ≡ all_acked h.machine first h.marks
      none_more =
          ap (λ l. between h (unfaulted (with_next (length ds) faults) l) (length (unfaulted (with_next (length ds) faults) (take (length ds) all)))) (begun_next ds (c ∷ more))
          ∙ ap (λ l. between h l (length (unfaulted (with_next (length ds) faults) (take (length ds) all)))) (next_kept ds c faults numbers h.machine [])
          ∙ ap (λ l. between h (first ++ []) (length (unfaulted (with_next (length ds) faults) l))) (take-append_seam ds (c ∷ more))
          ∙ ap (λ l. between h (first ++ []) (length l)) (kept_before ds faults)
          ∙ between_joined h first []

      allows : (s : State) → IsSafe s (all_acked h.machine first h.marks) → IsSafe s left_out
      allows s safe = subst (IsSafe s) (sym none_more) safe

      closed : (f : StoreFault) → IsClosing (status_in (Err f)) → LeadsWithin (one_begun_on h (length ds) (with_next (length ds) faults) (status_in (Err f)) all) h.machine before now
      closed fault.Memory closing = absurd closing
      closed fault.Disk closing = absurd closing
      closed fault.Sink closing =
          subst (λ l. LeadsWithin (record { done = l; marks = left_out }) h.machine before now)
          (sym (ap (unfaulted (with_next (length ds) faults)) (begun_next ds (c ∷ more)) ∙ next_kept ds c faults numbers h.machine [] ∙ append-nil first))
          (within h.machine first left_out before now (all_answered first h) leads refl allows)
