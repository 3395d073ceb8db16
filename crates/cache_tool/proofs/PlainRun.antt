-- What a run of a script leaves says the plain clause, whichever numbers are left out.
use Rattle.std.proofs.Common.{◌≡◌, ◌⊎◌, inl, inr, ℕ, suc, ◌+◌, ◌≤◌, IsTrue, List, [], ◌∷◌, ◌++◌, Option, None, Some, length, take, drop, true, false, sym, ap, subst, ◌∙◌, arith, append-nil, length-append, take-append-drop}
use Rattle.std.specs.Prelude.{min}
use Rattle.std.proofs.Math.Seq.{take-append_seam}
use Rattle.std.proofs.lemmas.Bool.{cases_Bool}
use Rattle.std.proofs.lemmas.List.{length-take-le}
use Rattle.cache_base.specs.Checks.{first_failing}
use Rattle.cache_theory.specs.Checks.{checks}
use Rattle.cache_theory.specs.Command.{Command}
use Rattle.cache_theory.specs.Crash.{Allowed, IsCrashSafe, IsLeft, NoChance}
use Rattle.cache_theory.specs.Faulted.{AreFaults, unfaulted, with_next}
use Rattle.cache_theory.specs.History.{History, acked as acked_history, settled_at}
use Rattle.cache_theory.specs.Machine.{Machine}
use Rattle.cache_theory.specs.Marks.{Marks, Written, acked, all_acked, all_begun, begun, begun_by, is_in_place, is_touched, marks_of, put_out, rewritten, rewritten_in_place, touches, unburied_name}
use Rattle.cache_theory.specs.Step.{after, effect, step}
use Rattle.cache_theory.specs.declared.refusal.Refusal.{Refusal}
use Rattle.cache_theory.proofs.Begins.{in_place_later, later, since_later, touched_later}
use Rattle.cache_theory.proofs.Faults.FaultedOn.{faults_are_in_front}
use Rattle.cache_theory.proofs.Faults.FaultedRead.{faulted_is_read}
use Rattle.cache_tool.specs.DoneFor.{AreDoneFor}
use Rattle.cache_tool.specs.Right.{has_rebuild}
use Rattle.cache_tool.specs.PlainRun.{RunSaysPlainly, SaysPlainly}
use Rattle.cache_tool.specs.Verbs.{marks_behind}
use Rattle.cache_tool.proofs.DoneLaws.{all_done, done_as_long, done_joined}
use Rattle.cache_tool.proofs.FaultedParts.{kept_before, kept_before_from, next_kept}
use Rattle.cache_tool.proofs.SameLaws.{done_front}
use Rattle.cache_tool.proofs.Scripts.ScriptMarks.{begun_next, between, between_joined, marks_at}
use Rattle.disk_theory.specs.Image.{Files}
use Rattle.disk_theory.specs.Sound.{IsQuiet}
use Rattle.disk_theory.specs.State.{State, standing}
use Rattle.cache_theory.specs.Ever.{entries}
use Rattle.cache_theory.specs.Table.{get}
use Rattle.entry_file.specs.EntryFile.{found}
use Rattle.entry_name.specs.EntryName.{file_name}
use Rattle.index_theory.specs.Honest.{Honest}

-- ---- what a crash may leave, where more has begun

module _ (w : Marks) (names : List (List ℕ)) (versions : List Written) (replaced : List (List ℕ)) (s : State) (image : Files) (left : IsLeft s w image) where
  allowed_later : (key : List ℕ) → Allowed w image key → Allowed (later w names versions replaced) image key
  allowed_later key (inl none) = inl none
  allowed_later key (inr (inl was)) = inr (inl was)
  allowed_later key (inr (inr (v, (is, (named, since))))) = inr (inr (v, (is, (named, since_later w names versions replaced (file_name key) v since))))

  chance_before : (key : List ℕ) → (is_in_place (later w names versions replaced) (file_name key) ≡ false) ⊎ NoChance s image (file_name key) → (is_in_place w (file_name key) ≡ false) ⊎ NoChance s image (file_name key)
  chance_before key (inr no_chance) = inr no_chance
  chance_before key (inl out) = elim (cases_Bool (is_in_place w (file_name key))) [
    | inl there ↦ absurd (let both : true ≡ false = sym (in_place_later w names versions replaced (file_name key) there) ∙ out in cc)
    | inr not_there ↦ inl not_there
  ]

  left_later : IsLeft s (later w names versions replaced) image
  left_later = record { untouched = untouched; touched = touched }
    where
      untouched : (key : List ℕ) → is_touched (later w names versions replaced) (file_name key) ≡ false → found (entries image) key ≡ found (get w.marked.shelf) key
      untouched key out = elim (cases_Bool (is_touched w (file_name key))) [
        | inl t ↦ absurd (let both : true ≡ false = sym (touched_later w names versions replaced (file_name key) t) ∙ out in cc)
        | inr un ↦ left.untouched key un
      ]

      touched : (key : List ℕ) → is_touched (later w names versions replaced) (file_name key) ≡ true
          → (is_in_place (later w names versions replaced) (file_name key) ≡ false) ⊎ NoChance s image (file_name key) → Allowed (later w names versions replaced) image key
      touched key t may = elim (cases_Bool (is_touched w (file_name key))) [
        | inl was ↦ allowed_later key (left.touched key was (chance_before key may))
        | inr un ↦ inr (inl (left.untouched key un))
      ]

left_more : (s : State) (image : Files) (m : Machine) (c : Command) (w : Marks) → IsLeft s w image → IsLeft s (begun m c w) image
left_more s image m c w left = go (first_failing (checks m c))
  where
    go : (r : Option Refusal) → IsLeft s (begun_by r m c w) image
    go None = left_later w (touches m c) (put_out w (effect m c).next (rewritten m c)) (unburied_name w m (rewritten_in_place m c)) s image left
    go (Some r) = left

pub crash_more : (s : State) (m : Machine) (cs : List Command) (w : Marks) → IsCrashSafe s w → IsCrashSafe s (all_begun m cs w)
crash_more s m [] w safe = safe
crash_more s m (c ∷ cs) w safe = crash_more s (step m c).next cs (begun m c w) (λ image is. left_more s image m c w (safe image is))

-- ---- the plain clause

-- where the next one was to be answered `fault`
module _ (m : Machine) (d : Command) (s t : State) (faults : List ℕ) (fs gs ds es : List Command) (same : length fs ≡ length ds) (others_same : length es ≡ length gs) (numbers : AreFaults (length ds) faults) where
  abbrev right : Type 0
  right = Honest (standing s)

  abbrev n : Machine
  n = (step m d).next

  abbrev h : History
  h = acked_history d (settled_at m)

  abbrev kept : List Command
  kept = unfaulted faults ds

  abbrev w : List ℕ
  w = with_next (length ds) faults

  none_begun : (es : List Command) → unfaulted w (ds ++ take 1 es) ≡ kept
  none_begun [] = ap (unfaulted w) (append-nil ds) ∙ kept_before ds faults
  none_begun (e ∷ es) = next_kept ds e faults numbers m [] ∙ append-nil kept

  marks_are : marks_behind m d (ds ++ es) w (length ds) (min (length ds + 1) (length (ds ++ es))) ≡ all_acked n kept (acked m d (marks_of m))
  marks_are =
      ap (λ l. between h (unfaulted w l) (length (unfaulted w (take (length ds) (ds ++ es))))) (begun_next ds es)
      ∙ ap (λ l. between h l (length (unfaulted w (take (length ds) (ds ++ es))))) (none_begun es ∙ sym (append-nil kept))
      ∙ ap (λ l. between h (kept ++ []) (length (unfaulted w l))) (take-append_seam ds es)
      ∙ ap (λ l. between h (kept ++ []) (length l)) (kept_before ds faults)
      ∙ between_joined h kept []

  plainly : AreDoneFor right n (unfaulted faults fs) kept
      → (IsQuiet s → IsCrashSafe t (marks_behind m d (ds ++ es) w (length ds) (min (length ds + 1) (length (ds ++ es)))))
      → SaysPlainly m d (fs ++ gs) faults (length ds) s t
  plainly front crash =
      let rest = all_done (right ⊎ IsTrue (has_rebuild (unfaulted faults fs))) (after n kept) gs in
      let long = done_as_long (right ⊎ IsTrue (has_rebuild (unfaulted faults fs))) (after n kept) gs rest.0 rest.1 in
      record {
        done = ds ++ rest.0;
        as_many = omega (arith, same, long, length-append ds rest.0, length-append fs gs);
        are_done = subst (λ l. AreDoneFor right n l (unfaulted faults (ds ++ rest.0))) (sym (faults_are_in_front n fs gs faults (subst (λ k. AreFaults k faults) (sym same) numbers)).kept)
            (subst (λ l. AreDoneFor right n (unfaulted faults fs ++ gs) l) (sym (faults_are_in_front n ds rest.0 faults numbers).kept)
            (done_joined right n (unfaulted faults fs) kept gs rest.0 front rest.1));
        crash = λ quiet. subst (IsCrashSafe t) (sym (marks_at h ds rest.0 faults numbers (min (length ds + 1) (length (ds ++ rest.0))) (take 1 rest.0) (begun_next ds rest.0)))
            (crash_more t (after n kept) (take 1 rest.0) (all_acked n kept (acked m d (marks_of m))) (subst (IsCrashSafe t) marks_are (crash quiet)));
      }

pub run_says_plainly : RunSaysPlainly
run_says_plainly m d bytes cs ended before now run = elim run.counts.last [
  | inl none ↦ record {
    done = run.done;
    as_many = run.as_many;
    are_done = subst (λ f. AreDoneFor (Honest (standing before.disk)) (step m d).next (unfaulted f cs) (unfaulted f run.done)) none run.are_done;
    crash = λ quiet. subst (λ f. IsCrashSafe now.disk (marks_behind m d run.done f run.acked (min (run.acked + 1) (length run.done)))) none (run.leaves.crash quiet);
  }
  | inr next ↦ go next
]
  where
    within : run.acked ≤ length run.done
    within = subst (λ r. r.answered ≤ length run.done) run.replies.told (faulted_is_read (step m d).next run.done run.replies.out).within

    go : run.with_last ≡ with_next run.acked run.faults → SaysPlainly m d cs run.faults run.acked before.disk now.disk
    go next =
        let a : ℕ = run.acked in
        let ds : List Command = take a run.done in
        let es : List Command = drop a run.done in
        let fs : List Command = take a cs in
        let gs : List Command = drop a cs in
        let size : length ds ≡ a = length-take-le a run.done within in
        let size_fs : length fs ≡ a = length-take-le a cs (subst (λ k. a ≤ k) run.as_many within) in
        let whole : ds ++ es ≡ run.done = take-append-drop a run.done in
        let whole_cs : fs ++ gs ≡ cs = take-append-drop a cs in
        let front = done_front run.with_last (Honest (standing before.disk)) 1 a (step m d).next cs run.done run.as_many run.are_done in
        let by_next = subst (λ f. AreDoneFor (Honest (standing before.disk)) (step m d).next (unfaulted f fs) (unfaulted f ds)) next front in
        let by_faults =
        subst (λ l. AreDoneFor (Honest (standing before.disk)) (step m d).next l (unfaulted run.faults ds)) (kept_before_from 1 run.faults (suc a) fs (omega (arith, size_fs)))
        (subst (λ l. AreDoneFor (Honest (standing before.disk)) (step m d).next (unfaulted (with_next a run.faults) fs) l) (kept_before_from 1 run.faults (suc a) ds (omega (arith, size))) by_next) in
        let crash : IsQuiet before.disk → IsCrashSafe now.disk (marks_behind m d (ds ++ es) (with_next (length ds) run.faults) (length ds) (min (length ds + 1) (length (ds ++ es)))) =
        λ quiet. subst (λ k. IsCrashSafe now.disk (marks_behind m d (ds ++ es) (with_next k run.faults) k (min (k + 1) (length (ds ++ es))))) (sym size)
        (subst (λ l. IsCrashSafe now.disk (marks_behind m d l (with_next a run.faults) a (min (a + 1) (length l)))) (sym whole)
        (subst (λ f. IsCrashSafe now.disk (marks_behind m d run.done f a (min (a + 1) (length run.done)))) next (run.leaves.crash quiet))) in
        let says = plainly m d before.disk now.disk run.faults fs gs ds es (size_fs ∙ sym size) (omega (arith, ap length whole, ap length whole_cs, length-append ds es, length-append fs gs, size, size_fs, run.as_many)) (subst (λ k. AreFaults k run.faults) (sym size) run.counts.numbers) by_faults crash in
        subst (λ l. SaysPlainly m d l run.faults a before.disk now.disk) whole_cs (subst (λ k. SaysPlainly m d (fs ++ gs) run.faults k before.disk now.disk) size says)
