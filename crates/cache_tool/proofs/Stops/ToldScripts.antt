-- What went out of a script tells of its own commands what it tells of those that were done for them.
use Rattle.std.proofs.Common.{◌≡◌, ◌⊎◌, inl, inr, ℕ, zero, suc, ◌+◌, ◌≤◌, List, [], ◌∷◌, ◌++◌, length, take, drop, true, false, Some, sym, ap, subst, ◌∙◌, arith, append_assoc, append-nil, length-take}
use Rattle.std.specs.Prelude.{slice_get}
use Rattle.std.proofs.Math.Seq.{take-append_seam}
use Rattle.std.proofs.lemmas.Bool.{cases_lt}
use Rattle.std.proofs.lemmas.List.{append_cancel_left, length-take-le, take-append-le}
use Rattle.std.proofs.lemmas.Option.{slice_get-get_or, slice_get_within}
use Rattle.std.proofs.lemmas.Slice.Eq.{bytes_eq-Decides}
use Rattle.std.proofs.Common.{get_or}
use Rattle.cache_base.specs.declared.status.Status.{Status}
use Rattle.cache_base.specs.declared.status.Status.TheVariants as status
use Rattle.cache_store.specs.DoneFor.{IsResumedBy}
use Rattle.cache_theory.specs.Command.{Command}
use Rattle.cache_theory.specs.Command.Command.{Flush, Resume}
use Rattle.cache_theory.specs.Faulted.{AreFaults, IsCutOf, IsRead, begins_with, fault_line, faulted, replies_but, reply_behind, unfaulted, with_next}
use Rattle.cache_theory.specs.Machine.{Machine}
use Rattle.cache_theory.specs.Step.{after, step}
use Rattle.cache_theory.specs.Text.{AreSpoken, replies_text}
use Rattle.cache_theory.proofs.Faults.FaultedOn.{faults_are_in_front}
use Rattle.cache_theory.proofs.Faults.FaultedRead.{faulted_is_read}
use Rattle.cache_theory.proofs.Faults.FaultedTold.{faulted_is_told}
use Rattle.cache_theory.proofs.Wording.WordedFronts.{take_next}
use Rattle.cache_tool.specs.Beginning.{AreAtOpening}
use Rattle.cache_tool.specs.DoneFor.{AreDoneFor}
use Rattle.cache_tool.specs.Script.{bad_line}
use Rattle.cache_tool.specs.Verbs.{PrintsReplies}
use Rattle.cache_tool.specs.World.{World}
use Rattle.cache_tool.proofs.FaultedParts.{kept_before_from, next_replies}
use Rattle.cache_tool.proofs.SameLaws.{done_front, run_is_of_script}
use Rattle.context_clear.specs.Mark.{mark_of}
use Rattle.disk_theory.specs.State.{standing}
use Rattle.index_theory.specs.Honest.{Honest}

-- ---- texts

-- what begins a longer text, and does not have all of a first part of it, is a cut of that part
cut_of : (text left rest more : List ℕ) → text ++ rest ≡ left ++ more → begins_with text left ≡ false → IsCutOf text left
cut_of text left rest more same unbegun = elim (cases_lt (length left) (length text)) [
  | inl short ↦ (
    length left,
    (short, sym (take-append_seam left more) ∙ ap (take (length left)) (sym same) ∙ take-append-le (length left) text rest (omega (arith, short))),
  )
  | inr long ↦
      let front : take (length text) left ≡ text = sym (take-append-le (length text) left more (omega (arith, long))) ∙ ap (take (length text)) (sym same) ∙ take-append_seam text rest in
      let whole : begins_with text left ≡ true = (bytes_eq-Decides (take (length text) left) text).1 front in
      absurd (let both : true ≡ false = sym whole ∙ unbegun in cc)
]

-- a common first part falls away
behind_first : (first text rest bad left more : List ℕ) → (first ++ (text ++ rest)) ++ bad ≡ (first ++ left) ++ more → text ++ (rest ++ bad) ≡ left ++ more
behind_first first text rest bad left more same =
    append_cancel_left first (text ++ (rest ++ bad)) (left ++ more)
    (ap (λ l. first ++ l) (sym (append_assoc text rest bad)) ∙ sym (append_assoc first (text ++ rest) bad) ∙ same ∙ append_assoc first left more)

split_at : (cs : List Command) (at : ℕ) (c : Command) → slice_get cs at ≡ Some c → cs ≡ take at cs ++ c ∷ drop (suc at) cs
split_at [] at c is = absurd (cc)
split_at (d ∷ cs) zero c is = let same : d ≡ c = cc in ap (λ e. e ∷ cs) same
split_at (d ∷ cs) (suc at) c is = ap (λ l. d ∷ l) (split_at cs at c is)

-- ---- a run of a script

module _ (m : Machine) (d : Command) (bytes : List ℕ) (cs : List Command) (ended : Status) (before now : World) (run : PrintsReplies m d bytes cs ended before now)
    (honest : Honest (standing before.disk)) (resumed : IsResumedBy (AreAtOpening before.disk m) (mark_of m.mark) m d) where
  abbrev right : Type 0
  right = Honest (standing before.disk)

  -- on what was done for `Resume`, and on `Resume`
  abbrev on_done : Machine
  on_done = (step m d).next

  abbrev on_resumed : Machine
  on_resumed = (step m Resume).next

  -- the answers to as many commands are the same
  answers_same : (b : ℕ) → AreDoneFor right on_done (unfaulted run.faults (take b cs)) (unfaulted run.faults (take b run.done))
      → replies_but on_done (take b run.done) run.faults ≡ replies_but on_resumed (take b cs) run.faults
  answers_same b are =
      let long : length (take b run.done) ≡ length (take b cs) =
      let first = length-take b run.done in let second = length-take b cs in let same = run.as_many in omega (arith, first, second, same) in
      (run_is_of_script before.disk m d (take b cs) (take b run.done) run.faults honest resumed long are status.Done 0).answers

  all_same : replies_but on_done run.done run.with_last ≡ replies_but on_resumed cs run.with_last
  all_same = (run_is_of_script before.disk m d cs run.done run.with_last honest resumed run.as_many run.are_done ended run.acked).answers

  front_done : (b : ℕ) → AreDoneFor right on_done (unfaulted run.with_last (take b cs)) (unfaulted run.with_last (take b run.done))
  front_done b = done_front run.with_last right 1 b on_done cs run.done run.as_many run.are_done

  -- of the first that are answered those are kept that are not answered `fault`
  pub kept_same : (xs : List Command) → unfaulted run.with_last (take run.acked xs) ≡ unfaulted run.faults (take run.acked xs)
  kept_same xs = elim run.counts.last [
    | inl none ↦ ap (λ f. unfaulted f (take run.acked xs)) none
    | inr next ↦
        ap (λ f. unfaulted f (take run.acked xs)) next
        ∙ kept_before_from 1 run.faults (suc run.acked) (take run.acked xs) (let long = length-take run.acked xs in omega (arith, long))
  ]

  answered_done : AreDoneFor right on_done (unfaulted run.faults (take run.acked cs)) (unfaulted run.faults (take run.acked run.done))
  answered_done =
      subst (λ l. AreDoneFor right on_done l (unfaulted run.faults (take run.acked run.done))) (kept_same cs)
      (subst (λ l. AreDoneFor right on_done (unfaulted run.with_last (take run.acked cs)) l) (kept_same run.done) (front_done run.acked))

  -- what is read against what was done
  read : IsRead on_done run.done run.replies.out (record { answered = run.acked; faults = run.faults })
  read = subst (IsRead on_done run.done run.replies.out) run.replies.told (faulted_is_read on_done run.done run.replies.out)

  -- the answers to the first of the script's commands
  abbrev first : List ℕ
  first = replies_but on_resumed (take run.acked cs) run.faults

  begins : run.replies.out ≡ first ++ read.left
  begins = read.begins ∙ ap (λ l. l ++ read.left) (answers_same run.acked answered_done)

  within : run.acked ≤ length cs
  within = let below = read.within in let same = run.as_many in omega (arith, below, same)

  pub size : length (take run.acked cs) ≡ run.acked
  size = length-take-le run.acked cs within

  size_done : length (take run.acked run.done) ≡ run.acked
  size_done = length-take-le run.acked run.done read.within

  pub numbers : AreFaults (length (take run.acked cs)) run.faults
  numbers = subst (λ n. AreFaults n run.faults) (sym size) run.counts.numbers

  numbers_done : AreFaults (length (take run.acked run.done)) run.faults
  numbers_done = subst (λ n. AreFaults n run.faults) (sym size_done) run.counts.numbers

  -- all answers, as far as they went out
  fronted : (more : List ℕ) → replies_but on_done run.done run.with_last ++ bad_line (length cs + 1) ≡ run.replies.out ++ more
      → replies_but on_resumed cs run.with_last ++ bad_line (length cs + 1) ≡ (first ++ read.left) ++ more
  fronted more is = ap (λ l. l ++ bad_line (length cs + 1)) (sym all_same) ∙ is ∙ ap (λ l. l ++ more) begins

  module _ (c : Command) (at : slice_get cs run.acked ≡ Some c) where
    -- the next command, and what was to be done for it
    abbrev next_done : Command
    next_done = get_or run.done run.acked Flush

    at_done : slice_get run.done run.acked ≡ Some next_done
    at_done = slice_get-get_or run.done run.acked Flush (let below = slice_get_within cs run.acked c at in let same = run.as_many in omega (arith, below, same))

    abbrev rest : List Command
    rest = drop (suc run.acked) cs

    -- its reply is the same, where it was not to be answered `fault`
    text_same : run.with_last ≡ run.faults → reply_behind on_done run.done run.acked run.faults next_done ≡ reply_behind on_resumed cs run.acked run.faults c
    text_same none =
        let text_done : List ℕ = reply_behind on_done run.done run.acked run.faults next_done in
        let text : List ℕ = reply_behind on_resumed cs run.acked run.faults c in
        let more_done = subst (λ f. AreDoneFor right on_done (unfaulted f (take (suc run.acked) cs)) (unfaulted f (take (suc run.acked) run.done))) none (front_done (suc run.acked)) in
        let long : replies_but on_done (take run.acked run.done) run.faults ++ (text_done ++ []) ≡ first ++ (text ++ []) =
        sym (ap (λ l. replies_but on_done l run.faults) (take_next run.done run.acked next_done at_done) ∙ (faults_are_in_front on_done (take run.acked run.done) (next_done ∷ []) run.faults numbers_done).replies)
        ∙ answers_same (suc run.acked) more_done
        ∙ ap (λ l. replies_but on_resumed l run.faults) (take_next cs run.acked c at) ∙ (faults_are_in_front on_resumed (take run.acked cs) (c ∷ []) run.faults numbers).replies in
        sym (append-nil text_done)
        ∙ append_cancel_left first (text_done ++ []) (text ++ []) (ap (λ l. l ++ (text_done ++ [])) (sym (answers_same run.acked answered_done)) ∙ long)
        ∙ append-nil text

    -- all answers begin with those to the first
    all_by_reply : run.with_last ≡ run.faults → replies_but on_resumed cs run.with_last ≡ first ++ replies_text (after on_resumed (unfaulted run.faults (take run.acked cs))) (c ∷ rest)
    all_by_reply none =
        ap (replies_but on_resumed cs) none ∙ ap (λ l. replies_but on_resumed l run.faults) (split_at cs run.acked c at)
        ∙ (faults_are_in_front on_resumed (take run.acked cs) (c ∷ rest) run.faults numbers).replies

    all_by_fault : run.with_last ≡ with_next run.acked run.faults
        → replies_but on_resumed cs run.with_last ≡ first ++ (fault_line ++ replies_text (after on_resumed (unfaulted run.faults (take run.acked cs))) rest)
    all_by_fault next =
        ap (replies_but on_resumed cs) next ∙ ap (λ n. replies_but on_resumed cs (with_next n run.faults)) (sym size)
        ∙ ap (λ l. replies_but on_resumed l (with_next (length (take run.acked cs)) run.faults)) (split_at cs run.acked c at)
        ∙ next_replies (take run.acked cs) c run.faults numbers on_resumed rest

    follows : (read.left ≡ []) ⊎ (IsCutOf fault_line read.left ⊎ IsCutOf (reply_behind on_resumed cs run.acked run.faults c) read.left)
    follows =
        let goes = run.replies.front in
        let bad : List ℕ = bad_line (length cs + 1) in
        let others : Machine = after on_resumed (unfaulted run.faults (take run.acked cs)) in
        elim run.counts.last [
          | inl none ↦
              let text : List ℕ = reply_behind on_resumed cs run.acked run.faults c in
              let left_out : List ℕ = replies_text (step others c).next rest in
              let same : text ++ (left_out ++ bad) ≡ read.left ++ goes.0 =
              behind_first first text left_out bad read.left goes.0 (ap (λ l. l ++ bad) (sym (all_by_reply none)) ∙ fronted goes.0 goes.1) in
              inr (inr (cut_of text read.left (left_out ++ bad) goes.0 same (subst (λ l. begins_with l read.left ≡ false) (text_same none) (read.ends next_done at_done).1)))
          | inr next ↦
              let left_out : List ℕ = replies_text others rest in
              let same : fault_line ++ (left_out ++ bad) ≡ read.left ++ goes.0 =
              behind_first first fault_line left_out bad read.left goes.0 (ap (λ l. l ++ bad) (sym (all_by_fault next)) ∙ fronted goes.0 goes.1) in
              inr (inl (cut_of fault_line read.left (left_out ++ bad) goes.0 same (read.ends next_done at_done).0))
        ]

  pub told_of_script : AreSpoken cs → faulted on_resumed cs run.replies.out ≡ record { answered = run.acked; faults = run.faults }
  told_of_script spoken = ap (faulted on_resumed cs) begins ∙ faulted_is_told on_resumed cs run.acked run.faults read.left spoken within run.counts.numbers follows
