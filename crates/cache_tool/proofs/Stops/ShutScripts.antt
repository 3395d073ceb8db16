-- What a script leaves that was run to the closing of the store.
use Rattle.std.proofs.Common.{◌≡◌, ◌⊎◌, inl, inr, ℕ, suc, ◌+◌, ◌-◌, ◌≤◌, List, [], ◌∷◌, ◌++◌, length, take, drop, true, false, Some, None, refl, sym, ap, subst, ◌∙◌, arith, take-append-drop}
use Rattle.std.specs.Prelude.{min}
use Rattle.std.specs.List.{AllByRecursion}
use Rattle.std.proofs.Math.Seq.{take-append_seam}
use Rattle.std.proofs.lemmas.List.{append-nil, length-append, take_all}
use Rattle.cache_base.specs.declared.status.Status.{Status}
use Rattle.cache_base.specs.declared.status.Status.TheVariants as status
use Rattle.cache_store.specs.DoneFor.{IsResumedBy}
use Rattle.cache_store.specs.Open.{IsHonest, IsShut}
use Rattle.cache_theory.specs.Command.{Command}
use Rattle.cache_theory.specs.Command.Command.{Resume}
use Rattle.cache_theory.specs.Covers.{covers}
use Rattle.cache_theory.specs.Faulted.{AreFaults, Faulted, faulted, unfaulted, with_next}
use Rattle.cache_theory.specs.Given.{IsGiven}
use Rattle.cache_theory.specs.Machine.{Machine}
use Rattle.cache_theory.specs.Step.{after, step}
use Rattle.cache_theory.specs.Table.{get}
use Rattle.cache_theory.specs.Text.{CommandsIn}
use Rattle.cache_theory.specs.Wording.{IsWrittenIn, state_at}
use Rattle.cache_theory.proofs.Clears.ClearedNames.{resumed_leaves_none}
use Rattle.cache_theory.proofs.Clears.ClearedSessions.{written_among_more}
use Rattle.cache_theory.proofs.Clears.MarkStays.{no_mark_is_left}
use Rattle.cache_theory.proofs.Faults.FaultedOn.{faults_are_in_front}
use Rattle.cache_tool.specs.Beginning.{AreAtOpening}
use Rattle.cache_tool.specs.SameAsScript.{begun_in}
use Rattle.cache_tool.specs.Script.{performed}
use Rattle.cache_tool.specs.Statuses.{IsClosing}
use Rattle.cache_tool.specs.Theorem.{IndexIsScan, ScriptCall, ScriptDoesStoppedClearing, ScriptUpdatesIndex, begun, told}
use Rattle.cache_tool.specs.Verbs.{PrintsReplies}
use Rattle.cache_tool.specs.World.{World}
use Rattle.cache_tool.proofs.ClearedInRun.{all_kept}
use Rattle.cache_tool.proofs.DoneLaws.{script_is_spoken}
use Rattle.cache_tool.proofs.FaultedParts.{kept_before, next_kept}
use Rattle.cache_tool.proofs.SameLaws.{run_is_of_script}
use Rattle.cache_tool.proofs.Scripts.ScriptMarks.{begun_next}
use Rattle.cache_tool.proofs.Stops.RunLeaves.{unclosed}
use Rattle.cache_tool.proofs.Stops.StoppedScripts.{all_given, of_source, out_is_one, script_commands, script_proper}
use Rattle.cache_tool.proofs.Stops.ToldScripts.{kept_same, numbers, size, told_of_script}
use Rattle.cache_tool.proofs.Stops.WrittenSince.{found_or_written, no_mark_after_all}
use Rattle.context_clear.specs.Mark.{mark_of}
use Rattle.disk_theory.specs.State.{standing}
use Rattle.disk_theory.specs.declared.place.Place.TheVariants.{Clear}
use Rattle.entry_file.specs.EntryFile.{found, read_for, whole_in}
use Rattle.entry_file.specs.Version.{Version}
use Rattle.entry_name.specs.EntryName.{file_name}
use Rattle.index_theory.specs.Ever.{entries}
use Rattle.index_theory.specs.Honest.{Honest}
use Rattle.index_theory.specs.Start.{start_of}
use Rattle.index_theory.specs.declared.kinds.Start.TheVariants.{Ready}
use Rattle.index_theory.proofs.StartLaws.{ready_is_scan}

-- those that were performed are those that are acknowledged, and maybe one more
performed_is : (ended : Status) (a all : ℕ) → (performed ended a all ≡ a) ⊎ (performed ended a all ≡ min (a + 1) all)
performed_is status.Sink a all = inr refl
performed_is status.Done a all = inl refl
performed_is status.Script a all = inl refl
performed_is status.Source a all = inl refl
performed_is status.No a all = inl refl
performed_is status.Disk a all = inl refl
performed_is status.Memory a all = inl refl
performed_is status.Words a all = inl refl

-- the store was closed after some of the commands that may have begun, `Resume` among them
record ShutAfter (m : Machine) (done : List Command) (before now : World) : Type 0 where
  number : ℕ
  some : 1 ≤ number
  most : number ≤ length done
  shut : IsShut now.disk (state_at m done number)
  honest : IsHonest now.disk (state_at m done number)

module _ (m : Machine) (d : Command) (bytes : List ℕ) (cs : List Command) (ended : Status) (before now : World) (run : PrintsReplies m d bytes cs ended before now)
    (honest : Honest (standing before.disk)) (resumed : IsResumedBy (AreAtOpening before.disk m) (mark_of m.mark) m d) where
  -- of the script's commands, those that are acknowledged, and one more
  abbrev answered : List Command
  answered = take run.acked cs

  abbrev others : List Command
  others = drop run.acked cs

  abbrev kept : List Command
  kept = unfaulted run.faults answered

  abbrev kept_and_next : List Command
  kept_and_next = unfaulted run.faults (take (min (run.acked + 1) (length cs)) cs)

  long : length answered ≡ run.acked
  long = size m d bytes cs ended before now run honest resumed

  numbered : AreFaults (length answered) run.faults
  numbered = numbers m d bytes cs ended before now run honest resumed

  and_next : take (min (run.acked + 1) (length cs)) cs ≡ answered ++ take 1 others
  and_next =
      ap (λ l. take (min (run.acked + 1) (length l)) l) (sym (take-append-drop run.acked cs))
      ∙ ap (λ n. take (min (n + 1) (length (answered ++ others))) (answered ++ others)) (sym long) ∙ begun_next answered others

  front : kept_and_next ≡ kept ++ take 1 others
  front = ap (unfaulted run.faults) and_next ∙ (faults_are_in_front (step m Resume).next answered (take 1 others) run.faults numbered).kept

  next_out : (es : List Command) → unfaulted (with_next run.acked run.faults) (answered ++ take 1 es) ≡ kept
  next_out es = ap (λ n. unfaulted (with_next n run.faults) (answered ++ take 1 es)) (sym long) ∙ go es
    where
      go : (es : List Command) → unfaulted (with_next (length answered) run.faults) (answered ++ take 1 es) ≡ kept
      go [] = ap (unfaulted (with_next (length answered) run.faults)) (append-nil answered) ∙ kept_before answered run.faults
      go (e ∷ es) = next_kept answered e run.faults numbered (step m Resume).next [] ∙ append-nil kept

  -- those that were performed
  were_performed : (unfaulted run.with_last (take (performed ended run.acked (length cs)) cs) ≡ kept) ⊎ (unfaulted run.with_last (take (performed ended run.acked (length cs)) cs) ≡ kept_and_next)
  were_performed = elim (performed_is ended run.acked (length cs)) [
    | inl first ↦ inl (ap (λ n. unfaulted run.with_last (take n cs)) first ∙ kept_same m d bytes cs ended before now run honest resumed cs)
    | inr more ↦ elim run.counts.last [
      | inl none ↦ inr (ap (λ n. unfaulted run.with_last (take n cs)) more ∙ ap (λ f. unfaulted f (take (min (run.acked + 1) (length cs)) cs)) none)
      | inr next ↦ inl (ap (λ n. unfaulted run.with_last (take n cs)) more ∙ ap (λ f. unfaulted f (take (min (run.acked + 1) (length cs)) cs)) next ∙ ap (unfaulted (with_next run.acked run.faults)) and_next ∙ next_out others)
    ]
  ]

  abbrev all : List Command
  all = begun_in cs run.faults run.acked

  by_state : (n : ℕ) → 1 ≤ n → n ≤ length all → after m (Resume ∷ unfaulted run.with_last (take (performed ended run.acked (length cs)) cs)) ≡ state_at m all n → IsClosing ended → ShutAfter m all before now
  by_state n some most same closing =
      let states = (run_is_of_script before.disk m d cs run.done run.with_last honest resumed run.as_many run.are_done ended run.acked).states ∙ same in
      record {
        number = n;
        some = some;
        most = most;
        shut = subst (IsShut now.disk) states (run.leaves.shut closing);
        honest = subst (IsHonest now.disk) states (run.leaves.honest closing (inl honest));
      }

  shut_after : IsClosing ended → ShutAfter m all before now
  shut_after closing = elim were_performed [
    | inl first ↦
        by_state (suc (length kept)) (omega arith) (let joined = length-append kept (take 1 others) in let parts = ap length front in omega (arith, joined, parts))
        (ap (λ l. after m (Resume ∷ l)) (first ∙ sym (ap (take (length kept)) front ∙ take-append_seam kept (take 1 others)))) closing
    | inr more ↦
        by_state (length all) (omega arith) (omega arith) (ap (λ l. after m (Resume ∷ l)) (more ∙ sym (take_all (length kept_and_next) kept_and_next (omega arith)))) closing
  ]

  -- where all commands were answered, after all of them
  shut_done : ended ≡ status.Done → IsHonest now.disk (after m all)
  shut_done done =
      let whole : run.acked ≡ length cs = run.all (inl done) in
      let first : performed ended run.acked (length cs) ≡ run.acked = ap (λ e. performed e run.acked (length cs)) done in
      let same : take run.acked cs ≡ take (min (run.acked + 1) (length cs)) cs = ap (λ n. take n cs) (omega (arith, whole)) in
      let states = (run_is_of_script before.disk m d cs run.done run.with_last honest resumed run.as_many run.are_done ended run.acked).states
      ∙ ap (λ l. after m (Resume ∷ l))
      (ap (λ n. unfaulted run.with_last (take n cs)) first ∙ kept_same m d bytes cs ended before now run honest resumed cs ∙ ap (unfaulted run.faults) same) in
      subst (IsHonest now.disk) states (run.leaves.honest (subst IsClosing (sym done) tt) (inl honest))

-- ---- what a caller has

module _ (m : Machine) (cs : List Command) (out : List ℕ) (before now : World) (script : ScriptCall m cs out before now) where
  -- what was done for `Resume`, and the replies
  record Began : Type 0 where
    bytes : List ℕ
    first : Command
    resumed : IsResumedBy (AreAtOpening before.disk m) (mark_of m.mark) m first
    run : PrintsReplies m first bytes cs script.ended before now
    told_is : told m cs out ≡ record { answered = run.acked; faults = run.faults }

  began : IsClosing script.ended → Began
  began closing =
      let came = of_source before.source.left _ (λ bytes. CommandsIn bytes cs) script.clean.call.performs script.spelled in
      elim (came.1.0 m cs script.clean.call.opened came.1.1) [
        | inl ran ↦
            let run = ran.1.1 in
            let same : out ≡ run.replies.out = out_is_one before.taken now.taken out run.replies.out script.sink script.printed run.replies.printed in
            record {
              bytes = came.0;
              first = ran.0;
              resumed = ran.1.0;
              run = run;
              told_is =
                  ap (faulted (step m Resume).next cs) same
                  ∙ told_of_script m ran.0 came.0 cs script.ended before now run script.clean.honest ran.1.0 (script_is_spoken cs came.1.1.front.commands);
            }
        | inr failed ↦ absurd (unclosed script.ended failed.0.failed closing)
      ]

  abbrev begun_by : Faulted → List Command
  begun_by t = begun_in cs t.faults t.answered

  script_shut : IsClosing script.ended → ShutAfter m (begun m cs out) before now
  script_shut closing =
      let b = began closing in
      subst (λ t. ShutAfter m (begun_by t) before now) (sym b.told_is) (shut_after m b.first b.bytes cs script.ended before now b.run script.clean.honest b.resumed closing)

  script_updates : script.ended ≡ status.Done → (after m (begun m cs out)).rest ≡ [] → (start_of (standing now.disk) ≡ Ready) × IndexIsScan (standing now.disk)
  script_updates done ended =
      let b = began (subst IsClosing (sym done) tt) in
      let honest : IsHonest now.disk (after m (begun m cs out)) =
      subst (λ t. IsHonest now.disk (after m (begun_by t))) (sym b.told_is) (shut_done m b.first b.bytes cs script.ended before now b.run script.clean.honest b.resumed done) in
      let ready = honest.trusted ended in
      (ready, λ records applied. (ready_is_scan (standing now.disk) records ready applied).0 honest.honest)

  script_clears : IsClosing script.ended → (origin : ℕ) → mark_of (standing before.disk Clear) ≡ Some origin
      → (standing now.disk Clear ≡ None)
      × ((key : List ℕ) (v : Version) → found (entries (standing now.disk)) key ≡ Some v → covers origin v.key v.header ≡ true → IsWrittenIn m (begun m cs out) 1 (length (begun m cs out)) (file_name key) v)
  script_clears closing origin marked =
      let shut = script_shut closing in
      let done : List Command = begun m cs out in
      let n : ℕ = shut.number in
      let k : ℕ = n - 1 in
      let sum : n ≡ 1 + k = let some = shut.some in omega (arith, some) in
      let next : n ≡ suc k = let some = shut.some in omega (arith, some) in
      let t = told m cs out in
      let mark_is : mark_of m.mark ≡ Some origin = ap (λ (u : Machine). mark_of u.mark) script.clean.call.opened.is_opened ∙ marked in
      let given : AllByRecursion IsGiven done = (tt, all_kept IsGiven t.faults 1 (min (t.answered + 1) (length cs)) cs (all_given cs (script_commands m cs out before now script))) in (
        shut.shut.mark ∙ ap (λ i. (state_at m done i).mark) next ∙ no_mark_after_all (step m Resume).next (take k (unfaulted t.faults (take (min (t.answered + 1) (length cs)) cs))) (no_mark_is_left m Resume (λ keeps. keeps)),
        λ key v is covered.
            let there : found (get (state_at m done n).shelf) key ≡ Some v = ap (λ o. whole_in (read_for key o)) (sym (shut.shut.closed.entries_are (file_name key))) ∙ is in
            elim (found_or_written m done (script_proper m cs out before now script) given 1 key v k n sum shut.most there) [
              | inl first ↦ absurd (let none = resumed_leaves_none m origin key v mark_is first in let both : true ≡ false = sym covered ∙ none in cc)
              | inr written ↦ written_among_more m done 1 1 n (length done) (file_name key) v (omega arith) shut.most written
            ],
      )

pub script_does_stopped_clearing : ScriptDoesStoppedClearing
script_does_stopped_clearing m cs out before now script closing origin marked = script_clears m cs out before now script closing origin marked

pub script_updates_index : ScriptUpdatesIndex
script_updates_index m cs out before now script done ended = script_updates m cs out before now script done ended
