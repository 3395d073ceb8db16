-- Wherever a script stopped, a crash leaves what the marks of its own commands allow.
use Rattle.std.proofs.Common.{◌≡◌, inl, inr, ℕ, ◌+◌, ◌<◌, ◌^◌, ◌≤◌, List, [], ◌∷◌, length, take, Option, Some, None, refl, sym, ap, subst, ◌∙◌, arith}
use Rattle.std.specs.List.{AllByRecursion}
use Rattle.std.specs.Prelude.{IfSome, IsSome, IsSomeAnd, min, slice_get, suc}
use Rattle.std.specs.Io.KnownBytes.{Appends, Keeps}
use Rattle.std.proofs.lemmas.List.{append_cancel_left, append-nil, length-take}
use Rattle.cache_base.specs.declared.status.Status.{Status}
use Rattle.cache_base.specs.declared.status.Status.TheVariants as status
use Rattle.cache_store.specs.DoneFor.{AreOfShelf, IsResumedBy}
use Rattle.cache_store.specs.Open.{StartsOn}
use Rattle.cache_theory.specs.Command.{Command}
use Rattle.cache_theory.specs.Command.Command.{ClearOrigin, Resume}
use Rattle.cache_theory.specs.Crash.{IsCrashSafe}
use Rattle.cache_theory.specs.Faulted.{Faulted, faulted, unfaulted}
use Rattle.cache_theory.specs.Given.{IsGiven}
use Rattle.cache_theory.specs.Machine.{Machine}
use Rattle.cache_theory.specs.Marks.{Marks, acked as acked_marks, marks_of}
use Rattle.cache_theory.specs.Proper.{IsProper, OpensProper}
use Rattle.cache_theory.specs.Session.{marks_between}
use Rattle.cache_theory.specs.Step.{step}
use Rattle.cache_theory.specs.Text.{CommandsIn, IsCommand}
use Rattle.cache_theory.proofs.Faults.FaultedTold.{faulted_is_told}
use Rattle.cache_script.proofs.ReaderLaws.{is_given}
use Rattle.cache_tool.specs.Beginning.{AreAtOpening}
use Rattle.cache_tool.specs.SameAsScript.{acked_in, begun_in}
use Rattle.cache_tool.specs.Clearings.{LeavesNoneOrAll}
use Rattle.cache_tool.specs.Theorem.{ClearIsNoneOrAll, ScriptCall, StoppedClearingIsNoneOrAll, told}
use Rattle.cache_tool.specs.Verbs.{HasNotBegun, PrintsReplies, marks_behind}
use Rattle.cache_tool.specs.World.{World, output_of}
use Rattle.cache_tool.proofs.ClearedInRun.{more_kept}
use Rattle.cache_tool.proofs.Clearings.{safe_clears_none}
use Rattle.cache_tool.proofs.DoneLaws.{resumed_where, script_is_spoken}
use Rattle.cache_tool.proofs.FaultedParts.{kept_before_from}
use Rattle.cache_tool.proofs.PlainRun.{crash_more, run_says_plainly}
use Rattle.cache_tool.proofs.SameLaws.{done_is_same, marks_are_of_script, run_is_of_script}
use Rattle.cache_tool.proofs.Stops.ToldScripts.{told_of_script}
use Rattle.context_clear.specs.Mark.{mark_of}
use Rattle.disk_theory.specs.Sound.{IsQuiet}
use Rattle.disk_theory.specs.State.{State, standing}
use Rattle.index_theory.specs.Honest.{Honest}

-- ---- the machine at an opening, and the commands of a script

opens_proper : OpensProper
opens_proper now shelf mark rest small table bytes = record {
  moment = small;
  shelf = table;
  users = record { rising = tt };
  contents = bytes;
  objects = λ i o at. absurd (cc);
  slots = λ s slot at. absurd (cc);
  user = λ name i at. absurd (cc);
  only_user = λ name i user. absurd (let none = user.in_use.number in omega (arith, none));
  stored = λ name i at finished. absurd (cc);
  unstored = λ name i at unfinished. absurd (cc);
  writer = λ i in_use unfinished. absurd (let none = in_use.number in omega (arith, none));
}

pub starts_proper : (now : ℕ) (s : State) (m : Machine) → now < 2 ^ 32 → StartsOn now s m → IsProper m
starts_proper now s m small starts =
    subst IsProper (sym starts.is_opened) (opens_proper now starts.shelf (standing s _) _ small starts.is_shelf.table starts.is_shelf.bytes)

pub all_given : (cs : List Command) → AllByRecursion IsCommand cs → AllByRecursion IsGiven cs
all_given [] are = tt
all_given (c ∷ cs) are = (is_given c are.0.fields, all_given cs are.1)

-- ---- what a caller has

-- what was printed is one
pub out_is_one : (was is : Option (List ℕ)) (a b : List ℕ) → IsSome was → Appends was is a → Appends was is b → a ≡ b
out_is_one None is a b some first second = absurd (cc)
out_is_one (Some xs) None a b some first second = absurd first
out_is_one (Some xs) (Some ys) a b some first second = append_cancel_left xs a b (sym first ∙ second)

none_out : (was is : Option (List ℕ)) (a : List ℕ) → IsSome was → Appends was is a → Keeps was is → a ≡ []
none_out None is a some first keeps = absurd (cc)
none_out (Some xs) None a some first keeps = absurd first
none_out (Some xs) (Some ys) a some first keeps = append_cancel_left xs a [] (sym first ∙ keeps ∙ sym (append-nil xs))

-- the bytes of the source, and what the clause says of them
pub of_source : (o : Option (List ℕ)) (P Q : List ℕ → Type 0) → IfSome o P → IsSomeAnd o Q → (bytes : List ℕ) × (P bytes × Q bytes)
of_source None P Q all some = absurd some
of_source (Some bytes) P Q all some = (bytes, (all, some))

-- ---- the marks

-- the marks of the script's own commands, where so many are answered, and these by `fault`
abbrev marks_told : Machine → List Command → Faulted → Marks
marks_told m cs t = marks_between m (begun_in cs t.faults t.answered) (acked_in cs t.faults t.answered) (length (begun_in cs t.faults t.answered))

pub acked_within : (cs : List Command) (t : Faulted) → acked_in cs t.faults t.answered ≤ length (begun_in cs t.faults t.answered)
acked_within cs t = let more = more_kept t.faults 1 t.answered (min (t.answered + 1) (length cs)) cs (omega arith) in omega (arith, more)

-- what was done for `Resume` has the marks of it
pub resumed_marks : (s : State) (m : Machine) (d : Command) → Honest (standing s) → IsResumedBy (AreAtOpening s m) (mark_of m.mark) m d → marks_between m (d ∷ []) 1 1 ≡ marks_between m (Resume ∷ []) 1 1
resumed_marks s m d honest resumed =
    let are = resumed_where (AreAtOpening s m) (AreOfShelf (Honest (standing s)) m) (λ records at. at.honest) (mark_of m.mark) m d resumed in
    (done_is_same s m (Resume ∷ []) (d ∷ []) honest (are, tt)).marks 1 1

-- the run did not begin: no more than that was done
pub unbegun_crash : (m : Machine) (ended : Status) (before now : World) → IsQuiet before.disk → Honest (standing before.disk) → HasNotBegun m ended (output_of before) (output_of now)
    → IsCrashSafe now.disk (marks_between m (Resume ∷ []) 1 1)
unbegun_crash m ended before now quiet honest failed = elim failed.leaves [
  | inl leaves ↦ crash_more now.disk m (Resume ∷ []) (marks_of m) (leaves.crash quiet)
  | inr (d, (resumed, leaves)) ↦ subst (IsCrashSafe now.disk) (resumed_marks before.disk m d honest resumed) (leaves.crash quiet)
]

module _ (m : Machine) (cs : List Command) (out : List ℕ) (before now : World) (script : ScriptCall m cs out before now) where
  abbrev honest : Honest (standing before.disk)
  honest = script.clean.honest

  -- the run did not begin
  module _ (none : out ≡ []) (commands : AllByRecursion IsCommand cs) where
    none_told : told m cs out ≡ record { answered = 0; faults = [] }
    none_told =
        ap (faulted (step m Resume).next cs) none
        ∙ faulted_is_told (step m Resume).next cs 0 [] [] (script_is_spoken cs commands) (omega arith) tt (λ c at. inl refl)

  -- so what was printed is told by what the run came to
  told_by : (P : Faulted → Type 0)
      → ((bytes : List ℕ) (d : Command) → IsResumedBy (AreAtOpening before.disk m) (mark_of m.mark) m d → (run : PrintsReplies m d bytes cs script.ended before now) → P (record { answered = run.acked; faults = run.faults }))
      → (HasNotBegun m script.ended (output_of before) (output_of now) → P (record { answered = 0; faults = [] })) → P (told m cs out)
  told_by P begun unbegun =
      let came = of_source before.source.left _ (λ bytes. CommandsIn bytes cs) script.clean.call.performs script.spelled in
      let commands = came.1.1.front.commands in
      elim (came.1.0 m cs script.clean.call.opened came.1.1) [
        | inl ran ↦
            let run = ran.1.1 in
            let same : out ≡ run.replies.out = out_is_one before.taken now.taken out run.replies.out script.sink script.printed run.replies.printed in
            let told_is = ap (faulted (step m Resume).next cs) same ∙ told_of_script m ran.0 came.0 cs script.ended before now run honest ran.1.0 (script_is_spoken cs commands) in
            subst P (sym told_is) (begun came.0 ran.0 ran.1.0 run)
        | inr failed ↦
            let none = none_out before.taken now.taken out script.sink script.printed failed.0.silent in
            subst P (sym (none_told none commands)) (unbegun failed.0)
      ]

  -- more may have begun
  abbrev next : List Command
  next = unfaulted [] (take (min 1 (length cs)) cs)

  unbegun_marks : HasNotBegun m script.ended (output_of before) (output_of now) → IsCrashSafe now.disk (marks_told m cs (record { answered = 0; faults = [] }))
  unbegun_marks failed = crash_more now.disk (step m Resume).next (take (length next) next) (acked_marks m Resume (marks_of m)) (unbegun_crash m script.ended before now script.clean.quiet honest failed)

  -- it began
  begun_marks : (bytes : List ℕ) (d : Command) → IsResumedBy (AreAtOpening before.disk m) (mark_of m.mark) m d
      → (run : PrintsReplies m d bytes cs script.ended before now) → IsCrashSafe now.disk (marks_told m cs (record { answered = run.acked; faults = run.faults }))
  begun_marks bytes d resumed run =
      let plain = run_says_plainly m d bytes cs script.ended before now run in
      subst (IsCrashSafe now.disk) (run_is_of_script before.disk m d cs plain.done run.faults honest resumed plain.as_many plain.are_done status.Done run.acked).marks (plain.crash script.clean.quiet)

  pub stopped_marks : IsCrashSafe now.disk (marks_told m cs (told m cs out))
  stopped_marks = told_by (λ t. IsCrashSafe now.disk (marks_told m cs t)) begun_marks unbegun_marks

  -- ---- a clearing that comes next

  module _ (origin : List ℕ) where
    -- so it is said where so many are answered, and these by `fault`
    abbrev LeavesOf : Faulted → Type 0
    LeavesOf t = LeavesNoneOrAll origin (marks_behind m Resume cs t.faults t.answered t.answered) now.disk

    -- the numbers of the next one do not matter before it
    same_kept : (bytes : List ℕ) (d : Command) (run : PrintsReplies m d bytes cs script.ended before now) (xs : List Command) → unfaulted run.with_last (take run.acked xs) ≡ unfaulted run.faults (take run.acked xs)
    same_kept bytes d run xs = elim run.counts.last [
      | inl same ↦ ap (λ f. unfaulted f (take run.acked xs)) same
      | inr next ↦ ap (λ f. unfaulted f (take run.acked xs)) next ∙ kept_before_from 1 run.faults (suc run.acked) (take run.acked xs) (let short = length-take run.acked xs in omega (arith, short))
    ]

    -- these are acknowledged, and no more has begun
    abbrev acked_only : Command → List Command → Marks
    acked_only d l = marks_between m (d ∷ l) (suc (length l)) (suc (length l))

    next_cleared : (bytes : List ℕ) (d : Command) → IsResumedBy (AreAtOpening before.disk m) (mark_of m.mark) m d → (run : PrintsReplies m d bytes cs script.ended before now)
        → slice_get cs run.acked ≡ Some (ClearOrigin origin) → LeavesOf (record { answered = run.acked; faults = run.faults })
    next_cleared bytes d resumed run next =
        subst (λ w. LeavesNoneOrAll origin w now.disk)
        (ap (acked_only d) (sym (same_kept bytes d run run.done)) ∙ marks_are_of_script before.disk m d cs run.done run.with_last honest resumed run.as_many run.are_done run.acked run.acked ∙ ap (acked_only Resume) (same_kept bytes d run cs))
        (run.clearing origin next (inl honest))

    stopped_clearing : slice_get cs (told m cs out).answered ≡ Some (ClearOrigin origin) → LeavesOf (told m cs out)
    stopped_clearing =
        told_by (λ t. slice_get cs t.answered ≡ Some (ClearOrigin origin) → LeavesOf t) next_cleared
        (λ failed comes. safe_clears_none origin (acked_marks m Resume (marks_of m)) now.disk (unbegun_crash m script.ended before now script.clean.quiet honest failed))

  pub script_proper : IsProper m
  script_proper = starts_proper script.moment before.disk m script.clean.call.small script.clean.call.opened

  pub script_commands : AllByRecursion IsCommand cs
  script_commands = (of_source before.source.left _ (λ bytes. CommandsIn bytes cs) script.clean.call.performs script.spelled).1.1.front.commands

pub clear_is_none_or_all : ClearIsNoneOrAll
clear_is_none_or_all origin moment m ended before now clean = elim (clean.call.performs m clean.call.opened) [
  | inl (d, (resumed, inl (e, (goes, (prints, clears))))) ↦
      subst (λ w. LeavesNoneOrAll origin w now.disk) (resumed_marks before.disk m d clean.honest resumed) (clears origin refl clean.honest)
  | inl (d, (resumed, inr faulted)) ↦
      safe_clears_none origin (acked_marks m Resume (marks_of m)) now.disk (subst (IsCrashSafe now.disk) (resumed_marks before.disk m d clean.honest resumed) (faulted.leaves.crash clean.quiet))
  | inr failed ↦ safe_clears_none origin (acked_marks m Resume (marks_of m)) now.disk (unbegun_crash m ended before now clean.quiet clean.honest failed)
]

pub stopped_clearing_is_none_or_all : StoppedClearingIsNoneOrAll
stopped_clearing_is_none_or_all m cs out before now script origin next = stopped_clearing m cs out before now script origin next
