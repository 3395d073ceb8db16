-- What a run may leave at `clear`, part by part.
use Rattle.std.proofs.Common.{◌≡◌, ◌∙◌, inl, inr, ⊎_elim, false, true, true≢false, suc, ℕ, ◌+◌, List, [], ◌∷◌, ◌++◌, length, take, Option, None, refl, sym, ap, subst, arith, length-append}
use Rattle.std.proofs.Math.Seq.{take-append-add, take-append_seam}
use Rattle.cache_store.specs.AtClear.{ChangesAtClear, IsNewAfter, IsOfClearing, KeepsAtClear}
use Rattle.cache_store.specs.Performing.{goes_by_records}
use Rattle.cache_store.proofs.Clearing.ClearPart.{both_new, new_in, same_keeps, then_keeps}
use Rattle.cache_theory.specs.Command.{Command}
use Rattle.cache_theory.specs.Command.Command.{ClearOrigin, Resume}
use Rattle.cache_theory.specs.Faulted.{AreFaults, unfaulted, with_next}
use Rattle.cache_theory.specs.Text.{IsSpoken}
use Rattle.cache_theory.proofs.Faults.FaultedOn.{unfaulted_next, unfaulted_on}
use Rattle.cache_tool.specs.MarkLeft.{ChangeMark, ChangesMark, IsLeftByOne, IsLeftInRun, KeepsMark, LeavesMark, MayMark}
use Rattle.cache_tool.specs.Verbs.{begun_of}
use Rattle.context_clear.specs.Mark.{mark_of}
use Rattle.disk_theory.specs.Sound.{IsQuiet, IsSound}
use Rattle.disk_theory.specs.State.{State, standing}
use Rattle.disk_theory.specs.declared.place.Place.TheVariants.{Clear}
use Rattle.index_theory.specs.AtClear.{KeepsClear}
use Rattle.index_theory.proofs.AtClearLaws.{image_may_be_at_clear, quiet_is_at_clear, quiet_is_clear_apart}

-- ---- the place is left alone

pub stays_mark : {s t : State} → t ≡ s → KeepsMark s t
unfolding KeepsMark
stays_mark {s} {t} same = same_keeps same

pub then_stays : (s t u : State) → KeepsMark s t → KeepsMark t u → KeepsMark s u
unfolding KeepsMark
then_stays s t u one two = then_keeps s t u one two

-- as a closing leaves it
pub kept_mark : (s t : State) → KeepsAtClear s t → KeepsMark s t
unfolding KeepsMark
kept_mark s t keeps = keeps

-- ---- what one command leaves

pub may_mark : (c : Command) (s t : State) → ChangesAtClear c s t → MayMark c s t
unfolding MayMark
may_mark c s t changes = changes

-- it goes by the records; and where its reply is printed, it leaves this whatever stood
what_is_new : (c : Command) (stood file : Option (List ℕ)) → IsNewAfter c stood file → (goes_by_records c ≡ true) × (IsSpoken c → IsNewAfter c None file)
what_is_new (ClearOrigin origin) stood file new = (refl, λ spoken. new)
what_is_new Resume stood file new = (refl, λ spoken. absurd spoken)
what_is_new c stood file new = absurd new

-- a command that is none of a clearing leaves the place alone
pub others_keep : (c : Command) (s t : State) → ((stood file : Option (List ℕ)) → IsNewAfter c stood file → ⊥) → MayMark c s t → KeepsMark s t
unfolding KeepsMark MayMark
others_keep c s t never changes = λ apart. new_in s t (never (standing s Clear)) (changes apart)

-- and so does one that does not go by the records
pub bare_keeps : (c : Command) (s t : State) → goes_by_records c ≡ false → MayMark c s t → KeepsMark s t
bare_keeps c s t bare = others_keep c s t (λ stood file new. absurd (true≢false (sym (what_is_new c stood file new).0 ∙ bare)))

-- ---- some commands

left_by_more : (cs ds : List Command) (file : Option (List ℕ)) → IsLeftByOne cs file → IsLeftByOne (cs ++ ds) file
left_by_more [] ds file left = absurd left
left_by_more (c ∷ cs) ds file (inl left) = inl left
left_by_more (c ∷ cs) ds file (inr left) = inr (left_by_more cs ds file left)

left_by_later : (cs ds : List Command) (file : Option (List ℕ)) → IsLeftByOne ds file → IsLeftByOne (cs ++ ds) file
left_by_later [] ds file left = left
left_by_later (c ∷ cs) ds file left = inr (left_by_later cs ds file left)

pub none_change_mark : (cs : List Command) (s t : State) → t ≡ s → ChangeMark cs s t
unfolding ChangeMark
none_change_mark cs s t same = λ apart. new_in s t (λ file never. absurd never) (same_keeps same apart)

-- what they may change, more of them may
pub more_change_mark : (cs ds : List Command) (s t : State) → ChangeMark cs s t → ChangeMark (cs ++ ds) s t
unfolding ChangeMark
more_change_mark cs ds s t change = λ apart. new_in s t (left_by_more cs ds) (change apart)

-- one command more
pub next_changes_mark : (cs : List Command) (c : Command) (s t u : State) → IsSpoken c → ChangeMark cs s t → MayMark c t u → ChangeMark (cs ++ c ∷ []) s u
unfolding ChangeMark MayMark
next_changes_mark cs c s t u spoken change changes = λ apart.
    let first = change apart in
    both_new s t u (new_in s t (left_by_more cs (c ∷ [])) first)
    (new_in t u (λ file new. left_by_later cs (c ∷ []) file (inl ((what_is_new c (standing t Clear) file new).1 spoken))) (changes first.apart))

pub one_changes_mark : (c : Command) (s t : State) → IsSpoken c → MayMark c s t → ChangeMark (c ∷ []) s t
one_changes_mark c s t spoken changes = next_changes_mark [] c s s t spoken (none_change_mark [] s s refl) changes

-- and one that changed nothing
pub same_changes_mark : (cs : List Command) (s t u : State) → u ≡ t → ChangeMark cs s t → ChangeMark cs s u
same_changes_mark cs s t u same change = subst (ChangeMark cs s) (sym same) change

-- ---- of a script, some of whose commands are answered `fault`

-- those that are kept of these and of one command more
pub kept_next : (cs : List Command) (c : Command) (faults : List ℕ) → AreFaults (length cs) faults → unfaulted faults (cs ++ c ∷ []) ≡ unfaulted faults cs ++ c ∷ []
kept_next cs c faults numbers = unfaulted_on 1 (suc (length cs)) faults cs (c ∷ []) (omega arith) numbers

-- which may be answered so, too
pub but_next : (cs : List Command) (c : Command) (faults : List ℕ) → AreFaults (length cs) faults → unfaulted (with_next (length cs) faults) (cs ++ c ∷ []) ≡ unfaulted faults cs
but_next cs c faults numbers = unfaulted_next 1 (suc (length cs)) faults cs c (omega arith) numbers

next_taken : (read rest : List Command) (acked : ℕ) (c : Command) → acked ≡ length read → take (acked + 1) ((read ++ c ∷ []) ++ rest) ≡ read ++ c ∷ []
next_taken read rest acked c same =
    let long : acked + 1 ≡ length (read ++ c ∷ []) = omega (arith, same, length-append read (c ∷ [])) in
    ap (λ n. take n ((read ++ c ∷ []) ++ rest)) long ∙ take-append_seam (read ++ c ∷ []) rest

module _ (read rest : List Command) (faults : List ℕ) (numbers : AreFaults (length read) faults) (acked : ℕ) (same : acked ≡ length read) (s t : State) where
  -- so many are acknowledged, and the next one may have begun
  pub begun_front : ChangeMark (unfaulted faults read) s t → ChangeMark (begun_of acked faults (read ++ rest)) s t
  begun_front change =
      let taken : take (acked + 1) (read ++ rest) ≡ read ++ take 1 rest = ap (λ n. take (n + 1) (read ++ rest)) same ∙ take-append-add read rest 1 in
      subst (λ l. ChangeMark l s t) (sym (ap (unfaulted faults) taken ∙ unfaulted_on 1 (suc (length read)) faults read (take 1 rest) (omega arith) numbers))
      (more_change_mark (unfaulted faults read) (take 1 rest) s t change)

  -- it has
  pub begun_next : (c : Command) → ChangeMark (unfaulted faults (read ++ c ∷ [])) s t → ChangeMark (begun_of acked faults ((read ++ c ∷ []) ++ rest)) s t
  begun_next c change = subst (λ l. ChangeMark (unfaulted faults l) s t) (sym (next_taken read rest acked c same)) change

  -- or was to be answered so, and has not
  pub begun_but_next : (c : Command) → ChangeMark (unfaulted faults read) s t → ChangeMark (begun_of acked (with_next acked faults) ((read ++ c ∷ []) ++ rest)) s t
  begun_but_next c change =
      subst (λ l. ChangeMark l s t)
      (sym (ap (unfaulted (with_next acked faults)) (next_taken read rest acked c same) ∙ ap (λ n. unfaulted (with_next n faults) (read ++ c ∷ [])) same ∙ but_next read c faults numbers)) change

-- ---- a run

-- the store was opened, and then a clearing was resumed for the mark that stands
pub opened_changes_mark : (s t : State) → (IsQuiet s → KeepsClear s t) → ChangesMark [] s t
unfolding ChangesMark
opened_changes_mark s t opened = λ quiet. new_in s t (λ file never. absurd never) (opened quiet)

pub resumed_changes_mark : (s t u : State) → standing t Clear ≡ standing s Clear → (IsQuiet s → KeepsClear s t) → ChangesAtClear Resume t u → ChangesMark [] s u
unfolding ChangesMark
resumed_changes_mark s t u same opened resumed = λ quiet.
    let first = opened quiet in
    both_new s t u (new_in s t (λ file never. absurd never) first)
    (new_in t u (λ file new. inl (subst (λ stood. IsOfClearing (mark_of stood) file) same new)) (resumed first.apart))

-- these commands came after it
pub then_change_mark : (cs : List Command) (s t u : State) → ChangesMark [] s t → ChangeMark cs t u → ChangesMark cs s u
unfolding ChangesMark ChangeMark
then_change_mark cs s t u begun change = λ quiet.
    let first = begun quiet in
    both_new s t u (new_in s t before first) (new_in t u (λ file new. inr new) (change first.apart))
  where
    before : (file : Option (List ℕ)) → IsLeftInRun (standing s Clear) [] file → IsLeftInRun (standing s Clear) cs file
    before file (inl resumed) = inl resumed
    before file (inr never) = absurd never

-- and then the place was left alone
pub then_keeps_mark : (cs : List Command) (s t u : State) → ChangesMark cs s t → KeepsMark t u → ChangesMark cs s u
unfolding ChangesMark KeepsMark
then_keeps_mark cs s t u change keeps = λ quiet.
    let first = change quiet in
    both_new s t u first (new_in t u (λ file never. absurd never) (keeps first.apart))

-- so each image has there what may be left
pub leaves_mark : (cs : List Command) (s t : State) → ChangesMark cs s t → LeavesMark cs s t
unfolding ChangesMark
leaves_mark cs s t change quiet image is =
    let left = change quiet in
    ⊎_elim (λ before. inl (quiet_is_at_clear s (image Clear) quiet before)) (λ new. inr new) (left.found (image Clear) (image_may_be_at_clear t image left.apart is))

-- the same after a closing
pub closed_leaves_mark : (cs : List Command) (s t u v : State) → ChangesMark [] s t → ChangeMark cs t u → KeepsMark u v → LeavesMark cs s v
closed_leaves_mark cs s t u v begun change keeps = leaves_mark cs s v (then_keeps_mark cs s u v (then_change_mark cs s t u begun change) keeps)

-- where the place was left alone all the time
pub kept_change_mark : (s t : State) → KeepsMark s t → ChangeMark [] s t
unfolding ChangeMark KeepsMark
kept_change_mark s t keeps = λ apart. new_in s t (λ file never. absurd never) (keeps apart)

-- and nothing was done
pub idle_leaves_mark : (s t : State) → IsSound s → t ≡ s → LeavesMark [] s t
idle_leaves_mark s t sound same =
    leaves_mark [] s t (opened_changes_mark s t (λ quiet. same_keeps same (quiet_is_clear_apart s quiet sound)))

-- and none has begun
pub none_leaves_mark : (cs : List Command) (s t : State) → LeavesMark [] s t → LeavesMark cs s t
none_leaves_mark cs s t leaves quiet image is = elim (leaves quiet image is) [
  | inl stood ↦ inl stood
  | inr (inl resumed) ↦ inr (inl resumed)
  | inr (inr never) ↦ absurd never
]
