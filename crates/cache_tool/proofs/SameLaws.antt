-- In an honest directory what is done for commands comes to the same as the commands themselves.
use Rattle.std.proofs.Common.{◌≡◌, ◌⊎◌, inl, ℕ, zero, suc, ◌+◌, Bool, true, false, IsTrue, List, [], ◌∷◌, ◌++◌, Option, None, Some, cond, length, take, drop, refl, sym, ap, ap₂, subst, ◌∙◌, arith}
use Rattle.std.specs.Prelude.{is_some, min}
use Rattle.cache_base.specs.Checks.{first_failing}
use Rattle.cache_store.specs.DoneFor.{AreOfShelf, IsDoneFor, IsResumedBy}
use Rattle.cache_theory.specs.Checks.{checks}
use Rattle.cache_theory.specs.Command.{Command}
use Rattle.cache_theory.specs.Command.Command.{ClearNames, ClearOrigin, Evict, EvictNames, HasEntry, HasGiven, ListGiven, ListRecords, Resume, ResumeNames, Verify, VerifyRecords}
use Rattle.cache_theory.specs.Covers.{cleared, cleared_by, covered_by, resumed}
use Rattle.cache_theory.specs.Faulted.{fault_line, is_faulted, replies_from, unfaulted, unfaulted_from}
use Rattle.cache_theory.specs.Machine.{Machine, open_names}
use Rattle.cache_theory.specs.Marks.{Marks, acked, all_acked, all_begun, begun, begun_by, marks_of}
use Rattle.cache_theory.specs.Step.{Answer, after, effect, evicted, replies, step}
use Rattle.cache_theory.specs.Text.{reply_text}
use Rattle.cache_theory.specs.declared.refusal.Refusal.{Refusal}
use Rattle.cache_theory.proofs.Clears.Clearing.{clear_goes_by_scan, resume_is_of_names}
use Rattle.cache_store.proofs.Clearing.StoppedResume.{resumed_by_scan}
use Rattle.cache_tool.specs.Beginning.{AreAtOpening}
use Rattle.cache_tool.specs.DoneFor.{AreDoneFor}
use Rattle.cache_tool.specs.Right.{is_rebuild}
use Rattle.cache_tool.specs.SameAsScript.{DoneIsSame, RunIsOfScript}
use Rattle.cache_tool.specs.Script.{performed}
use Rattle.cache_tool.specs.Verbs.{marks_behind}
use Rattle.cache_tool.proofs.DoneLaws.{done_as_long}
use Rattle.context_clear.specs.Mark.{mark_of}
use Rattle.disk_theory.specs.State.{State, standing}
use Rattle.evictor.specs.Evict.{victims}
use Rattle.index_record.specs.declared.record.IndexRecord.{IndexRecord}
use Rattle.index_theory.specs.Honest.{Honest}
use Rattle.index_theory.specs.Scan.{scan}

-- ---- one command

-- the step is the same, and so are the marks where it has begun, and where it is acknowledged
pub record IsSame (m : Machine) (c d : Command) : Type 0 where
  pub steps : step m d ≡ step m c
  pub begins : (w : Marks) → begun m d w ≡ begun m c w
  pub ends : (w : Marks) → acked m d w ≡ acked m c w

same_itself : (m : Machine) (c d : Command) → d ≡ c → IsSame m c d
same_itself m c d is = record { steps = ap (step m) is; begins = λ w. ap (λ x. begun m x w) is; ends = λ w. ap (λ x. acked m x w) is }

same_by : (m : Machine) (c d e : Command) → d ≡ e → IsSame m c e → IsSame m c d
same_by m c d e is same = subst (IsSame m c) (sym is) same

evict_same : (m : Machine) (kb : ℕ) → IsSame m (Evict kb) (EvictNames (victims (scan m.shelf) (open_names m) kb))
unfolding checks effect evicted
evict_same m kb = record { steps = refl; begins = λ w. refl; ends = λ w. refl }

clear_same : (m : Machine) (origin : List ℕ) → IsSame m (ClearOrigin origin) (ClearNames (cleared m origin))
unfolding checks effect
clear_same m origin = record { steps = refl; begins = λ w. refl; ends = λ w. refl }

verify_same : (m : Machine) → IsSame m Verify (VerifyRecords (scan m.shelf))
unfolding checks effect
verify_same m = record { steps = refl; begins = λ w. refl; ends = λ w. refl }

list_same : (m : Machine) → IsSame m ListRecords (ListGiven (scan m.shelf))
unfolding checks effect
list_same m = record { steps = refl; begins = λ w. refl; ends = λ w. refl }

has_begun : (failing : Option Refusal) (m : Machine) (key : List ℕ) (there : Bool) (w : Marks) → begun_by failing m (HasGiven key there) w ≡ begun_by failing m (HasEntry key) w
unfolding effect
has_begun None m key there w = refl
has_begun (Some r) m key there w = refl

has_same : (m : Machine) (key : List ℕ) (there : Bool) → step m (HasGiven key there) ≡ step m (HasEntry key) → IsSame m (HasEntry key) (HasGiven key there)
unfolding checks effect
has_same m key there steps =
    let begins = has_begun (first_failing (checks m (HasEntry key))) m key there in
    record { steps = steps; begins = begins; ends = begins }

resume_names : (m : Machine) → is_some (mark_of m.mark) ≡ true → IsSame m Resume (ResumeNames (resumed m))
unfolding checks effect
resume_names m some = record { steps = sym (resume_is_of_names m some).0; begins = λ w. refl; ends = λ w. refl }

-- a clearing that is resumed, by records that are those of all entries
resume_same : (m : Machine) (d : Command) (Holds : List IndexRecord → Type 0) → ((records : List IndexRecord) → Holds records → records ≡ scan m.shelf) → (mark : Option ℕ) → mark_of m.mark ≡ mark → IsResumedBy Holds mark m d
    → IsSame m Resume d
resume_same m d Holds all None mark is = same_itself m Resume d is
resume_same m d Holds all (Some origin) mark (records, (is, holds)) =
    same_by m Resume d (ResumeNames (resumed m))
    (is ∙ ap (λ rs. ResumeNames (covered_by rs m origin)) (all records holds) ∙ ap (λ names. ResumeNames names) (sym (resumed_by_scan m origin mark)))
    (resume_names m (ap is_some mark))

-- each command, where the records are right
pub done_same : (right : Type 0) → right → (c : Command) (m : Machine) (d : Command) → IsDoneFor right c m d → IsSame m c d
done_same right here (Evict kb) m d is =
    same_by m (Evict kb) d (EvictNames (victims (scan m.shelf) (open_names m) kb)) (is.1.0 ∙ ap (λ rs. EvictNames (victims rs (open_names m) kb)) (is.1.1 here)) (evict_same m kb)
done_same right here (ClearOrigin origin) m d is =
    same_by m (ClearOrigin origin) d (ClearNames (cleared m origin))
    (is.1.0 ∙ ap (λ rs. ClearNames (cleared_by rs m origin)) (is.1.1 here) ∙ ap (λ names. ClearNames names) (sym (clear_goes_by_scan m origin))) (clear_same m origin)
done_same right here Verify m d is = same_by m Verify d (VerifyRecords (scan m.shelf)) (is.1.0 ∙ ap (λ rs. VerifyRecords rs) (is.1.1 here)) (verify_same m)
done_same right here ListRecords m d is = same_by m ListRecords d (ListGiven (scan m.shelf)) (is.1.0 ∙ ap (λ rs. ListGiven rs) (is.1.1 here)) (list_same m)
done_same right here (HasEntry key) m d is = same_by m (HasEntry key) d (HasGiven key is.0) is.1.0 (has_same m key is.0 (is.1.1 here))
done_same right here Resume m d is = resume_same m d (AreOfShelf right m) (λ records holds. holds here) (mark_of m.mark) refl is
done_same right here c m d is = same_itself m c d is

-- ---- one after the other

next_same : (m : Machine) (c d : Command) → IsSame m c d → (step m d).next ≡ (step m c).next
next_same m c d same = ap (λ (a : Answer). a.next) same.steps

states_same : (right : Type 0) → right → (m : Machine) (cs ds : List Command) → AreDoneFor right m cs ds → after m ds ≡ after m cs
states_same right here m [] [] are = refl
states_same right here m [] (d ∷ ds) are = absurd are
states_same right here m (c ∷ cs) [] are = absurd are
states_same right here m (c ∷ cs) (d ∷ ds) are =
    states_same (right ⊎ IsTrue (is_rebuild c)) (inl here) (step m d).next cs ds are.1 ∙ ap (λ n. after n cs) (next_same m c d (done_same right here c m d are.0))

replies_same : (right : Type 0) → right → (m : Machine) (cs ds : List Command) → AreDoneFor right m cs ds → replies m ds ≡ replies m cs
replies_same right here m [] [] are = refl
replies_same right here m [] (d ∷ ds) are = absurd are
replies_same right here m (c ∷ cs) [] are = absurd are
replies_same right here m (c ∷ cs) (d ∷ ds) are =
    let one = done_same right here c m d are.0 in
    ap (λ rs. (step m d).reply ∷ rs) (replies_same (right ⊎ IsTrue (is_rebuild c)) (inl here) (step m d).next cs ds are.1)
    ∙ ap (λ (a : Answer). a.reply ∷ replies a.next cs) one.steps

acked_same : (right : Type 0) → right → (m : Machine) (cs ds : List Command) → AreDoneFor right m cs ds → (w : Marks) (a : ℕ) → all_acked m (take a ds) w ≡ all_acked m (take a cs) w
acked_same right here m cs ds are w zero = refl
acked_same right here m [] [] are w (suc a) = refl
acked_same right here m [] (d ∷ ds) are w (suc a) = absurd are
acked_same right here m (c ∷ cs) [] are w (suc a) = absurd are
acked_same right here m (c ∷ cs) (d ∷ ds) are w (suc a) =
    let one = done_same right here c m d are.0 in
    acked_same (right ⊎ IsTrue (is_rebuild c)) (inl here) (step m d).next cs ds are.1 (acked m d w) a ∙ ap₂ (λ n x. all_acked n (take a cs) x) (next_same m c d one) (one.ends w)

-- after some marks the first are acknowledged, and others have begun
abbrev marks_from : Machine → List Command → Marks → ℕ → ℕ → Marks
marks_from m cs w a b = all_begun (after m (take a cs)) (drop a (take b cs)) (all_acked m (take a cs) w)

marks_same : (right : Type 0) → right → (m : Machine) (cs ds : List Command) → AreDoneFor right m cs ds → (w : Marks) (a b : ℕ) → marks_from m ds w a b ≡ marks_from m cs w a b
marks_same right here m [] [] are w a b = refl
marks_same right here m [] (d ∷ ds) are w a b = absurd are
marks_same right here m (c ∷ cs) [] are w a b = absurd are
marks_same right here m (c ∷ cs) (d ∷ ds) are w zero zero = refl
marks_same right here m (c ∷ cs) (d ∷ ds) are w zero (suc b) =
    let one = done_same right here c m d are.0 in
    marks_same (right ⊎ IsTrue (is_rebuild c)) (inl here) (step m d).next cs ds are.1 (begun m d w) 0 b ∙ ap₂ (λ n x. marks_from n cs x 0 b) (next_same m c d one) (one.begins w)
marks_same right here m (c ∷ cs) (d ∷ ds) are w (suc a) zero = acked_same right here m (c ∷ cs) (d ∷ ds) are w (suc a)
marks_same right here m (c ∷ cs) (d ∷ ds) are w (suc a) (suc b) =
    let one = done_same right here c m d are.0 in
    marks_same (right ⊎ IsTrue (is_rebuild c)) (inl here) (step m d).next cs ds are.1 (acked m d w) a b ∙ ap₂ (λ n x. marks_from n cs x a b) (next_same m c d one) (one.ends w)

pub done_is_same : DoneIsSame
done_is_same s m cs ds honest are = record {
  states = states_same (Honest (standing s)) honest m cs ds are;
  replies = replies_same (Honest (standing s)) honest m cs ds are;
  marks = λ a b. marks_same (Honest (standing s)) honest m cs ds are (marks_of m) a b;
}

-- ---- with some left out

-- of one more, which is left out or not, and of these others
front_by : (left_out : Bool) (right : Type 0) (m : Machine) (c d : Command) (cs ds first front : List Command) → (AreDoneFor right m cs ds → AreDoneFor right m first front)
    → (AreDoneFor (right ⊎ IsTrue (is_rebuild c)) (step m d).next cs ds → AreDoneFor (right ⊎ IsTrue (is_rebuild c)) (step m d).next first front)
    → AreDoneFor right m (cond left_out cs (c ∷ cs)) (cond left_out ds (d ∷ ds)) → AreDoneFor right m (cond left_out first (c ∷ first)) (cond left_out front (d ∷ front))
front_by true right m c d cs ds first front skips keeps are = skips are
front_by false right m c d cs ds first front skips keeps are = (are.0, keeps are.1)

answers_by : (left_out : Bool) (right : Type 0) → right → (m : Machine) (c d : Command) (cs ds : List Command) (rest : Machine → List Command → List ℕ) (us vs : List Command)
    → (AreDoneFor right m us vs → rest m ds ≡ rest m cs) → (AreDoneFor (right ⊎ IsTrue (is_rebuild c)) (step m d).next us vs → rest (step m d).next ds ≡ rest (step m d).next cs)
    → AreDoneFor right m (cond left_out us (c ∷ us)) (cond left_out vs (d ∷ vs))
    → cond left_out (fault_line ++ rest m ds) (reply_text (step m d).reply ++ rest (step m d).next ds) ≡ cond left_out (fault_line ++ rest m cs) (reply_text (step m c).reply ++ rest (step m c).next cs)
answers_by true right here m c d cs ds rest us vs skips keeps are = ap (λ text. fault_line ++ text) (skips are)
answers_by false right here m c d cs ds rest us vs skips keeps are =
    ap (λ text. reply_text (step m d).reply ++ text) (keeps are.1) ∙ ap (λ (a : Answer). reply_text a.reply ++ rest a.next cs) (done_same right here c m d are.0).steps

module _ (faults : List ℕ) where
  -- the first of them
  pub done_front : (right : Type 0) (n b : ℕ) (m : Machine) (cs ds : List Command) → length ds ≡ length cs → AreDoneFor right m (unfaulted_from n faults cs) (unfaulted_from n faults ds)
      → AreDoneFor right m (unfaulted_from n faults (take b cs)) (unfaulted_from n faults (take b ds))
  done_front right n zero m cs ds same are = tt
  done_front right n (suc b) m [] [] same are = tt
  done_front right n (suc b) m [] (d ∷ ds) same are = absurd (omega (arith, same))
  done_front right n (suc b) m (c ∷ cs) [] same are = absurd (omega (arith, same))
  done_front right n (suc b) m (c ∷ cs) (d ∷ ds) same are =
      front_by (is_faulted faults n) right m c d (unfaulted_from (suc n) faults cs) (unfaulted_from (suc n) faults ds) (unfaulted_from (suc n) faults (take b cs)) (unfaulted_from (suc n) faults (take b ds))
      (done_front right (suc n) b m cs ds (omega (arith, same))) (done_front (right ⊎ IsTrue (is_rebuild c)) (suc n) b (step m d).next cs ds (omega (arith, same))) are

  -- the answers to all
  answers_same : (right : Type 0) → right → (n : ℕ) (m : Machine) (cs ds : List Command) → length ds ≡ length cs → AreDoneFor right m (unfaulted_from n faults cs) (unfaulted_from n faults ds)
      → replies_from n faults m ds ≡ replies_from n faults m cs
  answers_same right here n m [] [] same are = refl
  answers_same right here n m [] (d ∷ ds) same are = absurd (omega (arith, same))
  answers_same right here n m (c ∷ cs) [] same are = absurd (omega (arith, same))
  answers_same right here n m (c ∷ cs) (d ∷ ds) same are =
      answers_by (is_faulted faults n) right here m c d cs ds (replies_from (suc n) faults) (unfaulted_from (suc n) faults cs) (unfaulted_from (suc n) faults ds)
      (answers_same right here (suc n) m cs ds (omega (arith, same))) (answers_same (right ⊎ IsTrue (is_rebuild c)) (inl here) (suc n) (step m d).next cs ds (omega (arith, same))) are

-- ---- a run of a script

module _ (s : State) (m : Machine) (d : Command) (cs done : List Command) (with_last : List ℕ) (honest : Honest (standing s)) (is : IsResumedBy (AreAtOpening s m) (mark_of m.mark) m d)
    (as_many : length done ≡ length cs) (are : AreDoneFor (Honest (standing s)) (step m d).next (unfaulted with_last cs) (unfaulted with_last done)) where
  first : IsSame m Resume d
  first = resume_same m d (AreAtOpening s m) (λ records at. at.honest honest) (mark_of m.mark) refl is

  next : (step m d).next ≡ (step m Resume).next
  next = next_same m Resume d first

  front : (b : ℕ) → AreDoneFor (Honest (standing s)) (step m d).next (unfaulted with_last (take b cs)) (unfaulted with_last (take b done))
  front b = done_front with_last (Honest (standing s)) 1 b (step m d).next cs done as_many are

  size : (b : ℕ) → length (unfaulted with_last (take b done)) ≡ length (unfaulted with_last (take b cs))
  size b = sym (done_as_long (Honest (standing s)) (step m d).next (unfaulted with_last (take b cs)) (unfaulted with_last (take b done)) (front b))

  -- the marks where the first a are acknowledged, and those up to b have begun
  pub marks_are_of_script : (a b : ℕ) → marks_behind m d done with_last a b ≡ marks_behind m Resume cs with_last a b
  marks_are_of_script a b =
      let kept : ℕ = length (unfaulted with_last (take a cs)) in
      let begun : List Command = unfaulted with_last (take b cs) in
      ap₂ (λ x y. marks_from (step m d).next (unfaulted with_last (take b done)) (acked m d (marks_of m)) x y) (size a) (size b)
      ∙ marks_same (Honest (standing s)) honest (step m d).next begun (unfaulted with_last (take b done)) (front b) (acked m d (marks_of m)) kept (length begun)
      ∙ ap₂ (λ n x. marks_from n begun x kept (length begun)) next (first.ends (marks_of m))

  states : (p : ℕ) → after m (d ∷ unfaulted with_last (take p done)) ≡ after m (Resume ∷ unfaulted with_last (take p cs))
  states p =
      states_same (Honest (standing s)) honest (step m d).next (unfaulted with_last (take p cs)) (unfaulted with_last (take p done)) (front p)
      ∙ ap (λ n. after n (unfaulted with_last (take p cs))) next

pub run_is_of_script : RunIsOfScript
run_is_of_script s m d cs done with_last honest is as_many are ended acked_now = record {
  marks =
      ap (λ n. marks_behind m d done with_last acked_now (min (acked_now + 1) n)) as_many
      ∙ marks_are_of_script s m d cs done with_last honest is as_many are acked_now (min (acked_now + 1) (length cs));
  states =
      ap (λ n. after m (d ∷ unfaulted with_last (take (performed ended acked_now n) done))) as_many
      ∙ states s m d cs done with_last honest is as_many are (performed ended acked_now (length cs));
  answers =
      answers_same with_last (Honest (standing s)) honest 1 (step m d).next cs done as_many are
      ∙ ap (λ n. replies_from 1 with_last n cs) (next s m d cs done with_last honest is as_many are);
}
