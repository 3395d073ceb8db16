-- An object that is there, and has a slot after commands, had one before them.
use Rattle.std.proofs.Common.{◌≡◌, ◌≢◌, inl, inr, ℕ, zero, suc, ◌+◌, ◌-◌, ◌<◌, ◌≤◌, List, length, get_or, Bool, true, false, not, cond, ◌&&◌, ◌||◌, Option, Some, None, refl, ap, subst, ◌∙◌, arith}
use Rattle.std.specs.List.{AllByRecursion}
use Rattle.std.specs.Prelude.{is_none, is_some}
use Rattle.std.proofs.lemmas.Bool.{cases_eq, cond_both}
use Rattle.std.proofs.lemmas.Option.{slice_get-get_or}
use Rattle.cache_base.specs.Checks.{first_failing}
use Rattle.cache_base.specs.declared.name.Name.{Name}
use Rattle.cache_base.proofs.CheckLaws.{AllHold, all_hold}
use Rattle.cache_theory.specs.Checks.{checks}
use Rattle.cache_theory.specs.Command.{Command}
use Rattle.cache_theory.specs.Command.Command.{Create, OpenKey, Finish, SetElement, UnsetElement, UseEntry, Pin, Unpin, PutAlt, Close, Evict, EvictNames, ClearOrigin, ClearNames, Resume, ResumeNames, Flush, FinishAs}
use Rattle.cache_theory.specs.Command.Reply.{Done, NoneThere}
use Rattle.cache_theory.specs.Covers.{cleared, resumed}
use Rattle.cache_theory.specs.Given.{IsGiven}
use Rattle.cache_theory.specs.Machine.{Machine, has_slots, is_slot, is_writer, number_of, object_of, on_shelf, used_by}
use Rattle.cache_theory.specs.Marks.{rewritten}
use Rattle.cache_theory.specs.Proper.{IsProper}
use Rattle.cache_theory.specs.Step.{all_doomed, answer, changed, doomed_under, effect, evicted, finished_by, joined, released, stepped, stored, update_ended, with_slot, cleared_of, unmarked}
use Rattle.cache_theory.specs.Table.{remove}
use Rattle.cache_theory.specs.Wording.{state_at}
use Rattle.cache_theory.specs.declared.refusal.Refusal.{Refusal}
use Rattle.cache_theory.proofs.Clears.ClearedSessions.{grow_between, proper_at}
use Rattle.cache_theory.proofs.ObjectLaws.Dooming.{doomed_length}
use Rattle.cache_theory.proofs.Evictions.Evicting.{doomed_are_lost}
use Rattle.cache_theory.proofs.CrashImages.Reading.{used_by_is}
use Rattle.cache_theory.proofs.ObjectLaws.Slots.{HasSlot, none_is_none, same_use, slot_of, slot_was, use_of}
use Rattle.cache_theory.proofs.ObjectLaws.Users.{same_number, slot_in_use}
use Rattle.cache_theory.proofs.Wording.Worded.{state_next}
use Rattle.entry_file.specs.EntryFile.{Reading}
use Rattle.entry_file.specs.EntryFile.Reading.{Whole, Damaged, Nothing}
use Rattle.entry_name.specs.EntryName.{file_name}
use Rattle.entry_parts.specs.Elements.{element}
use Rattle.entry_parts.specs.Setting.{without_element}
use Rattle.context_clear.specs.Mark.{mark_of}

-- it had a slot before, if it has one now
abbrev HadSlot : Machine → Machine → ℕ → Type 0
HadSlot m next i = HasSlot next.slots i → HasSlot m.slots i

-- a slot that is given to another object
had_other : (m : Machine) (s n i : ℕ) (writes : Bool) → n ≢ i → HasSlot (with_slot s (use_of n writes) m.slots) i → HasSlot m.slots i
had_other m s n i writes apart h = slot_was m.slots s (use_of n writes) i (λ w e. apart (same_use n i writes w e).0) h

had_joined : (m : Machine) (s i : ℕ) (key : List ℕ) (user : Option ℕ) (r : Reading) → IsProper m → i < length m.objects → used_by m key ≡ user
    → HadSlot m (joined m s user r) i
had_joined m s i key (Some u) r proper within by h = elim (cases_eq u i) [
  | inl same ↦
      let user = proper.user (file_name key) u (used_by_is m key u by).at in
      subst (HasSlot m.slots) same (slot_of m u user.in_use.slots)
  | inr apart ↦ had_other m s u i false apart h
]
had_joined m s i key None (Whole v) proper within by h =
    had_other m s (length m.objects) i false (λ e. absurd (omega (arith, within, e))) h
had_joined m s i key None (Damaged d) proper within by h = h
had_joined m s i key None Nothing proper within by h = h

had_finished : (m : Machine) (s i : ℕ) → HadSlot m (finished_by m s) i
had_finished m s i =
    cond_both (is_writer m s && not (object_of m s).finished) (stored m (number_of m s) (record (object_of m s) { finished = true })) m
    (λ t. HadSlot m t i) (λ goes h. h) (λ stays h. h)

had_released : (m : Machine) (s i : ℕ) → HadSlot m (released m s) i
had_released m s i =
    let t : Machine = record m { slots = with_slot s None m.slots } in
    cond_both (has_slots t (number_of m s) || (object_of m s).doomed) t
    (record t { in_use = remove m.in_use (file_name (object_of m s).version.key) })
    (λ t. HadSlot m t i)
    (λ used h. slot_was m.slots s None i (none_is_none i) h) (λ unused h. slot_was m.slots s None i (none_is_none i) h)

had_doomed : (m : Machine) (names : List Name) (i : ℕ) → HasSlot (all_doomed (update_ended m) names).slots i → HasSlot m.slots i
had_doomed m names i h = subst (λ slots. HasSlot slots i) (doomed_are_lost m names).slots h

had_before : (m : Machine) (c : Command) (i : ℕ) → IsProper m → i < length m.objects → HadSlot m (effect m c).next i
unfolding effect
had_before m (Create s key) i proper within h =
    let l = doomed_length m (file_name key) in
    had_other m s (length (doomed_under m (file_name key)).objects) i true (λ e. absurd (omega (arith, within, e, l))) h
had_before m (OpenKey s key) i proper within h = had_joined m s i key (used_by m key) (on_shelf m key) proper within refl h
had_before m (Finish s) i proper within h = had_finished m s i h
had_before m (UnsetElement s key) i proper within h =
    cond_both (is_none (element key (object_of m s).version.elements)) (answer m NoneThere)
    (answer (changed m s (λ v. record v { elements = without_element key v.elements })) Done)
    (λ a. HadSlot m a.next i) (λ absent h. h) (λ there h. h) h
had_before m (Close s) i proper within h = had_finished m s i (had_released (finished_by m s) s i h)
had_before m (Evict kb) i proper within h = had_doomed m (evicted m kb) i h
had_before m (EvictNames names) i proper within h = had_doomed m names i h
had_before m (ClearOrigin origin) i proper within h = had_doomed (unmarked m) (cleared m origin) i h
had_before m (ClearNames names) i proper within h = had_doomed (unmarked m) names i h
had_before m Resume i proper within h =
    cond_both (is_some (mark_of m.mark)) (cleared_of m (resumed m)) (unmarked m) (λ next. HadSlot m next i)
    (λ some. had_doomed (unmarked m) (resumed m) i) (λ none. λ has. has) h
had_before m (ResumeNames names) i proper within h = had_doomed (unmarked m) names i h
had_before m c i proper within h = h

had_stepped : (m : Machine) (c : Command) (r : Option Refusal) (i : ℕ) → IsProper m → i < length m.objects → HadSlot m (stepped m c r).next i
had_stepped m c None i proper within h = had_before m c i proper within h
had_stepped m c (Some r) i proper within h = h

-- so it is between two states of a session
module _ (m : Machine) (cs : List Command) (f i : ℕ) (given : AllByRecursion IsGiven cs) (proper : IsProper m) (there : i < length (state_at m cs f).objects) where
  had_from : (k n : ℕ) → n ≡ f + k → n ≤ length cs → HadSlot (state_at m cs f) (state_at m cs n) i
  had_from zero n sum most h = let same : n ≡ f = omega (arith, sum) in subst (λ (j : ℕ). HasSlot (state_at m cs j).slots i) same h
  had_from (suc k) n sum most h =
      let p : ℕ = f + k in
      let same : n ≡ suc p = omega (arith, sum) in
      let c : Command = get_or cs p Flush in
      let next = state_next m cs p c (slice_get-get_or cs p Flush (omega (arith, sum, most))) in
      let long = (grow_between m cs f p (omega arith)).long in
      had_from k p refl (omega (arith, sum, most))
      (had_stepped (state_at m cs p) c (first_failing (checks (state_at m cs p) c)) i (proper_at m cs p given proper) (omega (arith, there, long))
      (subst (λ (t : Machine). HasSlot t.slots i) (ap (state_at m cs) same ∙ next) h))

  pub had_slot : (n : ℕ) → f ≤ n → n ≤ length cs → HasSlot (state_at m cs n).slots i → HasSlot (state_at m cs f).slots i
  had_slot n later most h = had_from (n - f) n (omega (arith, later)) most h

-- The object whose file a command writes has a slot.

number_if : (b : Bool) (n i : ℕ) → cond b (Some n) None ≡ Some i → n ≡ i
number_if true n i same = same_number n i same
number_if false n i same = absurd (cc)

written_number : (m : Machine) (s i : ℕ) → IsProper m → is_slot m s ≡ true → (b : Bool) → cond b (Some (number_of m s)) None ≡ Some i → HasSlot m.slots i
written_number m s i proper is b writes =
    subst (HasSlot m.slots) (number_if b (number_of m s) i writes) (slot_of m (number_of m s) (slot_in_use m proper s is).slots)

written_held : (m : Machine) (c : Command) (i : ℕ) → IsProper m → AllHold (checks m c) → rewritten m c ≡ Some i → HasSlot m.slots i
unfolding checks
written_held m (Finish s) i proper hold writes = written_number m s i proper hold.0 true writes
written_held m (FinishAs s header elements) i proper hold writes = written_number m s i proper hold.0 true writes
written_held m (SetElement s key value) i proper hold writes = written_number m s i proper hold.0 (object_of m s).finished writes
written_held m (UnsetElement s key) i proper hold writes =
    written_number m s i proper hold.0 ((object_of m s).finished && is_some (element key (object_of m s).version.elements)) writes
written_held m (UseEntry s) i proper hold writes = written_number m s i proper hold.0 (object_of m s).finished writes
written_held m (Pin s) i proper hold writes = written_number m s i proper hold.0 (object_of m s).finished writes
written_held m (Unpin s) i proper hold writes = written_number m s i proper hold.0 (object_of m s).finished writes
written_held m (PutAlt s kind bytes) i proper hold writes = written_number m s i proper hold.0 (object_of m s).finished writes
written_held m (Close s) i proper hold writes = written_number m s i proper hold.0 (is_writer m s && not (object_of m s).finished) writes
written_held m c i proper hold writes = absurd (cc)

pub written_has_slot : (m : Machine) (c : Command) (i : ℕ) → IsProper m → first_failing (checks m c) ≡ None → rewritten m c ≡ Some i → HasSlot m.slots i
written_has_slot m c i proper passes writes = written_held m c i proper (all_hold (checks m c) passes) writes
