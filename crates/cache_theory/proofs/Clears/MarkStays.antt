-- What stands at `clear` is left alone by each command but a clearing, which leaves nothing there.
use Rattle.std.proofs.Common.{◌≡◌, ◌∙◌, true, List, [], ◌∷◌, None, Option, Some, ℕ, refl}
use Rattle.std.specs.Prelude.{is_none, is_some, not, ◌&&◌, ◌||◌}
use Rattle.std.proofs.lemmas.Bool.{cond_both}
use Rattle.cache_base.specs.Checks.{first_failing}
use Rattle.cache_base.specs.declared.name.Name.{Name}
use Rattle.cache_theory.specs.Checks.{checks}
use Rattle.cache_theory.specs.Command.{Command}
use Rattle.cache_theory.specs.Command.Command.{ClearNames, ClearOrigin, Close, Evict, EvictNames, Finish, OpenKey, Resume, ResumeNames, UnsetElement}
use Rattle.cache_theory.specs.Command.Reply.{Done, NoneThere}
use Rattle.cache_theory.specs.Covers.{cleared, resumed}
use Rattle.cache_theory.specs.Laws.{KeepsMark, MarkStays, NoMarkIsLeft}
use Rattle.cache_theory.specs.Machine.{Machine, has_slots, is_writer, number_of, object_of, on_shelf, used_by}
use Rattle.cache_theory.specs.Step.{all_doomed, answer, changed, cleared_of, doomed_under, effect, evicted, finished_by, joined, released, stepped, stored, unmarked, update_ended, with_slot}
use Rattle.cache_theory.specs.Table.{remove}
use Rattle.cache_theory.specs.declared.refusal.Refusal.{Refusal}
use Rattle.context_clear.specs.Mark.{mark_of}
use Rattle.entry_file.specs.EntryFile.{Reading}
use Rattle.entry_file.specs.EntryFile.Reading.{Whole, Damaged, Nothing}
use Rattle.entry_name.specs.EntryName.{file_name}
use Rattle.entry_parts.specs.Elements.{element}
use Rattle.entry_parts.specs.Setting.{without_element}

doomed_mark : (m : Machine) (names : List Name) → (all_doomed m names).mark ≡ m.mark
doomed_mark m [] = refl
doomed_mark m (name ∷ names) = doomed_mark (doomed_under m name.0) names

joined_mark : (m : Machine) (s : ℕ) (user : Option ℕ) (r : Reading) → (joined m s user r).mark ≡ m.mark
joined_mark m s (Some i) r = refl
joined_mark m s None (Whole v) = refl
joined_mark m s None (Damaged d) = refl
joined_mark m s None Nothing = refl

finished_mark : (m : Machine) (s : ℕ) → (finished_by m s).mark ≡ m.mark
finished_mark m s =
    let o = object_of m s in
    cond_both (is_writer m s && not o.finished) (stored m (number_of m s) (record o { finished = true })) m (λ next. next.mark ≡ m.mark) (λ yes. refl) (λ no. refl)

released_mark : (m : Machine) (s : ℕ) → (released m s).mark ≡ m.mark
released_mark m s =
    let after : Machine = record m { slots = with_slot s None m.slots } in
    cond_both (has_slots after (number_of m s) || (object_of m s).doomed) after
    (record after { in_use = remove m.in_use (file_name (object_of m s).version.key) })
    (λ next. next.mark ≡ m.mark) (λ yes. refl) (λ no. refl)

effect_mark : (m : Machine) (c : Command) → KeepsMark c → (effect m c).next.mark ≡ m.mark
unfolding effect
effect_mark m (OpenKey s key) keeps = joined_mark m s (used_by m key) (on_shelf m key)
effect_mark m (Finish s) keeps = finished_mark m s
effect_mark m (UnsetElement s name) keeps =
    cond_both (is_none (element name (object_of m s).version.elements)) (answer m NoneThere)
    (answer (changed m s (λ v. record v { elements = without_element name v.elements })) Done)
    (λ a. a.next.mark ≡ m.mark) (λ yes. refl) (λ no. refl)
effect_mark m (Close s) keeps = released_mark (finished_by m s) s ∙ finished_mark m s
effect_mark m (Evict kb) keeps = doomed_mark (update_ended m) (evicted m kb)
effect_mark m (EvictNames names) keeps = doomed_mark (update_ended m) names
effect_mark m (ClearOrigin origin) keeps = absurd keeps
effect_mark m (ClearNames names) keeps = absurd keeps
effect_mark m Resume keeps = absurd keeps
effect_mark m (ResumeNames names) keeps = absurd keeps
effect_mark m c keeps = refl

pub mark_stays : MarkStays
mark_stays m c keeps = go (first_failing (checks m c))
  where
    go : (r : Option Refusal) → (stepped m c r).next.mark ≡ m.mark
    go None = effect_mark m c keeps
    go (Some r) = refl

cleared_mark : (m : Machine) (names : List Name) → (cleared_of m names).mark ≡ None
cleared_mark m names = doomed_mark (update_ended (unmarked m)) names

pub no_mark_is_left : NoMarkIsLeft
unfolding checks effect
no_mark_is_left m (ClearOrigin origin) clears = cleared_mark m (cleared m origin)
no_mark_is_left m (ClearNames names) clears = cleared_mark m names
no_mark_is_left m Resume clears =
    cond_both (is_some (mark_of m.mark)) (cleared_of m (resumed m)) (unmarked m) (λ next. next.mark ≡ None) (λ some. cleared_mark m (resumed m)) (λ none. refl)
no_mark_is_left m (ResumeNames names) clears = cleared_mark m names
no_mark_is_left m c clears = absurd (clears tt)
