-- What a step leaves of the machine.
use Rattle.std.proofs.Common.{◌≡◌, ℕ, true, List, [], ◌∷◌, Option, Some, None, refl, ◌∙◌}
use Rattle.std.specs.Prelude.{◌&&◌, ◌||◌, ⊤, is_none, is_some, not}
use Rattle.std.proofs.lemmas.Bool.{cond_both}
use Rattle.cache_base.specs.Checks.{first_failing}
use Rattle.cache_base.specs.declared.name.Name.{Name}
use Rattle.cache_theory.specs.Checks.{checks}
use Rattle.cache_theory.specs.Command.{Command}
use Rattle.cache_theory.specs.Command.Command.{At, OpenKey, Finish, UnsetElement, ElementOf, ReadPart, Close, Get, GetAlt, MainBody, HasGiven, Evict, EvictNames, ClearOrigin, ClearNames, Resume, ResumeNames, Flush, UpdateState}
use Rattle.cache_theory.specs.Command.Reply.{Done, NoneThere}
use Rattle.cache_theory.specs.Covers.{cleared, resumed}
use Rattle.cache_theory.specs.Machine.{Machine, has_slots, is_writer, number_of, object_of, on_shelf, used_by}
use Rattle.cache_theory.specs.Marks.{Marks, acked, begun}
use Rattle.cache_theory.specs.Step.{Answer, all_doomed, answer, changed, cleared_of, doomed_under, effect, evicted, finished_by, joined, released, step, stepped, stored, unmarked, update_ended, with_slot}
use Rattle.context_clear.specs.Mark.{mark_of}
use Rattle.cache_theory.specs.Table.{remove}
use Rattle.cache_theory.specs.declared.refusal.Refusal.{Refusal}
use Rattle.entry_file.specs.EntryFile.{Reading}
use Rattle.entry_file.specs.EntryFile.Reading.{Whole, Damaged, Nothing}
use Rattle.entry_name.specs.EntryName.{file_name}
use Rattle.entry_parts.specs.Elements.{element}
use Rattle.entry_parts.specs.Setting.{without_element}

-- a command that only reads, be it entries or the index
abbrev pub IsReading : Command → Type 0
IsReading (ElementOf s name) = ⊤
IsReading (ReadPart s from len) = ⊤
IsReading (Get key) = ⊤
IsReading (GetAlt key) = ⊤
IsReading (MainBody key) = ⊤
IsReading (HasGiven key there) = ⊤
IsReading UpdateState = ⊤
IsReading _ = ⊥

reading_effect : (m : Machine) (c : Command) → IsReading c → (effect m c).next ≡ m
unfolding effect
reading_effect m (ElementOf s name) is = refl
reading_effect m (ReadPart s from len) is = refl
reading_effect m (Get key) is = refl
reading_effect m (GetAlt key) is = refl
reading_effect m (MainBody key) is = refl
reading_effect m (HasGiven key there) is = refl
reading_effect m UpdateState is = refl
reading_effect m c is = absurd is

pub reading_acked : (m : Machine) (c : Command) (w : Marks) → IsReading c → acked m c w ≡ begun m c w
reading_acked m Flush w is = absurd is
reading_acked m (ClearOrigin origin) w is = absurd is
reading_acked m (ClearNames names) w is = absurd is
reading_acked m c w is = refl

-- what holds of the machine after the effect, and before, holds after the step
stepped_next : (m : Machine) (c : Command) (P : Machine → Type 0) → P m → P (effect m c).next → (o : Option Refusal) → P (stepped m c o).next
stepped_next m c P before after None = after
stepped_next m c P before after (Some r) = before

-- it changes nothing
pub reading_next : (m : Machine) (c : Command) → IsReading c → (step m c).next ≡ m
reading_next m c is = stepped_next m c (λ n. n ≡ m) refl (reading_effect m c is) (first_failing (checks m c))

-- ---- the moment

-- a command that does not set it
abbrev pub KeepsMoment : Command → Type 0
KeepsMoment (At now) = ⊥
KeepsMoment _ = ⊤

joined_moment : (m : Machine) (s : ℕ) (o : Option ℕ) (r : Reading) → (joined m s o r).moment ≡ m.moment
joined_moment m s (Some i) r = refl
joined_moment m s None (Whole v) = refl
joined_moment m s None (Damaged d) = refl
joined_moment m s None Nothing = refl

finished_moment : (m : Machine) (s : ℕ) → (finished_by m s).moment ≡ m.moment
finished_moment m s =
    cond_both (is_writer m s && not (object_of m s).finished) (stored m (number_of m s) (record (object_of m s) { finished = true })) m
    (λ n. n.moment ≡ m.moment) (λ is. refl) (λ not_so. refl)

released_moment : (m : Machine) (s : ℕ) → (released m s).moment ≡ m.moment
released_moment m s =
    let after : Machine = record m { slots = with_slot s None m.slots } in
    cond_both (has_slots after (number_of m s) || (object_of m s).doomed) after (record after { in_use = remove m.in_use (file_name (object_of m s).version.key) })
    (λ n. n.moment ≡ m.moment) (λ is. refl) (λ not_so. refl)

all_doomed_moment : (m : Machine) (names : List Name) → (all_doomed m names).moment ≡ m.moment
all_doomed_moment m [] = refl
all_doomed_moment m (name ∷ names) = all_doomed_moment (doomed_under m name.0) names

cleared_moment : (m : Machine) (names : List Name) → (cleared_of m names).moment ≡ m.moment
cleared_moment m names = all_doomed_moment (update_ended (unmarked m)) names

effect_moment : (m : Machine) (c : Command) → KeepsMoment c → (effect m c).next.moment ≡ m.moment
unfolding effect
effect_moment m (At now) keeps = absurd keeps
effect_moment m (OpenKey s key) keeps = joined_moment m s (used_by m key) (on_shelf m key)
effect_moment m (Finish s) keeps = finished_moment m s
effect_moment m (UnsetElement s name) keeps =
    cond_both (is_none (element name (object_of m s).version.elements)) (answer m NoneThere)
    (answer (changed m s (λ v. record v { elements = without_element name v.elements })) Done)
    (λ (a : Answer). a.next.moment ≡ m.moment) (λ is. refl) (λ not_so. refl)
effect_moment m (Close s) keeps = released_moment (finished_by m s) s ∙ finished_moment m s
effect_moment m (Evict kb) keeps = all_doomed_moment (update_ended m) (evicted m kb)
effect_moment m (EvictNames names) keeps = all_doomed_moment (update_ended m) names
effect_moment m (ClearOrigin origin) keeps = cleared_moment m (cleared m origin)
effect_moment m (ClearNames names) keeps = cleared_moment m names
effect_moment m Resume keeps =
    cond_both (is_some (mark_of m.mark)) (cleared_of m (resumed m)) (unmarked m) (λ (next : Machine). next.moment ≡ m.moment)
    (λ is. cleared_moment m (resumed m)) (λ not_so. refl)
effect_moment m (ResumeNames names) keeps = cleared_moment m names
effect_moment m c keeps = refl

pub step_moment : (m : Machine) (c : Command) → KeepsMoment c → (step m c).next.moment ≡ m.moment
step_moment m c keeps = stepped_next m c (λ n. n.moment ≡ m.moment) refl (effect_moment m c keeps) (first_failing (checks m c))
