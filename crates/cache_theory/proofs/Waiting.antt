-- What the update has still to read is as it was.
use Rattle.std.proofs.Common.{◌≡◌, ◌≢◌, inl, inr, ℕ, zero, suc, List, [], ◌∷◌, ◌++◌, drop, Bool, true, false, cond, not, ◌&&◌, ◌||◌, Option, Some, None, refl, sym, ap, ◌∙◌}
use Rattle.std.specs.List.{list_any}
use Rattle.std.specs.Prelude.{is_none, is_some}
use Rattle.std.specs.Str.{bytes_eq}
use Rattle.std.proofs.lemmas.Bool.{cond_both, or_cases, or_left, or_right}
use Rattle.std.proofs.lemmas.Slice.Eq.{bytes_eq-Decides}
use Rattle.cache_base.specs.Checks.{first_failing}
use Rattle.cache_base.specs.declared.name.Name.{Name}
use Rattle.cache_theory.specs.Checks.{checks, with_alt_data, with_value}
use Rattle.cache_theory.specs.Command.{Command}
use Rattle.cache_theory.specs.Command.Command.{Create, OpenKey, Append, Finish, SetElement, UnsetElement, UseEntry, Pin, Unpin, PutAlt, Close, Doom, ListRecords, ListGiven, Evict, EvictNames, ClearOrigin, ClearNames, Resume, ResumeNames, StepUpdate, Verify, VerifyRecords, Rebuild, FinishAs, Dump}
use Rattle.cache_theory.specs.Command.Reply.{Done, NoneThere}
use Rattle.cache_theory.specs.Covers.{cleared, resumed}
use Rattle.cache_theory.specs.Laws.{ChangesLeaveRest, IsUnread}
use Rattle.cache_theory.specs.Machine.{Machine, Object, has_slots, is_writer, number_of, object_of, on_shelf, used_by, waits_for}
use Rattle.cache_theory.specs.Step.{all_doomed, answer, changed, doomed_under, effect, evicted, finished_by, joined, released, stepped, stored, update_ended, used, with_pin, with_slot, without, cleared_of, unmarked, finished_as}
use Rattle.cache_theory.specs.Table.{get, insert, remove}
use Rattle.cache_theory.specs.declared.refusal.Refusal.{Refusal}
use Rattle.cache_theory.proofs.Names.{get-insert_other, get-remove_other, same_bytes}
use Rattle.entry_file.specs.EntryFile.{Reading}
use Rattle.entry_file.specs.EntryFile.Reading.{Whole, Damaged, Nothing}
use Rattle.entry_file.specs.Version.{Version, file_of}
use Rattle.entry_name.specs.EntryName.{file_name}
use Rattle.entry_parts.specs.Elements.{element}
use Rattle.entry_parts.specs.Setting.{without_element}
use Rattle.context_clear.specs.Mark.{mark_of}

-- from one machine to the next
abbrev KeepsWaiting : Machine → Machine → List ℕ → Type 0
KeepsWaiting m next name = waits_for next name ≡ true → IsUnread m next name

keeps_same : (m next : Machine) (name : List ℕ) → next.shelf ≡ m.shelf → next.rest ≡ m.rest
    → KeepsWaiting m next name
keeps_same m next name shelf rest waits = record {
  waited = ap (list_any (bytes_eq name)) (sym rest) ∙ waits;
  shelved = ap (λ t. get t name) shelf;
}

keeps_then : (m mid next : Machine) (name : List ℕ) → KeepsWaiting m mid name → KeepsWaiting mid next name
    → KeepsWaiting m next name
keeps_then m mid next name first second waits =
    let late = second waits in
    let early = first late.waited in
    record { waited = early.waited; shelved = late.shelved ∙ early.shelved }

-- a name that is left among names without one
record IsLeft (name gone : List ℕ) (names : List (List ℕ)) : Type 0 where
  was : list_any (bytes_eq name) names ≡ true
  other : gone ≢ name

left_without : (name gone : List ℕ) (names : List (List ℕ))
    → list_any (bytes_eq name) (without gone names) ≡ true → IsLeft name gone names
left_without name gone [] any = absurd (cc)
left_without name gone (n ∷ ns) any = go (left_without name gone ns) (bytes_eq n gone) refl any
  where
    more : IsLeft name gone ns → IsLeft name gone (n ∷ ns)
    more left = record {
      was = or_right (bytes_eq name n) (list_any (bytes_eq name) ns) left.was;
      other = left.other;
    }

    go : (list_any (bytes_eq name) (without gone ns) ≡ true → IsLeft name gone ns)
        → (b : Bool) → bytes_eq n gone ≡ b
        → list_any (bytes_eq name) (cond (not b) (n ∷ without gone ns) (without gone ns)) ≡ true
        → IsLeft name gone (n ∷ ns)
    go rest true same any = more (rest any)
    go rest false apart any =
        elim (or_cases (bytes_eq name n) (list_any (bytes_eq name) (without gone ns)) any) [
          | inl here ↦ record {
            was = or_left (bytes_eq name n) (list_any (bytes_eq name) ns) here;
            other = λ e.
                let is : n ≡ gone = sym (same_bytes name n here) ∙ sym e in
                let same : bytes_eq n gone ≡ true = (bytes_eq-Decides n gone).1 is in cc;
          }
          | inr there ↦ more (rest there)
        ]

waits_drop : (name : List ℕ) (n : ℕ) (names : List (List ℕ))
    → list_any (bytes_eq name) (drop n names) ≡ true → list_any (bytes_eq name) names ≡ true
waits_drop name zero names any = any
waits_drop name (suc n) [] any = any
waits_drop name (suc n) (x ∷ names) any =
    or_right (bytes_eq name x) (list_any (bytes_eq name) names) (waits_drop name n names any)

-- What the steps of the commands keep.

keeps_stored : (m : Machine) (i : ℕ) (o : Object) (name : List ℕ) → KeepsWaiting m (stored m i o) name
keeps_stored m i o name waits =
    let both = go (o.finished && not o.doomed) waits in
    record { waited = both.0; shelved = both.1 }
  where
    at : List ℕ
    at = file_name o.version.key

    go : (b : Bool) → list_any (bytes_eq name) (cond b (without at m.rest) m.rest) ≡ true
        → (waits_for m name ≡ true)
        × (get (cond b (insert m.shelf at (file_of o.version)) m.shelf) name ≡ get m.shelf name)
    go true any =
        let left = left_without name at m.rest any in
        (left.was, get-insert_other m.shelf at (file_of o.version) name (λ e. left.other (sym e)))
    go false any = (any, refl)

keeps_doomed : (m : Machine) (gone name : List ℕ) → KeepsWaiting m (doomed_under m gone) name
keeps_doomed m gone name any =
    let left = left_without name gone m.rest any in
    record { waited = left.was; shelved = get-remove_other m.shelf gone name left.other }

keeps_all_doomed : (m : Machine) (names : List Name) (name : List ℕ) → KeepsWaiting m (all_doomed m names) name
keeps_all_doomed m [] name = keeps_same m m name refl refl
keeps_all_doomed m (n ∷ names) name =
    let gone : Machine = doomed_under m n.0 in
    keeps_then m gone (all_doomed gone names) name (keeps_doomed m n.0 name)
    (keeps_all_doomed gone names name)

keeps_evicted : (m : Machine) (names : List Name) (name : List ℕ)
    → KeepsWaiting m (all_doomed (update_ended m) names) name
keeps_evicted m names name =
    let ended : Machine = update_ended m in
    keeps_then m ended (all_doomed ended names) name (λ waits. absurd (cc))
    (keeps_all_doomed ended names name)

keeps_cleared : (m : Machine) (names : List Name) (name : List ℕ) → KeepsWaiting m (cleared_of m names) name
keeps_cleared m names name =
    keeps_then m (unmarked m) (cleared_of m names) name (keeps_same m (unmarked m) name refl refl) (keeps_evicted (unmarked m) names name)

keeps_changed : (m : Machine) (s : ℕ) (f : Version → Version) (name : List ℕ)
    → KeepsWaiting m (changed m s f) name
keeps_changed m s f name =
    keeps_stored m (number_of m s) (record (object_of m s) { version = f (object_of m s).version })
    name

keeps_finished : (m : Machine) (s : ℕ) (name : List ℕ) → KeepsWaiting m (finished_by m s) name
keeps_finished m s name =
    let done : Machine = stored m (number_of m s) (record (object_of m s) { finished = true }) in
    cond_both (is_writer m s && not (object_of m s).finished) done m (λ t. KeepsWaiting m t name)
    (λ goes. keeps_stored m (number_of m s) (record (object_of m s) { finished = true }) name)
    (λ stays. keeps_same m m name refl refl)

keeps_released : (m : Machine) (s : ℕ) (name : List ℕ) → KeepsWaiting m (released m s) name
keeps_released m s name =
    let o : Object = object_of m s in
    let after : Machine = record m { slots = with_slot s None m.slots } in
    let unused : Machine = record after { in_use = remove m.in_use (file_name o.version.key) } in
    cond_both (has_slots after (number_of m s) || o.doomed) after unused (λ t. KeepsWaiting m t name)
    (λ used. keeps_same m _ name refl refl) (λ gone. keeps_same m _ name refl refl)

keeps_joined : (m : Machine) (s : ℕ) (user : Option ℕ) (r : Reading) (name : List ℕ)
    → KeepsWaiting m (joined m s user r) name
keeps_joined m s (Some i) r name = keeps_same m _ name refl refl
keeps_joined m s None (Whole v) name = keeps_same m _ name refl refl
keeps_joined m s None (Damaged d) name = keeps_same m m name refl refl
keeps_joined m s None Nothing name = keeps_same m m name refl refl

keeps_unset : (m : Machine) (s : ℕ) (key name : List ℕ)
    → let unset : Version → Version = λ v. record v { elements = without_element key v.elements } in
    (b : Bool) → KeepsWaiting m (cond b (answer m NoneThere) (answer (changed m s unset) Done)).next name
keeps_unset m s key name true = keeps_same m m name refl refl
keeps_unset m s key name false =
    keeps_changed m s (λ v. record v { elements = without_element key v.elements }) name

effect_keeps : (m : Machine) (c : Command) (name : List ℕ) → KeepsWaiting m (effect m c).next name
unfolding effect
effect_keeps m (Create s key) name =
    let gone : Machine = doomed_under m (file_name key) in
    keeps_then m gone _ name (keeps_doomed m (file_name key) name)
    (keeps_same gone _ name refl refl)
effect_keeps m (OpenKey s key) name = keeps_joined m s (used_by m key) (on_shelf m key) name
effect_keeps m (Append s bytes) name =
    keeps_changed m s (λ v. record v { body = v.body ++ bytes }) name
effect_keeps m (Finish s) name = keeps_finished m s name
effect_keeps m (FinishAs s header elements) name =
    keeps_stored m (number_of m s) (finished_as header elements (object_of m s)) name
effect_keeps m (SetElement s key value) name = keeps_changed m s (with_value key value) name
effect_keeps m (UnsetElement s key) name =
    keeps_unset m s key name (is_none (element key (object_of m s).version.elements))
effect_keeps m (UseEntry s) name = keeps_changed m s (used m.moment) name
effect_keeps m (Pin s) name = keeps_changed m s (with_pin true) name
effect_keeps m (Unpin s) name = keeps_changed m s (with_pin false) name
effect_keeps m (PutAlt s kind bytes) name = keeps_changed m s (with_alt_data kind bytes) name
effect_keeps m (Close s) name =
    let done : Machine = finished_by m s in
    keeps_then m done (released done s) name (keeps_finished m s name) (keeps_released done s name)
effect_keeps m (Doom key) name = keeps_doomed m (file_name key) name
effect_keeps m ListRecords name = λ waits. absurd (cc)
effect_keeps m (ListGiven records) name = λ waits. absurd (cc)
effect_keeps m (Evict kb) name = keeps_evicted m (evicted m kb) name
effect_keeps m (EvictNames names) name = keeps_evicted m names name
effect_keeps m (ClearOrigin origin) name = keeps_cleared m (cleared m origin) name
effect_keeps m (ClearNames names) name = keeps_cleared m names name
effect_keeps m Resume name =
    cond_both (is_some (mark_of m.mark)) (cleared_of m (resumed m)) (unmarked m) (λ next. KeepsWaiting m next name)
    (λ some. keeps_cleared m (resumed m) name) (λ none. keeps_same m (unmarked m) name refl refl)
effect_keeps m (ResumeNames names) name = keeps_cleared m names name
effect_keeps m (StepUpdate n) name = λ waits. record {
  waited = waits_drop name n m.rest waits;
  shelved = refl;
}
effect_keeps m Verify name = λ waits. absurd (cc)
effect_keeps m (VerifyRecords records) name = λ waits. absurd (cc)
effect_keeps m Rebuild name = λ waits. absurd (cc)
effect_keeps m Dump name = λ waits. absurd (cc)
effect_keeps m c name = keeps_same m _ name refl refl

pub changes_leave_rest : ChangesLeaveRest
changes_leave_rest m c name = go (first_failing (checks m c))
  where
    go : (r : Option Refusal) → KeepsWaiting m (stepped m c r).next name
    go None = effect_keeps m c name
    go (Some r) = keeps_same m m name refl refl
