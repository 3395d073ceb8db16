-- The shelf stays a table, whatever commands come.
use Rattle.std.proofs.Common.{ℕ, List, [], ◌∷◌, Bool, true, false, cond, not, ◌&&◌, ◌||◌, ◌++◌}
use Rattle.std.specs.Prelude.{Option, None, Some, is_none, is_some}
use Rattle.cache_base.specs.Checks.{first_failing}
use Rattle.cache_base.specs.declared.name.Name.{Name}
use Rattle.cache_theory.specs.Checks.{checks, with_alt_data, with_value}
use Rattle.cache_theory.specs.Command.{Command}
use Rattle.cache_theory.specs.Command.Command.{Create, OpenKey, Append, Finish, SetElement, UnsetElement, UseEntry, Pin, Unpin, PutAlt, Close, Doom, Evict, EvictNames, ClearOrigin, ClearNames, Resume, ResumeNames, FinishAs}
use Rattle.cache_theory.specs.Command.Reply.{Done, NoneThere}
use Rattle.cache_theory.specs.Covers.{cleared, resumed}
use Rattle.cache_theory.specs.Machine.{Machine, Object, has_slots, is_writer, number_of, object_of, on_shelf, used_by}
use Rattle.cache_theory.specs.Step.{Answer, after, all_doomed, answer, changed, doomed_under, effect, evicted, finished_by, joined, released, step, stepped, stored, update_ended, used, with_pin, with_slot, cleared_of, unmarked, finished_as}
use Rattle.cache_theory.specs.Table.{Table, IsTable, remove}
use Rattle.cache_theory.specs.declared.refusal.Refusal.{Refusal}
use Rattle.cache_theory.proofs.TableLaws.{insert_is_table, remove_is_table}
use Rattle.entry_file.specs.EntryFile.{Reading}
use Rattle.entry_file.specs.EntryFile.Reading.{Whole, Damaged, Nothing}
use Rattle.entry_file.specs.Version.{Version, file_of}
use Rattle.entry_name.specs.EntryName.{file_name}
use Rattle.entry_parts.specs.Elements.{element}
use Rattle.entry_parts.specs.Setting.{without_element}
use Rattle.context_clear.specs.Mark.{mark_of}
use Rattle.std.proofs.lemmas.Bool.{cond_both}

-- a table after a choice of two
chosen : {X : Type 0} (b : Bool) (s t : Table X) → IsTable s → IsTable t → IsTable (cond b s t)
chosen true s t hs ht = hs
chosen false s t hs ht = ht

stored_table : (m : Machine) (i : ℕ) (o : Object) → IsTable m.shelf → IsTable (stored m i o).shelf
stored_table m i o h = chosen (o.finished && not o.doomed) _ _ (insert_is_table m.shelf (file_name o.version.key) (file_of o.version) h) h

changed_table : (m : Machine) (s : ℕ) (f : Version → Version) → IsTable m.shelf → IsTable (changed m s f).shelf
changed_table m s f h = stored_table m (number_of m s) (record (object_of m s) { version = f (object_of m s).version }) h

finished_table : (m : Machine) (s : ℕ) → IsTable m.shelf → IsTable (finished_by m s).shelf
finished_table m s h = go (is_writer m s && not (object_of m s).finished)
  where
    done : Object
    done = record (object_of m s) { finished = true }

    go : (b : Bool) → IsTable (cond b (stored m (number_of m s) done) m).shelf
    go true = stored_table m (number_of m s) done h
    go false = h

released_table : (m : Machine) (s : ℕ) → IsTable m.shelf → IsTable (released m s).shelf
released_table m s h = go (has_slots (record m { slots = with_slot s None m.slots }) (number_of m s) || (object_of m s).doomed)
  where
    go : (b : Bool) → IsTable (cond b (record m { slots = with_slot s None m.slots })
        (record m { slots = with_slot s None m.slots; in_use = remove m.in_use (file_name (object_of m s).version.key) })).shelf
    go true = h
    go false = h

unset_table : (m : Machine) (b : Bool) (x : Answer) → IsTable m.shelf → IsTable x.next.shelf → IsTable (cond b (answer m NoneThere) x).next.shelf
unset_table m true x h k = h
unset_table m false x h k = k

joined_table : (m : Machine) (s : ℕ) (used : Option ℕ) (r : Reading) → IsTable m.shelf → IsTable (joined m s used r).shelf
joined_table m s (Some i) r h = h
joined_table m s None (Whole v) h = h
joined_table m s None (Damaged d) h = h
joined_table m s None Nothing h = h

all_doomed_table : (m : Machine) (names : List Name) → IsTable m.shelf → IsTable (all_doomed m names).shelf
all_doomed_table m [] h = h
all_doomed_table m (name ∷ names) h =
    all_doomed_table (doomed_under m name.0) names (remove_is_table m.shelf name.0 h)

effect_table : (m : Machine) (c : Command) → IsTable m.shelf → IsTable (effect m c).next.shelf
unfolding effect
effect_table m (Create s key) h = remove_is_table m.shelf (file_name key) h
effect_table m (OpenKey s key) h = joined_table m s (used_by m key) (on_shelf m key) h
effect_table m (Append s bytes) h = changed_table m s (λ v. record v { body = v.body ++ bytes }) h
effect_table m (Finish s) h = finished_table m s h
effect_table m (FinishAs s header elements) h = stored_table m (number_of m s) (finished_as header elements (object_of m s)) h
effect_table m (SetElement s name value) h = changed_table m s (with_value name value) h
effect_table m (UnsetElement s name) h =
    let unset : Version → Version = λ v. record v { elements = without_element name v.elements } in
    unset_table m (is_none (element name (object_of m s).version.elements)) (answer (changed m s unset) Done) h (changed_table m s unset h)
effect_table m (UseEntry s) h = changed_table m s (used m.moment) h
effect_table m (Pin s) h = changed_table m s (with_pin true) h
effect_table m (Unpin s) h = changed_table m s (with_pin false) h
effect_table m (PutAlt s kind bytes) h = changed_table m s (with_alt_data kind bytes) h
effect_table m (Close s) h = released_table (finished_by m s) s (finished_table m s h)
effect_table m (Doom key) h = remove_is_table m.shelf (file_name key) h
effect_table m (Evict kb) h = all_doomed_table (update_ended m) (evicted m kb) h
effect_table m (EvictNames names) h = all_doomed_table (update_ended m) names h
effect_table m (ClearOrigin origin) h = all_doomed_table (update_ended (unmarked m)) (cleared m origin) h
effect_table m (ClearNames names) h = all_doomed_table (update_ended (unmarked m)) names h
effect_table m Resume h =
    cond_both (is_some (mark_of m.mark)) (cleared_of m (resumed m)) (unmarked m) (λ next. IsTable next.shelf)
    (λ some. all_doomed_table (update_ended (unmarked m)) (resumed m) h) (λ none. h)
effect_table m (ResumeNames names) h = all_doomed_table (update_ended (unmarked m)) names h
effect_table m c h = h

stepped_table : (m : Machine) (c : Command) (r : Option Refusal) → IsTable m.shelf → IsTable (stepped m c r).next.shelf
stepped_table m c None h = effect_table m c h
stepped_table m c (Some r) h = h

pub shelf_stays_table : (m : Machine) (cs : List Command) → IsTable m.shelf → IsTable (after m cs).shelf
shelf_stays_table m [] h = h
shelf_stays_table m (c ∷ cs) h = shelf_stays_table (step m c).next cs (stepped_table m c (first_failing (checks m c)) h)
